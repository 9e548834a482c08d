-- The closure makes each reading's last digit.
use Rattle.std.proofs.Common.{rules, ◌%◌}
use Rattle.std.proofs.lemmas.List.Sorted.{answers_always}
use Rattle.example_consumers.proofs.extremes.by_last_digit_in_place.Goals as goal

pub returns : goal.returns
returns c = c.sorted_unstable_by_key.ensures.value (λ x. x % 10) (answers_always _ _ _ (λ f a r g h. search rules)) _ (c.convert.ensures.results _ (search rules))
