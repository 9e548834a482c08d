-- The closure compares the second with the first.
use Rattle.std.specs.Prelude.{nat_lt}
use Rattle.std.proofs.Common.{rules}
use Rattle.std.proofs.lemmas.List.Sorted.{IsStrictWeakOrder-by_number, IsStrictWeakOrder-flip, answers_always}
use Rattle.example_consumers.proofs.extremes.down_in_place.Goals as goal

pub returns : goal.returns
returns c = c.sorted_unstable_by.ensures.value (λ x y. nat_lt y x) (IsStrictWeakOrder-flip (λ x y. nat_lt x y) (IsStrictWeakOrder-by_number (λ x. x))) (answers_always _ _ _ (λ f a r g h. search rules)) _ (c.convert.ensures.results _ (search rules))
