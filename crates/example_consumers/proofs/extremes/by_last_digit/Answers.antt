-- The closure makes a pair.
use Rattle.std.proofs.Common.{rules, Ok, ◌%◌}
use Rattle.example_consumers.proofs.extremes.by_last_digit.Goals as goal

pub returns : goal.returns
returns c = c.into_group_map.ensures.value _ (c.map.ensures.lists (λ x. Ok (x % 10, x)) _ (search rules) (c.convert.ensures.results _ (search rules)))
