-- A range counts down from the back.
use Rattle.std.proofs.Common.{rules, arith, ◌%◌, Ok}
use Rattle.std.specs.Prelude.{eqb}
use Rattle.std.proofs.iter.runs.Sources.{range_runs_back}
use Rattle.std.proofs.lemmas.List.FromFn.{length-range_with_len, get_or-range_with_len}
use Rattle.example_chains.proofs.ranges.greatest_with_three.Goals as goal

pub returns : goal.returns
returns c = c.find.ensures.value (λ x. Ok (eqb (x % 10) 3)) _ (search rules) (c.rev.ensures.lists_back _ (λ p seen from. let down = range_runs_back p seen in grind (arith, down, length-range_with_len, get_or-range_with_len)))
