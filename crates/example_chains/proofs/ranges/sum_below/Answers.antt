-- A range counts up.
use Rattle.std.proofs.Common.{rules, arith}
use Rattle.std.proofs.iter.runs.Sources.{range_runs}
use Rattle.std.proofs.lemmas.List.FromFn.{length-range_with_len, get_or-range_with_len}
use Rattle.example_chains.proofs.ranges.sum_below.Goals as goal

pub returns : goal.returns
returns c = c.fold.ensures.value _ _ (search rules) (c.into_fallible.ensures.lists _ (λ p seen from. let up = range_runs p seen in grind (arith, up, length-range_with_len, get_or-range_with_len)))
