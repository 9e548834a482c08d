-- Each range counts up.
use Rattle.std.proofs.Common.{rules, arith}
use Rattle.std.proofs.iter.runs.Sources.{range_runs}
use Rattle.std.proofs.lemmas.List.FromFn.{length-range_with_len, get_or-range_with_len}
use Rattle.fallible_iterator.proofs.Lemmas.Sources.IntoFallible.{lists_elements}
use Rattle.example_chains.specs.Runs.{numbers}
use Rattle.example_chains.proofs.ranges.runs.Goals as goal

pub returns : goal.returns
returns c = c.collect.ensures.value _ (c.take.ensures.lists _ (c.flat_map.ensures.lists numbers (λ x s same. lists_elements _ _ _ s _ (λ p seen from. let up = range_runs p seen in grind (arith, up, same, length-range_with_len, get_or-range_with_len))) _ _ (search rules) (c.convert.ensures.results _ (search rules))))
