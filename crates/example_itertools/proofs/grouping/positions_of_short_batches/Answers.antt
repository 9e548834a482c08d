-- What is collected are the positions of the batches for which the closure returns true.
use Rattle.std.proofs.Common.{rules, tests, length}
use Rattle.std.specs.Prelude.{nat_lt}
use Rattle.fallible_iterator.proofs.Lemmas.Making.{collected_made}
use Rattle.fallible_itertools.proofs.Lemmas.Positions.{made_by_positions_of_made}
use Rattle.example_itertools.proofs.grouping.positions_of_short_batches.Goals as goal

pub returns : goal.returns
returns c = collected_made _ _ _ _ c.collect.ensures.collects (made_by_positions_of_made (λ batch. nat_lt (length batch) 10) c.positions.ensures.parts c.positions.ensures.numbers (λ xs v r q is k. search (rules, tests)) (c.chunks.ensures.lists _ (c.convert.ensures.results _ (search rules))))
