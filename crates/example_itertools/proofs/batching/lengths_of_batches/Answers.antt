-- What is collected are the lengths of the batches of the readings' list.
use Rattle.std.proofs.Common.{rules, tests, length}
use Rattle.fallible_iterator.proofs.Lemmas.Making.{collected_made}
use Rattle.fallible_iterator.proofs.Lemmas.PassingMade.{made_by_map_of_made}
use Rattle.example_itertools.proofs.batching.lengths_of_batches.Goals as goal

pub returns : goal.returns
returns c = collected_made _ _ _ _ c.collect.ensures.collects (made_by_map_of_made length c.map.ensures.parts (λ xs v r q is k. search (rules, tests)) (c.chunks.ensures.lists _ (c.convert.ensures.results _ (search rules))))
