-- What is collected is made of the batches of the readings' list.
use Rattle.std.proofs.Common.{rules}
use Rattle.fallible_iterator.proofs.Lemmas.Making.{collected_made}
use Rattle.example_itertools.proofs.batching.batches_of_ten.Goals as goal

pub returns : goal.returns
returns c = collected_made _ _ _ _ c.collect.ensures.collects (c.chunks.ensures.lists _ (c.convert.ensures.results _ (search rules)))
