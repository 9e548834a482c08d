-- What is collected are items of the list.
use Rattle.std.proofs.Common.{rules}
use Rattle.fallible_iterator.proofs.Lemmas.Making.{collected_made}
use Rattle.fallible_iterator.proofs.Lemmas.UntilRefused.{lists_made_until_refused}
use Rattle.example_itertools.proofs.batching.unique_readings.Goals as goal

pub returns : goal.returns
returns c = collected_made _ _ _ _ c.collect.ensures.collects (lists_made_until_refused (c.unique.ensures.lists _ (c.convert.ensures.results _ (search rules)) (search rules)))
