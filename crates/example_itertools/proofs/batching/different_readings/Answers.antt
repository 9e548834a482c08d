-- The number is that of the different readings of the list.
use Rattle.std.proofs.Common.{rules}
use Rattle.fallible_iterator.proofs.Lemmas.Making.{counted_made}
use Rattle.fallible_iterator.proofs.Lemmas.UntilRefused.{lists_made_until_refused}
use Rattle.example_itertools.proofs.batching.different_readings.Goals as goal

pub returns : goal.returns
returns c = counted_made c.count.ensures.counted.1 (lists_made_until_refused (c.unique.ensures.lists _ (c.convert.ensures.results _ (search rules)) (search rules)))
