-- What the std iterator reads is what it lists.
use Rattle.fallible_iterator.proofs.Lemmas.Sources.Convert.{lists_results}
use Rattle.fallible_iterator.proofs.conversion.IteratorExt.transpose_into_fallible.Goals as goal

pub returns-clause-lists : goal.returns-clause-lists
returns-clause-lists g c l reads = lists_results g.Self.Iterator.can_next g.Self.Iterator.next_gives g.Self.Iterator.remaining _ l reads
