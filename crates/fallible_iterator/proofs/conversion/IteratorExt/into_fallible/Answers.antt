-- What the std iterator reads, each element an item.
use Rattle.fallible_iterator.proofs.Lemmas.Sources.IntoFallible.{lists_elements}
use Rattle.fallible_iterator.proofs.conversion.IteratorExt.into_fallible.Goals as goal

pub returns-clause-lists : goal.returns-clause-lists
returns-clause-lists g c l reads = lists_elements g.Self.Iterator.can_next g.Self.Iterator.next_gives g.Self.Iterator.remaining _ l reads
