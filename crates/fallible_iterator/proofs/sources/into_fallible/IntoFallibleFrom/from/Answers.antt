-- What the std iterator reads, each element an item.
use Rattle.fallible_iterator.proofs.Lemmas.Sources.IntoFallible.{lists_elements}
use Rattle.fallible_iterator.proofs.sources.into_fallible.IntoFallibleFrom.from.Goals as goal

pub returns-clause-lists : goal.returns-clause-lists
returns-clause-lists g c l reads = lists_elements g.I.Iterator.can_next g.I.Iterator.next_gives g.I.Iterator.remaining _ l reads
