-- What the std iterator reads from the back is what is listed from the back, each element an item.
use Rattle.fallible_iterator.proofs.Lemmas.Sources.IntoFallible.{lists_elements_back}
use Rattle.fallible_iterator.proofs.sources.into_fallible.IntoFallible.rev.Goals as goal

pub returns-clause-lists_back : goal.returns-clause-lists_back
returns-clause-lists_back g c l reads = let i = g.I.DoubleEndedIterator in c.rev.ensures.lists _ (lists_elements_back i.can_next_back i.next_back_gives g.I.Iterator.remaining _ l reads)
