-- What the std iterator reads from the back is what is listed.
use Rattle.fallible_iterator.proofs.Lemmas.Sources.Convert.{lists_results_back, lists_items_back}
use Rattle.fallible_iterator.proofs.laws.sources.law_back_convert.Goals as goal

pub returns-clause-results_back : goal.returns-clause-results_back
returns-clause-results_back g c s l reads = let i = g.I.DoubleEndedIterator in lists_results_back i.can_next_back i.next_back_gives g.I.Iterator.remaining s l reads

pub returns-clause-items_back : goal.returns-clause-items_back
returns-clause-items_back g c s l reads = let i = g.I.DoubleEndedIterator in lists_items_back i.can_next_back i.next_back_gives g.I.Iterator.remaining s l reads
