-- What the std iterator reads is what it lists.
use Rattle.fallible_iterator.proofs.Lemmas.Sources.Convert.{runs_read_items, lists_results, lists_items}
use Rattle.fallible_iterator.proofs.sources.making.convert.Goals as goal

pub returns-clause-results : goal.returns-clause-results
returns-clause-results g c l reads = lists_results g.I.Iterator.can_next g.I.Iterator.next_gives g.I.Iterator.remaining _ l reads

pub returns-clause-items : goal.returns-clause-items
returns-clause-items g c l reads = lists_items g.I.Iterator.can_next g.I.Iterator.next_gives g.I.Iterator.remaining _ l (runs_read_items g.I.Iterator.next_gives _ l reads)
