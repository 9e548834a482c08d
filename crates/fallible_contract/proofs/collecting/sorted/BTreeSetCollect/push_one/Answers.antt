-- The first of equal items stays.
use Rattle.fallible_contract.proofs.Lemmas.Collecting.Keyed.{sorted_set_of_items_and_one_more}
use Rattle.fallible_contract.proofs.collecting.sorted.BTreeSetCollect.push_one.Goals as goal

pub returns-in-Ok : goal.returns-in-Ok
returns-in-Ok g c items made = search (sorted_set_of_items_and_one_more g.met.K.Ord.total items c.args.self.now, c.in-Ok.ensures, made)
