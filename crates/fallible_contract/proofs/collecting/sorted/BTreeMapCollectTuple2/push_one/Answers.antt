-- The first of equal keys stays, and takes the last value.
use Rattle.fallible_contract.proofs.Lemmas.Collecting.Keyed.{sorted_map_of_pairs_and_one_more}
use Rattle.fallible_contract.proofs.collecting.sorted.BTreeMapCollectTuple2.push_one.Goals as goal

pub returns-in-Ok : goal.returns-in-Ok
returns-in-Ok g c items made = search (sorted_map_of_pairs_and_one_more g.met.K.Ord.total items c.args.self.now, c.in-Ok.ensures, made)
