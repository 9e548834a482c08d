-- The first of equal items stays.
use Rattle.std.proofs.Common.{BuildHasherDefault, FoldHasher}
use Rattle.fallible_contract.proofs.Lemmas.Collecting.Keyed.{hashed_set_of_items_and_one_more}
use Rattle.fallible_contract.proofs.collecting.hashed.HashSetCollect.push_one.Goals as goal

pub returns-in-Ok : goal.returns-in-Ok
returns-in-Ok g c items made = search (hashed_set_of_items_and_one_more {S = BuildHasherDefault FoldHasher} g.met.K.Eq.laws items c.args.self.now, c.in-Ok.ensures, made)
