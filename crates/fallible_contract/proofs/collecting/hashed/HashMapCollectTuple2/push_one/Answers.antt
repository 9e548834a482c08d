-- The first of equal keys stays, and takes the last value.
use Rattle.std.proofs.Common.{BuildHasherDefault, FoldHasher}
use Rattle.fallible_contract.proofs.Lemmas.Collecting.Keyed.{hashed_map_of_pairs_and_one_more}
use Rattle.fallible_contract.proofs.collecting.hashed.HashMapCollectTuple2.push_one.Goals as goal

pub returns-in-Ok : goal.returns-in-Ok
returns-in-Ok g c items made = search (hashed_map_of_pairs_and_one_more {S = BuildHasherDefault FoldHasher} g.met.K.Eq.laws items c.args.self.now, c.in-Ok.ensures, made)
