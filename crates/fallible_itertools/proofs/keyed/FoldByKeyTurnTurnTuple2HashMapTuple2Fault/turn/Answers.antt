-- What the closure returns is the value of the key, which had one or is new.
use Rattle.std.specs.Prelude.{IsSome, unwrap_or}
use Rattle.std.proofs.Common.{BuildHasherDefault, FoldHasher, Some, Ok, ap, refl, subst, sym}
use Rattle.fallible_iterator.specs.Folds.{call_with}
use Rattle.fallible_iterator.specs.Collecting.Keyed.{IsHashedMapOf}
use Rattle.fallible_iterator.proofs.Lemmas.Collecting.Keyed.{hashed_map_of_pairs_and_one_more}
use Rattle.fallible_itertools.proofs.keyed.FoldByKeyTurnTurnTuple2HashMapTuple2Fault.turn.Goals as goal

pub returns-in-Ok : goal.returns-in-Ok
returns-in-Ok g c = let had = c.in-Some.ensures.value in let w = c.get_mut.follows.holds c.in-Ok.folded in (
  c.in-Ok.folded,
  subst (λ b. call_with g.F.FnMut c.args.state.now.1 b c.args.item.1 (Ok c.in-Ok.folded) c.call_mut.new.self) (ap (λ o. unwrap_or o c.args.self.now.init) had) c.in-Ok.ensures,
  λ made map_of. hashed_map_of_pairs_and_one_more {S = BuildHasherDefault FoldHasher} g.met.K.Eq.laws made _ _ (c.args.item.0, c.in-Ok.folded) (Some c.in-Some.so_far.now) map_of w.0 had (w.3 (subst (λ o. IsSome o) had refl)) (λ s. w.1) w.4,
)

pub returns-in-Ok-insert : goal.returns-in-Ok-insert
returns-in-Ok-insert g c = let e = c.in-Ok-insert.ensures in let same = c.get_mut.follows.holds-at-none in let none = c.in_default.ensures.value in (
  c.in-Ok-call_mut.folded,
  subst (λ b. call_with g.F.FnMut c.args.state.now.1 b c.args.item.1 (Ok c.in-Ok-call_mut.folded) c.call_mut-2.new.self) (ap (λ o. unwrap_or o c.args.self.now.init) none) c.in-Ok-call_mut.ensures,
  λ made map_of. hashed_map_of_pairs_and_one_more {S = BuildHasherDefault FoldHasher} g.met.K.Eq.laws made c.get_mut.follows.lender-at-none _ (c.args.item.0, c.in-Ok-call_mut.folded) _ (subst (λ m. IsHashedMapOf g.K.PartialEq.eq made m) (sym same) map_of) e.entries e.old e.updates e.keys_stay e.unique,
)
