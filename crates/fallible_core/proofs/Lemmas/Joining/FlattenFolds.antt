-- Folds of `Flatten`: one of the current inner iterator, and after its end one of the outer source, whose turn folds the inner iterator that the item becomes.
use Rattle.std.specs.Prelude.{◌≡◌, ◌≢◌, false, List, [], ◌∷◌, ◌++◌, map, Option, Some, None, Ok, Err}
use Rattle.std.specs.List.{FoldsTo}
use Rattle.std.proofs.Common.{refl, sym, ◌∙◌, ap, subst}
use Rattle.fallible_contract.specs.Traces.{Answered, Run, Yields, item, end, is_end}
use Rattle.fallible_contract.specs.Contract.{Contract, Lawful}
use Rattle.fallible_contract.specs.Folds.{HoldsAtEachTurn, goes_on, DriveExit, Driven, within, TurnThrough, beside, beside_names}
use Rattle.fallible_contract.proofs.Lemmas.Contract.{may_give_of_item_after_yields}
use Rattle.fallible_contract.proofs.Lemmas.Folding.{drained_by_same_steps, holds_each_turn_by_same_steps, holds_at_each_turn_of_held}
use Rattle.fallible_contract.proofs.Lemmas.Folds.{holds_each_turn_after_items, driven_by_items_first, driven_end, driven_failure, fold_of_references_drives_values, names_kept}
use Rattle.fallible_core.specs.Joining.Flatten.{flatten_contract, IsFlattenTurn, JoiningTakes}
use Rattle.fallible_core.proofs.Lemmas.Joining.Flatten.{flatten_trace_in_hand, flatten_trace_after_end, flatten_trace_at_item, flatten_trace_outer_failure, flatten_trace_outer_end}
use Rattle.fallible_core.proofs.Lemmas.Joining.ChainFolds.{yields_first, drive_met_end, last_is_not_end_of_drive}
use Rattle.std.specs.declared.ops.ControlFlow.{ControlFlow}
use Rattle.fallible_contract.specs.declared.folds.Beside.{Beside}

module _ {S X C B E : Type 0} (m : Contract S X E) (into : X → C → Type 0) (inner : Contract C B E) where
  -- one draw
  abbrev pub FlattenStep : S × Option C → Answered B E → S × Option C → Type 0
  FlattenStep = (flatten_contract m into inner).steps

  -- every draw where nothing is in hand is one from an inner iterator that ends, and one from before the item that became it
  flatten_step_same_where_inner_ends : (s : S) (c d : C) → inner.steps c end d → (r : Answered B E) (q : S × Option C) → FlattenStep (s, None) r q → FlattenStep (s, Some c) r q
  flatten_step_same_where_inner_ends s c d step r q drawn = flatten_trace_after_end d refl step drawn

  flatten_step_same_where_item_begins_inner : (s u : S) (c : C) (x : X) → m.steps s (item x) u → into x c → (r : Answered B E) (q : S × Option C) → FlattenStep (u, Some c) r q → FlattenStep (s, None) r q
  flatten_step_same_where_item_begins_inner s u c x step becomes r q drawn = flatten_trace_at_item x step becomes drawn

  -- items of the current inner iterator are items of the whole
  yields_in_hand : (items : List B) (s : S) (c d : C) → Yields inner.steps c items d → Yields FlattenStep (s, Some c) items (s, Some d)
  yields_in_hand [] s c d e = ap (λ (k : C). (s, Some k)) e
  yields_in_hand (y ∷ items) s c d w = ((s, Some w.0), flatten_trace_in_hand (item y) refl w.1 refl, yields_in_hand items s w.0 d w.2)

  -- so are items and a last answer that is no end
  run_in_hand : (items : List B) (last : Answered B E) (s : S) (c d : C) → is_end last ≡ false → Run inner.steps c (map item items ++ last ∷ []) d → Run FlattenStep (s, Some c) (map item items ++ last ∷ []) (s, Some d)
  run_in_hand [] last s c d free w = ((s, Some w.0), flatten_trace_in_hand last refl w.1 free, ap (λ (k : C). (s, Some k)) w.2)
  run_in_hand (y ∷ items) last s c d free w = ((s, Some w.0), flatten_trace_in_hand (item y) refl w.1 refl, run_in_hand items last s w.0 d free w.2)

  module _ {V : Type 0} {on : V → B → V → Type 0} {P : V → B → Type 0} {s : S} {c : C} {v : V} where
    -- what holds at each turn of the whole holds at each turn over the current inner iterator
    pub holds_each_turn_in_hand : HoldsAtEachTurn FlattenStep on P (s, Some c) v → HoldsAtEachTurn inner.steps on P c v
    holds_each_turn_in_hand h = holds_at_each_turn_of_held (λ (k : C). (s, Some k)) (λ k y l step. flatten_trace_in_hand (item y) refl step refl) h

  module _ {V R : Type 0} (turns : V → B → ControlFlow R (Unit {0}) → V → Type 0) where
    -- where the inner iterator's fold stopped or failed, it is one of the whole
    pub driven_in_hand : {s : S} {c d : C} {v z : V} {r : Answered R E} → r ≢ Ok None → Driven inner.steps turns c v r d z → Driven FlattenStep turns (s, Some c) v r (s, Some d) z
    driven_in_hand {s = s} {c = c} {d = d} other f = record { items = f.items; last = f.last; ran = run_in_hand f.items f.last s c d (last_is_not_end_of_drive turns other f.items f.last f.at) f.ran; at = f.at }

    -- where it ended, it yielded items that the turns went on with, and then its end
    record ToEnd (c : C) (v w : V) (d : C) : Type 0 where
      items : List B
      at_end : C
      yields : Yields inner.steps c items at_end
      went : FoldsTo (goes_on turns) v items w
      step : inner.steps at_end end d

    to_end_of_drive : {c d : C} {v w : V} → Driven {E = E} inner.steps turns c v (Ok None) d w → ToEnd c v w d
    to_end_of_drive {c = c} {d = d} f =
        let over = drive_met_end turns f.items f.last f.at in
        let first = yields_first inner.steps f.items f.last c d f.ran in
        record { items = f.items; at_end = first.0; yields = first.1; went = over.1; step = subst (λ (r : Answered B E). inner.steps first.0 r d) over.0 first.2 }

    -- and what comes after it is folded from there
    pub driven_after_hand_driven_to_end : {s : S} {q : S × Option C} {c d : C} {v w z : V} {r : Answered R E} → Driven {E = E} inner.steps turns c v (Ok None) d w → Driven FlattenStep turns (s, None) w r q z → Driven FlattenStep turns (s, Some c) v r q z
    driven_after_hand_driven_to_end {s = s} {c = c} {d = d} {v = v} {w = w} f rest = let h = to_end_of_drive f in
        driven_by_items_first h.items (s, Some c) (s, Some h.at_end) v w (yields_in_hand h.items s c h.at_end h.yields) h.went (drained_by_same_steps (flatten_step_same_where_inner_ends s h.at_end d h.step) rest)

    pub holds_each_turn_after_hand_driven_to_end : {P : V → B → Type 0} {s : S} {c d : C} {v w : V} → Driven {E = E} inner.steps turns c v (Ok None) d w → HoldsAtEachTurn FlattenStep (goes_on turns) P (s, Some c) v → HoldsAtEachTurn FlattenStep (goes_on turns) P (s, None) w
    holds_each_turn_after_hand_driven_to_end {s = s} {c = c} {d = d} {v = v} {w = w} f holds = let h = to_end_of_drive f in
        holds_each_turn_by_same_steps (flatten_step_same_where_inner_ends s h.at_end d h.step) (holds_each_turn_after_items h.items (s, Some c) (s, Some h.at_end) v w (yields_in_hand h.items s c h.at_end h.yields) h.went holds)

    -- ---- the outer source's fold

    abbrev JoinsOfFlattenFolds : V × Option C → X → ControlFlow (Answered R E) (Unit {0}) → V × Option C → Type 0
    JoinsOfFlattenFolds = IsFlattenTurn into inner turns

    abbrev DrivesOfFlattenFolds : S → V → Answered R E → S → V × Option C → Type 0
    DrivesOfFlattenFolds s v r t q = Driven FlattenStep turns (s, None) v r (t, q.1) q.0

    drives_flatten_where_joined_exits : (last : Answered X E) (s t : S) (p q : V × Option C) (r : Answered (Answered R E) E) → p.1 ≡ None → m.steps s last t → DriveExit JoinsOfFlattenFolds p last r q → DrivesOfFlattenFolds s p.0 (within r) t q
    drives_flatten_where_joined_exits (Ok None) s t p q r is step w = rw (w.0, w.1, is) (driven_end (flatten_trace_outer_end step))
    drives_flatten_where_joined_exits (Err d) s t p q r is step w = rw (w.0, w.1, is) (driven_failure (flatten_trace_outer_failure d step))
    drives_flatten_where_joined_exits (Ok (Some x)) s t p q r is step w = let turned = w.1 in rw (w.2, turned.5) (drained_by_same_steps (flatten_step_same_where_item_begins_inner s t turned.0 x step turned.2) (driven_in_hand turned.4 turned.3))

    drives_flatten_where_joined_folds : (items : List X) (last : Answered X E) (s t : S) (p k q : V × Option C) (r : Answered (Answered R E) E) → p.1 ≡ None → Run m.steps s (map item items ++ last ∷ []) t → FoldsTo (goes_on JoinsOfFlattenFolds) p items k → DriveExit JoinsOfFlattenFolds k last r q → DrivesOfFlattenFolds s p.0 (within r) t q
    drives_flatten_where_joined_folds [] last s t p k q r is ran went at = drives_flatten_where_joined_exits last s t p q r is (subst (λ (u : S). m.steps s last u) ran.2 ran.1) (subst (λ z. DriveExit JoinsOfFlattenFolds z last r q) (sym went) at)
    drives_flatten_where_joined_folds (x ∷ items) last s t p k q r is ran went at = let turned = went.1 in
        drained_by_same_steps (flatten_step_same_where_item_begins_inner s ran.0 turned.0 x ran.1 turned.2) (driven_after_hand_driven_to_end turned.3 (drives_flatten_where_joined_folds items last ran.0 t went.0 k q r (turned.4 ∙ is) ran.2 went.2 at))

    -- A fold of the outer source by that turn is a fold of the whole.
    driven_flatten_of_driven_joins : {s t : S} {p q : V × Option C} {r : Answered (Answered R E) E} → p.1 ≡ None → Driven m.steps JoinsOfFlattenFolds s p r t q → Driven FlattenStep turns (s, None) p.0 (within r) (t, q.1) q.0
    driven_flatten_of_driven_joins {s = s} {t = t} {p = p} {q = q} {r = r} is f = drives_flatten_where_joined_folds f.items f.last s t p f.at.carried q r is f.ran f.at.went f.at.exit

    -- The same, where the caller's state and the current inner iterator are lent by reference. What was lent is what those that came back point to, once they are known to be the same.
    pub driven_beside : {s t : S} {b d : Beside V (Option C)} {r : Answered (Answered R E) E} (hand : Option C) (v : V) → b.p.now ≡ None → Driven m.steps (TurnThrough beside beside_names JoinsOfFlattenFolds) s b r t d
        → (d.p.ghost_name ≡ b.p.ghost_name → hand ≡ d.p.now) → (d.c.ghost_name ≡ b.c.ghost_name → v ≡ d.c.now) → Driven FlattenStep turns (s, None) b.c.now (within r) (t, hand) v
    driven_beside {s = s} {t = t} {b = b} {d = d} {r = r} hand v is w is_hand is_v = let same = names_kept beside beside_names JoinsOfFlattenFolds w in
        subst (λ z. Driven FlattenStep turns (s, None) b.c.now (within r) (t, hand) z) (sym (is_v (ap (λ z. z.0) same)))
        (subst (λ z. Driven FlattenStep turns (s, None) b.c.now (within r) (t, z) d.c.now) (sym (is_hand (ap (λ z. z.1) same)))
        (driven_flatten_of_driven_joins is (fold_of_references_drives_values beside beside_names JoinsOfFlattenFolds w)))

    -- what holds at each turn of the whole holds at each after items of the outer source
    module _ (P : V → B → Type 0) where
      abbrev HoldsOfFlattenFolds : S × Option C → V → Type 0
      HoldsOfFlattenFolds p v = HoldsAtEachTurn FlattenStep (goes_on turns) P p v

      holds_after_item_begins_inner : {s u : S} {c : C} {v : V} (x : X) → m.steps s (item x) u → into x c → HoldsOfFlattenFolds (s, None) v → HoldsOfFlattenFolds (u, Some c) v
      holds_after_item_begins_inner {s = s} {u = u} {c = c} x step becomes holds = holds_each_turn_by_same_steps (flatten_step_same_where_item_begins_inner s u c x step becomes) holds

      -- Of no items `ran` and `went` say that nothing changed.
      holds_after_items_joined : (items : List X) (s t : S) (p q : V × Option C) → Yields m.steps s items t → FoldsTo (goes_on JoinsOfFlattenFolds) p items q → HoldsOfFlattenFolds (s, None) p.0 → HoldsOfFlattenFolds (t, None) q.0
      holds_after_items_joined [] s t p q ran went holds = subst (λ (u : S). HoldsOfFlattenFolds (u, None) q.0) ran (subst (λ (z : V × Option C). HoldsOfFlattenFolds (s, None) z.0) went holds)
      holds_after_items_joined (x ∷ items) s t p q ran went holds = let turned = went.1 in
          holds_after_items_joined items ran.0 t went.0 q ran.2 went.2 (holds_each_turn_after_hand_driven_to_end turned.3 (holds_after_item_begins_inner x ran.1 turned.2 holds))

    -- The outer source's turn may be taken at each item, where the whole may be drawn from, has a bound, and the caller's turn may be taken at each of its items.
    pub holds_each_turn_joined : {P : V → B → Type 0} {s : S} {p : V × Option C} → Lawful m → Lawful inner → (flatten_contract m into inner).can_next (s, None) → (flatten_contract m into inner).is_finite (s, None) → HoldsAtEachTurn FlattenStep (goes_on turns) P (s, None) p.0
        → HoldsAtEachTurn m.steps (goes_on JoinsOfFlattenFolds) (JoiningTakes into inner turns P) s p
    holds_each_turn_joined {P = P} {s = s} {p = p} l k can finite holds = record {
      at = λ items t u q x ran went step c becomes.
          let given = may_give_of_item_after_yields l s items t u x can.0 ran step in
          let number = finite.2.1.at x c given becomes in
          (can.3.at x c given becomes, (k.bounded c).1 (number.0, number.1), holds_each_turn_in_hand (holds_after_item_begins_inner P x step becomes (holds_after_items_joined P items s t p q ran went holds)));
    }
