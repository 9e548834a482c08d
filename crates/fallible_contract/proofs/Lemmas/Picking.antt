-- The best of the items by a fold that keeps the best so far.
use Rattle.std.specs.Prelude.{◌≡◌, List, [], ◌∷◌, ◌++◌, map, drop, Bool, true, false, cond, Option, Some, None, IsSomeAnd, Result, Ok, Err}
use Rattle.std.specs.List.{FoldsTo, last_or, zip}
use Rattle.std.specs.Cmp.{IsTotalOrder, upto}
use Rattle.std.specs.Ordering.{ordering_reverse, is_gt}
use Rattle.std.proofs.Common.{refl, sym, ap, subst, ◌∙◌, append_assoc, append-nil}
use Rattle.fallible_contract.specs.Traces.{Answered, Run, item}
use Rattle.fallible_contract.specs.Closures.{Calls}
use Rattle.fallible_contract.specs.Folds.{went_on_with, FoldExit, FoldDrains}
use Rattle.fallible_contract.specs.Lists.{Lists, Acts, ActsWith, on_value, pick_of, best_by, greatest, least, key_of, best_by_key}
use Rattle.fallible_contract.specs.Picking.{same_order, better, better_key, PickCall, KeyCall, item_of, OfEach, IsLastBest, IsBestOf, BestExit, BestDrains, KeyExit, BestByKeyDrains, NextBests, Bests, PickExit, PickedByFold, PickDrains}
use Rattle.fallible_contract.proofs.Lemmas.Lists.Drawn.{folded_of_lists}
use Rattle.std.specs.declared.cmp.Ordering.{Ordering}
use Rattle.std.specs.declared.cmp.Ordering.TheVariants.{Less, Equal, Greater}

-- `keeps` is `Greater` or `Less`
abbrev pub Keeps : Ordering → Type 0
Keeps Less = Unit {0}
Keeps Equal = ⊥
Keeps Greater = Unit {0}

same_order_of_greater_is_gt : (o : Ordering) → same_order Greater o ≡ is_gt o
same_order_of_greater_is_gt Less = refl
same_order_of_greater_is_gt Equal = refl
same_order_of_greater_is_gt Greater = refl

same_order_of_less_and_reversed_is_gt : (o : Ordering) → same_order Less (ordering_reverse o) ≡ is_gt o
same_order_of_less_and_reversed_is_gt Less = refl
same_order_of_less_and_reversed_is_gt Equal = refl
same_order_of_less_and_reversed_is_gt Greater = refl

not_same_order_of_reversed : (keeps r : Ordering) → Keeps keeps → same_order keeps r ≡ true → same_order keeps (ordering_reverse r) ≡ false
not_same_order_of_reversed Equal r k p = absurd k
not_same_order_of_reversed Less Less k p = refl
not_same_order_of_reversed Less Equal k p = absurd cc
not_same_order_of_reversed Less Greater k p = absurd cc
not_same_order_of_reversed Greater Less k p = absurd cc
not_same_order_of_reversed Greater Equal k p = absurd cc
not_same_order_of_reversed Greater Greater k p = refl

of_each_append : {A : Type 0} (P : A → Type 0) (xs ys : List A) → OfEach P xs → OfEach P ys → OfEach P (xs ++ ys)
of_each_append P [] ys p q = q
of_each_append P (x ∷ xs) ys p q = (p.0, of_each_append P xs ys p.1 q)

of_each_of_implied_property : {A : Type 0} (P Q : A → Type 0) → ((x : A) → P x → Q x) → (xs : List A) → OfEach P xs → OfEach Q xs
of_each_of_implied_property P Q h [] p = p
of_each_of_implied_property P Q h (x ∷ xs) p = (h x p.0, of_each_of_implied_property P Q h xs p.1)

module _ {A : Type 0} {cmp : A → A → Ordering} (o : IsTotalOrder cmp) (keeps : Ordering) (k : Keeps keeps) where
  same_order_of_less_is_gt_of_swapped : (x y : A) → same_order Less (cmp x y) ≡ is_gt (cmp y x)
  same_order_of_less_is_gt_of_swapped x y = ap (same_order Less) (o.antisymm x y) ∙ same_order_of_less_and_reversed_is_gt (cmp y x)

  not_same_order_is_transitive_where_keeps : (kept : Ordering) → Keeps kept → (x y z : A) → same_order kept (cmp x y) ≡ false → same_order kept (cmp y z) ≡ false → same_order kept (cmp x z) ≡ false
  not_same_order_is_transitive_where_keeps Greater j x y z p q = same_order_of_greater_is_gt (cmp x z) ∙ upto o x y z (sym (same_order_of_greater_is_gt (cmp x y)) ∙ p) (sym (same_order_of_greater_is_gt (cmp y z)) ∙ q)
  not_same_order_is_transitive_where_keeps Less j x y z p q = same_order_of_less_is_gt_of_swapped x z ∙ upto o z y x (sym (same_order_of_less_is_gt_of_swapped y z) ∙ q) (sym (same_order_of_less_is_gt_of_swapped x y) ∙ p)
  not_same_order_is_transitive_where_keeps Equal j x y z p q = absurd j

  -- where x isn't better than y, nor y than z, x isn't better than z; and where x is better than y, y isn't better than x
  not_same_order_is_transitive : (x y z : A) → same_order keeps (cmp x y) ≡ false → same_order keeps (cmp y z) ≡ false → same_order keeps (cmp x z) ≡ false
  not_same_order_is_transitive = not_same_order_is_transitive_where_keeps keeps k

  not_same_order_of_swapped : (x y : A) → same_order keeps (cmp x y) ≡ true → same_order keeps (cmp y x) ≡ false
  not_same_order_of_swapped x y p = ap (same_order keeps) (o.antisymm y x) ∙ not_same_order_of_reversed keeps (cmp x y) k p

  -- one more item after those of which b is the best
  is_last_best_of_one_more_by_cond : (c : Bool) (items : List A) (b x : A) → same_order keeps (cmp b x) ≡ c → IsLastBest keeps cmp items b → IsLastBest keeps cmp (items ++ x ∷ []) (cond c b x)
  is_last_best_of_one_more_by_cond true items b x e h = record { before = h.before; after = h.after ++ x ∷ []; is = ap (λ (l : List A). l ++ x ∷ []) h.is ∙ append_assoc h.before (b ∷ h.after) (x ∷ []); none_better = h.none_better; later_worse = of_each_append _ h.after (x ∷ []) h.later_worse (e, tt) }
  is_last_best_of_one_more_by_cond false items b x e h = record { before = items; after = []; is = refl; none_better = subst (λ (l : List A). OfEach (λ z. same_order keeps (cmp z x) ≡ false) l) (sym h.is) (of_each_append _ h.before (b ∷ h.after) (of_each_of_implied_property _ _ (λ z p. not_same_order_is_transitive z b x p e) h.before h.none_better) (e, of_each_of_implied_property _ _ (λ z p. not_same_order_is_transitive z b x (not_same_order_of_swapped b z p) e) h.after h.later_worse)); later_worse = tt }

  is_last_best_of_one_more_by_better : (items : List A) (b x : A) → IsLastBest keeps cmp items b → IsLastBest keeps cmp (items ++ x ∷ []) (better keeps (cmp b x) b x)
  is_last_best_of_one_more_by_better items b x h = is_last_best_of_one_more_by_cond (same_order keeps (cmp b x)) items b x refl h

  is_last_best_one : (x : A) → IsLastBest keeps cmp (x ∷ []) x
  is_last_best_one x = record { before = []; after = []; is = refl; none_better = tt; later_worse = tt }

  module _ {E F : Type 0} {call : F → A → A → Result Ordering E → F → Type 0} (acts : (f : F) (x y : A) (r : Result Ordering E) (g : F) → call f x y r g → r ≡ Ok (cmp x y)) where
    is_best_of_done_and_folded : (items done : List A) (b : A) (p : Option A × F) (v : Option A) (g : F) → p.0 ≡ Some b → IsLastBest keeps cmp done b → FoldsTo {P = Option A × F} (went_on_with (PickCall keeps call)) p items (v, g) → IsBestOf keeps cmp (done ++ items) v
    is_best_of_done_and_folded [] done b p v g at h w = subst (IsBestOf keeps cmp (done ++ [])) (sym at ∙ ap (λ q. q.0) w) (subst (λ (l : List A). IsLastBest keeps cmp l b) (sym (append-nil done)) h)
    is_best_of_done_and_folded (x ∷ items) done b p v g at h w =
        let turn : PickCall keeps call p.1 (Some b) x (Ok w.0.0) w.0.1 = subst (λ (u : Option A). PickCall keeps call p.1 u x (Ok w.0.0) w.0.1) at w.1 in
        let same : turn.0 ≡ cmp b x = (let e = acts p.1 b x (Ok turn.0) w.0.1 turn.1 in cc) in
        subst (λ (l : List A). IsBestOf keeps cmp l v) (append_assoc done (x ∷ []) items) (is_best_of_done_and_folded items (done ++ x ∷ []) (better keeps (cmp b x) b x) w.0 v g (turn.2 ∙ ap (λ (q : Ordering). Some (better keeps q b x)) same) (is_last_best_of_one_more_by_better done b x h) w.2)

    is_best_of_items : (items : List A) (v : Option A) (f g : F) → FoldsTo {P = Option A × F} (went_on_with (PickCall keeps call)) (None, f) items (v, g) → IsBestOf keeps cmp items v
    is_best_of_items [] v f g w = subst (IsBestOf keeps cmp []) (ap (λ q. q.0) w) refl
    is_best_of_items (x ∷ items) v f g w = is_best_of_done_and_folded items (x ∷ []) x w.0 v g (let e = w.1.0 in cc) (is_last_best_one x) w.2

    best_exit_of_fold_exit : (from : E → E → Type 0) → ((e d : E) → from e d → d ≡ e) → (items : List A) (v : Option A) (g : F) (last : Answered A E) (r : Result (Option A) E) → IsBestOf keeps cmp items v → FoldExit (PickCall keeps call) from v g last r → BestExit keeps cmp items last r
    best_exit_of_fold_exit from same items v g (Ok None) r b exit = (v, exit, b)
    best_exit_of_fold_exit from same items v g (Err e) r b exit = exit.2 ∙ ap (λ d. Err d) (same e exit.0 exit.1)
    best_exit_of_fold_exit from same items None g (Ok (Some x)) r b exit = absurd (let e = exit.2.0 in cc)
    best_exit_of_fold_exit from same items (Some y) g (Ok (Some x)) r b exit = absurd (let e = acts g y x (Err exit.1) exit.0 exit.2 in cc)

    -- a fold that keeps the better of two by the order finds the best
    pub best_drains_of_fold : {S : Type 0} {steps : S → Answered A E → S → Type 0} {from : E → E → Type 0} {s t : S} {f : F} {r : Result (Option A) E} → ((e d : E) → from e d → d ≡ e) → FoldDrains steps (PickCall keeps call) from s None f r t → BestDrains keeps cmp steps s r
    best_drains_of_fold {from = from} {t = t} {f = f} {r = r} same h = (t, record { items = h.items; last = h.last; ran = h.ran; at = record { exit = best_exit_of_fold_exit from same h.items h.at.value h.at.closure h.last r (is_best_of_items h.items h.at.value f h.at.closure h.at.went) h.at.exit } })

-- ---- by a key

module _ {A E F K : Type 0} {cmp : K → K → Ordering} (o : IsTotalOrder cmp) (keeps : Ordering) (k : Keeps keeps) (call : F → A → Result K E → F → Type 0) where
  abbrev order_by_key : K × A → K × A → Ordering
  order_by_key p q = cmp p.0 q.0

  is_total_order_by_key : IsTotalOrder order_by_key
  is_total_order_by_key = record { antisymm = λ p q. o.antisymm p.0 q.0; trans = λ p q r. o.trans p.0 q.0 r.0; congr = λ p q r. o.congr p.0 q.0 r.0 }

  -- the keys that were made of the items, and the best of them
  record KeyedItems (done : List (K × A)) (items : List A) (f : F) (v : Option (K × A)) (g : F) : Type 0 where
    keyed : List (K × A)
    are : map (λ p. p.1) keyed ≡ items
    called : FoldsTo {P = F} (λ h p j. call h p.1 (Ok p.0) j) f keyed g
    best : IsBestOf keeps order_by_key (done ++ keyed) v

  keyed_items_of_fold_after_done : (items : List A) (done : List (K × A)) (b : K × A) (p : Option (K × A) × F) (v : Option (K × A)) (g : F) → p.0 ≡ Some b → IsLastBest keeps order_by_key done b → FoldsTo {P = Option (K × A) × F} (went_on_with (KeyCall keeps cmp call)) p items (v, g) → KeyedItems done items p.1 v g
  keyed_items_of_fold_after_done [] done b p v g at h w = record { keyed = []; are = refl; called = ap (λ q. q.1) w; best = subst (IsBestOf keeps order_by_key (done ++ [])) (sym at ∙ ap (λ q. q.0) w) (subst (λ (l : List (K × A)). IsLastBest keeps order_by_key l b) (sym (append-nil done)) h) }
  keyed_items_of_fold_after_done (x ∷ items) done b p v g at h w =
      let turn : KeyCall keeps cmp call p.1 (Some b) x (Ok w.0.0) w.0.1 = subst (λ (u : Option (K × A)). KeyCall keeps cmp call p.1 u x (Ok w.0.0) w.0.1) at w.1 in
      let rest = keyed_items_of_fold_after_done items (done ++ (turn.0, x) ∷ []) (better keeps (cmp b.0 turn.0) b (turn.0, x)) w.0 v g turn.2 (is_last_best_of_one_more_by_better is_total_order_by_key keeps k done b (turn.0, x) h) w.2 in
      record { keyed = (turn.0, x) ∷ rest.keyed; are = ap {B = List A} (λ l. x ∷ l) rest.are; called = (w.0.1, turn.1, rest.called); best = subst (λ (l : List (K × A)). IsBestOf keeps order_by_key l v) (append_assoc done ((turn.0, x) ∷ []) rest.keyed) rest.best }

  keyed_items_of_fold : (items : List A) (f : F) (v : Option (K × A)) (g : F) → FoldsTo {P = Option (K × A) × F} (went_on_with (KeyCall keeps cmp call)) (None, f) items (v, g) → KeyedItems [] items f v g
  keyed_items_of_fold [] f v g w = record { keyed = []; are = refl; called = ap (λ q. q.1) w; best = subst (IsBestOf keeps order_by_key []) (ap (λ q. q.0) w) refl }
  keyed_items_of_fold (x ∷ items) f v g w =
      let rest = keyed_items_of_fold_after_done items (((w.1).0, x) ∷ []) ((w.1).0, x) w.0 v g (w.1).2 (is_last_best_one is_total_order_by_key keeps k ((w.1).0, x)) w.2 in
      record { keyed = ((w.1).0, x) ∷ rest.keyed; are = ap {B = List A} (λ l. x ∷ l) rest.are; called = (w.0.1, (w.1).1, rest.called); best = rest.best }

  key_exit_of_best : (from : E → E → Type 0) → ((e d : E) → from e d → d ≡ e) → (keyed : List (K × A)) (v : Option (K × A)) (g : F) (last : Answered A E) (kept : Result (Option (K × A)) E) (r : Result (Option A) E) → IsBestOf keeps order_by_key keyed v → FoldExit (KeyCall keeps cmp call) from v g last kept → r ≡ item_of kept → KeyExit keeps cmp call keyed g last r
  key_exit_of_best from same keyed v g (Ok None) kept r b exit is = (v, is ∙ ap item_of exit, b)
  key_exit_of_best from same keyed v g (Err e) kept r b exit is = is ∙ ap item_of (exit.2 ∙ ap (λ d. Err d) (same e exit.0 exit.1))
  key_exit_of_best from same keyed v g (Ok (Some x)) kept r b exit is = (exit.1, exit.0, exit.2, is ∙ ap item_of exit.3)

  -- a fold that keeps the better of two by their keys finds the item of the best key
  pub best_by_key_drains_of_fold : {S : Type 0} {steps : S → Answered A E → S → Type 0} {from : E → E → Type 0} {s t : S} {f : F} {kept : Result (Option (K × A)) E} (r : Result (Option A) E) → ((e d : E) → from e d → d ≡ e) → FoldDrains steps (KeyCall keeps cmp call) from s None f kept t → r ≡ item_of kept → BestByKeyDrains keeps cmp call steps s f r
  best_by_key_drains_of_fold {steps = steps} {from = from} {s = s} {t = t} {f = f} {kept = kept} r same h is =
      let a = keyed_items_of_fold h.items f h.at.value h.at.closure h.at.went in
      record { keyed = a.keyed; last = h.last; closure = h.at.closure; after = t; ran = subst (λ (xs : List A). Run steps s (map item xs ++ h.last ∷ []) t) (sym a.are) h.ran; called = a.called; exit = key_exit_of_best from same a.keyed h.at.value h.at.closure h.last kept r a.best h.at.exit is }

-- ---- over a list

module _ {A E F : Type 0} (keeps : Ordering) (call : F → A → A → Result Ordering E → F → Type 0) {f : F} (h : A → A → Result Ordering E) (acts : ActsWith call f h) where
  pick_call_acts_as_pick_of : ActsWith (PickCall keeps call) f (pick_of keeps h)
  pick_call_acts_as_pick_of None x r g c = (c.1, c.0)
  pick_call_acts_as_pick_of (Some best) x (Ok b) g c = let a = acts best x (Ok c.0) g c.1 in (a.0, ap (λ z. Ok z) c.2 ∙ ap (λ (w : Result Ordering E). on_value w (λ o. Ok (Some (better keeps o best x)))) a.1)
  pick_call_acts_as_pick_of (Some best) x (Err e) g c = let a = acts best x (Err e) g c in (a.0, ap (λ (w : Result Ordering E). on_value w (λ o. Ok (Some (better keeps o best x)))) a.1)

  pub best_by_of_lists : {S : Type 0} {steps : S → Answered A E → S → Type 0} {from : E → E → Type 0} {s t : S} {r : Result (Option A) E} → ((e d : E) → from e d → d ≡ e) → (l : List (Result A E)) → FoldDrains steps (PickCall keeps call) from s None f r t → Lists steps s l → r ≡ best_by keeps h l
  unfolding best_by
  best_by_of_lists {from = from} same l c i = folded_of_lists (PickCall keeps call) from (λ e. e) (pick_of keeps h) f pick_call_acts_as_pick_of same l c i

module _ {A E F K : Type 0} (keeps : Ordering) (cmp : K → K → Ordering) (call : F → A → Result K E → F → Type 0) {f : F} (h : A → Result K E) (acts : Acts call f h) where
  key_call_acts_as_key_of : ActsWith (KeyCall keeps cmp call) f (key_of keeps cmp h)
  key_call_acts_as_key_of best x (Ok b) g c = let a = acts x (Ok c.0) g c.1 in (a.0, ap (λ z. Ok z) c.2 ∙ ap (λ (w : Result K E). on_value w (λ k. Ok (Some (better_key keeps cmp best (k, x))))) a.1)
  key_call_acts_as_key_of best x (Err e) g c = let a = acts x (Err e) g c in (a.0, ap (λ (w : Result K E). on_value w (λ k. Ok (Some (better_key keeps cmp best (k, x))))) a.1)

  pub best_by_key_of_lists : {S : Type 0} {steps : S → Answered A E → S → Type 0} {from : E → E → Type 0} {s t : S} {kept : Result (Option (K × A)) E} {r : Result (Option A) E} → ((e d : E) → from e d → d ≡ e) → (l : List (Result A E)) → FoldDrains steps (KeyCall keeps cmp call) from s None f kept t → r ≡ item_of kept → Lists steps s l → r ≡ best_by_key keeps cmp h l
  unfolding best_by_key
  best_by_key_of_lists {from = from} same l c is i = is ∙ ap item_of (folded_of_lists (KeyCall keeps cmp call) from (λ e. e) (key_of keeps cmp h) f key_call_acts_as_key_of same l c i)

-- ---- by a closure that compares two, as a list of bests

module _ {A E F : Type 0} (keeps : Ordering) (call : F → A → A → Result Ordering E → F → Type 0) where
  -- what the closure returned for the items after a best, and the bests that follow
  record PickedFrom (f : F) (best : A) (items : List A) (v : Option A) (g : F) : Type 0 where
    orders : List Ordering
    bests : List A
    are : NextBests keeps best items orders bests
    called : Calls (λ h p o j. call h p.0 p.1 (Ok o) j) f (zip (zip (best ∷ bests) items) orders) g
    at_last : v ≡ last_or (Some best) bests

  picked_from_fold : (items : List A) (best : A) (p : Option A × F) (v : Option A) (g : F) → p.0 ≡ Some best → FoldsTo {P = Option A × F} (went_on_with (PickCall keeps call)) p items (v, g) → PickedFrom p.1 best items v g
  picked_from_fold [] best p v g at w = record { orders = []; bests = []; are = refl; called = ap (λ q. q.1) w; at_last = sym (ap (λ q. q.0) w) ∙ at }
  picked_from_fold (x ∷ items) best p v g at w =
      let turn : PickCall keeps call p.1 (Some best) x (Ok w.0.0) w.0.1 = subst (λ (u : Option A). PickCall keeps call p.1 u x (Ok w.0.0) w.0.1) at w.1 in
      let rest = picked_from_fold items (better keeps turn.0 best x) w.0 v g turn.2 w.2 in
      record { orders = turn.0 ∷ rest.orders; bests = better keeps turn.0 best x ∷ rest.bests; are = (refl, rest.are); called = (w.0.1, turn.1, rest.called); at_last = rest.at_last }

  -- the bests of all items
  record PickedOf (f : F) (items : List A) (v : Option A) (g : F) : Type 0 where
    orders : List Ordering
    bests : List A
    are : Bests keeps items orders bests
    called : Calls (λ h p o j. call h p.0 p.1 (Ok o) j) f (zip (zip bests (drop 1 items)) orders) g
    at_last : v ≡ last_or None bests

  picked_of_items : (items : List A) (f : F) (v : Option A) (g : F) → FoldsTo {P = Option A × F} (went_on_with (PickCall keeps call)) (None, f) items (v, g) → PickedOf f items v g
  picked_of_items [] f v g w = record { orders = []; bests = []; are = (refl, refl); called = ap (λ q. q.1) w; at_last = sym (ap (λ q. q.0) w) }
  picked_of_items (x ∷ items) f v g w =
      let rest = picked_from_fold items x w.0 v g (let e = w.1.0 in cc) w.2 in
      record { orders = rest.orders; bests = x ∷ rest.bests; are = (refl, rest.are); called = subst (λ (h : F). Calls (λ i p o j. call i p.0 p.1 (Ok o) j) h (zip (zip (x ∷ rest.bests) items) rest.orders) g) w.1.1 rest.called; at_last = rest.at_last }

  pick_exit_of_fold_exit : (bests : List A) (v : Option A) (g : F) (last : Answered A E) (r : Result (Option A) E) → v ≡ last_or None bests → FoldExit (PickCall keeps call) (λ e d. d ≡ e) v g last r → PickExit call bests g last r
  pick_exit_of_fold_exit bests v g (Ok None) r at exit = exit ∙ ap (λ (u : Option A). Ok u) at
  pick_exit_of_fold_exit bests v g (Err e) r at exit = exit.2 ∙ ap (λ d. Err d) exit.1
  pick_exit_of_fold_exit bests None g (Ok (Some x)) r at exit = absurd (let e = exit.2.0 in cc)
  pick_exit_of_fold_exit bests (Some best) g (Ok (Some x)) r at exit = subst (λ (u : Option A). IsSomeAnd u (λ b. (e : E) × (j : F) × call g b x (Err e) j × (r ≡ Err e))) at (exit.1, exit.0, exit.2, exit.3)

  -- a fold that keeps the better of two by the closure goes through the bests
  pub pick_drains_of_fold : {S : Type 0} {steps : S → Answered A E → S → Type 0} {s : S} {f : F} {r : Result (Option A) E} → PickedByFold keeps call steps s f r → PickDrains keeps call steps s f r
  pick_drains_of_fold {f = f} {r = r} h =
      let by = h.folded in
      let a = picked_of_items by.items f by.at.value by.at.closure by.at.went in
      record { items = by.items; orders = a.orders; bests = a.bests; last = by.last; closure = by.at.closure; after = h.after; ran = by.ran; are = a.are; called = a.called; exit = pick_exit_of_fold_exit a.bests by.at.value by.at.closure by.last r a.at_last by.at.exit }

-- ---- by the order of the items

module _ {S A E F : Type 0} {keeps : Ordering} {call : F → A → A → Result Ordering E → F → Type 0} {steps : S → Answered A E → S → Type 0} {s : S} {f : F} {r : Result (Option A) E} (cmp : A → A → Ordering) (h : PickedByFold keeps call steps s f r) where
  pub best_drains_by_order : IsTotalOrder cmp → Keeps keeps → ((g : F) (x y : A) (q : Result Ordering E) (j : F) → call g x y q j → q ≡ Ok (cmp x y)) → BestDrains keeps cmp steps s r
  best_drains_by_order o k acts = best_drains_of_fold o keeps k acts (λ e d j. j) h.folded

  pub best_by_order_of_lists : (l : List (Result A E)) → ActsWith call f (λ x y. Ok (cmp x y)) → Lists steps s l → r ≡ best_by keeps (λ x y. Ok (cmp x y)) l
  best_by_order_of_lists l acts i = best_by_of_lists keeps call (λ x y. Ok (cmp x y)) acts (λ e d j. j) l h.folded i

-- the words for the best by an order
pub greatest_of_lists : {A E : Type 0} (cmp : A → A → Ordering) (l : List (Result A E)) (r : Result (Option A) E) → r ≡ best_by Greater (λ x y. Ok (cmp x y)) l → r ≡ greatest cmp l
unfolding greatest
greatest_of_lists cmp l r e = e

pub least_of_lists : {A E : Type 0} (cmp : A → A → Ordering) (l : List (Result A E)) (r : Result (Option A) E) → r ≡ best_by Less (λ x y. Ok (cmp x y)) l → r ≡ least cmp l
unfolding least
least_of_lists cmp l r e = e
