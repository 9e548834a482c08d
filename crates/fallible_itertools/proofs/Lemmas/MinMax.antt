-- The least and the greatest item by one fold, by their order or by a closure, and their positions.
use Rattle.std.specs.Prelude.{◌≡◌, List, [], ◌∷◌, ◌++◌, map, false, cond, Option, Some, None, Result, Ok, Err, Bool, true, ℕ, IsSomeAnd, drop}
use Rattle.std.specs.Cmp.{IsTotalOrder, upto}
use Rattle.std.specs.List.{FoldsTo, last_or, zip}
use Rattle.std.specs.Ordering.{ordering_reverse, is_gt}
use Rattle.std.specs.declared.cmp.Ordering.{Ordering}
use Rattle.std.specs.declared.cmp.Ordering.TheVariants.{Less, Equal, Greater}
use Rattle.std.specs.declared.ops.ControlFlow.{ControlFlow}
use Rattle.std.specs.declared.ops.ControlFlow.TheVariants.{Continue}
use Rattle.std.proofs.Common.{refl, sym, ap, subst, ◌∙◌, append-nil}
use Rattle.fallible_iterator.specs.Closures.{Calls}
use Rattle.fallible_iterator.specs.Contract.{Contract, parts_as}
use Rattle.fallible_iterator.specs.Enumerate.{Enumerate}
use Rattle.fallible_iterator.specs.Folds.{goes_on, DriveExit, Driven, CallableDriving, CallableInFold, IsFoldTurn, FoldDrains}
use Rattle.fallible_iterator.specs.Lists.{Lists, on_value, folded, pick_of, best_by, greatest, Acts, ActsWith, numbered}
use Rattle.fallible_iterator.specs.OneToOne.Enumerate.{enumerate_contract, enumerate_parts}
use Rattle.fallible_iterator.specs.Picking.{PickDrains, PickExit, better}
use Rattle.fallible_iterator.specs.Traces.{Answered, item}
use Rattle.fallible_iterator.proofs.Lemmas.Callers.{run_at_view}
use Rattle.fallible_iterator.proofs.Lemmas.Folds.{callable_driving_through, drained_by_implication, driven_by_item_first, driven_end, driven_failure, driven_of_first_break, fold_drains_ended, fold_drains_failed, fold_drains_stopped, fold_of_references_drives_values, holds_at_first_turn, holds_each_turn_after_item}
use Rattle.fallible_iterator.proofs.Lemmas.Lists.Drawn.{RestAt, drawn_of_lists, folded_of_lists}
use Rattle.fallible_itertools.specs.Keyed.{with_key, keyed}
use Rattle.fallible_itertools.specs.MinMax.{WidensBoth, with_item, or_less, first_least, minmax_of, minmaxed, MinMaxExit, MinMaxDrains, two_in_order, greatest_in_order, AfterLeast, MinMaxCall, WidensBothBy, with_item_by, minmaxed_by, with_keyed, MinMaxKeyCall, MinMaxKeyDrains, without_keys, minmaxed_by_key, PlaceCall, PlaceDrains, place_of, position_greatest, position_least}
use Rattle.fallible_itertools.specs.declared.minmax.MinMaxResult.{MinMaxResult}
use Rattle.fallible_itertools.specs.declared.minmax.MinMaxResult.TheVariants.{NoElements, OneElement, MinMax}

-- ---- The least and the greatest item by one fold

module _ {A : Type 0} {cmp : A → A → Ordering} (o : IsTotalOrder cmp) where
  reversed_is_not_greater_where_greater : (x y : A) → cmp x y ≡ Greater → is_gt (cmp y x) ≡ false
  reversed_is_not_greater_where_greater x y e = ap is_gt (o.antisymm y x ∙ ap ordering_reverse e)

  -- what is kept are the least and the greatest, and the least isn't greater
  abbrev pub MinMaxStep : A → A → A → Ordering → Ordering → MinMaxResult A → Type 0
  MinMaxStep a b x p q d = (d ≡ MinMax (better Less (or_less p) a x) (better Greater q b x)) × (is_gt (cmp (better Less (or_less p) a x) (better Greater q b x)) ≡ false)

  item_never_less_than_least_alone : (a b x : A) → is_gt (cmp a b) ≡ false → cmp a x ≡ Greater → is_gt (cmp b x) ≡ false → ⊥
  item_never_less_than_least_alone a b x inv p q = let h = sym (ap is_gt p) ∙ upto o a b x inv q in cc

  pub min_max_step_of_item : (p q : Ordering) (a b x : A) → cmp a x ≡ p → cmp b x ≡ q → is_gt (cmp a b) ≡ false → MinMaxStep a b x p q (cond (is_gt p) (MinMax x b) (cond (is_gt q) (MinMax a b) (MinMax a x)))
  min_max_step_of_item Greater Greater a b x e f inv = (refl, reversed_is_not_greater_where_greater b x f)
  min_max_step_of_item Greater Less a b x e f inv = absurd (item_never_less_than_least_alone a b x inv e (ap is_gt f))
  min_max_step_of_item Greater Equal a b x e f inv = absurd (item_never_less_than_least_alone a b x inv e (ap is_gt f))
  min_max_step_of_item Less Greater a b x e f inv = (refl, inv)
  min_max_step_of_item Less Less a b x e f inv = (refl, ap is_gt e)
  min_max_step_of_item Less Equal a b x e f inv = (refl, ap is_gt e)
  min_max_step_of_item Equal Greater a b x e f inv = (refl, inv)
  min_max_step_of_item Equal Less a b x e f inv = (refl, ap is_gt e)
  min_max_step_of_item Equal Equal a b x e f inv = (refl, ap is_gt e)

  pub min_max_step_of_item_from_one : (p : Ordering) (a x : A) → cmp a x ≡ p → MinMaxStep a a x p p (cond (is_gt p) (MinMax x a) (MinMax a x))
  min_max_step_of_item_from_one Less a x e = (refl, ap is_gt e)
  min_max_step_of_item_from_one Equal a x e = (refl, ap is_gt e)
  min_max_step_of_item_from_one Greater a x e = (refl, reversed_is_not_greater_where_greater a x e)

  abbrev WidensTo : (R : Type 0) → MinMaxResult A → A → ControlFlow R (Unit {0}) → MinMaxResult A → Type 0
  WidensTo R c x r d = (r ≡ Continue tt) × (d ≡ with_item cmp c x)

  module _ (E : Type 0) where
    abbrev kept_by_order : MinMaxResult A → A → Result (MinMaxResult A) E
    kept_by_order c x = Ok (with_item cmp c x)

    -- the two folds from a least and a greatest item on
    abbrev both_from : A → A → List (Result A E) → Result (MinMaxResult A) E
    both_from a b l = on_value (folded (λ (e : E). e) (pick_of Less (λ x y. Ok (or_less (cmp x y)))) (Some a) l) (λ p. on_value (folded (λ (e : E). e) (pick_of Greater (λ x y. Ok (cmp x y))) (Some b) l) (λ q. Ok (minmax_of p q)))

    folded_from_both_is_both_from : (l : List (Result A E)) (a b : A) → is_gt (cmp a b) ≡ false → folded (λ (e : E). e) kept_by_order (MinMax a b) l ≡ both_from a b l
    unfolding folded
    folded_from_both_is_both_from [] a b inv = refl
    folded_from_both_is_both_from (Err e ∷ l) a b inv = refl
    folded_from_both_is_both_from (Ok x ∷ l) a b inv = let s = min_max_step_of_item (cmp a x) (cmp b x) a b x refl refl inv in
        ap (λ (c : MinMaxResult A). folded (λ (e : E). e) kept_by_order c l) s.0 ∙ folded_from_both_is_both_from l (better Less (or_less (cmp a x)) a x) (better Greater (cmp b x) b x) s.1

    pub minmaxed_of_fold : (l : List (Result A E)) → folded (λ (e : E). e) kept_by_order NoElements l ≡ minmaxed cmp l
    unfolding folded minmaxed first_least greatest best_by
    minmaxed_of_fold [] = refl
    minmaxed_of_fold (Err e ∷ l) = refl
    minmaxed_of_fold (Ok x ∷ []) = refl
    minmaxed_of_fold (Ok x ∷ Err e ∷ l) = refl
    minmaxed_of_fold (Ok x ∷ Ok y ∷ l) = let s = min_max_step_of_item_from_one (cmp x y) x y refl in
        ap (λ (c : MinMaxResult A). folded (λ (e : E). e) kept_by_order c l) s.0 ∙ folded_from_both_is_both_from l (better Less (or_less (cmp x y)) x y) (better Greater (cmp x y) x y) s.1

    folded_over_kept : (R : Type 0) (items : List A) (c d : MinMaxResult A) → FoldsTo (goes_on (WidensTo R)) c items d → folded (λ (e : E). e) kept_by_order c (map (λ x. Ok x) items) ≡ Ok d
    unfolding folded
    folded_over_kept R [] c d w = ap Ok w
    folded_over_kept R (x ∷ items) c d w = ap (λ (k : MinMaxResult A). folded (λ (e : E). e) kept_by_order k (map (λ x. Ok x) items)) (sym w.1.1) ∙ folded_over_kept R items w.0 d w.2

    folded_fails_at_failure : (items : List A) (c : MinMaxResult A) (e : E) (rest : List (Result A E)) → folded (λ (d : E). d) kept_by_order c (map (λ x. Ok x) items ++ Err e ∷ rest) ≡ Err e
    unfolding folded
    folded_fails_at_failure [] c e rest = refl
    folded_fails_at_failure (x ∷ items) c e rest = folded_fails_at_failure items (with_item cmp c x) e rest

  module _ (R : Type 0) where
    module _ {E : Type 0} (c : MinMaxResult A) where
      min_max_exit_end : (items : List A) (last : Answered A E) (d : MinMaxResult A) → FoldsTo (goes_on (WidensTo R)) NoElements items d → DriveExit (WidensTo R) d last (Ok None) c → MinMaxExit cmp items last (Ok c)
      min_max_exit_end items (Ok None) d w h = ap Ok h.1 ∙ sym (folded_over_kept E R items NoElements d w) ∙ minmaxed_of_fold E (map (λ x. Ok x) items)
      min_max_exit_end items (Ok (Some x)) d w h = absurd (let e = h.1.0 in cc)
      min_max_exit_end items (Err e) d w h = absurd (let f = h.0 in cc)

      min_max_exit_failure : (items : List A) (last : Answered A E) (d : MinMaxResult A) (e : E) → DriveExit (WidensTo R) d last (Err e) c → MinMaxExit cmp items last (Err e)
      min_max_exit_failure items (Ok None) d e h = absurd (let f = h.0 in cc)
      min_max_exit_failure items (Ok (Some x)) d e h = absurd (let f = h.1.0 in cc)
      min_max_exit_failure items (Err f) d e h = let same : e ≡ f = (let q = h.0 in cc) in ap Err same

    module _ {S E : Type 0} {steps : S → Answered A E → S → Type 0} {s t : S} {c : MinMaxResult A} where
      pub min_max_drains_to_end : Driven steps (WidensTo R) s NoElements (Ok None) t c → MinMaxDrains cmp steps s (Ok c)
      min_max_drains_to_end w = (t, drained_by_implication (λ items last h. record { exit = min_max_exit_end c items last h.carried h.went h.exit }) w)

      pub min_max_drains_to_failure : {e : E} → Driven steps (WidensTo R) s NoElements (Err e) t c → MinMaxDrains cmp steps s (Err e)
      min_max_drains_to_failure {e = e} w = (t, drained_by_implication (λ items last h. record { exit = min_max_exit_failure c items last h.carried e h.exit }) w)

    -- two draws, and then a fold whose state is the least item and the greatest
    pub driven_widens_to_after_two_draws : {S E : Type 0} {steps : S → Answered A E → S → Type 0} {s v t : S} {p q : A × A} {r : Answered R E} (u : S) (x y : A) → steps s (Ok (Some x)) u → steps u (Ok (Some y)) v → MinMax p.0 p.1 ≡ with_item cmp (OneElement x) y → Driven steps (WidensBoth cmp) v p r t q → Driven steps (WidensTo R) s NoElements r t (MinMax q.0 q.1)
    driven_widens_to_after_two_draws u x y first second is w = driven_by_item_first x first (refl, refl) (driven_by_item_first y second (refl, is) (fold_of_references_drives_values (λ b. MinMax b.0 b.1) (λ b. tt {0}) (WidensTo R) w))

-- ---- over a list

module _ {A E : Type 0} {cmp : A → A → Ordering} (o : IsTotalOrder cmp) where
  minmaxed_of_exit : (items : List A) (last : Answered A E) (r : Result (MinMaxResult A) E) (rest : List (Result A E)) → RestAt last rest → MinMaxExit cmp items last r → r ≡ minmaxed cmp (map (λ x. Ok x) items ++ rest)
  minmaxed_of_exit items (Ok None) r rest left exit = exit ∙ sym (ap (minmaxed cmp) (ap (λ (k : List (Result A E)). map (λ x. Ok x) items ++ k) left ∙ append-nil (map (λ x. Ok x) items)))
  minmaxed_of_exit items (Err e) r rest left exit = exit ∙ sym (ap (λ (k : List (Result A E)). minmaxed cmp (map (λ x. Ok x) items ++ k)) left.1 ∙ sym (minmaxed_of_fold o E (map (λ x. Ok x) items ++ Err e ∷ left.0)) ∙ folded_fails_at_failure o E items NoElements e left.0)
  minmaxed_of_exit items (Ok (Some x)) r rest left exit = absurd exit

  pub minmaxed_of_lists : {S : Type 0} {steps : S → Answered A E → S → Type 0} {s : S} {r : Result (MinMaxResult A) E} (l : List (Result A E)) → MinMaxDrains cmp steps s r → Lists steps s l → r ≡ minmaxed cmp l
  minmaxed_of_lists {steps = steps} {s = s} {r = r} l c i = let w = c.1 in let d = drawn_of_lists steps w.items w.last l s c.0 i.runs w.ran in minmaxed_of_exit w.items w.last r d.rest d.rest_is w.at.exit ∙ sym (ap (minmaxed cmp) d.list_is)

-- ---- The least and the greatest item by a closure, over a list

module _ {A E F : Type 0} (call : F → A → A → Result Ordering E → F → Type 0) {f : F} (h : A → A → Result Ordering E) (acts : ActsWith call f h) where
  answer_and_state_after_item_not_less : (v : Bool) (a b x : A) (r : Result (MinMaxResult A) E) (g : F) → cond v ((r ≡ Ok (MinMax x b)) × (g ≡ f)) ((p : Result Ordering E) × call f b x p g × (r ≡ on_value p (λ q. Ok (greatest_in_order a b x q)))) → (g ≡ f) × (r ≡ cond v (Ok (MinMax x b)) (on_value (h b x) (λ p. Ok (greatest_in_order a b x p))))
  answer_and_state_after_item_not_less true a b x r g w = (w.1, w.0)
  answer_and_state_after_item_not_less false a b x r g w = let d = acts b x w.0 g w.1 in (d.0, w.2 ∙ ap (λ (p : Result Ordering E). on_value p (λ q. Ok (greatest_in_order a b x q))) d.1)

  answer_and_state_after_least : (p : Result Ordering E) (a b x : A) (r : Result (MinMaxResult A) E) (g : F) → AfterLeast call a b x p f r g → (g ≡ f) × (r ≡ on_value p (λ o. cond (is_gt o) (Ok (MinMax x b)) (on_value (h b x) (λ q. Ok (greatest_in_order a b x q)))))
  answer_and_state_after_least (Err e) a b x r g w = (w.1, w.0)
  answer_and_state_after_least (Ok o) a b x r g w = answer_and_state_after_item_not_less (is_gt o) a b x r g w

  minmax_call_acts : ActsWith (MinMaxCall call) f (with_item_by h)
  minmax_call_acts NoElements x r g c = (c.1, c.0)
  minmax_call_acts (OneElement a) x r g c = let d = acts a x c.0 g c.1 in (d.0, c.2 ∙ ap (λ (p : Result Ordering E). on_value p (λ o. Ok (two_in_order a x o))) d.1)
  minmax_call_acts (MinMax a b) x r g c =
      let d = acts a x c.0 c.1 c.2 in
      let e = answer_and_state_after_least c.0 a b x r g (subst (λ (k : F). AfterLeast call a b x c.0 k r g) d.0 c.3) in
      (e.0, e.1 ∙ ap (λ (p : Result Ordering E). on_value p (λ o. cond (is_gt o) (Ok (MinMax x b)) (on_value (h b x) (λ q. Ok (greatest_in_order a b x q))))) d.1)

  pub minmaxed_by_of_lists : {S : Type 0} {steps : S → Answered A E → S → Type 0} {s t : S} {r : Result (MinMaxResult A) E} (l : List (Result A E)) → FoldDrains steps (MinMaxCall call) (λ e d. d ≡ e) s NoElements f r t → Lists steps s l → r ≡ minmaxed_by h l
  unfolding minmaxed_by
  minmaxed_by_of_lists l c i = folded_of_lists (MinMaxCall call) (λ e d. d ≡ e) (λ e. e) (with_item_by h) f minmax_call_acts (λ e d k. k) l c i

-- ---- the calls beside two that are kept

module _ {A E F : Type 0} (call : F → A → A → Result Ordering E → F → Type 0) {f mid : F} {a b x : A} {o : Ordering} where
  -- the least is greater than the item: one call
  pub min_max_call_where_least_is_greater : call f a x (Ok o) mid → is_gt o ≡ true → MinMaxCall call f (MinMax a b) x (Ok (MinMax x b)) mid
  min_max_call_where_least_is_greater c is = (Ok o, mid, c, subst (λ (v : Bool). cond v ((◌≡◌ {A = Result (MinMaxResult A) E} (Ok (MinMax x b)) (Ok (MinMax x b))) × (mid ≡ mid)) ((p : Result Ordering E) × call mid b x p mid × (◌≡◌ {A = Result (MinMaxResult A) E} (Ok (MinMax x b)) (on_value p (λ q. Ok (greatest_in_order a b x q)))))) (sym is) (refl, refl))

  -- it isn't: a second call, on the greatest
  pub min_max_call_of_two_calls : {g : F} {r : Result (MinMaxResult A) E} → call f a x (Ok o) mid → is_gt o ≡ false → (p : Result Ordering E) → call mid b x p g → r ≡ on_value p (λ q. Ok (greatest_in_order a b x q)) → MinMaxCall call f (MinMax a b) x r g
  min_max_call_of_two_calls {g = g} {r = r} c is p d e = (Ok o, mid, c, subst (λ (v : Bool). cond v ((r ≡ Ok (MinMax x b)) × (g ≡ mid)) ((p : Result Ordering E) × call mid b x p g × (r ≡ on_value p (λ q. Ok (greatest_in_order a b x q))))) (sym is) (p, d, e))

-- ---- by an order

on_value_is_same_where_functions_alike : {B C E : Type 0} (r : Result B E) (p q : B → Result C E) → ((b : B) → p b ≡ q b) → on_value r p ≡ on_value r q
on_value_is_same_where_functions_alike (Ok b) p q same = same b
on_value_is_same_where_functions_alike (Err e) p q same = refl

-- two folds whose steps are the same
folded_is_same_where_functions_alike : {A B E : Type 0} (h k : B → A → Result B E) → ((b : B) (x : A) → h b x ≡ k b x) → (b : B) (l : List (Result A E)) → folded (λ (e : E). e) h b l ≡ folded (λ (e : E). e) k b l
unfolding folded
folded_is_same_where_functions_alike h k same b [] = refl
folded_is_same_where_functions_alike h k same b (Err e ∷ l) = refl
folded_is_same_where_functions_alike {B = B} {E = E} h k same b (Ok x ∷ l) = ap (λ (r : Result B E). on_value r (λ c. folded (λ (e : E). e) h c l)) (same b x) ∙ on_value_is_same_where_functions_alike (k b x) (λ c. folded (λ (e : E). e) h c l) (λ c. folded (λ (e : E). e) k c l) (λ c. folded_is_same_where_functions_alike h k same c l)

module _ {A : Type 0} {cmp : A → A → Ordering} (o : IsTotalOrder cmp) (E : Type 0) where
  cond_of_ok_is_ok_of_cond : (v : Bool) (c d : MinMaxResult A) → ◌≡◌ {A = Result (MinMaxResult A) E} (cond v (Ok c) (Ok d)) (Ok (cond v c d))
  cond_of_ok_is_ok_of_cond true c d = refl
  cond_of_ok_is_ok_of_cond false c d = refl

  with_item_by_is_kept_by_order : (c : MinMaxResult A) (x : A) → with_item_by (λ y z. Ok (cmp y z)) c x ≡ kept_by_order o E c x
  with_item_by_is_kept_by_order NoElements x = refl
  with_item_by_is_kept_by_order (OneElement a) x = refl
  with_item_by_is_kept_by_order (MinMax a b) x = cond_of_ok_is_ok_of_cond (is_gt (cmp a x)) (MinMax x b) (greatest_in_order a b x (cmp b x))

  -- by an order it is `minmaxed`
  pub minmaxed_by_order_is_minmaxed : (l : List (Result A E)) → minmaxed_by (λ x y. Ok (cmp x y)) l ≡ minmaxed cmp l
  unfolding minmaxed_by
  minmaxed_by_order_is_minmaxed l = folded_is_same_where_functions_alike (with_item_by (λ y z. Ok (cmp y z))) (kept_by_order o E) with_item_by_is_kept_by_order NoElements l ∙ minmaxed_of_fold o E l

-- ---- the fold

module _ {S A B E F : Type 0} (call : F → MinMaxResult B → A → Result (MinMaxResult B) E → F → Type 0) {steps : S → Answered A E → S → Type 0} {s v : S} {f g : F} (u : S) (x : A) {c : MinMaxResult B} (first : steps s (Ok (Some x)) u) (called : call f NoElements x (Ok c) g) where
  -- one draw, and then the end or a failure
  pub fold_drains_at_end_after_draw : steps u (Ok None) v → FoldDrains steps call (λ e d. d ≡ e) s NoElements f (Ok c) v
  fold_drains_at_end_after_draw ended = fold_drains_ended call (λ e d. d ≡ e) (c, g) (driven_by_item_first x first called (driven_end ended))

  pub fold_drains_at_failure_after_draw : {e : E} → steps u (Err e) v → FoldDrains steps call (λ e d. d ≡ e) s NoElements f (Err e) v
  fold_drains_at_failure_after_draw {e = e} failed = fold_drains_failed call (λ e d. d ≡ e) (c, g) e e (driven_by_item_first x first called (driven_failure failed)) refl

  module _ (y : A) (second : steps u (Ok (Some y)) v) {h : F} where
    -- two draws, and a failure of the closure at the second
    pub fold_drains_where_second_call_fails : {e : E} → call g c y (Err e) h → FoldDrains steps call (λ e d. d ≡ e) s NoElements f (Err e) v
    fold_drains_where_second_call_fails {e = e} fails = fold_drains_stopped call (λ e d. d ≡ e) (c, h) e (driven_by_item_first x first called (driven_of_first_break y second fails))

    -- two draws, and then a fold whose state is the least item and the greatest, and the closure
    module _ {t : S} {p : B × B} {q : (B × B) × F} (called_again : call g c y (Ok (MinMax p.0 p.1)) h) where
      driven_after_two_draws : {r : Answered E E} → Driven steps (WidensBothBy call) v (p, h) r t q → Driven steps (IsFoldTurn call) s (NoElements, f) r t (MinMax q.0.0 q.0.1, q.1)
      driven_after_two_draws w = driven_by_item_first x first called (driven_by_item_first y second called_again (fold_of_references_drives_values (λ b. (MinMax b.0.0 b.0.1, b.1)) (λ b. tt {0}) (IsFoldTurn call) w))

      pub fold_drains_ended_after_two_draws : Driven steps (WidensBothBy call) v (p, h) (Ok None) t q → FoldDrains steps call (λ e d. d ≡ e) s NoElements f (Ok (MinMax q.0.0 q.0.1)) t
      fold_drains_ended_after_two_draws w = fold_drains_ended call (λ e d. d ≡ e) (MinMax q.0.0 q.0.1, q.1) (driven_after_two_draws w)

      pub fold_drains_stopped_after_two_draws : {e : E} → Driven steps (WidensBothBy call) v (p, h) (Ok (Some e)) t q → FoldDrains steps call (λ e d. d ≡ e) s NoElements f (Err e) t
      fold_drains_stopped_after_two_draws {e = e} w = fold_drains_stopped call (λ e d. d ≡ e) (MinMax q.0.0 q.0.1, q.1) e (driven_after_two_draws w)

      pub fold_drains_failed_after_two_draws : {e : E} → Driven steps (WidensBothBy call) v (p, h) (Err e) t q → FoldDrains steps call (λ e d. d ≡ e) s NoElements f (Err e) t
      fold_drains_failed_after_two_draws {e = e} w = fold_drains_failed call (λ e d. d ≡ e) (MinMax q.0.0 q.0.1, q.1) e e (driven_after_two_draws w) refl

-- where the closure may be called on what is kept and each item that may come
module _ {S A B E F : Type 0} (call : F → MinMaxResult B → A → Result (MinMaxResult B) E → F → Type 0) (takes : F → MinMaxResult B → A → Type 0) {steps : S → Answered A E → S → Type 0} {s u : S} {f g : F} (callable : CallableInFold steps call takes s f NoElements) (x : A) {c : MinMaxResult B} (first : steps s (Ok (Some x)) u) (called : call f NoElements x (Ok c) g) where
  callable_after_draw : CallableInFold steps call takes u g c
  callable_after_draw = holds_each_turn_after_item {d = (c, g)} callable first called

  -- it may be called at the second one
  pub takes_second_item : {v : S} (y : A) → steps u (Ok (Some y)) v → takes g c y
  takes_second_item y second = holds_at_first_turn callable_after_draw second

  -- and in the fold after the second one
  pub callable_after_two_draws : {v : S} (y : A) → steps u (Ok (Some y)) v → {h : F} {p : B × B} → call g c y (Ok (MinMax p.0 p.1)) h → CallableDriving steps (WidensBothBy call) (λ q z. takes q.1 (MinMax q.0.0 q.0.1) z) v (p, h)
  callable_after_two_draws y second {h = h} {p = p} called_again = callable_driving_through (λ b. (MinMax b.0.0 b.0.1, b.1)) (λ b. tt {0}) (IsFoldTurn call) {c = (p, h)} {can = λ q z. takes q.1 q.0 z} (holds_each_turn_after_item {d = (MinMax p.0 p.1, h)} callable_after_draw second called_again)

-- ---- by a key

module _ {A E F K : Type 0} (cmp : K → K → Ordering) (call : F → A → Result K E → F → Type 0) {f : F} (h : A → Result K E) (acts : Acts call f h) where
  -- what is kept after one more item, by its key
  abbrev with_key_of : MinMaxResult (K × A) → A → Result (MinMaxResult (K × A)) E
  with_key_of c x = on_value (h x) (λ k. Ok (with_keyed cmp c (k, x)))

  acts_with_key_of : ActsWith (MinMaxKeyCall cmp call) f with_key_of
  acts_with_key_of c x (Ok d) g w = let a = acts x (Ok w.0) g w.1 in (a.0, ap (λ z. Ok z) w.2 ∙ ap (λ (p : Result K E). on_value p (λ k. Ok (with_keyed cmp c (k, x)))) a.1)
  acts_with_key_of c x (Err e) g w = let a = acts x (Err e) g w in (a.0, ap (λ (p : Result K E). on_value p (λ k. Ok (with_keyed cmp c (k, x)))) a.1)

  pub folded_with_key_of_lists : {S : Type 0} {steps : S → Answered A E → S → Type 0} {s t : S} {r : Result (MinMaxResult (K × A)) E} (l : List (Result A E)) → FoldDrains steps (MinMaxKeyCall cmp call) (λ e d. d ≡ e) s NoElements f r t → Lists steps s l → r ≡ folded (λ (e : E). e) with_key_of NoElements l
  folded_with_key_of_lists l c i = folded_of_lists (MinMaxKeyCall cmp call) (λ e d. d ≡ e) (λ e. e) with_key_of f acts_with_key_of (λ e d k. k) l c i

  folded_with_key_is_folded_over_keyed_item : (r : Result K E) (c : MinMaxResult (K × A)) (x : A) (l : List (Result A E)) → ((d : MinMaxResult (K × A)) → folded (λ (e : E). e) with_key_of d l ≡ folded (λ (e : E). e) (λ d p. Ok (with_item (λ p q. cmp p.0 q.0) d p)) d (keyed h l)) → on_value (on_value r (λ k. Ok (with_keyed cmp c (k, x)))) (λ d. folded (λ (e : E). e) with_key_of d l) ≡ folded (λ (e : E). e) (λ d p. Ok (with_item (λ p q. cmp p.0 q.0) d p)) c (with_key x r ∷ keyed h l)
  unfolding folded
  folded_with_key_is_folded_over_keyed_item (Ok k) c x l rest = rest (with_keyed cmp c (k, x))
  folded_with_key_is_folded_over_keyed_item (Err e) c x l rest = refl

  folded_with_key_is_folded_over_keyed : (c : MinMaxResult (K × A)) (l : List (Result A E)) → folded (λ (e : E). e) with_key_of c l ≡ folded (λ (e : E). e) (λ d p. Ok (with_item (λ p q. cmp p.0 q.0) d p)) c (keyed h l)
  unfolding folded keyed
  folded_with_key_is_folded_over_keyed c [] = refl
  folded_with_key_is_folded_over_keyed c (Err e ∷ l) = refl
  folded_with_key_is_folded_over_keyed c (Ok x ∷ l) = folded_with_key_is_folded_over_keyed_item (h x) c x l (λ d. folded_with_key_is_folded_over_keyed d l)

  is_total_order_by_keys : IsTotalOrder cmp → IsTotalOrder (λ (p : K × A) (q : K × A). cmp p.0 q.0)
  is_total_order_by_keys o = record { antisymm = λ p q. o.antisymm p.0 q.0; trans = λ p q r. o.trans p.0 q.0 r.0; congr = λ p q r. o.congr p.0 q.0 r.0 }

  pub minmaxed_by_key_of_lists : IsTotalOrder cmp → {S : Type 0} {steps : S → Answered A E → S → Type 0} {s : S} {r : Result (MinMaxResult A) E} (l : List (Result A E)) → MinMaxKeyDrains cmp call steps s f r → Lists steps s l → r ≡ minmaxed_by_key cmp h l
  unfolding minmaxed_by_key
  minmaxed_by_key_of_lists o l w i = w.3 ∙ ap (λ (k : Result (MinMaxResult (K × A)) E). on_value k (λ c. Ok (without_keys c))) (folded_with_key_of_lists l w.2 i ∙ folded_with_key_is_folded_over_keyed NoElements l ∙ minmaxed_of_fold (is_total_order_by_keys o) E (keyed h l))

-- ---- The positions of the greatest item and of the least, by a fold over numbered items

module _ {A E F : Type 0} (call : F → ℕ × A → ℕ × A → Result Ordering E → F → Type 0) (by : A → A → Ordering) (acts : (g : F) (x y : ℕ × A) (r : Result Ordering E) (j : F) → call g x y r j → r ≡ Ok (by x.1 y.1)) where
  calls_of_place_call : (pairs : List (((ℕ × A) × (ℕ × A)) × Ordering)) (f g : F) → Calls (λ g p o h. call g p.0 p.1 (Ok o) h) f pairs g → Calls (λ u p o w. PlaceCall {E = E} by u p.0 p.1 (Ok o) w) tt pairs tt
  calls_of_place_call [] f g w = refl
  calls_of_place_call (x ∷ pairs) f g w = (tt, acts f x.0.0 x.0.1 (Ok x.1) w.0 w.1, calls_of_place_call pairs w.0 g w.2)

  -- no comparison fails
  comparison_never_fails : (g : F) (x : ℕ × A) (r : Result (Option (ℕ × A)) E) (o : Option (ℕ × A)) → IsSomeAnd o (λ best. (e : E) × (j : F) × call g best x (Err e) j × (r ≡ Err e)) → ⊥
  comparison_never_fails g x r None h = absurd h
  comparison_never_fails g x r (Some best) h = let is = acts g best x (Err h.0) h.1 h.2 in cc

  pick_exit_of_place_call : (bests : List (ℕ × A)) (g : F) (last : Answered (ℕ × A) E) (r : Result (Option (ℕ × A)) E) → PickExit call bests g last r → PickExit (PlaceCall by) bests tt last r
  pick_exit_of_place_call bests g (Ok None) r h = h
  pick_exit_of_place_call bests g (Err e) r h = h
  pick_exit_of_place_call bests g (Ok (Some x)) r h = absurd (comparison_never_fails g x r (last_or None bests) h)

  module _ {I : Type 0} (keeps : Ordering) (m : Contract I A E) where
    pub place_drains : {s : Enumerate I} {it : I} {f : F} {found : Result (Option (ℕ × A)) E} {r : Result (Option ℕ) E} → PickDrains keeps call (parts_as enumerate_parts (enumerate_contract m)).steps s f found → enumerate_parts s ≡ (it, 0) → r ≡ place_of found → PlaceDrains keeps by m it r
    place_drains {s = s} {f = f} {found = found} d at is = record {
      found = found;
      picked = subst (λ (p : I × ℕ). PickDrains keeps (PlaceCall by) (enumerate_contract m).steps p tt found) at (record {
        items = d.items;
        orders = d.orders;
        bests = d.bests;
        last = d.last;
        closure = tt;
        after = enumerate_parts d.after;
        ran = run_at_view enumerate_parts (enumerate_contract m).steps (map item d.items ++ d.last ∷ []) s d.after d.ran;
        are = d.are;
        called = calls_of_place_call (zip (zip d.bests (drop 1 d.items)) d.orders) f d.closure d.called;
        exit = pick_exit_of_place_call d.bests d.closure d.last found d.exit;
      });
      answer = is;
    }

pub place_of_best_is_position_greatest : {A E : Type 0} (cmp : A → A → Ordering) (l : List (Result A E)) {found : Result (Option (ℕ × A)) E} {r : Result (Option ℕ) E} → found ≡ best_by Greater (λ p q. Ok (cmp p.1 q.1)) (numbered 0 l) → r ≡ place_of found → r ≡ position_greatest cmp l
unfolding position_greatest
place_of_best_is_position_greatest cmp l found is = is ∙ ap place_of found

pub place_of_best_is_position_least : {A E : Type 0} (cmp : A → A → Ordering) (l : List (Result A E)) {found : Result (Option (ℕ × A)) E} {r : Result (Option ℕ) E} → found ≡ best_by Less (λ p q. Ok (or_less (cmp p.1 q.1))) (numbered 0 l) → r ≡ place_of found → r ≡ position_least cmp l
unfolding position_least
place_of_best_is_position_least cmp l found is = is ∙ ap place_of found
