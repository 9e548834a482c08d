-- A fold through std's own `try_fold`, or `try_rfold`, is a fold of the type over the std iterator: `read` is the result that an element is.
use Rattle.std.specs.Prelude.{◌≡◌, List, [], ◌∷◌, Option, Result, Some, None, Ok, Err, MatchOption, IfOk, IsErr, IsErrAnd}
use Rattle.std.specs.Iterator.{Count, MakesProgress, Yields, TryFoldTurn, TryFoldsItems, CallableInTryFold}
use Rattle.std.specs.List.{FoldsTo}
use Rattle.std.specs.Fn.{Called, Takes, Mut}
use Rattle.std.specs.Borrow.{MutBor}
use Rattle.std.specs.Result.{result_from_control_flow}
use Rattle.std.proofs.Common.{refl, sym, subst, ap, ◌∙◌}
use Rattle.fallible_contract.specs.Traces.{Answered}
use Rattle.fallible_contract.specs.Lists.{result_answer}
use Rattle.fallible_contract.specs.Folds.{HoldsAtEachTurn, goes_on, Driven}
use Rattle.fallible_contract.proofs.Lemmas.Folds.{holds_at_first_turn, holds_each_turn_after_item, driven_by_item_first, driven_end, driven_failure, driven_of_first_break, fold_of_references_drives_values, names_kept}
use Rattle.fallible_iterator.specs.Sources.Std.{std_step, std_element}
use Rattle.fallible_iterator.specs.Sources.StdFold.{progressing, ElementTurn, answer_of, state_left, lent}
use Rattle.std.specs.declared.ops.ControlFlow.{ControlFlow}
use Rattle.std.specs.declared.ops.ControlFlow.TheVariants.{Continue, Break}
use Rattle.fallible_iterator.specs.declared.sources.std_fold.Progressing.{Progressing}

-- what is made of what `?` yields
result_is_err_of_is_err_and : {C X : Type 0} (r : Result C X) (x : X) → IsErrAnd r (λ y. y ≡ x) → r ≡ Err x
result_is_err_of_is_err_and (Ok c) x h = absurd h
result_is_err_of_is_err_and (Err y) x h = ap Err h

-- ---- the calls

module _ {S Z : Type 0} (can : S → Type 0) (gives : S → Option Z → S → Type 0) (remaining : S → Count) where
  abbrev CallsOnce : Progressing S → Option Z → Progressing S → Type 0
  CallsOnce s r t = progressing can gives remaining s.it r t.it

  -- they keep the reference
  name_kept : (xs : List Z) (s t : Progressing S) → Yields CallsOnce s xs t → t.it.ghost_name ≡ s.it.ghost_name
  name_kept [] s t e = ap (λ (z : Progressing S). z.it.ghost_name) (sym e)
  name_kept (x ∷ xs) s t h = name_kept xs h.0 t h.2 ∙ h.1.2

-- ---- the turns

-- The closure that std's fold calls takes a turn on what is read of the element, and stays as it was.
abbrev pub TurnsBy : {F C A E R Z : Type 0} → Mut F (C × (Z × Unit {0})) (Result C (C × Answered R E)) → F → (Z → Result A E) → (C → A → ControlFlow R (Unit {0}) → C → Type 0) → Type 0
TurnsBy {F} {C} {E = E} {R = R} {Z = Z} g f read turns = (c : C) (z : Z) (r : Result C (C × Answered R E)) (h : F) → Called g f (c, (z, tt)) r h → (h ≡ f) × ElementTurn turns c (read z) r

module _ {S A E Z F C R : Type 0} (of_item : A → Z) (of_failure : E → Z) (read : Z → Result A E) (reads : (z : Z) → std_element of_item of_failure (result_answer (read z)) ≡ Some z) (can : S → Type 0) (gives : S → Option Z → S → Type 0) (remaining : S → Count)
    (g : Mut F (C × (Z × Unit {0})) (Result C (C × Answered R E))) (f : F) (turns : C → A → ControlFlow R (Unit {0}) → C → Type 0) (turned : TurnsBy g f read turns) where
  abbrev StepOfStdFold : S → Answered A E → S → Type 0
  StepOfStdFold = std_step of_item of_failure can gives remaining

  abbrev ElementCall : Progressing S → Option Z → Progressing S → Type 0
  ElementCall = CallsOnce can gives remaining

  abbrev TurnOnElement : F × C → Z → F × C → Type 0
  TurnOnElement = TryFoldTurn {B = C} g (λ r b. r ≡ result_from_control_flow b)

  -- a call that returned an element is a draw of what is read of it
  step_of_result : (s t : Progressing S) (z : Z) (q : Result A E) → read z ≡ q → ElementCall s (Some z) t → StepOfStdFold s.it.now (result_answer q) t.it.now
  step_of_result s t z q e w = let step : StepOfStdFold s.it.now (result_answer (read z)) t.it.now = subst (λ (o : Option Z). gives s.it.now o t.it.now × MakesProgress can remaining s.it.now o t.it.now) (sym (reads z)) (w.0, w.1) in
      subst (λ (y : Result A E). StepOfStdFold s.it.now (result_answer y) t.it.now) e step

  -- a turn that goes on is the caller's turn, and leaves the closure as it was
  element_turn_went_on : (c d : C) (z : Z) (h : F) → TurnOnElement (f, c) z (h, d) → (h ≡ f) × ElementTurn turns c (read z) (Ok d)
  element_turn_went_on c d z h w = let called = turned c z w.0 h w.1 in (called.0, subst (λ (r : Result C (C × Answered R E)). ElementTurn turns c (read z) r) w.2 called.1)

  -- and it is taken on an item
  item_of_element_turn : (c d : C) (q : Result A E) → ElementTurn turns c q (Ok d) → (x : A) × (q ≡ Ok x) × turns c x (Continue tt) d
  item_of_element_turn c d (Ok x) w = (x, refl, w)
  item_of_element_turn c d (Err e) w = absurd w

  -- the turn at which std's fold breaks off is where the fold stops, or meets a failure
  driven_to_stop : (c : C) (s t : Progressing S) (z : Z) (q : Result A E) (stop : C × Answered R E) → read z ≡ q → ElementCall s (Some z) t → ElementTurn turns c q (Err stop) → Driven StepOfStdFold turns s.it.now c stop.1 t.it.now stop.0
  driven_to_stop c s t z (Ok x) stop e w (why, turn, is) = subst (λ a. Driven StepOfStdFold turns s.it.now c a t.it.now stop.0) (sym is) (driven_of_first_break x (step_of_result s t z (Ok x) e w) turn)
  driven_to_stop c s t z (Err why) stop e w is = subst (λ p. Driven StepOfStdFold turns s.it.now c p.1 t.it.now p.0) (sym is) (driven_failure (step_of_result s t z (Err why) e w))

  -- what std says of the last call of its fold
  abbrev LastOfStd : F → C → Option Z → Result C (C × Answered R E) → Type 0
  LastOfStd h a o r = MatchOption o (r ≡ Ok a) (λ z. (v : Result C (C × Answered R E)) × (h' : F) × (d : _) × Called g h (a, (z, tt)) v h' × (v ≡ result_from_control_flow (Break d)) × (IsErr r × IsErrAnd r (λ y. y ≡ d.0)))

  -- one call, at which std's fold ended or broke off
  driven_to_end : (c : C) (s t : Progressing S) (o : Option Z) (r : Result C (C × Answered R E)) → ElementCall s o t → LastOfStd f c o r → Driven StepOfStdFold turns s.it.now c (answer_of r) t.it.now (state_left r)
  driven_to_end c s t None r w is = subst (λ (y : Result C (C × Answered R E)). Driven StepOfStdFold turns s.it.now c (answer_of y) t.it.now (state_left y)) (sym is) (driven_end (w.0, w.1))
  driven_to_end c s t (Some z) r w (v, h, d, called, broke, is) =
      let turn : ElementTurn turns c (read z) (Err d.0) = subst (λ (y : Result C (C × Answered R E)). ElementTurn turns c (read z) y) broke (turned c z v h called).1 in
      subst (λ (y : Result C (C × Answered R E)). Driven StepOfStdFold turns s.it.now c (answer_of y) t.it.now (state_left y)) (sym (result_is_err_of_is_err_and r d.0 is.1)) (driven_to_stop c s t z (read z) d.0 refl w turn)

  -- the calls before it returned items on which the turns went on
  module _ (o : Option Z) (t u : Progressing S) (a : C) (h : F) (r : Result C (C × Answered R E)) (w : ElementCall t o u) (is : LastOfStd h a o r) where
    driven_of_std_fold : (xs : List Z) (s : Progressing S) (c : C) → Yields ElementCall s xs t → FoldsTo TurnOnElement (f, c) xs (h, a) → Driven StepOfStdFold turns s.it.now c (answer_of r) u.it.now (state_left r)
    driven_of_std_fold [] s c e went =
        let now : ElementCall s o u = subst (λ (z : Progressing S). ElementCall z o u) (sym e) w in
        let last : LastOfStd f c o r = subst (λ (p : F × C). LastOfStd p.0 p.1 o r) (sym went) is in
        driven_to_end c s u o r now last
    driven_of_std_fold (z ∷ xs) s c y went =
        let on = element_turn_went_on c went.0.1 z went.0.0 went.1 in
        let item_on = item_of_element_turn c went.0.1 (read z) on.1 in
        driven_by_item_first item_on.0 (step_of_result s y.0 z (Ok item_on.0) item_on.1 y.1) item_on.2
        (driven_of_std_fold xs y.0 went.0.1 y.2 (subst (λ (k : F). FoldsTo TurnOnElement (k, went.0.1) xs (h, a)) on.0 went.2))

  -- what std says of its fold
  abbrev StdFolds : Progressing S → C → Result C (C × Answered R E) → Progressing S → Type 0
  StdFolds s c r u = TryFoldsItems ElementCall g (λ r b. r ≡ result_from_control_flow b) (λ d r. IsErr r × IsErrAnd r (λ y. y ≡ d.0)) s f c r u

  pub driven_by_std : {s : Progressing S} {c : C} {r : Result C (C × Answered R E)} (u : Progressing S) → StdFolds s c r u → Driven StepOfStdFold turns s.it.now c (answer_of r) u.it.now (state_left r)
  driven_by_std {s} {c} {r} u (xs, o, h, a, (t, y, w), went, is) = driven_of_std_fold o t u a h r w is xs s c y went

  -- the closure may be called where the caller's turn may be taken on an item
  module _ (can_turn : C → A → Type 0) (takes : (c : C) (z : Z) → IfOk (read z) (can_turn c) → Takes g f (c, (z, tt))) where
    can_turn_at_first : (c : C) (s t : Progressing S) (z : Z) (q : Result A E) → read z ≡ q → ElementCall s (Some z) t → HoldsAtEachTurn StepOfStdFold (goes_on turns) can_turn s.it.now c → IfOk q (can_turn c)
    can_turn_at_first c s t z (Ok x) e w h = holds_at_first_turn h (step_of_result s t z (Ok x) e w)
    can_turn_at_first c s t z (Err why) e w h = tt

    takes_at_element : (xs : List Z) (s t u : Progressing S) (c : C) (q : F × C) (z : Z) → HoldsAtEachTurn StepOfStdFold (goes_on turns) can_turn s.it.now c → Yields ElementCall s xs t → FoldsTo TurnOnElement (f, c) xs q → ElementCall t (Some z) u → Takes g q.0 (q.1, (z, tt))
    takes_at_element [] s t u c q z h e went w =
        let now : ElementCall s (Some z) u = subst (λ (y : Progressing S). ElementCall y (Some z) u) (sym e) w in
        subst (λ (p : F × C). Takes g p.0 (p.1, (z, tt))) went (takes c z (can_turn_at_first c s u z (read z) refl now h))
    takes_at_element (y ∷ xs) s t u c q z h ran went w =
        let on = element_turn_went_on c went.0.1 y went.0.0 went.1 in
        let item_on = item_of_element_turn c went.0.1 (read y) on.1 in
        takes_at_element xs ran.0 t u went.0.1 q z (holds_each_turn_after_item h (step_of_result s ran.0 y (Ok item_on.0) item_on.1 ran.1) item_on.2) ran.2 (subst (λ (k : F). FoldsTo TurnOnElement (k, went.0.1) xs q) on.0 went.2) w

    pub callable_in_std_fold : {s : Progressing S} {c : C} → HoldsAtEachTurn StepOfStdFold (goes_on turns) can_turn s.it.now c → CallableInTryFold ElementCall g (λ r b. r ≡ result_from_control_flow b) s f c
    callable_in_std_fold {s} {c} h = record { at = λ xs t q z u ran went w. takes_at_element xs s t u c q z h ran went w }

  -- a fold through std's keeps the reference
  pub lent_name_kept_by_std_fold : {s : Progressing S} {c : C} {r : Result C (C × Answered R E)} (u : Progressing S) → StdFolds s c r u → u.it.ghost_name ≡ s.it.ghost_name
  lent_name_kept_by_std_fold {s} u (xs, o, h, a, (t, y, w), went, is) = w.2 ∙ name_kept can gives remaining xs s t y

-- what the reference that came back points to, once it is known to be the one that was lent
pub driven_lent : {S A E C R : Type 0} {steps : S → Answered A E → S → Type 0} {turns : C → A → ControlFlow R (Unit {0}) → C → Type 0} {s t : S} {b d : MutBor C} {r : Answered R E} (c : C) → Driven steps (lent turns) s b r t d → (d.ghost_name ≡ b.ghost_name → c ≡ d.now) → Driven steps turns s b.now r t c
driven_lent {steps = steps} {turns = turns} {s = s} {t = t} {b = b} {d = d} {r = r} c w is = subst (λ z. Driven steps turns s b.now r t z) (sym (is (names_kept (λ (z : MutBor _). z.now) (λ (z : MutBor _). z.ghost_name) turns w))) (fold_of_references_drives_values (λ (z : MutBor _). z.now) (λ (z : MutBor _). z.ghost_name) turns w)

-- and what the other reference points to then
pub driven_of_equal_left : {S A E C R : Type 0} {steps : S → Answered A E → S → Type 0} {turns : C → A → ControlFlow R (Unit {0}) → C → Type 0} {s t u : S} {c d : C} {r : Answered R E} → t ≡ u → Driven steps turns s c r u d → Driven steps turns s c r t d
driven_of_equal_left {steps = steps} {turns = turns} {s = s} {c = c} {d = d} {r = r} same w = subst (λ z. Driven steps turns s c r z d) (sym same) w
