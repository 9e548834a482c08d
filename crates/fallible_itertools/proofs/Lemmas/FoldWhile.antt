-- Folds that stop, as folds that fail where they stop.
use Rattle.std.specs.Prelude.{◌≡◌, Option, Some, None, Result, Ok, Err, List, [], ◌∷◌, IsSome}
use Rattle.std.proofs.Common.{refl, sym, ap, subst, ◌∙◌}
use Rattle.fallible_iterator.specs.Traces.{Answered}
use Rattle.fallible_iterator.specs.Folds.{Driven, FoldDrains, IsFoldTurnInSlot}
use Rattle.fallible_iterator.specs.Lists.{Lists, ActsWith, on_value, folded, rest_failed, rest_fold}
use Rattle.fallible_iterator.proofs.Lemmas.Folds.{slot_never_empty, fold_drains_slot_ended, fold_drains_slot_failed, fold_drains_slot_stopped}
use Rattle.fallible_iterator.proofs.Lemmas.Lists.Drawn.{folded_of_lists}
use Rattle.fallible_iterator.proofs.Lemmas.Lists.Rest.{lists_rest_fold}
use Rattle.fallible_itertools.specs.FoldWhile.{while_answer, WhileCall, FoldWhileDrains, StopsWith, while_going_on, folded_while, rest_done_at, rest_while}
use Rattle.fallible_itertools.specs.declared.fold_while.FoldWhile.{FoldWhile}
use Rattle.fallible_itertools.specs.declared.fold_while.FoldWhile.TheVariants.{Continue, Done}

-- the answer of such a closure, as one that fails where it stops
abbrev as_failing : {B E : Type 0} → Result (FoldWhile B) E → Result B (Result B E)
as_failing (Ok (Continue c)) = Ok c
as_failing (Ok (Done d)) = Err (Ok d)
as_failing (Err e) = Err (Err e)

as_failing_of_while_answer_is_itself : {B E : Type 0} (r : Result B (Result B E)) → as_failing (while_answer r) ≡ r
as_failing_of_while_answer_is_itself (Ok c) = refl
as_failing_of_while_answer_is_itself (Err (Ok d)) = refl
as_failing_of_while_answer_is_itself (Err (Err e)) = refl

-- ---- the turns' fold

module _ {S A E F B : Type 0} (call : F → B → A → Result (FoldWhile B) E → F → Type 0) {steps : S → Answered A E → S → Type 0} {s t : S} {b : B} {f : F} where
  -- an end leaves a value in the slot
  pub is_some_value_left : (value : Option B) (g : F) → Driven {E = E} steps (IsFoldTurnInSlot (WhileCall call)) s (Some b, f) (Ok None) t (value, g) → IsSome value
  is_some_value_left (Some v) g w = refl
  is_some_value_left None g w = absurd (slot_never_empty (WhileCall call) w)

  fold_drains_stopped : (answer : Answered (Result B E) E) (value : Option B) (g : F) (stop : Result B (Result B E)) → StopsWith answer value stop → Driven steps (IsFoldTurnInSlot (WhileCall call)) s (Some b, f) answer t (value, g) → FoldDrains steps (WhileCall call) (λ e d. d ≡ Err e) s b f stop t
  fold_drains_stopped (Ok None) value g stop is w = subst (λ q. FoldDrains steps (WhileCall call) (λ e d. d ≡ Err e) s b f q t) (sym is.2) (fold_drains_slot_ended (WhileCall call) (λ e d. d ≡ Err e) is.0 g (subst (λ o. Driven steps (IsFoldTurnInSlot (WhileCall call)) s (Some b, f) (Ok None) t (o, g)) is.1 w))
  fold_drains_stopped (Ok (Some made)) value g stop is w = subst (λ q. FoldDrains steps (WhileCall call) (λ e d. d ≡ Err e) s b f q t) (sym is) (fold_drains_slot_stopped (WhileCall call) (λ e d. d ≡ Err e) (value, g) made w)
  fold_drains_stopped (Err e) value g stop is w = subst (λ q. FoldDrains steps (WhileCall call) (λ e d. d ≡ Err e) s b f q t) (sym is) (fold_drains_slot_failed (WhileCall call) (λ e d. d ≡ Err e) (value, g) e (Err e) w refl)

  pub fold_while_drains_by_fold : {answer : Answered (Result B E) E} {value : Option B} {g : F} {r : Result (FoldWhile B) E} → Driven steps (IsFoldTurnInSlot (WhileCall call)) s (Some b, f) answer t (value, g) → (stop : Result B (Result B E)) × StopsWith answer value stop × (r ≡ while_answer stop) → FoldWhileDrains call steps s b f r t
  fold_while_drains_by_fold {answer = answer} {value = value} {g = g} w is = (is.0, fold_drains_stopped answer value g is.0 is.1 w, is.2)

-- ---- over a list

module _ {A E B : Type 0} (h : B → A → Result (FoldWhile B) E) where
  while_answer_of_on_value_is_while_going_on : (r : Result (FoldWhile B) E) (p : B → Result B (Result B E)) (q : B → Result (FoldWhile B) E) → ((c : B) → while_answer (p c) ≡ q c) → while_answer (on_value (as_failing r) p) ≡ while_going_on r q
  while_answer_of_on_value_is_while_going_on (Ok (Continue c)) p q e = e c
  while_answer_of_on_value_is_while_going_on (Ok (Done d)) p q e = refl
  while_answer_of_on_value_is_while_going_on (Err d) p q e = refl

  while_answer_of_folded_is_folded_while : (b : B) (l : List (Result A E)) → while_answer (folded (λ e. Err e) (λ c x. as_failing (h c x)) b l) ≡ folded_while h b l
  unfolding folded folded_while
  while_answer_of_folded_is_folded_while b [] = refl
  while_answer_of_folded_is_folded_while b (Ok x ∷ l) = while_answer_of_on_value_is_while_going_on (h b x) (λ c. folded (λ e. Err e) (λ c x. as_failing (h c x)) c l) (λ c. folded_while h c l) (λ c. while_answer_of_folded_is_folded_while c l)
  while_answer_of_folded_is_folded_while b (Err e ∷ l) = refl

  rest_failed_is_rest_done_at : (r : Result (FoldWhile B) E) (here : List (Result A E)) (p q : B → List (Result A E)) → ((c : B) → p c ≡ q c) → rest_failed (as_failing r) here p ≡ rest_done_at r here q
  rest_failed_is_rest_done_at (Ok (Continue c)) here p q e = e c
  rest_failed_is_rest_done_at (Ok (Done d)) here p q e = refl
  rest_failed_is_rest_done_at (Err d) here p q e = refl

  rest_fold_is_rest_while : (b : B) (l : List (Result A E)) → rest_fold (λ c x. as_failing (h c x)) b l ≡ rest_while h b l
  unfolding rest_fold rest_while
  rest_fold_is_rest_while b [] = refl
  rest_fold_is_rest_while b (Ok x ∷ l) = rest_failed_is_rest_done_at (h b x) l (λ c. rest_fold (λ c x. as_failing (h c x)) c l) (λ c. rest_while h c l) (λ c. rest_fold_is_rest_while c l)
  rest_fold_is_rest_while b (Err e ∷ l) = refl

  module _ {F : Type 0} (call : F → B → A → Result (FoldWhile B) E → F → Type 0) (f : F) (acts : ActsWith call f h) where
    acts_with_failing : ActsWith (WhileCall call) f (λ c x. as_failing (h c x))
    acts_with_failing b x r g c = let a = acts b x (while_answer r) g c in (a.0, sym (as_failing_of_while_answer_is_itself r) ∙ ap as_failing a.1)

    module _ {S : Type 0} {steps : S → Answered A E → S → Type 0} {s t : S} {b : B} {r : Result (FoldWhile B) E} (l : List (Result A E)) (i : Lists steps s l) where
      pub folded_while_of_lists : FoldWhileDrains call steps s b f r t → r ≡ folded_while h b l
      folded_while_of_lists w = w.2 ∙ ap while_answer (folded_of_lists (WhileCall call) (λ e d. d ≡ Err e) (λ e. Err e) (λ c x. as_failing (h c x)) f acts_with_failing (λ e d is. is) l w.1 i) ∙ while_answer_of_folded_is_folded_while b l

      lists_rest_while : (d : Result B E) → FoldWhileDrains call steps s b f r t → as_failing r ≡ Err d → Lists steps t (rest_while h b l)
      lists_rest_while d w is = subst (λ k. Lists steps t k) (rest_fold_is_rest_while b l) (lists_rest_fold (WhileCall call) (λ e d. d ≡ Err e) (λ c x. as_failing (h c x)) f acts_with_failing steps l w.1 i d (sym (as_failing_of_while_answer_is_itself w.0) ∙ ap as_failing (sym w.2) ∙ is))

      pub lists_rest_while_done : (d : B) → FoldWhileDrains call steps s b f r t → r ≡ Ok (Done d) → Lists steps t (rest_while h b l)
      lists_rest_while_done d w is = lists_rest_while (Ok d) w (ap as_failing is)

      pub lists_rest_while_failed : (e : E) → FoldWhileDrains call steps s b f r t → r ≡ Err e → Lists steps t (rest_while h b l)
      lists_rest_while_failed e w is = lists_rest_while (Err e) w (ap as_failing is)
