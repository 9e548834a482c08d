-- The same answer each time, or a clone until one fails.
use Rattle.std.specs.Prelude.{◌≡◌, ℕ, ◌+◌, zero, suc, ◌⊎◌, Some, None, Result, Ok, Err, List, [], ◌∷◌}
use Rattle.std.proofs.Common.{refl, sym, subst, ap, inl, inr, arith, ◌∙◌}
use Rattle.fallible_contract.specs.Traces.{Answered, Run, items_in}
use Rattle.fallible_contract.specs.Contract.{parts_as}
use Rattle.fallible_contract.specs.Lists.{Repeats, repeated, result_answer}
use Rattle.fallible_core.specs.Cutting.Take.{take_contract, take_parts, take_step}
use Rattle.fallible_core.specs.Refusing.{AnswersRefusal, GivesUntilRefused, ListsUntilRefused}
use Rattle.fallible_core.proofs.Lemmas.Refusing.{lists_until_refused_seen}
use Rattle.fallible_iterator.specs.Sources.Repeat.{RepeatAnswer, repeat_parts, repeat_contract}
use Rattle.std.specs.declared.alloc.AllocError.{AllocError}
use Rattle.fallible_core.specs.declared.cutting.take.Take.{Take}
use Rattle.fallible_iterator.specs.declared.sources.repeat.Repeat.{Repeat}

-- ---- the same answer each time

-- of a value whose answers are those of what it clones
module _ {S V A E : Type 0} (view : S → V) (P : V → Answered A E → Type 0) where
  abbrev viewed_step : S → Answered A E → S → Type 0
  viewed_step s r t = P (view s) r × (view t ≡ view s)

  view_kept : (trace : List (Answered A E)) (s t : S) → Run viewed_step s trace t → view t ≡ view s
  view_kept [] s t e = ap view (sym e)
  view_kept (r ∷ rest) s t h = view_kept rest h.0 t h.2 ∙ h.1.1

  repeats_seen : (s : S) (y : Result A E) → ((r : Answered A E) → P (view s) r → r ≡ result_answer y) → Repeats viewed_step s y
  repeats_seen s y f = record { each = λ trace t u r ran step. f r (subst (λ (v : V). P v r) (view_kept trace s t ran) step.0) }

module _ {A E : Type 0} (is_clone : A → A → Type 0) (is_infallible : A → Type 0) (from : AllocError → E → Type 0) (v : A) (granted : is_infallible v) (exact : (x : A) → is_clone v x → x ≡ v) where
  repeat_answer_is_item : (r : Answered A E) → RepeatAnswer is_clone is_infallible from v r → r ≡ Ok (Some v)
  repeat_answer_is_item (Ok (Some x)) p = ap (λ (y : A). Ok (Some y)) (exact x p)
  repeat_answer_is_item (Ok None) p = absurd p
  repeat_answer_is_item (Err e) p = absurd (p.0 granted)

  pub repeats_clones : (s : Repeat A E) → repeat_parts s ≡ v → Repeats (parts_as repeat_parts (repeat_contract is_clone is_infallible from)).steps s (Ok v)
  repeats_clones s parts = repeats_seen repeat_parts (RepeatAnswer is_clone is_infallible from) s (Ok v) (λ r p. repeat_answer_is_item r (subst (λ (w : A). RepeatAnswer is_clone is_infallible from w r) parts p))

-- ---- where a clone may fail

module _ {A E : Type 0} (is_clone : A → A → Type 0) (is_infallible : A → Type 0) (from : AllocError → E → Type 0) where
  abbrev RepeatSteps : Repeat A E → Answered A E → Repeat A E → Type 0
  RepeatSteps = (parts_as repeat_parts (repeat_contract is_clone is_infallible from)).steps

  -- a clone of the value, which is one item, or an allocation failure
  clone_or_refusal : (v : A) (r : Answered A E) → RepeatAnswer is_clone is_infallible from v r → AnswersRefusal from r ⊎ ((x : A) × (r ≡ Ok (Some x)) × is_clone v x)
  clone_or_refusal v (Ok (Some x)) p = inr (x, refl, p)
  clone_or_refusal v (Ok None) p = absurd p
  clone_or_refusal v (Err e) p = inl (e, refl, p.1)

  gives_repeated_until_refused : (n : ℕ) (s : Repeat A E) (v : A) → repeat_parts s ≡ v → GivesUntilRefused is_clone (take_step RepeatSteps) from (s, n) (repeated n v)
  unfolding repeated
  gives_repeated_until_refused zero s v at = λ r t w. w.0
  gives_repeated_until_refused (suc n) s v at = λ r t w. elim (clone_or_refusal v r (subst (λ (k : A). RepeatAnswer is_clone is_infallible from k r) at w.0.0)) [
    | inl q ↦ inl q
    | inr k ↦
        let counts : t.1 + items_in (r ∷ []) ≡ suc n = w.1 in
        let one : items_in (r ∷ []) ≡ 1 = ap (λ (q : Answered A E). items_in (q ∷ [])) k.1 in
        inr (rw k.1 k.2, subst (λ (j : ℕ). GivesUntilRefused is_clone (take_step RepeatSteps) from (t.0, j) (repeated n v)) (let is : n ≡ t.1 = omega (arith, counts, one) in is) (gives_repeated_until_refused n t.0 v (w.0.1 ∙ at)))
  ]

  -- `take` lists clones of the value, until one fails
  pub lists_repeated_until_refused : (s : Take (Repeat A E)) (made : Repeat A E) (n : ℕ) (v : A) → repeat_parts made ≡ v → take_parts s ≡ (made, n) → ListsUntilRefused is_clone (parts_as take_parts (take_contract (parts_as repeat_parts (repeat_contract is_clone is_infallible from)))).steps from s (repeated n v)
  lists_repeated_until_refused s made n v at parts = lists_until_refused_seen is_clone from take_parts (take_step RepeatSteps) s parts refl (gives_repeated_until_refused n made v at)
