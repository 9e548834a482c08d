-- What else is listed, where a list is listed until an allocation fails.
use Rattle.std.specs.Prelude.{◌≡◌, Some, None, Result, Ok, Err, List, [], ◌∷◌}
use Rattle.std.proofs.Common.{ap, inl, inr}
use Rattle.fallible_contract.specs.Traces.{Answered}
use Rattle.fallible_contract.specs.Lists.{AlwaysGives, result_answer}
use Rattle.fallible_core.specs.Refusing.{GivesUntilRefused, IsMadeOf, IsRefusal, ListsUntilRefused}
use Rattle.fallible_iterator.specs.Making.{GivesMade, ListsMade}
use Rattle.std.specs.declared.alloc.AllocError.{AllocError}

module _ {S B E : Type 0} (steps : S → Answered B E → S → Type 0) (from : AllocError → E → Type 0) where
  answer_is_made_of_result : (y : Result B E) (r : Answered B E) → r ≡ result_answer y → IsMadeOf (λ x z. z ≡ x) y r
  answer_is_made_of_result (Ok x) (Ok (Some z)) is = let e = is in cc
  answer_is_made_of_result (Ok x) (Ok None) is = absurd (let e = is in cc)
  answer_is_made_of_result (Ok x) (Err e) is = absurd (let k = is in cc)
  answer_is_made_of_result (Err d) r is = is

  result_is_answer_made : (y : Result B E) (r : Answered B E) → IsMadeOf (λ x z. z ≡ x) y r → r ≡ result_answer y
  result_is_answer_made (Ok x) (Ok (Some z)) is = ap (λ k. Ok (Some k)) is
  result_is_answer_made (Ok x) (Ok None) is = absurd is
  result_is_answer_made (Ok x) (Err e) is = absurd is
  result_is_answer_made (Err d) r is = is

  -- what is listed is so until an allocation fails
  pub until_refused_of_always : (l : List (Result B E)) (s : S) → AlwaysGives steps s l → GivesUntilRefused (λ x y. y ≡ x) steps from s l
  until_refused_of_always [] s a = a
  until_refused_of_always (y ∷ l) s a = λ r t w. let k = a r t w in inr (answer_is_made_of_result y r k.0, until_refused_of_always l t k.1)

  -- where no allocation fails, it is what is listed
  pub always_of_until_refused : ((e : E) → IsRefusal from e → ⊥) → (l : List (Result B E)) (s : S) → GivesUntilRefused (λ x y. y ≡ x) steps from s l → AlwaysGives steps s l
  always_of_until_refused none [] s a = a
  always_of_until_refused none (y ∷ l) s a = λ r t w. elim (a r t w) [ inl q ↦ absurd (none q.0 q.2) | inr k ↦ (result_is_answer_made y r k.0, always_of_until_refused none l t k.1) ]

gives_made_until_refused : {S V B E : Type 0} (made : V → B → Type 0) (steps : S → Answered B E → S → Type 0) (from : AllocError → E → Type 0) (l : List (Result V E)) (s : S) → GivesUntilRefused made steps from s l → GivesMade made steps from s l
gives_made_until_refused made steps from [] s a = λ r t w. inr (a r t w)
gives_made_until_refused made steps from (y ∷ l) s a = λ r t w. elim (a r t w) [ inl q ↦ inl (inl q) | inr k ↦ inr (k.0, gives_made_until_refused made steps from l t k.1) ]

-- so values made of the list's items are listed, up to an allocation failure
pub lists_made_until_refused : {S V B E : Type 0} {made : V → B → Type 0} {steps : S → Answered B E → S → Type 0} {from : AllocError → E → Type 0} {s : S} {l : List (Result V E)} → ListsUntilRefused made steps from s l → ListsMade made steps from s l
lists_made_until_refused {made = made} {steps = steps} {from = from} {s = s} {l = l} i = record { runs = gives_made_until_refused made steps from l s i.runs }
