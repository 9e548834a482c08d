-- Loops by hand that look ahead: what an item, an end and a failure that were looked at make of it.
use Rattle.std.specs.Prelude.{◌≡◌, ℕ, List, [], ◌∷◌, Result, Some, None, Ok, Err}
use Rattle.std.proofs.Common.{sym, subst, arith, ◌∙◌}
use Rattle.fallible_contract.specs.Traces.{Answered}
use Rattle.fallible_contract.specs.Contract.{Contract, Stays}
use Rattle.fallible_contract.specs.Lists.{Lists, nth_of}
use Rattle.fallible_core.specs.Peeking.Peekable.{rest_look}
use Rattle.fallible_iterator.proofs.Lemmas.Loops.{CountsDown, AnswersFromHere}

-- A look from s returned r and left t.
abbrev pub Looked : {S A E : Type 0} → (S → Answered A E → S → Type 0) → S → Answered A E → S → Type 0
Looked {A = A} {E = E} steps s r t = (l : List (Result A E)) → Lists steps s l → (r ≡ nth_of 0 l) × Lists steps t (rest_look l)

-- what is counted down before a look is so after it
pub counts_down_after_look : {S A E : Type 0} {m : Contract S A E} {s t : S} {left : ℕ} → CountsDown m s left → Stays m s t → CountsDown m t left
counts_down_after_look counts stays = let k = stays.bound counts.1.0 counts.1.1 in (stays.can_next, (k.0, k.1, (let below = k.2 in let up_to = counts.1.2 in omega arith)))

module _ {S A E B R : Type 0} (steps : S → Answered A E → S → Type 0) (answers : B → List (Result A E) → R) (t : S) (b : B) (r : Answered A E) where
  lists_after_seen_item : (x : A) (c : B) (v : R) (rest : List (Result A E)) → r ≡ Ok (Some x) → ((l : List (Result A E)) → answers b (Ok x ∷ l) ≡ answers c (Ok x ∷ l)) → (r ≡ nth_of 0 rest) × Lists steps t (rest_look rest) → v ≡ answers b rest → (l : List (Result A E)) × Lists steps t l × (v ≡ answers c l)
  unfolding nth_of rest_look
  lists_after_seen_item x c v [] is same k e = absurd (let h = k.0 in cc)
  lists_after_seen_item x c v (Ok y ∷ l) is same k e = let at : x ≡ y = (let h = k.0 in cc) in (Ok y ∷ l, k.1, e ∙ subst (λ z. answers b (Ok z ∷ l) ≡ answers c (Ok z ∷ l)) at (same l))
  lists_after_seen_item x c v (Err d ∷ l) is same k e = absurd (let h = k.0 in cc)

  lists_after_seen_end : (c : B) (v : R) (rest : List (Result A E)) → r ≡ Ok None → answers b [] ≡ answers c [] → (r ≡ nth_of 0 rest) × Lists steps t (rest_look rest) → v ≡ answers b rest → (l : List (Result A E)) × Lists steps t l × (v ≡ answers c l)
  unfolding nth_of rest_look
  lists_after_seen_end c v [] is same k e = ([], k.1, e ∙ same)
  lists_after_seen_end c v (Ok y ∷ l) is same k e = absurd (let h = k.0 in cc)
  lists_after_seen_end c v (Err d ∷ l) is same k e = absurd (let h = k.0 in cc)

  answer_at_seen_failure : (d : E) (v : R) (rest : List (Result A E)) → r ≡ Err d → ((l : List (Result A E)) → v ≡ answers b (Err d ∷ l)) → r ≡ nth_of 0 rest → v ≡ answers b rest
  unfolding nth_of
  answer_at_seen_failure d v [] is same k = absurd cc
  answer_at_seen_failure d v (Ok y ∷ l) is same k = absurd cc
  answer_at_seen_failure d v (Err z ∷ l) is same k = let at : d ≡ z = cc in subst (λ w. v ≡ answers b (Err w ∷ l)) at (same l)

module _ {S A E B R : Type 0} {steps : S → Answered A E → S → Type 0} {answers : B → List (Result A E) → R} {s0 s t : S} {b0 b : B} {r : Answered A E} where
  -- at an item that was looked at, of which the loop goes on with the value c
  pub answers_from_here_seeing_item : (x : A) {c : B} → AnswersFromHere steps answers s0 b0 s b → Looked steps s r t → r ≡ Ok (Some x) → ((l : List (Result A E)) → answers b (Ok x ∷ l) ≡ answers c (Ok x ∷ l)) → AnswersFromHere steps answers s0 b0 t c
  answers_from_here_seeing_item x {c = c} here looked is same = record { at = λ whole i. let k = here.at whole i in lists_after_seen_item steps answers t b r x c _ k.0 is same (looked k.0 k.1) k.2 }

  -- at an end that was looked at
  pub answers_from_here_seeing_end : {c : B} → AnswersFromHere steps answers s0 b0 s b → Looked steps s r t → r ≡ Ok None → answers b [] ≡ answers c [] → AnswersFromHere steps answers s0 b0 t c
  answers_from_here_seeing_end {c = c} here looked is same = record { at = λ whole i. let k = here.at whole i in lists_after_seen_end steps answers t b r c _ k.0 is same (looked k.0 k.1) k.2 }

  -- at a failure that a look met, with which the loop is left
  pub answer_at_failed_look : (d : E) {v : R} → AnswersFromHere steps answers s0 b0 s b → Looked steps s r t → r ≡ Err d → ((l : List (Result A E)) → v ≡ answers b (Err d ∷ l)) → (whole : List (Result A E)) → Lists steps s0 whole → v ≡ answers b0 whole
  answer_at_failed_look d {v = v} here looked is same whole i = let k = here.at whole i in answer_at_seen_failure steps answers t b r d v k.0 is same (looked k.0 k.1).0 ∙ sym k.2
