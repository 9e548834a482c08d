-- `Take`, which ends after a number of items.
use Rattle.std.proofs.Common.{refl}
use Rattle.std.specs.Prelude.{◌≡◌, ℕ, zero, suc, ◌+◌, ◌≤◌, ◌<◌, List, [], ◌∷◌, ◌++◌, replicate, Option, ⊤, ◌⊎◌, Result, Ok, Err}
use Rattle.fallible_contract.specs.Traces.{Answered, Run, first_of, end, items_in}
use Rattle.fallible_contract.specs.Sound.{as_made}
use Rattle.fallible_contract.specs.Contract.{Inverse, Contract}
use Rattle.fallible_contract.specs.WithSteps.{with_steps_contract}
use Rattle.fallible_contract.specs.Hints.{hint_up_to}
use Rattle.fallible_core.specs.declared.cutting.take.Take.{Take}

-- `Take` at n: the source's trace, and then ends without draws. Each shorter front of the source's trace has fewer than n items, and the whole at most n; ends without draws come only after n items. What is left to take is n less the items.
pub record TakeTrace {S A E : Type 0} (steps : S → Answered A E → S → Type 0) (p : S × ℕ) (trace : List (Answered A E)) (q : S × ℕ) : Type 0 where
  pub source_trace : List (Answered A E)
  pub ends : ℕ
  pub drawn : Run steps p.0 source_trace q.0
  pub answers : trace ≡ source_trace ++ replicate ends end
  pub prefixes : (prefix : List (Answered A E)) (r : Answered A E) (rest : List (Answered A E)) → source_trace ≡ prefix ++ r ∷ rest → items_in prefix < p.1
  pub at_most : items_in source_trace ≤ p.1
  pub over : 0 < ends → items_in source_trace ≡ p.1
  pub remaining : q.1 + items_in source_trace ≡ p.1

-- One answer: an end without a draw if nothing is left to take, and otherwise the source's answer, of which an item leaves one less.
abbrev pub take_step : {S A E : Type 0} → (S → Answered A E → S → Type 0) → S × ℕ → Answered A E → S × ℕ → Type 0
take_step steps (s, zero) r (t, to_take) = (r ≡ end) × (t ≡ s) × (to_take ≡ 0)
take_step steps (s, suc n) r (t, to_take) = steps s r t × (to_take + items_in (r ∷ []) ≡ suc n)

-- Its definition over all that its source returns.
abbrev pub takes_all : {S A E : Type 0} → (S → List (Answered A E) → S → Type 0) → S × ℕ → List (Answered A E) → S × ℕ → Type 0
takes_all {A = A} {E = E} traces p trace q = (drawn : List (Answered A E)) × traces p.0 drawn q.0 × TakeTrace first_of (drawn, p.1) trace ([], q.1)

-- `Take`'s contract. It is always finite: what is left to take is a bound, and so is each of the source's.
abbrev pub take_contract : {S A E : Type 0} → Contract S A E → Contract (S × ℕ) A E
take_contract m = record (with_steps_contract m (take_step m.steps) (λ p h. (k : ℕ × Option ℕ) × m.hints p.0 k × (h ≡ hint_up_to p.1 k))) {
  bound = λ p n. p.1 ≤ n ⊎ m.bound p.0 n;
  is_finite = λ p. ⊤;
  traces = takes_all m.traces;
  sound = as_made (λ p. p.0) m.hints m.sound (λ p k. hint_up_to p.1 k);
}

-- the source
abbrev pub take_source : {I : Type 0} → Take I → I
take_source s = s.it

-- how many items it still yields
abbrev pub take_to_take : {I : Type 0} → Take I → ℕ
take_to_take s = s.to_take

-- the source, and how many items are still to be taken
abbrev pub take_parts : {I : Type 0} → Take I → I × ℕ
take_parts s = (take_source s, take_to_take s)

-- and back
pub take_made : {I : Type 0} → Inverse (take_parts {I = I})
take_made = record { make = λ p. record { it = p.0; to_take = p.1 }; made = λ s. refl; has = λ p. refl }

-- ---- what it lists

-- up to and with the n-th item; failures don't count
unfoldable pub taken : {X E : Type 0} → ℕ → List (Result X E) → List (Result X E)
taken zero l = []
taken (suc n) [] = []
taken (suc n) (Ok x ∷ l) = Ok x ∷ taken n l
taken (suc n) (Err e ∷ l) = Err e ∷ taken (suc n) l
