-- `Skip`, which leaves out the first items.
use Rattle.std.proofs.Common.{refl}
use Rattle.std.specs.Prelude.{ℕ, Option, ◌≡◌, ◌-◌, ltb, List, [], ◌∷◌, zero, suc, Result, Ok, Err}
use Rattle.fallible_contract.specs.Traces.{Answered}
use Rattle.fallible_contract.specs.Sound.{as_made}
use Rattle.fallible_contract.specs.Contract.{Inverse, Contract}
use Rattle.fallible_contract.specs.ByNumber.{KeptByNumber, keeps_all}
use Rattle.fallible_contract.specs.WithSteps.{with_steps_contract}
use Rattle.fallible_contract.specs.Hints.{hint_less}
use Rattle.fallible_core.specs.declared.cutting.skip.Skip.{Skip}

-- the source
abbrev pub skip_source : {I : Type 0} → Skip I → I
skip_source s = s.it

-- how many items it still leaves out
abbrev pub skip_to_skip : {I : Type 0} → Skip I → ℕ
skip_to_skip s = s.to_skip

-- the source, and how many items are still to be left out
abbrev pub skip_parts : {I : Type 0} → Skip I → I × ℕ
skip_parts s = (skip_source s, skip_to_skip s)

-- and back
pub skip_made : {I : Type 0} → Inverse (skip_parts {I = I})
skip_made = record { make = λ p. record { it = p.0; to_skip = p.1 }; made = λ s. refl; has = λ p. refl }

-- `Skip` with n items to leave out: the source's trace without its first n items. What is left to leave out is n less the items drawn, and not below 0. The parts are the source and n.
abbrev pub SkipTrace : {S A E : Type 0} → (S → Answered A E → S → Type 0) → S × ℕ → List (Answered A E) → S × ℕ → Type 0
SkipTrace steps p trace q = KeptByNumber (λ k. ltb p.1 k) (λ k. p.1 - k) steps p.0 trace q.0 q.1

-- one answer
abbrev pub skip_step : {S A E : Type 0} → (S → Answered A E → S → Type 0) → S × ℕ → Answered A E → S × ℕ → Type 0
skip_step steps p r q = SkipTrace steps p (r ∷ []) q

-- its definition over all that its source returns
abbrev pub skips_all : {S A E : Type 0} → (S → List (Answered A E) → S → Type 0) → S × ℕ → List (Answered A E) → S × ℕ → Type 0
skips_all traces p trace q = keeps_all (λ k. ltb p.1 k) (λ k. p.1 - k) traces p.0 trace q.0 q.1

-- `Skip`'s contract: that of its source but for the step and the hint, which is sound wherever the source's is that it is made of.
abbrev pub skip_contract : {S A E : Type 0} → Contract S A E → Contract (S × ℕ) A E
skip_contract m = record (with_steps_contract m (skip_step m.steps) (λ p h. (k : ℕ × Option ℕ) × m.hints p.0 k × (h ≡ hint_less p.1 k))) { traces = skips_all m.traces; sound = as_made (λ p. p.0) m.hints m.sound (λ p k. hint_less p.1 k) }

-- ---- what it lists

-- without the first n items; failures don't count, and stay
unfoldable pub skipped : {A E : Type 0} → ℕ → List (Result A E) → List (Result A E)
skipped n [] = []
skipped n (Err e ∷ l) = Err e ∷ skipped n l
skipped zero (Ok x ∷ l) = Ok x ∷ skipped zero l
skipped (suc n) (Ok x ∷ l) = skipped n l
