-- `StepBy`, which keeps one item at each step.
use Rattle.std.proofs.Common.{refl}
use Rattle.std.specs.Prelude.{ℕ, zero, suc, Bool, Option, ◌≡◌, ◌+◌, ◌-◌, ◌%◌, ltb, leb, eqb, cond, ◌&&◌, List, [], ◌∷◌, ⊤, Result, Ok, Err}
use Rattle.fallible_contract.specs.Traces.{Answered}
use Rattle.fallible_contract.specs.Sound.{as_made}
use Rattle.fallible_contract.specs.Contract.{Inverse, Contract}
use Rattle.fallible_contract.specs.ByNumber.{KeptByNumber, keeps_all}
use Rattle.fallible_contract.specs.WithSteps.{with_steps_contract}
use Rattle.fallible_contract.specs.Hints.{hint_kept}
use Rattle.fallible_contract.specs.declared.passing.Outcome.{Outcome}
use Rattle.fallible_contract.specs.declared.passing.Outcome.TheVariants.{Kept, LeftOut}
use Rattle.fallible_core.specs.declared.cutting.step_by.StepBy.{StepBy}

-- the source
abbrev pub step_by_source : {I : Type 0} → StepBy I → I
step_by_source s = s.it

-- how many items stand between two that are kept
abbrev pub step_by_between : {I : Type 0} → StepBy I → ℕ
step_by_between s = s.between

-- how many items it leaves out before the next one
abbrev pub step_by_to_skip : {I : Type 0} → StepBy I → ℕ
step_by_to_skip s = s.to_skip

-- the source, and how many items are left out between two and how many next
abbrev pub step_by_parts : {I : Type 0} → StepBy I → I × (ℕ × ℕ)
step_by_parts s = (step_by_source s, (step_by_between s, step_by_to_skip s))

-- and back
pub step_by_made : {I : Type 0} → Inverse (step_by_parts {I = I})
step_by_made = record { make = λ p. record { it = p.0; between = p.1.0; to_skip = p.1.1 }; made = λ s. refl; has = λ p. refl }

-- whether the item with number k is kept, where r are left out at first: k is r + 1 plus a multiple of the step
abbrev pub keeps_at_steps : ℕ → ℕ → ℕ → Bool
keeps_at_steps between r k = ltb r k && eqb ((k - 1 - r) % (between + 1)) 0

-- how many items are left out next, once k were drawn: of the first r those that are still to come, and otherwise those up to the next multiple of the step
abbrev pub to_skip_after : ℕ → ℕ → ℕ → ℕ
to_skip_after between r k = cond (leb k r) (r - k) (between - (k - 1 - r) % (between + 1))

-- `StepBy` with r items to leave out first: the source's trace with only those items whose number, from 1, is r + 1 plus a multiple of the step; failures and ends are kept. The parts are the source, the number of items between two that are kept, and r.
abbrev pub StepByTrace : {S A E : Type 0} → (S → Answered A E → S → Type 0) → S × (ℕ × ℕ) → List (Answered A E) → S × (ℕ × ℕ) → Type 0
StepByTrace steps p trace q = KeptByNumber (keeps_at_steps (p.1).0 (p.1).1) (to_skip_after (p.1).0 (p.1).1) steps p.0 trace q.0 (q.1).1 × ((q.1).0 ≡ (p.1).0)

-- one answer
abbrev pub step_by_step : {S A E : Type 0} → (S → Answered A E → S → Type 0) → S × (ℕ × ℕ) → Answered A E → S × (ℕ × ℕ) → Type 0
step_by_step steps p r q = StepByTrace steps p (r ∷ []) q

-- its definition over all that its source returns
abbrev pub steps_all : {S A E : Type 0} → (S → List (Answered A E) → S → Type 0) → S × (ℕ × ℕ) → List (Answered A E) → S × (ℕ × ℕ) → Type 0
steps_all traces p trace q = keeps_all (keeps_at_steps (p.1).0 (p.1).1) (to_skip_after (p.1).0 (p.1).1) traces p.0 trace q.0 (q.1).1 × ((q.1).0 ≡ (p.1).0)

-- `StepBy`'s contract: that of its source but for the step and the hint, which is sound wherever the source's is that it is made of.
abbrev pub step_by_contract : {S A E : Type 0} → Contract S A E → Contract (S × (ℕ × ℕ)) A E
step_by_contract m = record (with_steps_contract m (step_by_step m.steps) (λ p h. (k : ℕ × Option ℕ) × m.hints p.0 k × (h ≡ hint_kept (p.1).0 (p.1).1 k))) { traces = steps_all m.traces; sound = as_made (λ p. p.0) m.hints m.sound (λ p k. hint_kept (p.1).0 (p.1).1 k) }

-- ---- its fold, through the source's own

-- how many items are left out next, once an item came where n were to be left out
abbrev pub to_skip_next : ℕ → ℕ → ℕ
to_skip_next between zero = between
to_skip_next between (suc n) = n

-- an item is counted down
abbrev pub count_call : {A : Type 0} → ℕ → ℕ → A → ℕ → ℕ → Type 0
count_call between n x v k = (v ≡ n) × (k ≡ to_skip_next between n)

-- an item is kept if none was to be left out
abbrev pub count_outcome : {A E : Type 0} → A → ℕ → Outcome A E
count_outcome x zero = Kept x
count_outcome x (suc n) = LeftOut

-- any item may be counted down
abbrev pub count_takes : {A : Type 0} → ℕ → A → Type 0
count_takes n x = ⊤

-- ---- what it lists

-- without the first n items, and from there on without the `between` items after each one that is kept; failures don't count, and stay
unfoldable pub stepped : {A E : Type 0} → ℕ → ℕ → List (Result A E) → List (Result A E)
stepped between n [] = []
stepped between n (Err e ∷ l) = Err e ∷ stepped between n l
stepped between zero (Ok x ∷ l) = Ok x ∷ stepped between between l
stepped between (suc n) (Ok x ∷ l) = stepped between n l
