-- Adapters that one place closes, so that they are exhausted: what they return is what the source returns, and then ends without draws.
use Rattle.std.specs.Prelude.{◌≡◌, ℕ, ◌<◌, List, [], ◌∷◌, ◌++◌, map, replicate, Option, Some, Bool, true, false, ◌⊎◌, ◌↔◌}
use Rattle.fallible_contract.specs.Traces.{Answered, end}
use Rattle.fallible_contract.specs.Contract.{Contract}
use Rattle.fallible_contract.specs.WithSteps.{with_steps_contract}

-- the last place is there and closes
abbrev pub ClosesLast : {Q : Type 0} → (Q → Bool) → List Q → Type 0
ClosesLast {Q} closes places = (front : List Q) × (x : Q) × (places ≡ front ++ x ∷ []) × (closes x ≡ true)

-- The trace of an adapter that one place closes is the answers of the places, and then ends without draws. A place that closes stands last alone, and where one stood earlier there are no places; ends without draws come only where one stood, here or earlier. The value is left closed where one stood, here or earlier.
pub record ClosingTrace {Q B E : Type 0} (answer : Q → Answered B E) (closes : Q → Bool) (closed : Bool) (places : List Q) (trace : List (Answered B E)) (closed' : Bool) : Type 0 where
  pub ends : ℕ
  pub answers : trace ≡ map answer places ++ replicate ends end
  pub last_alone : (front : List Q) (x y : Q) (rest : List Q) → places ≡ front ++ x ∷ y ∷ rest → closes x ≡ false
  pub shut : closed ≡ true → places ≡ []
  pub over : 0 < ends → closed' ≡ true
  pub remaining : (closed' ≡ true) ↔ (closed ≡ true ⊎ ClosesLast closes places)

-- One answer: an end without a draw if the value is closed, and otherwise that of one place, which may close it.
abbrev pub closing_step : {P Q B E : Type 0} → (P → Q → P → Type 0) → (Q → Answered B E) → (Q → Bool) → P × Bool → Answered B E → P × Bool → Type 0
closing_step draws answer closes (p, true) r (q, closed') = (r ≡ end) × (q ≡ p) × (closed' ≡ true)
closing_step {Q = Q} draws answer closes (p, false) r (q, closed') = (x : Q) × draws p x q × (r ≡ answer x) × (closed' ≡ closes x)

-- the hint once the value is closed is (0, Some 0)
abbrev pub closing_hints : {P : Type 0} → (P → ℕ × Option ℕ → Type 0) → P × Bool → ℕ × Option ℕ → Type 0
closing_hints hints (p, true) h = h ≡ (0, Some 0)
closing_hints hints (p, false) h = hints p h

-- The contract of an adapter that one place closes: that of its source but for the step and the hint, which the flag closes.
abbrev pub closing_contract : {P Q B E : Type 0} → Contract P B E → (P → Q → P → Type 0) → (Q → Answered B E) → (Q → Bool) → Contract (P × Bool) B E
closing_contract m draws answer closes = with_steps_contract m (closing_step draws answer closes) (closing_hints m.hints)
