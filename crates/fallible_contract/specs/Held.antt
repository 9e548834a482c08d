-- What a value holds and yields once.
use Rattle.std.specs.Prelude.{◌≡◌, ℕ, List, [], ◌∷◌, ◌++◌, replicate, Option, Some, None, ◌⊎◌}
use Rattle.fallible_contract.specs.Traces.{Answered, end}

-- the answer that is held, if there is one, as a list
abbrev pub held_answer : {A B E : Type 0} → (B → Answered A E) → Option B → List (Answered A E)
held_answer f (Some x) = f x ∷ []
held_answer f None = []

-- A trace of `Once` or `OnceErr` that holds v: no draw was made, or the held item or failure came, if there was one, and then ends, and nothing is held any more.
abbrev pub OnceTrace : {A B E : Type 0} → (B → Answered A E) → Option B → List (Answered A E) → Option B → Type 0
OnceTrace f v trace w = ((trace ≡ []) × (w ≡ v)) ⊎ ((n : ℕ) × (trace ≡ held_answer f v ++ replicate n end) × (w ≡ None))

-- one answer: the held one, or an end, and nothing is held then
abbrev pub once_step : {A B E : Type 0} → (B → Answered A E) → Option B → Answered A E → Option B → Type 0
once_step f (Some x) r w = (r ≡ f x) × (w ≡ None)
once_step f None r w = (r ≡ end) × (w ≡ None)

-- how many values are held
abbrev pub held_count : {B : Type 0} → Option B → ℕ
held_count (Some x) = 1
held_count None = 0
