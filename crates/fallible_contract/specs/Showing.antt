-- Types of one's own whose values show what they list.
use Rattle.std.specs.Prelude.{◌≡◌, ℕ, zero, suc, ◌<◌, length, drop, Result, List, [], ◌∷◌}
use Rattle.fallible_contract.specs.Traces.{Answered, end}
use Rattle.fallible_contract.specs.Contract.{Contract}
use Rattle.fallible_contract.specs.Own.{counted_with_failures}
use Rattle.fallible_contract.specs.Lists.{result_answer}

-- one draw: the first of the list is the answer, and the rest is left; of an empty list an end, which leaves it empty
abbrev pub TakesShown : {A E : Type 0} → List (Result A E) → Answered A E → List (Result A E) → Type 0
TakesShown [] r rest = (r ≡ end) × (rest ≡ [])
TakesShown (y ∷ l) r rest = (r ≡ result_answer y) × (rest ≡ l)

-- the first n answers of a list, and ends after the last of them
abbrev pub first_answers : {A E : Type 0} → ℕ → List (Result A E) → List (Answered A E)
first_answers zero l = []
first_answers (suc n) [] = end ∷ first_answers n []
first_answers (suc n) (y ∷ l) = result_answer y ∷ first_answers n l

-- The trace is the first answers of the list that s shows, and ends after the last of them; t shows the rest of the list, and a value each rest between. No draw leaves s itself.
pub record TakesAllShown {S A E : Type 0} (shows : S → List (Result A E)) (s : S) (trace : List (Answered A E)) (t : S) : Type 0 where
  pub answers : trace ≡ first_answers (length trace) (shows s)
  pub rest : shows t ≡ drop (length trace) (shows s)
  pub between : (n : ℕ) → n < length trace → (u : S) × (shows u ≡ drop n (shows s))
  pub none : trace ≡ [] → s ≡ t

-- The contract of a type whose value shows, by `shows`, the answers that it lists: each draw takes the first of them, and after the last one come ends. At most as many items and failures together are left as the list is long.
abbrev pub listing : {S A E : Type 0} → (S → List (Result A E)) → Contract S A E
listing shows = let m = counted_with_failures (λ s r t. TakesShown (shows s) r (shows t)) (λ s. length (shows s)) in record m { traces = TakesAllShown shows }
