-- Answers of a source that is drawn again after a failure.
use Rattle.std.specs.Prelude.{◌≡◌, ℕ, zero, suc, Result, Ok, Err, List, [], ◌∷◌}
use Rattle.fallible_iterator.specs.Traces.{Answered, failure}

-- What draws make where up to so many failures are passed over: the answer after them.
abbrev pub MakesRetried : {A E : Type 0} → ℕ → List (Answered A E) → Answered A E → Type 0
MakesRetried left (Ok o ∷ []) r = r ≡ Ok o
MakesRetried zero (Err e ∷ []) r = r ≡ failure e
MakesRetried (suc left) (Err e ∷ taken) r = MakesRetried left taken r
MakesRetried left taken r = ⊥

-- the list, where so many failures more are passed over before the next answer, and up to k before each further one
unfoldable pub retried_from : {A E : Type 0} → ℕ → ℕ → List (Result A E) → List (Result A E)
retried_from k left [] = []
retried_from k left (Ok x ∷ l) = Ok x ∷ retried_from k k l
retried_from k zero (Err e ∷ l) = Err e ∷ retried_from k k l
retried_from k (suc left) (Err e ∷ l) = retried_from k left l

-- the list, where up to k failures are passed over before each answer
abbrev pub retried : {A E : Type 0} → ℕ → List (Result A E) → List (Result A E)
retried k l = retried_from k k l
