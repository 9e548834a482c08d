-- Types whose values show a list, from which each draw takes the first.
use Rattle.std.specs.Prelude.{◌≡◌, ℕ, ◌<◌, List, [], length, drop}
use Rattle.fallible_iterator.specs.Traces.{Answered, Run}
use Rattle.fallible_iterator.specs.Contract.{Contract, unbounded_contract}

-- The trace is one of draws from the list that s shows, which leave the list that t shows; a value shows each rest between. No draw leaves s itself.
pub record TakesAlong {S L A E : Type 0} (takes : List L → Answered A E → List L → Type 0) (shows : S → List L) (s : S) (trace : List (Answered A E)) (t : S) : Type 0 where
  pub taken : Run takes (shows s) trace (shows t)
  pub between : (n : ℕ) → n < length trace → (u : S) × (shows u ≡ drop n (shows s))
  pub none : trace ≡ [] → s ≡ t

-- The contract of a type whose value shows a list, by `shows`: `takes` says which answer takes the first of it.
abbrev pub taking : {S L A E : Type 0} → (List L → Answered A E → List L → Type 0) → (S → List L) → Contract S A E
taking takes shows = record (unbounded_contract (λ s r t. takes (shows s) r (shows t))) { traces = TakesAlong takes shows }
