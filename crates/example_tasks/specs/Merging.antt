-- Two sources, merged.
use Rattle.std.specs.Prelude.{◌≡◌, ℕ, Bool, true, false, nat_lt, List, [], ◌∷◌, Result, Ok, Err}
use Rattle.fallible_iterator.specs.Traces.{Answered}
use Rattle.fallible_iterator.specs.Lists.{Lists}

-- the second if the test is true, otherwise the first
abbrev pub picked : {E : Type 0} → Bool → List (Result ℕ E) → List (Result ℕ E) → List (Result ℕ E)
picked true second first = second
picked false second first = first

-- x and the list after it, into which the second list is merged by `into`
abbrev pub merged_at : {E : Type 0} → ℕ → (List (Result ℕ E) → List (Result ℕ E)) → List (Result ℕ E) → List (Result ℕ E)
merged_at x into [] = Ok x ∷ into []
merged_at x into (Err e ∷ b) = Err e ∷ merged_at x into b
merged_at x into (Ok y ∷ b) = picked (nat_lt y x) (Ok y ∷ merged_at x into b) (Ok x ∷ into (Ok y ∷ b))

-- Two lists, merged: of the two next items the lesser, of equal ones that of the first list; a failure where it is met, of the first list before one of the second.
unfoldable pub merged : {E : Type 0} → List (Result ℕ E) → List (Result ℕ E) → List (Result ℕ E)
merged [] b = b
merged (Err e ∷ a) b = Err e ∷ merged a b
merged (Ok x ∷ a) b = merged_at x (merged a) b

-- what the two sources list: the first, and the second, which are l once they are merged
pub record ListBoth {S T E : Type 0} (steps : S → Answered ℕ E → S → Type 0) (steps' : T → Answered ℕ E → T → Type 0) (p : S) (q : T) (l : List (Result ℕ E)) : Type 0 where
  pub left : List (Result ℕ E)
  pub right : List (Result ℕ E)
  pub lists_left : Lists steps p left
  pub lists_right : Lists steps' q right
  pub is : merged left right ≡ l
