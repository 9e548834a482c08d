-- Adapters that keep items by their numbers.
use Rattle.std.specs.Prelude.{◌≡◌, ℕ, ◌+◌, List, [], ◌∷◌, map, filter, Option, Some, None, Ok, Err, Bool, true}
use Rattle.fallible_contract.specs.Traces.{Answered, Run, first_of, LastKept, items_in}

-- Each answer with its item's number. The items are numbered from k on; failures and ends have no number.
abbrev pub with_numbers : {A E : Type 0} → ℕ → List (Answered A E) → List (Option ℕ × Answered A E)
with_numbers k [] = []
with_numbers k (Ok (Some x) ∷ rest) = (Some k, Ok (Some x)) ∷ with_numbers (k + 1) rest
with_numbers k (Ok None ∷ rest) = (None, Ok None) ∷ with_numbers k rest
with_numbers k (Err e ∷ rest) = (None, Err e) ∷ with_numbers k rest

-- An item is kept where its number is, and what has no number is kept.
abbrev pub is_kept : {A E : Type 0} → (ℕ → Bool) → Option ℕ × Answered A E → Bool
is_kept keeps (Some k, r) = keeps k
is_kept keeps (None, r) = true

-- the answers that are kept, without their numbers
abbrev pub kept : {A E : Type 0} → (ℕ → Bool) → List (Option ℕ × Answered A E) → List (Answered A E)
kept keeps answers = map (λ p. p.1) (filter (is_kept keeps) answers)

-- The trace of an adapter that keeps items by their numbers is the source's without the items whose number, from 1, isn't kept; failures and ends are kept. The source's trace doesn't end in a left-out item. How many items are left out next, `to_skip`, is told by how many items the source's trace has.
pub record KeptByNumber {S A E : Type 0} (keeps : ℕ → Bool) (to_skip_after : ℕ → ℕ) (steps : S → Answered A E → S → Type 0) (s : S) (trace : List (Answered A E)) (t : S) (to_skip : ℕ) : Type 0 where
  pub source_trace : List (Answered A E)
  pub drawn : Run steps s source_trace t
  pub answers : trace ≡ kept keeps (with_numbers 1 source_trace)
  pub last_kept : LastKept (is_kept keeps) (with_numbers 1 source_trace)
  pub remaining : to_skip ≡ to_skip_after (items_in source_trace)

-- its definition over all that the source returns
abbrev pub keeps_all : {S A E : Type 0} → (ℕ → Bool) → (ℕ → ℕ) → (S → List (Answered A E) → S → Type 0) → S → List (Answered A E) → S → ℕ → Type 0
keeps_all {A = A} {E = E} keeps to_skip_after traces s trace t to_skip = (l : List (Answered A E)) × traces s l t × KeptByNumber keeps to_skip_after first_of l trace [] to_skip
