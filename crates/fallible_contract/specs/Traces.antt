-- Answers and traces.
use Rattle.std.specs.Prelude.{◌≡◌, ℕ, ◌+◌, Option, Result, List, [], ◌∷◌, Bool, true, false, ⊤, Some, None, Ok, Err}
use Rattle.std.specs.List.{FoldsTo}

-- An answer is what one draw returns: an item, `Ok (Some x)`, a failure, `Err e`, or an end, `Ok None`.
abbrev pub Answered : Type 0 → Type 0 → Type 0
Answered A E = Result (Option A) E

abbrev pub item : {A E : Type 0} → A → Answered A E
item x = Ok (Some x)

abbrev pub failure : {A E : Type 0} → E → Answered A E
failure e = Err e

abbrev pub end : {A E : Type 0} → Answered A E
end = Ok None

-- whether an answer is an end
abbrev pub is_end : {A E : Type 0} → Answered A E → Bool
is_end (Ok (Some x)) = false
is_end (Ok None) = true
is_end (Err e) = false

-- no answer of the list is an end
abbrev pub NoEnd : {A E : Type 0} → List (Answered A E) → Type 0
NoEnd [] = ⊤
NoEnd (r ∷ rest) = (is_end r ≡ false) × NoEnd rest

-- A step relates a value, the answer of one draw and the value after it. A trace is the list of the answers to draws made one after another: from s, draws can return the trace and leave t.
abbrev pub Run : {S A E : Type 0} → (S → Answered A E → S → Type 0) → S → List (Answered A E) → S → Type 0
Run steps s trace t = FoldsTo steps s trace t

-- A list of answers as a source: a draw takes its first. An adapter's definition over these steps, from a list to the empty one, is what it makes of that list.
abbrev pub first_of : {A E : Type 0} → List (Answered A E) → Answered A E → List (Answered A E) → Type 0
first_of l r rest = l ≡ r ∷ rest

-- From s, draws can yield the items xs and nothing else, and leave t.
abbrev pub Yields : {S A E : Type 0} → (S → Answered A E → S → Type 0) → S → List A → S → Type 0
Yields steps s xs t = FoldsTo (λ u x v. steps u (item x) v) s xs t

-- how many items a trace has
abbrev pub items_in : {A E : Type 0} → List (Answered A E) → ℕ
items_in [] = 0
items_in (Ok (Some x) ∷ rest) = items_in rest + 1
items_in (Ok None ∷ rest) = items_in rest
items_in (Err e ∷ rest) = items_in rest

-- The last of a list, if there is one, is kept.
abbrev pub LastKept : {Q : Type 0} → (Q → Bool) → List Q → Type 0
LastKept is_kept [] = ⊤
LastKept is_kept (x ∷ []) = is_kept x ≡ true
LastKept is_kept (x ∷ y ∷ rest) = LastKept is_kept (y ∷ rest)
