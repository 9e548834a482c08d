-- `Tuples`, which yields the items two by two, and `TupleWindows`, which yields each two adjacent items.
use Rattle.std.specs.Prelude.{◌≡◌, ℕ, Option, Some, None, Result, Ok, Err, List, [], ◌∷◌, ⊤}
use Rattle.std.specs.declared.alloc.AllocError.{AllocError}
use Rattle.std.proofs.Common.{refl}
use Rattle.fallible_iterator.specs.Contract.{Contract, Inverse}
use Rattle.fallible_iterator.specs.Hints.{hint_kept, hint_less}
use Rattle.fallible_iterator.specs.Outcome.{Outcome}
use Rattle.fallible_iterator.specs.Outcome.TheVariants.{Kept, LeftOut, Failure, End}
use Rattle.fallible_iterator.specs.Passing.{ItemPassed, PassAnswer, passes_all, passing_contract}
use Rattle.fallible_iterator.specs.Refusals.{RefusedAs}
use Rattle.fallible_iterator.specs.Sound.{as_made}
use Rattle.fallible_iterator.specs.Traces.{Answered}
use Rattle.fallible_itertools_adapters.specs.Outcomes.{as_answered_item}
use Rattle.fallible_itertools_adapters.specs.declared.tuples.TupleWindows.{TupleWindows}
use Rattle.fallible_itertools_adapters.specs.declared.tuples.Tuples.{Tuples}

-- ---- What leaves out at most one item before another

module _ {P X R B E : Type 0} (call : P → X → R → P → Type 0) (outcome : X → R → Outcome B E) where
  -- of two items one after the other one is not left out
  abbrev pub LeavesOneOut : Type 0
  LeavesOneOut = (p q h : P) (x y : X) (v w : R) → call p x v q → outcome x v ≡ LeftOut → call q y w h → outcome y w ≡ LeftOut → ⊥

  -- what comes of one answer of the source: an answer, or nothing of an item that is left out
  abbrev pub PassedOrLeftOut : P → Answered X E → Option (Answered B E) → P → Type 0
  PassedOrLeftOut p drawn (Some r) q = PassAnswer call outcome p drawn r q
  PassedOrLeftOut p drawn None q = (x : X) × (drawn ≡ Ok (Some x)) × ItemPassed call outcome p x LeftOut q

-- ---- `Tuples`, which yields the items two by two

module _ {A E : Type 0} where
  -- The first item of a pair is left out, and held then. The next one is yielded beside it, and none is held then.
  abbrev pub tuples_asks : Option A → A → Outcome (A × A) E → Option A → Type 0
  tuples_asks None x o q = (o ≡ LeftOut) × (q ≡ Some x)
  tuples_asks (Some y) x o q = (o ≡ Kept (y, x)) × (q ≡ None)

  -- `Tuples`: the source's trace where each second item is replaced by the pair of the one before it and itself, and the others are left out; failures and ends between two part nothing.
  abbrev pub TuplesTrace : {S : Type 0} → (S → List (Answered A E) → S → Type 0) → S × Option A → List (Answered (A × A) E) → S × Option A → Type 0
  TuplesTrace traces p trace q = passes_all traces tuples_asks as_answered_item p trace q

-- how many items come before the one that completes a pair
abbrev pub items_before_pair : {A : Type 0} → Option A → ℕ
items_before_pair None = 1
items_before_pair (Some y) = 0

-- `Tuples`' contract: of the items of the source every second one counts in the hint. It requires no bound of the source: one draw leaves out one item at most.
abbrev pub tuples_contract : {S A E : Type 0} → Contract S A E → Contract (S × Option A) (A × A) E
tuples_contract m = record (passing_contract m tuples_asks (λ Q p. ⊤) as_answered_item (λ p h. (k : ℕ × Option ℕ) × m.hints p.0 k × (h ≡ hint_kept 1 (items_before_pair p.1) k))) { traces = TuplesTrace m.traces; sound = as_made (λ p. p.0) m.hints m.sound (λ p k. hint_kept 1 (items_before_pair p.1) k) }

-- the source
abbrev pub tuples_source : {I A E : Type 0} → Tuples I A E → I
tuples_source s = s.it

-- the source, and the item that is held
abbrev pub tuples_parts : {I A E : Type 0} → Tuples I A E → I × Option A
tuples_parts s = (tuples_source s, s.held)

-- and back
pub tuples_made : {I A E : Type 0} → Inverse (tuples_parts {I = I} {A = A} {E = E})
tuples_made = record { make = λ p. record { it = p.0; held = p.1 }; made = λ s. refl; has = λ p. refl }

-- ---- what it lists

-- what `tupled` makes of the list, if this item is held before it
unfoldable pub tupled_after : {A E : Type 0} → Option A → List (Result A E) → List (Result (A × A) E)
tupled_after held [] = []
tupled_after None (Ok x ∷ l) = tupled_after (Some x) l
tupled_after (Some y) (Ok x ∷ l) = Ok (y, x) ∷ tupled_after None l
tupled_after held (Err e ∷ l) = Err e ∷ tupled_after held l

-- the items two by two, without the last of an odd number; a failure stands in its place, and parts nothing
unfoldable pub tupled : {A E : Type 0} → List (Result A E) → List (Result (A × A) E)
tupled l = tupled_after None l

-- ---- `TupleWindows`, which yields each two adjacent items

module _ {A E : Type 0} (is_clone : A → A → Type 0) (is_infallible : A → Type 0) (from : AllocError → E → Type 0) where
  -- an item beside the one before it: both are yielded, the later one as a clone; if that fails to allocate, the failure converted from its `AllocError` is, and the earlier one is lost. The later one is held then.
  abbrev pub window_at : A → A → Outcome (A × A) E → Option A → Type 0
  window_at y x (Kept both) q = (both.0 ≡ y) × is_clone x both.1 × (q ≡ Some x)
  window_at y x LeftOut q = ⊥
  window_at y x (Failure e) q = RefusedAs is_infallible from x e × (q ≡ Some x)
  window_at y x End q = ⊥

  -- The last item is held. The first one is left out.
  abbrev pub windows_asks : Option A → A → Outcome (A × A) E → Option A → Type 0
  windows_asks None x o q = (o ≡ LeftOut) × (q ≡ Some x)
  windows_asks (Some y) x o q = window_at y x o q

  -- `TupleWindows`: the source's trace where each item but the first is replaced by the pair of the one before it and itself; failures and ends between two part nothing.
  abbrev pub TupleWindowsTrace : {S : Type 0} → (S → List (Answered A E) → S → Type 0) → S × Option A → List (Answered (A × A) E) → S × Option A → Type 0
  TupleWindowsTrace traces p trace q = passes_all traces windows_asks as_answered_item p trace q

  -- how many items come before the next pair
  abbrev pub items_lacking : Option A → ℕ
  items_lacking None = 1
  items_lacking (Some y) = 0

  -- `TupleWindows`' contract. It requires no bound of the source: one draw leaves out one item at most.
  abbrev pub tuple_windows_contract : {S : Type 0} → Contract S A E → Contract (S × Option A) (A × A) E
  tuple_windows_contract m = record (passing_contract m windows_asks (λ Q p. ⊤) as_answered_item (λ p h. (k : ℕ × Option ℕ) × m.hints p.0 k × (h ≡ hint_less (items_lacking p.1) k))) { traces = TupleWindowsTrace m.traces; sound = as_made (λ p. p.0) m.hints m.sound (λ p k. hint_less (items_lacking p.1) k) }

-- the source
abbrev pub tuple_windows_source : {I A E : Type 0} → TupleWindows I A E → I
tuple_windows_source s = s.it

-- the source, and the item that is held
abbrev pub tuple_windows_parts : {I A E : Type 0} → TupleWindows I A E → I × Option A
tuple_windows_parts s = (tuple_windows_source s, s.held)

-- and back
pub tuple_windows_made : {I A E : Type 0} → Inverse (tuple_windows_parts {I = I} {A = A} {E = E})
tuple_windows_made = record { make = λ p. record { it = p.0; held = p.1 }; made = λ s. refl; has = λ p. refl }

-- ---- what it lists

-- a pair of the first of p itself and a clone of the second
abbrev pub HasSecondCloned : {A : Type 0} → (A → A → Type 0) → A × A → A × A → Type 0
HasSecondCloned is_clone p q = (q.0 ≡ p.0) × is_clone p.1 q.1

-- an item y and the first of a list, and then each two adjacent items of the list
unfoldable pub windows_from : {A E : Type 0} → A → List (Result A E) → List (Result (A × A) E)
windows_from y [] = []
windows_from y (Ok x ∷ l) = Ok (y, x) ∷ windows_from x l
windows_from y (Err e ∷ l) = Err e ∷ windows_from y l

-- each two adjacent items; a failure stands in its place, and parts nothing
unfoldable pub windowed : {A E : Type 0} → List (Result A E) → List (Result (A × A) E)
windowed [] = []
windowed (Ok x ∷ l) = windows_from x l
windowed (Err e ∷ l) = Err e ∷ windowed l
