-- `Scan`, whose closure is called on a state and each item.
use Rattle.std.proofs.Common.{refl}
use Rattle.std.specs.Prelude.{Option, Result, Some, None, Ok, Err, List, [], ◌∷◌}
use Rattle.std.specs.Fn.{Mut, TakesWithState, CalledWithState}
use Rattle.std.specs.Borrow.{MutBor}
use Rattle.fallible_contract.specs.Traces.{Answered}
use Rattle.fallible_contract.specs.Sound.{above_as_source}
use Rattle.fallible_contract.specs.Contract.{Inverse, Contract}
use Rattle.fallible_contract.specs.Hints.{upper_alone}
use Rattle.fallible_contract.specs.Closures.{IsCallable}
use Rattle.fallible_contract.specs.Passing.{passes_all, passing_contract}
use Rattle.fallible_contract.specs.declared.passing.Outcome.{Outcome}
use Rattle.fallible_contract.specs.declared.passing.Outcome.TheVariants.{Kept, Failure, End}
use Rattle.fallible_core.specs.declared.one_to_one.scan.Scan.{Scan}

-- a call on the state and an item, which may change both the closure and the state
abbrev pub scan_call : {F T X R : Type 0} → Mut F (MutBor T × (X × Unit {0})) (R × (MutBor T × Unit {0})) → T × F → X → R → T × F → Type 0
scan_call g p x r q = CalledWithState g p.1 p.0 x r q.1 q.0

-- the closure may be called on the state and the item
abbrev pub scan_takes : {F T X R : Type 0} → Mut F (MutBor T × (X × Unit {0})) (R × (MutBor T × Unit {0})) → T × F → X → Type 0
scan_takes g p x = TakesWithState g p.1 p.0 x

-- An item is replaced by the value that the closure returns, by an end if it returns `None`, and by a failure of it.
abbrev pub scan_outcome : {X B E : Type 0} → X → Result (Option B) E → Outcome B E
scan_outcome x (Ok (Some y)) = Kept y
scan_outcome x (Ok None) = End
scan_outcome x (Err e) = Failure e

-- `Scan`, with the state beside the closure: the source's trace, where each item is replaced by the closure's answer on the state and the item, none being an end.
abbrev pub ScanTrace : {S F T X B E : Type 0} → (S → List (Answered X E) → S → Type 0) → Mut F (MutBor T × (X × Unit {0})) (Result (Option B) E × (MutBor T × Unit {0})) → S × (T × F) → List (Answered B E) → S × (T × F) → Type 0
ScanTrace traces g p trace q = passes_all traces (scan_call g) scan_outcome p trace q

-- `Scan`'s contract: its hint has the source's upper bound alone, since none is an end.
abbrev pub scan_contract : {S F T X B E : Type 0} → Contract S X E → Mut F (MutBor T × (X × Unit {0})) (Result (Option B) E × (MutBor T × Unit {0})) → Contract (S × (T × F)) B E
scan_contract m g = record (passing_contract m (scan_call g) (λ P h. IsCallable (scan_call g) (scan_takes g) P h) scan_outcome (λ p h. upper_alone m p.0 h)) { traces = ScanTrace m.traces g; sound = above_as_source (λ p. p.0) m.sound }

-- the source
abbrev pub scan_source : {I T F : Type 0} → Scan I T F → I
scan_source s = s.it

-- the state
abbrev pub scan_state : {I T F : Type 0} → Scan I T F → T
scan_state s = s.scanning.0

-- the closure
abbrev pub scan_closure : {I T F : Type 0} → Scan I T F → F
scan_closure s = s.scanning.1

-- the source, and the state beside the closure
abbrev pub scan_parts : {I T F : Type 0} → Scan I T F → I × (T × F)
scan_parts s = (scan_source s, s.scanning)

-- and back
pub scan_made : {I T F : Type 0} → Inverse (scan_parts {I = I} {T = T} {F = F})
scan_made = record { make = λ p. record { it = p.0; scanning = p.1 }; made = λ s. refl; has = λ p. refl }

-- ---- what it lists

-- the value that a closure returns before a list; if it returns `None`, the list ends
abbrev pub cons_or_end : {B E : Type 0} → Result (Option B) E → List (Result B E) → List (Result B E)
cons_or_end (Ok (Some y)) l = Ok y ∷ l
cons_or_end (Ok None) l = []
cons_or_end (Err e) l = Err e ∷ l

-- at state t the answer of `next t x` in the place of each item x, up to the first none, and the rest at the state that `next t x` leaves
unfoldable pub scanned : {T X B E : Type 0} → (T → X → Result (Option B) E × T) → T → List (Result X E) → List (Result B E)
scanned next t [] = []
scanned next t (Ok x ∷ l) = cons_or_end (next t x).0 (scanned next (next t x).1 l)
scanned next t (Err e ∷ l) = Err e ∷ scanned next t l
