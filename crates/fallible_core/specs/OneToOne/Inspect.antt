-- `Inspect`, whose closure sees each item.
use Rattle.std.proofs.Common.{refl}
use Rattle.std.specs.Prelude.{Result, Ok, Err, List, [], ◌∷◌}
use Rattle.std.specs.Fn.{Mut}
use Rattle.std.specs.Borrow.{Bor}
use Rattle.fallible_contract.specs.Traces.{Answered}
use Rattle.fallible_contract.specs.Sound.{as_source}
use Rattle.fallible_contract.specs.Contract.{Inverse, Contract}
use Rattle.fallible_contract.specs.Closures.{call_by_reference, takes_by_reference, IsCallable}
use Rattle.fallible_contract.specs.Passing.{passes_all, passing_contract}
use Rattle.fallible_contract.specs.declared.passing.Outcome.{Outcome}
use Rattle.fallible_contract.specs.declared.passing.Outcome.TheVariants.{Kept, Failure}
use Rattle.fallible_core.specs.declared.one_to_one.inspect.Inspect.{Inspect}

-- An item that the closure saw stays, or becomes the closure's failure.
abbrev pub inspect_outcome : {X E : Type 0} → X → Result (Unit {0}) E → Outcome X E
inspect_outcome x (Ok u) = Kept x
inspect_outcome x (Err e) = Failure e

-- `Inspect`: the source's trace, where each item on which the closure failed is replaced by that failure.
abbrev pub InspectTrace : {S F X E : Type 0} → (S → List (Answered X E) → S → Type 0) → Mut F (Bor X × Unit {0}) (Result (Unit {0}) E) → S × F → List (Answered X E) → S × F → Type 0
InspectTrace traces g p trace q = passes_all traces (call_by_reference g) inspect_outcome p trace q

-- `Inspect`'s contract: the closure may be called on each item that may come, and its hint is the source's.
abbrev pub inspect_contract : {S F X E : Type 0} → Contract S X E → Mut F (Bor X × Unit {0}) (Result (Unit {0}) E) → Contract (S × F) X E
inspect_contract m g = record (passing_contract m (call_by_reference g) (λ P f. IsCallable (call_by_reference g) (takes_by_reference g) P f) inspect_outcome (λ p h. m.hints p.0 h)) { traces = InspectTrace m.traces g; sound = as_source (λ p. p.0) m.sound }

-- the source
abbrev pub inspect_source : {I F : Type 0} → Inspect I F → I
inspect_source s = s.it

-- the closure
abbrev pub inspect_closure : {I F : Type 0} → Inspect I F → F
inspect_closure s = s.f

-- the source, and the closure
abbrev pub inspect_parts : {I F : Type 0} → Inspect I F → I × F
inspect_parts s = (inspect_source s, inspect_closure s)

-- and back
pub inspect_made : {I F : Type 0} → Inverse (inspect_parts {I = I} {F = F})
inspect_made = record { make = λ p. record { it = p.0; f = p.1 }; made = λ s. refl; has = λ p. refl }

-- ---- what it lists

-- an item that a closure has seen, or the closure's failure
abbrev pub once_seen : {X E : Type 0} → X → Result (Unit {0}) E → Result X E
once_seen x (Ok u) = Ok x
once_seen x (Err e) = Err e

-- the list itself, but where h x is a failure, that failure in the place of the item x
unfoldable pub inspected : {X E : Type 0} → (X → Result (Unit {0}) E) → List (Result X E) → List (Result X E)
inspected h [] = []
inspected h (Ok x ∷ l) = once_seen x (h x) ∷ inspected h l
inspected h (Err e ∷ l) = Err e ∷ inspected h l
