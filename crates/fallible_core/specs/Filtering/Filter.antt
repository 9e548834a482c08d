-- `Filter`, which leaves out the items that a predicate rejects.
use Rattle.std.proofs.Common.{refl}
use Rattle.std.specs.Prelude.{◌≡◌, Result, Ok, Err, List, Bool, true, false, [], ◌∷◌}
use Rattle.std.specs.Fn.{Mut}
use Rattle.std.specs.Borrow.{Bor}
use Rattle.fallible_contract.specs.Traces.{Answered}
use Rattle.fallible_contract.specs.Sound.{above_as_source}
use Rattle.fallible_contract.specs.Contract.{Inverse, Contract}
use Rattle.fallible_contract.specs.Closures.{call_by_reference, takes_by_reference, IsCallable}
use Rattle.fallible_contract.specs.Passing.{passes_all, leaving_out_contract}
use Rattle.fallible_contract.specs.Folding.{FoldingTurn}
pub use Rattle.fallible_contract.specs.Passing.{tested_outcome}
use Rattle.fallible_contract.specs.Hints.{upper_alone}
use Rattle.std.specs.declared.ops.ControlFlow.{ControlFlow}
use Rattle.std.specs.declared.ops.ControlFlow.TheVariants.{Break}
use Rattle.fallible_contract.specs.declared.passing.Outcome.{Outcome}
use Rattle.fallible_core.specs.declared.filtering.filter.Filter.{Filter}

-- `Filter`: the source's trace without the rejected items, where an item whose predicate failed is replaced by that failure; it doesn't end in a rejected item.
abbrev pub FilterTrace : {S F X E : Type 0} → (S → List (Answered X E) → S → Type 0) → Mut F (Bor X × Unit {0}) (Result Bool E) → S × F → List (Answered X E) → S × F → Type 0
FilterTrace traces g p trace q = passes_all traces (call_by_reference g) tested_outcome p trace q

-- `Filter`'s contract: its hint has the source's upper bound alone.
abbrev pub filter_contract : {S F X E : Type 0} → Contract S X E → Mut F (Bor X × Unit {0}) (Result Bool E) → Contract (S × F) X E
filter_contract m g = record (leaving_out_contract m (call_by_reference g) (λ P f. IsCallable (call_by_reference g) (takes_by_reference g) P f) tested_outcome (λ p h. upper_alone m p.0 h)) { traces = FilterTrace m.traces g; sound = above_as_source (λ p. p.0) m.sound }

-- the source
abbrev pub filter_source : {I F : Type 0} → Filter I F → I
filter_source s = s.it

-- the predicate
abbrev pub filter_predicate : {I F : Type 0} → Filter I F → F
filter_predicate s = s.f

-- the source, and the predicate
abbrev pub filter_parts : {I F : Type 0} → Filter I F → I × F
filter_parts s = (filter_source s, filter_predicate s)

-- and back
pub filter_made : {I F : Type 0} → Inverse (filter_parts {I = I} {F = F})
filter_made = record { make = λ p. record { it = p.0; f = p.1 }; made = λ s. refl; has = λ p. refl }

-- ---- its draw, through the source's own fold

-- a draw stops with the first item
abbrev pub StopsWithItem : {B : Type 0} → Unit {0} → B → ControlFlow B (Unit {0}) → Unit {0} → Type 0
StopsWithItem u y r v = r ≡ Break y

-- the source's turn of a draw, whose state is the closure: one call of it, and what stays in the item's place stops the draw
abbrev pub DrawingTurn : {F X V B E : Type 0} → (F → X → V → F → Type 0) → (X → V → Outcome B E) → F → X → ControlFlow (Answered B E) (Unit {0}) → F → Type 0
DrawingTurn call outcome f x r g = FoldingTurn call outcome StopsWithItem (tt, f) x r (tt, g)

-- ---- what it lists

-- an item before a list, if the predicate's result keeps it; otherwise nothing, or the predicate's failure
abbrev pub cons_if : {X E : Type 0} → X → Result Bool E → List (Result X E) → List (Result X E)
cons_if x (Ok true) l = Ok x ∷ l
cons_if x (Ok false) l = l
cons_if x (Err e) l = Err e ∷ l

-- without the items x for which h x is false; where h x is a failure, that failure in the place of x
unfoldable pub filtered : {X E : Type 0} → (X → Result Bool E) → List (Result X E) → List (Result X E)
filtered h [] = []
filtered h (Ok x ∷ l) = cons_if x (h x) (filtered h l)
filtered h (Err e ∷ l) = Err e ∷ filtered h l
