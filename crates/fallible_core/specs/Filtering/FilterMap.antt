-- `FilterMap`, which leaves out the items for which its closure returns `None`.
use Rattle.std.proofs.Common.{refl}
use Rattle.std.specs.Prelude.{Option, Result, Some, Ok, Err, List, None, [], ◌∷◌}
use Rattle.std.specs.Fn.{Mut}
use Rattle.fallible_contract.specs.Traces.{Answered}
use Rattle.fallible_contract.specs.Sound.{above_as_source}
use Rattle.fallible_contract.specs.Contract.{Inverse, Contract}
use Rattle.fallible_contract.specs.Closures.{call_by_value, takes_by_value, IsCallable}
use Rattle.fallible_contract.specs.Passing.{passes_all, leaving_out_contract}
use Rattle.fallible_contract.specs.Hints.{upper_alone}
use Rattle.fallible_contract.specs.declared.passing.Outcome.{Outcome}
use Rattle.fallible_contract.specs.declared.passing.Outcome.TheVariants.{Kept, LeftOut, Failure}
use Rattle.fallible_core.specs.declared.filtering.filter_map.FilterMap.{FilterMap}

-- An item is replaced by the value that the closure returns, left out if it returns `None`, and replaced by a failure of it.
abbrev pub filter_map_outcome : {X B E : Type 0} → X → Result (Option B) E → Outcome B E
filter_map_outcome x (Ok (Some y)) = Kept y
filter_map_outcome x (Ok None) = LeftOut
filter_map_outcome x (Err e) = Failure e

-- `FilterMap`: the source's trace without the items for which the closure returns `None`, where each other item is replaced by the value or the failure that the closure returns for it; it doesn't end in a left-out item.
abbrev pub FilterMapTrace : {S F X B E : Type 0} → (S → List (Answered X E) → S → Type 0) → Mut F (X × Unit {0}) (Result (Option B) E) → S × F → List (Answered B E) → S × F → Type 0
FilterMapTrace traces g p trace q = passes_all traces (call_by_value g) filter_map_outcome p trace q

-- `FilterMap`'s contract: its hint has the source's upper bound alone.
abbrev pub filter_map_contract : {S F X B E : Type 0} → Contract S X E → Mut F (X × Unit {0}) (Result (Option B) E) → Contract (S × F) B E
filter_map_contract m g = record (leaving_out_contract m (call_by_value g) (λ P f. IsCallable (call_by_value g) (takes_by_value g) P f) filter_map_outcome (λ p h. upper_alone m p.0 h)) { traces = FilterMapTrace m.traces g; sound = above_as_source (λ p. p.0) m.sound }

-- the source
abbrev pub filter_map_source : {I F : Type 0} → FilterMap I F → I
filter_map_source s = s.it

-- the closure
abbrev pub filter_map_closure : {I F : Type 0} → FilterMap I F → F
filter_map_closure s = s.f

-- the source, and the closure
abbrev pub filter_map_parts : {I F : Type 0} → FilterMap I F → I × F
filter_map_parts s = (filter_map_source s, filter_map_closure s)

-- and back
pub filter_map_made : {I F : Type 0} → Inverse (filter_map_parts {I = I} {F = F})
filter_map_made = record { make = λ p. record { it = p.0; f = p.1 }; made = λ s. refl; has = λ p. refl }

-- ---- what it lists

-- the value that a closure returns before a list; nothing if it returns `None`
abbrev pub cons_some : {B E : Type 0} → Result (Option B) E → List (Result B E) → List (Result B E)
cons_some (Ok (Some y)) l = Ok y ∷ l
cons_some (Ok None) l = l
cons_some (Err e) l = Err e ∷ l

-- the value of h x in the place of each item x, and nothing where h x is none; where h x is a failure, that failure in the place of x
unfoldable pub filter_mapped : {X B E : Type 0} → (X → Result (Option B) E) → List (Result X E) → List (Result B E)
filter_mapped h [] = []
filter_mapped h (Ok x ∷ l) = cons_some (h x) (filter_mapped h l)
filter_mapped h (Err e ∷ l) = Err e ∷ filter_mapped h l
