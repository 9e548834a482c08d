-- `Map`, whose closure is called on each item.
use Rattle.std.proofs.Common.{refl}
use Rattle.std.specs.Prelude.{Result, Ok, Err, List, [], ◌∷◌}
use Rattle.std.specs.Fn.{Mut}
use Rattle.fallible_contract.specs.Traces.{Answered}
use Rattle.fallible_contract.specs.Sound.{as_source}
use Rattle.fallible_contract.specs.Contract.{Inverse, Contract}
use Rattle.fallible_contract.specs.Closures.{call_by_value, takes_by_value, IsCallable}
use Rattle.fallible_contract.specs.Passing.{passes_all, passing_contract}
use Rattle.fallible_contract.specs.declared.passing.Outcome.{Outcome}
use Rattle.fallible_contract.specs.declared.passing.Outcome.TheVariants.{Kept, Failure}
use Rattle.fallible_core.specs.declared.one_to_one.map.Map.{Map}

-- An item becomes the closure's answer, a failure of it included.
abbrev pub map_outcome : {X B E : Type 0} → X → Result B E → Outcome B E
map_outcome x (Ok y) = Kept y
map_outcome x (Err e) = Failure e

-- `Map`: the source's trace, where each item is replaced by the closure's answer on it.
abbrev pub MapTrace : {S F X B E : Type 0} → (S → List (Answered X E) → S → Type 0) → Mut F (X × Unit {0}) (Result B E) → S × F → List (Answered B E) → S × F → Type 0
MapTrace traces g p trace q = passes_all traces (call_by_value g) map_outcome p trace q

-- `Map`'s contract: the closure may be called on each item that may come, and its hint is the source's.
abbrev pub map_contract : {S F X B E : Type 0} → Contract S X E → Mut F (X × Unit {0}) (Result B E) → Contract (S × F) B E
map_contract m g = record (passing_contract m (call_by_value g) (λ P f. IsCallable (call_by_value g) (takes_by_value g) P f) map_outcome (λ p h. m.hints p.0 h)) { traces = MapTrace m.traces g; sound = as_source (λ p. p.0) m.sound }

-- the source
abbrev pub map_source : {I F : Type 0} → Map I F → I
map_source s = s.it

-- the closure
abbrev pub map_closure : {I F : Type 0} → Map I F → F
map_closure s = s.f

-- the source, and the closure
abbrev pub map_parts : {I F : Type 0} → Map I F → I × F
map_parts s = (map_source s, map_closure s)

-- and back
pub map_made : {I F : Type 0} → Inverse (map_parts {I = I} {F = F})
map_made = record { make = λ p. record { it = p.0; f = p.1 }; made = λ s. refl; has = λ p. refl }

-- ---- what it lists

-- h x in the place of each item x
unfoldable pub mapped : {X B E : Type 0} → (X → Result B E) → List (Result X E) → List (Result B E)
mapped h [] = []
mapped h (Ok x ∷ l) = h x ∷ mapped h l
mapped h (Err e ∷ l) = Err e ∷ mapped h l
