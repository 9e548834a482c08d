-- `MapWhile`, which maps each item, and ends where its closure returns `None`.
use Rattle.std.proofs.Common.{refl}
use Rattle.std.specs.Prelude.{Option, Result, Ok, Err, List, [], ◌∷◌}
use Rattle.std.specs.Fn.{Mut}
use Rattle.fallible_contract.specs.Closures.{call_by_value, takes_by_value, IsCallable}
use Rattle.fallible_contract.specs.Contract.{Inverse, Contract}
use Rattle.fallible_contract.specs.Hints.{upper_alone}
use Rattle.fallible_contract.specs.Passing.{passes_all, passing_contract}
use Rattle.fallible_contract.specs.Sound.{above_as_source}
use Rattle.fallible_contract.specs.Traces.{Answered}
use Rattle.fallible_core.specs.OneToOne.Scan.{cons_or_end, scan_outcome}
use Rattle.fallible_core.specs.declared.one_to_one.map_while.MapWhile.{MapWhile}

-- `MapWhile`: the source's trace, where each item is replaced by the closure's answer on it, none being an end.
abbrev pub MapWhileTrace : {S F X B E : Type 0} → (S → List (Answered X E) → S → Type 0) → Mut F (X × Unit {0}) (Result (Option B) E) → S × F → List (Answered B E) → S × F → Type 0
MapWhileTrace traces g p trace q = passes_all traces (call_by_value g) scan_outcome p trace q

-- `MapWhile`'s contract: its hint has the source's upper bound alone, since none is an end.
abbrev pub map_while_contract : {S F X B E : Type 0} → Contract S X E → Mut F (X × Unit {0}) (Result (Option B) E) → Contract (S × F) B E
map_while_contract m g = record (passing_contract m (call_by_value g) (λ P f. IsCallable (call_by_value g) (takes_by_value g) P f) scan_outcome (λ p h. upper_alone m p.0 h)) { traces = MapWhileTrace m.traces g; sound = above_as_source (λ p. p.0) m.sound }

-- the source
abbrev pub map_while_source : {I F : Type 0} → MapWhile I F → I
map_while_source s = s.it

-- the closure
abbrev pub map_while_closure : {I F : Type 0} → MapWhile I F → F
map_while_closure s = s.f

-- the source, and the closure
abbrev pub map_while_parts : {I F : Type 0} → MapWhile I F → I × F
map_while_parts s = (map_while_source s, map_while_closure s)

-- and back
pub map_while_made : {I F : Type 0} → Inverse (map_while_parts {I = I} {F = F})
map_while_made = record { make = λ p. record { it = p.0; f = p.1 }; made = λ s. refl; has = λ p. refl }

-- the value of h x in the place of each item x, up to the first item for which h x is none; where h x is a failure, that failure in the place of x
unfoldable pub mapped_while : {X B E : Type 0} → (X → Result (Option B) E) → List (Result X E) → List (Result B E)
mapped_while h [] = []
mapped_while h (Ok x ∷ l) = cons_or_end (h x) (mapped_while h l)
mapped_while h (Err e ∷ l) = Err e ∷ mapped_while h l
