-- `MapErr`, whose closure is called on failures.
use Rattle.std.proofs.Common.{refl}
use Rattle.std.specs.Prelude.{List}
use Rattle.std.specs.Fn.{Mut}
use Rattle.fallible_contract.specs.Traces.{Answered}
use Rattle.fallible_contract.specs.Contract.{Inverse, Contract}
use Rattle.fallible_contract.specs.Closures.{call_by_value, takes_by_value}
use Rattle.fallible_contract.specs.Failing.{replaces_all, failing_contract}
use Rattle.fallible_core.specs.declared.one_to_one.map_err.MapErr.{MapErr}

-- `MapErr` is `Map` on failures: its trace is the source's, where the closure's answer on each failure stands in its place. The parts are the source and the closure.
abbrev pub MapErrTrace : {S F X D E : Type 0} → (S → List (Answered X D) → S → Type 0) → Mut F (D × Unit {0}) E → S × F → List (Answered X E) → S × F → Type 0
MapErrTrace traces g p trace q = replaces_all traces (call_by_value g) p trace q

-- `MapErr`'s contract: the closure may be called on each failure that may come, in each state that such calls bring it to; all else is the source's, its hints too.
abbrev pub map_err_contract : {S F X D E : Type 0} → Contract S X D → Mut F (D × Unit {0}) E → Contract (S × F) X E
map_err_contract m g = record (failing_contract m (call_by_value g) (takes_by_value g)) { traces = MapErrTrace m.traces g }

-- the source
abbrev pub map_err_source : {I F : Type 0} → MapErr I F → I
map_err_source s = s.it

-- the closure
abbrev pub map_err_closure : {I F : Type 0} → MapErr I F → F
map_err_closure s = s.f

-- the source and the closure
abbrev pub map_err_parts : {I F : Type 0} → MapErr I F → I × F
map_err_parts s = (map_err_source s, map_err_closure s)

-- and back
pub map_err_made : {I F : Type 0} → Inverse (map_err_parts {I = I} {F = F})
map_err_made = record { make = λ p. record { it = p.0; f = p.1 }; made = λ s. refl; has = λ p. refl }
