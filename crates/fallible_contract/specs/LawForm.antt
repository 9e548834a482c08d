-- What a law says of a source or an adapter.
use Rattle.std.specs.Prelude.{List, ◌↔◌}
use Rattle.fallible_contract.specs.Traces.{Answered, Run}

-- From a value whose parts are p, draws can return a trace and leave one whose parts are q exactly if the definition relates p, the trace and q.
abbrev pub TracesAre : {V P A E : Type 0} → (V → P) → (V → Answered A E → V → Type 0) → (P → List (Answered A E) → P → Type 0) → Type 0
TracesAre {V = V} {A = A} {E = E} parts steps Definition = (s : V) (trace : List (Answered A E)) (t : V) → Run steps s trace t ↔ Definition (parts s) trace (parts t)
