-- A nest whose runs are those of its innermost source.
use Rattle.std.specs.Prelude.{◌↔◌, List}
use Rattle.fallible_contract.specs.Traces.{Answered, Run}

-- Where the innermost source of s may be drawn from, the runs of s are just the runs of that source.
abbrev pub RunsAsSource : {V S A E : Type 0} → (V → S) → (S → Type 0) → (S → Answered A E → S → Type 0) → (V → Answered A E → V → Type 0) → Type 0
RunsAsSource {V = V} {A = A} {E = E} source_of can source steps = (s : V) (trace : List (Answered A E)) (t : V) → can (source_of s) → Run steps s trace t ↔ Run source (source_of s) trace (source_of t)
