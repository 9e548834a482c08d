-- `Fuse`, which is exhausted at the first end.
use Rattle.std.proofs.Common.{refl}
use Rattle.std.specs.Prelude.{◌≡◌, List, Bool, true}
use Rattle.fallible_contract.specs.Traces.{Answered, is_end}
use Rattle.fallible_contract.specs.Sound.{as_source, sound_once}
use Rattle.fallible_contract.specs.Contract.{Inverse, Contract}
use Rattle.fallible_contract.specs.Closing.{ClosingTrace, closing_contract}
use Rattle.fallible_core.specs.declared.cutting.fuse.Fuse.{Fuse}

-- `Fuse`: the source's trace, which the source's end closes.
abbrev pub FuseTrace : {S A E : Type 0} → (S → List (Answered A E) → S → Type 0) → S × Bool → List (Answered A E) → S × Bool → Type 0
FuseTrace {A = A} {E = E} traces p trace q = (drawn : List (Answered A E)) × traces p.0 drawn q.0 × ClosingTrace (λ r. r) is_end p.1 drawn trace q.1

-- `Fuse`'s contract: that of its source but for the step and the hint, which the source's end closes.
abbrev pub fuse_contract : {S A E : Type 0} → Contract S A E → Contract (S × Bool) A E
fuse_contract m = record (closing_contract m m.steps (λ r. r) is_end) { traces = FuseTrace m.traces; sound = sound_once (λ p. p.1 ≡ true) (as_source (λ p. p.0) m.sound) }

-- the source
abbrev pub fuse_source : {I : Type 0} → Fuse I → I
fuse_source s = s.it

-- whether an end was returned
abbrev pub fuse_ended : {I : Type 0} → Fuse I → Bool
fuse_ended s = s.ended

-- the source, and whether its end was met
abbrev pub fuse_parts : {I : Type 0} → Fuse I → I × Bool
fuse_parts s = (fuse_source s, fuse_ended s)

-- and back
pub fuse_made : {I : Type 0} → Inverse (fuse_parts {I = I})
fuse_made = record { make = λ p. record { it = p.0; ended = p.1 }; made = λ s. refl; has = λ p. refl }
