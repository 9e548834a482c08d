-- The contract of `Fuse` is lawful where the source's is.
use Rattle.std.specs.Prelude.{List}
use Rattle.fallible_contract.specs.Traces.{Answered, is_end}
use Rattle.fallible_contract.specs.Contract.{Contract, Lawful}
use Rattle.fallible_contract.specs.Closing.{closing_step}
use Rattle.fallible_contract.specs.Laws.LawForm.{IsTraced}
use Rattle.fallible_contract.specs.Laws.Closing.{lawful_closing}
use Rattle.fallible_contract.proofs.Lemmas.Closing.{closing_folds_iff_drawn_to_close}
use Rattle.fallible_core.specs.Cutting.Fuse.{fuse_contract, FuseTrace}
use Rattle.fallible_contract.specs.Laws.Contract.{lawful_with_traces, lawful_with_sound}
use Rattle.fallible_core.specs.Laws.Hints.Cutting.{fuse_hold}

pub fuse_traced : {S A E : Type 0} {steps : S → Answered A E → S → Type 0} {traces : S → List (Answered A E) → S → Type 0} → IsTraced steps traces → IsTraced (closing_step steps (λ r. r) is_end) (FuseTrace traces)
fuse_traced {steps = steps} law p trace q = let both = closing_folds_iff_drawn_to_close steps (λ r. r) is_end p.0 p.1 trace q.0 q.1 in ((λ h. let d = both.0 h in (d.0, (law p.0 d.0 q.0).0 d.1, d.2)), (λ d. both.1 (d.0, (law p.0 d.0 q.0).1 d.1, d.2)))

pub lawful_fuse : {S A E : Type 0} {m : Contract S A E} → Lawful m → Lawful (fuse_contract m)
lawful_fuse {m = m} l = lawful_with_sound (fuse_hold m l.hold) (lawful_with_traces (FuseTrace m.traces) (fuse_traced l.traced) (lawful_closing m.steps (λ r. r) is_end l.kept_by_draw l))
