-- `Copied`, which copies what each item points to.
use Rattle.std.specs.Prelude.{⊤, List}
use Rattle.std.specs.Borrow.{Bor}
use Rattle.fallible_iterator.specs.Traces.{Answered}
use Rattle.fallible_iterator.specs.Contract.{Contract, Inverse}
use Rattle.fallible_iterator.specs.Passing.{passes_all, passing_contract}
use Rattle.fallible_iterator.specs.Outcome.{Outcome}
use Rattle.fallible_iterator.specs.Outcome.TheVariants.{Kept}
use Rattle.fallible_itertools_adapters.specs.declared.copied.Copied.{Copied}
use Rattle.std.proofs.Common.{refl}
use Rattle.fallible_iterator.specs.Sound.{as_source}

-- An item becomes the value that it points to; no closure is called.
abbrev pub copied_outcome : {T E : Type 0} → Bor T → Unit {0} → Outcome T E
copied_outcome x u = Kept x.now

-- there is no closure, and so nothing to say of a call
abbrev pub copied_call : {T : Type 0} → Unit {0} → Bor T → Unit {0} → Unit {0} → Type 0
copied_call u x v w = ⊤

-- `Copied`: the source's trace, where each item is replaced by the value that it points to.
abbrev pub CopiedTrace : {S T E : Type 0} → (S → List (Answered (Bor T) E) → S → Type 0) → S × Unit {0} → List (Answered T E) → S × Unit {0} → Type 0
CopiedTrace traces p trace q = passes_all traces copied_call copied_outcome p trace q

-- `Copied`'s contract. It requires nothing more than the source, and has the source's hint.
abbrev pub copied_contract : {S T E : Type 0} → Contract S (Bor T) E → Contract (S × Unit {0}) T E
copied_contract m = record (passing_contract m copied_call (λ P u. ⊤) copied_outcome (λ p h. m.hints p.0 h)) { traces = CopiedTrace m.traces; sound = as_source (λ p. p.0) m.sound }

-- the source
abbrev pub copied_source : {I : Type 0} → Copied I → I
copied_source s = s.it

-- the source, and nothing else
abbrev pub copied_parts : {I : Type 0} → Copied I → I × Unit {0}
copied_parts s = (copied_source s, tt)

-- and back
pub copied_of_parts : {I : Type 0} → Inverse (copied_parts {I = I})
copied_of_parts = record { make = λ p. record { it = p.0 }; made = λ s. refl; has = λ p. refl }
