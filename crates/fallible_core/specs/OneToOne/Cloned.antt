-- `Cloned`, which clones what each item points to.
use Rattle.std.proofs.Common.{refl}
use Rattle.std.specs.Prelude.{⊤, Result, Ok, Err, List, [], ◌∷◌}
use Rattle.std.specs.Borrow.{Bor}
use Rattle.fallible_contract.specs.Traces.{Answered}
use Rattle.fallible_contract.specs.Sound.{as_source}
use Rattle.fallible_contract.specs.Contract.{Inverse, Contract}
use Rattle.fallible_contract.specs.Refusals.{RefusedAs}
use Rattle.fallible_contract.specs.Passing.{passes_all, passing_contract}
use Rattle.fallible_core.specs.OneToOne.Map.{map_outcome}
use Rattle.std.specs.declared.alloc.AllocError.{AllocError}
use Rattle.fallible_core.specs.declared.one_to_one.cloned.Cloned.{Cloned}

module _ {T E : Type 0} (is_clone : T → T → Type 0) (is_infallible : T → Type 0) (from : AllocError → E → Type 0) where
  -- the item's clone, or, if that may fail to allocate, the failure converted from its `AllocError`
  abbrev pub cloned_call : Unit {0} → Bor T → Result T E → Unit {0} → Type 0
  cloned_call u x (Ok y) v = is_clone x.now y
  cloned_call u x (Err e) v = RefusedAs is_infallible from x.now e

  -- `Cloned`: the source's trace, where each item is replaced by a clone of what it points to, or by the failure converted from its `AllocError`.
  abbrev pub ClonedTrace : {S : Type 0} → (S → List (Answered (Bor T) E) → S → Type 0) → S × Unit {0} → List (Answered T E) → S × Unit {0} → Type 0
  ClonedTrace traces p trace q = passes_all traces cloned_call map_outcome p trace q

  -- `Cloned`'s contract. It requires nothing more than the source, and has the source's hint.
  abbrev pub cloned_contract : {S : Type 0} → Contract S (Bor T) E → Contract (S × Unit {0}) T E
  cloned_contract m = record (passing_contract m cloned_call (λ P u. ⊤) map_outcome (λ p h. m.hints p.0 h)) { traces = ClonedTrace m.traces; sound = as_source (λ p. p.0) m.sound }

-- the source
abbrev pub cloned_source : {I : Type 0} → Cloned I → I
cloned_source s = s.it

-- the source, and nothing else
abbrev pub cloned_parts : {I : Type 0} → Cloned I → I × Unit {0}
cloned_parts s = (cloned_source s, tt)

-- and back
pub cloned_made : {I : Type 0} → Inverse (cloned_parts {I = I})
cloned_made = record { make = λ p. record { it = p.0 }; made = λ s. refl; has = λ p. refl }

-- ---- what it lists

-- what each item points to, in its place
unfoldable pub pointed_to : {A E : Type 0} → List (Result (Bor A) E) → List (Result A E)
pointed_to [] = []
pointed_to (Ok x ∷ l) = Ok x.now ∷ pointed_to l
pointed_to (Err e ∷ l) = Err e ∷ pointed_to l
