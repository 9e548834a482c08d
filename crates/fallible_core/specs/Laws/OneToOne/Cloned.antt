-- The contract of `Cloned` is lawful where the source's is.
use Rattle.std.specs.Prelude.{⊤}
use Rattle.std.specs.Borrow.{Bor}
use Rattle.fallible_contract.specs.Contract.{Contract, Lawful}
use Rattle.fallible_contract.specs.Ends.{Ends, from_back, ends_of, LawfulEnds}
use Rattle.fallible_contract.specs.Laws.Passing.{lawful_passing}
use Rattle.fallible_contract.specs.Laws.Contract.{lawful_with_sound}
use Rattle.fallible_contract.specs.Laws.Ends.{lawful_ends_passing, lawful_ends_with_sound}
use Rattle.fallible_core.specs.Laws.Hints.Passing.{map_hold}
use Rattle.fallible_core.specs.OneToOne.Map.{map_outcome}
use Rattle.fallible_core.specs.OneToOne.Cloned.{cloned_call, cloned_contract}
use Rattle.std.specs.declared.alloc.AllocError.{AllocError}

pub lawful_cloned : {S T E : Type 0} {m : Contract S (Bor T) E} (is_clone : T → T → Type 0) (is_infallible : T → Type 0) (from : AllocError → E → Type 0) → Lawful m → Lawful (cloned_contract is_clone is_infallible from m)
lawful_cloned {m = m} is_clone is_infallible from l = lawful_with_sound (map_hold (cloned_call is_clone is_infallible from) l.hold) (lawful_passing (cloned_call is_clone is_infallible from) (λ P u. ⊤) map_outcome (λ p h. m.hints p.0 h) (λ P Q u v weak reached c. tt) l)

pub lawful_ends_cloned : {S T E : Type 0} {m : Contract S (Bor T) E} {e : Ends S (Bor T) E} (is_clone : T → T → Type 0) (is_infallible : T → Type 0) (from : AllocError → E → Type 0) → LawfulEnds m e → LawfulEnds (cloned_contract is_clone is_infallible from m) (ends_of (cloned_contract is_clone is_infallible from (from_back m e)))
lawful_ends_cloned {m = m} is_clone is_infallible from l = lawful_ends_with_sound (map_hold (cloned_call is_clone is_infallible from) l.front.hold) (map_hold (cloned_call is_clone is_infallible from) l.back.hold) (lawful_ends_passing (cloned_call is_clone is_infallible from) (λ P u. ⊤) map_outcome (λ p h. m.hints p.0 h) (λ P Q u v weak reached c. tt) l)
