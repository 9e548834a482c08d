-- The contract of `Inspect` is lawful where the source's is.
use Rattle.std.specs.Prelude.{Result}
use Rattle.std.specs.Fn.{Mut}
use Rattle.std.specs.Borrow.{Bor}
use Rattle.fallible_contract.specs.Contract.{Contract, Lawful}
use Rattle.fallible_contract.specs.Closures.{call_by_reference, takes_by_reference, IsCallable}
use Rattle.fallible_contract.specs.Laws.Closures.{is_callable_after}
use Rattle.fallible_contract.specs.Ends.{Ends, from_back, ends_of, LawfulEnds}
use Rattle.fallible_contract.specs.Laws.Passing.{lawful_passing}
use Rattle.fallible_contract.specs.Laws.Contract.{lawful_with_sound}
use Rattle.fallible_contract.specs.Laws.Ends.{lawful_ends_passing, lawful_ends_with_sound}
use Rattle.fallible_core.specs.Laws.Hints.Passing.{inspect_hold}
use Rattle.fallible_core.specs.OneToOne.Inspect.{inspect_outcome, inspect_contract}

pub lawful_inspect : {S F X E : Type 0} {m : Contract S X E} (g : Mut F (Bor X × Unit {0}) (Result (Unit {0}) E)) → Lawful m → Lawful (inspect_contract m g)
lawful_inspect {m = m} g l = lawful_with_sound (inspect_hold (call_by_reference g) l.hold) (lawful_passing (call_by_reference g) (λ P f. IsCallable (call_by_reference g) (takes_by_reference g) P f) inspect_outcome (λ p h. m.hints p.0 h) (λ P Q f h weak reached c. is_callable_after weak reached c) l)

pub lawful_ends_inspect : {S F X E : Type 0} {m : Contract S X E} {e : Ends S X E} (g : Mut F (Bor X × Unit {0}) (Result (Unit {0}) E)) → LawfulEnds m e → LawfulEnds (inspect_contract m g) (ends_of (inspect_contract (from_back m e) g))
lawful_ends_inspect {m = m} g l = lawful_ends_with_sound (inspect_hold (call_by_reference g) l.front.hold) (inspect_hold (call_by_reference g) l.back.hold) (lawful_ends_passing (call_by_reference g) (λ P f. IsCallable (call_by_reference g) (takes_by_reference g) P f) inspect_outcome (λ p h. m.hints p.0 h) (λ P Q f h weak reached c. is_callable_after weak reached c) l)
