-- The contract of `Scan` is lawful where the source's is.
use Rattle.std.specs.Prelude.{Option, Result}
use Rattle.std.specs.Fn.{Mut}
use Rattle.std.specs.Borrow.{MutBor}
use Rattle.fallible_contract.specs.Contract.{Contract, Lawful}
use Rattle.fallible_contract.specs.Closures.{IsCallable}
use Rattle.fallible_contract.specs.Laws.Closures.{is_callable_after}
use Rattle.fallible_contract.specs.Laws.Contract.{lawful_with_sound}
use Rattle.fallible_contract.specs.Hints.{upper_alone}
use Rattle.fallible_contract.specs.Laws.Passing.{lawful_passing}
use Rattle.fallible_core.specs.Laws.Hints.Passing.{upper_alone_hold}
use Rattle.fallible_core.specs.OneToOne.Scan.{scan_call, scan_takes, scan_outcome, scan_contract}

pub lawful_scan : {S F T X B E : Type 0} {m : Contract S X E} (g : Mut F (MutBor T × (X × Unit {0})) (Result (Option B) E × (MutBor T × Unit {0}))) → Lawful m → Lawful (scan_contract m g)
lawful_scan {m = m} g l = lawful_with_sound (upper_alone_hold (scan_call g) scan_outcome l.hold) (lawful_passing (scan_call g) (λ P h. IsCallable (scan_call g) (scan_takes g) P h) scan_outcome (λ p h. upper_alone m p.0 h) (λ P Q f h weak reached c. is_callable_after weak reached c) l)
