-- The contract of `MapWhile` is lawful where the source's is.
use Rattle.std.specs.Prelude.{Option, Result}
use Rattle.std.specs.Fn.{Mut}
use Rattle.fallible_contract.specs.Closures.{call_by_value, takes_by_value, IsCallable}
use Rattle.fallible_contract.specs.Contract.{Contract, Lawful}
use Rattle.fallible_contract.specs.Hints.{upper_alone}
use Rattle.fallible_contract.specs.Laws.Closures.{is_callable_after}
use Rattle.fallible_contract.specs.Laws.Contract.{lawful_with_sound}
use Rattle.fallible_contract.specs.Laws.Passing.{lawful_passing}
use Rattle.fallible_core.specs.Laws.Hints.Passing.{upper_alone_hold}
use Rattle.fallible_core.specs.OneToOne.MapWhile.{map_while_contract}
use Rattle.fallible_core.specs.OneToOne.Scan.{scan_outcome}

pub lawful_map_while : {S F X B E : Type 0} {m : Contract S X E} (g : Mut F (X × Unit {0}) (Result (Option B) E)) → Lawful m → Lawful (map_while_contract m g)
lawful_map_while {m = m} g l = lawful_with_sound (upper_alone_hold (call_by_value g) scan_outcome l.hold) (lawful_passing (call_by_value g) (λ P f. IsCallable (call_by_value g) (takes_by_value g) P f) scan_outcome (λ p h. upper_alone m p.0 h) (λ P Q f h weak reached c. is_callable_after weak reached c) l)
