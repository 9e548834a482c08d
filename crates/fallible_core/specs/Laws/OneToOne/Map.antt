-- The contract of `Map` is lawful where the source's is.
use Rattle.std.specs.Prelude.{Result}
use Rattle.std.specs.Fn.{Mut}
use Rattle.fallible_contract.specs.Contract.{Contract, Lawful}
use Rattle.fallible_contract.specs.Closures.{call_by_value, takes_by_value, IsCallable}
use Rattle.fallible_contract.specs.Laws.Closures.{is_callable_after}
use Rattle.fallible_contract.specs.Ends.{Ends, from_back, ends_of, LawfulEnds}
use Rattle.fallible_contract.specs.Laws.Passing.{lawful_passing}
use Rattle.fallible_contract.specs.Laws.Contract.{lawful_with_sound}
use Rattle.fallible_contract.specs.Laws.Ends.{lawful_ends_passing, lawful_ends_with_sound}
use Rattle.fallible_core.specs.Laws.Hints.Passing.{map_hold}
use Rattle.fallible_core.specs.OneToOne.Map.{map_outcome, map_contract}

pub lawful_map : {S F X B E : Type 0} {m : Contract S X E} (g : Mut F (X × Unit {0}) (Result B E)) → Lawful m → Lawful (map_contract m g)
lawful_map {m = m} g l = lawful_with_sound (map_hold (call_by_value g) l.hold) (lawful_passing (call_by_value g) (λ P f. IsCallable (call_by_value g) (takes_by_value g) P f) map_outcome (λ p h. m.hints p.0 h) (λ P Q f h weak reached c. is_callable_after weak reached c) l)

pub lawful_ends_map : {S F X B E : Type 0} {m : Contract S X E} {e : Ends S X E} (g : Mut F (X × Unit {0}) (Result B E)) → LawfulEnds m e → LawfulEnds (map_contract m g) (ends_of (map_contract (from_back m e) g))
lawful_ends_map {m = m} g l = lawful_ends_with_sound (map_hold (call_by_value g) l.front.hold) (map_hold (call_by_value g) l.back.hold) (lawful_ends_passing (call_by_value g) (λ P f. IsCallable (call_by_value g) (takes_by_value g) P f) map_outcome (λ p h. m.hints p.0 h) (λ P Q f h weak reached c. is_callable_after weak reached c) l)
