-- The contract of `FilterMap` is lawful where the source's is.
use Rattle.std.specs.Prelude.{Option, Result}
use Rattle.std.specs.Fn.{Mut}
use Rattle.fallible_contract.specs.Contract.{Contract, Lawful}
use Rattle.fallible_contract.specs.Closures.{call_by_value, takes_by_value, IsCallable}
use Rattle.fallible_contract.specs.Laws.Closures.{is_callable_after}
use Rattle.fallible_contract.specs.Hints.{upper_alone}
use Rattle.fallible_contract.specs.Ends.{Ends, from_back, ends_of, LawfulEnds}
use Rattle.fallible_contract.specs.Laws.Passing.{lawful_leaving_out}
use Rattle.fallible_contract.specs.Laws.Contract.{lawful_with_sound}
use Rattle.fallible_contract.specs.Laws.Ends.{lawful_ends_leaving_out, lawful_ends_with_sound}
use Rattle.fallible_core.specs.Laws.Hints.Passing.{upper_alone_hold}
use Rattle.fallible_core.specs.Filtering.FilterMap.{filter_map_outcome, filter_map_contract}

pub lawful_filter_map : {S F X B E : Type 0} {m : Contract S X E} (g : Mut F (X × Unit {0}) (Result (Option B) E)) → Lawful m → Lawful (filter_map_contract m g)
lawful_filter_map {m = m} g l = lawful_with_sound (upper_alone_hold (call_by_value g) filter_map_outcome l.hold) (lawful_leaving_out (call_by_value g) (λ P f. IsCallable (call_by_value g) (takes_by_value g) P f) filter_map_outcome (λ p h. upper_alone m p.0 h) (λ P Q f h weak reached c. is_callable_after weak reached c) l)

pub lawful_ends_filter_map : {S F X B E : Type 0} {m : Contract S X E} {e : Ends S X E} (g : Mut F (X × Unit {0}) (Result (Option B) E)) → LawfulEnds m e → LawfulEnds (filter_map_contract m g) (ends_of (filter_map_contract (from_back m e) g))
lawful_ends_filter_map {m = m} g l = lawful_ends_with_sound (upper_alone_hold (call_by_value g) filter_map_outcome l.front.hold) (upper_alone_hold (call_by_value g) filter_map_outcome l.back.hold) (lawful_ends_leaving_out (call_by_value g) (λ P f. IsCallable (call_by_value g) (takes_by_value g) P f) filter_map_outcome (λ p h. upper_alone m p.0 h) (λ P Q f h weak reached c. is_callable_after weak reached c) l)
