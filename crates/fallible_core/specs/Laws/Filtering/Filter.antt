-- The contract of `Filter` is lawful where the source's is.
use Rattle.std.specs.Prelude.{Result, Bool}
use Rattle.std.specs.Fn.{Mut}
use Rattle.std.specs.Borrow.{Bor}
use Rattle.fallible_contract.specs.Contract.{Contract, Lawful}
use Rattle.fallible_contract.specs.Closures.{call_by_reference, takes_by_reference, IsCallable}
use Rattle.fallible_contract.specs.Laws.Closures.{is_callable_after}
use Rattle.fallible_contract.specs.Hints.{upper_alone}
use Rattle.fallible_contract.specs.Ends.{Ends, from_back, ends_of, LawfulEnds}
use Rattle.fallible_contract.specs.Laws.Passing.{lawful_leaving_out}
use Rattle.fallible_contract.specs.Laws.Contract.{lawful_with_sound}
use Rattle.fallible_contract.specs.Laws.Ends.{lawful_ends_leaving_out, lawful_ends_with_sound}
use Rattle.fallible_core.specs.Laws.Hints.Passing.{upper_alone_hold}
use Rattle.fallible_core.specs.Filtering.Filter.{tested_outcome, filter_contract}

pub lawful_filter : {S F X E : Type 0} {m : Contract S X E} (g : Mut F (Bor X × Unit {0}) (Result Bool E)) → Lawful m → Lawful (filter_contract m g)
lawful_filter {m = m} g l = lawful_with_sound (upper_alone_hold (call_by_reference g) tested_outcome l.hold) (lawful_leaving_out (call_by_reference g) (λ P f. IsCallable (call_by_reference g) (takes_by_reference g) P f) tested_outcome (λ p h. upper_alone m p.0 h) (λ P Q f h weak reached c. is_callable_after weak reached c) l)

pub lawful_ends_filter : {S F X E : Type 0} {m : Contract S X E} {e : Ends S X E} (g : Mut F (Bor X × Unit {0}) (Result Bool E)) → LawfulEnds m e → LawfulEnds (filter_contract m g) (ends_of (filter_contract (from_back m e) g))
lawful_ends_filter {m = m} g l = lawful_ends_with_sound (upper_alone_hold (call_by_reference g) tested_outcome l.front.hold) (upper_alone_hold (call_by_reference g) tested_outcome l.back.hold) (lawful_ends_leaving_out (call_by_reference g) (λ P f. IsCallable (call_by_reference g) (takes_by_reference g) P f) tested_outcome (λ p h. upper_alone m p.0 h) (λ P Q f h weak reached c. is_callable_after weak reached c) l)
