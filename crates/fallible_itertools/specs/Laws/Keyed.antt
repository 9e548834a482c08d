-- The contract of `Keyed` is lawful where the source's is.
use Rattle.std.specs.Prelude.{◌≡◌, Result, Ok, Err}
use Rattle.std.specs.Fn.{Mut}
use Rattle.std.specs.Borrow.{Bor}
use Rattle.std.proofs.Common.{refl}
use Rattle.fallible_iterator.specs.Contract.{Contract, Lawful}
use Rattle.fallible_iterator.specs.Closures.{call_by_reference, takes_by_reference, IsCallable}
use Rattle.fallible_iterator.specs.Laws.Closures.{is_callable_after}
use Rattle.fallible_iterator.specs.Laws.Contract.{lawful_with_sound}
use Rattle.fallible_iterator.specs.Laws.Hints.Passing.{one_of_one_hold}
use Rattle.fallible_iterator.specs.Laws.Passing.{lawful_passing}
use Rattle.fallible_iterator.specs.Passing.{LeavesNoneOut}
use Rattle.fallible_itertools.specs.Keyed.{keyed_contract, keyed_outcome}
use Rattle.fallible_iterator.specs.Outcome.TheVariants.{End}

-- each item makes one
pub leaves_none_out_keyed : {X K E : Type 0} → LeavesNoneOut {X = X} {B = K × X} {E = E} keyed_outcome
leaves_none_out_keyed x (Ok k) = refl
leaves_none_out_keyed x (Err e) = refl

keyed_never_end : {X K E : Type 0} (x : X) (v : Result K E) → keyed_outcome x v ≡ End → ⊥
keyed_never_end x (Ok k) is = absurd cc
keyed_never_end x (Err e) is = absurd cc

pub lawful_keyed : {S F X K E : Type 0} {m : Contract S X E} (g : Mut F (Bor X × Unit {0}) (Result K E)) → Lawful m → Lawful (keyed_contract m g)
lawful_keyed {m = m} g l = lawful_with_sound (one_of_one_hold (call_by_reference g) keyed_outcome l.hold leaves_none_out_keyed keyed_never_end) (lawful_passing (call_by_reference g) (λ P f. IsCallable (call_by_reference g) (takes_by_reference g) P f) keyed_outcome (λ p h. m.hints p.0 h) (λ P Q f h weak reached c. is_callable_after weak reached c) l)
