-- The call on a reference to the item before the first false, and what its answer makes of the item.
use Rattle.std.proofs.Common.{true, false, Ok, Err, Some, refl}
use Rattle.fallible_core.proofs.filtering.skip_while.SkipWhileTestTestTuple2Bool.test.Goals as goal

pub returns-in-Ok-true : goal.returns-in-Ok-true
returns-in-Ok-true g c = (Some (Ok true), (c.if-state.false, record { shown = _; shows = refl; called = rw c.in-Ok-true.field-0-test at c.in-Ok-true.ensures }, c.if-state.false), refl)

pub returns-in-Ok-false : goal.returns-in-Ok-false
returns-in-Ok-false g c = (Some (Ok false), (c.if-state.false, record { shown = _; shows = refl; called = rw c.in-Ok-false.field-0-test at c.in-Ok-false.ensures }, refl), refl)

pub returns-in-Err : goal.returns-in-Err
returns-in-Err g c = (Some (Err c.in-Err.e), (c.if-state.false, record { shown = _; shows = refl; called = c.in-Err.ensures }, c.if-state.false), refl)
