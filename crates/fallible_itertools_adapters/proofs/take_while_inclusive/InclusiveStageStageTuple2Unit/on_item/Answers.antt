-- The call on a reference to the item, and whether it rejected the item.
use Rattle.std.proofs.Common.{true, false, Ok, Err, refl}
use Rattle.fallible_itertools_adapters.proofs.take_while_inclusive.InclusiveStageStageTuple2Unit.on_item.Goals as goal

pub returns-in-Ok-true : goal.returns-in-Ok-true
returns-in-Ok-true g c = (Ok true, record { shown = _; shows = refl; called = rw c.in-Ok-true.field-0-test at c.in-Ok-true.ensures }, (c.one.ensures, refl))

pub returns-in-Ok-false : goal.returns-in-Ok-false
returns-in-Ok-false g c = (Ok false, record { shown = _; shows = refl; called = rw c.in-Ok-false.field-0-test at c.in-Ok-false.ensures }, (c.one_then.ensures, refl))

pub returns-in-Err : goal.returns-in-Err
returns-in-Err g c = (Err c.in-Err.e, record { shown = _; shows = refl; called = c.in-Err.ensures }, (c.one-in-Err.ensures, refl))
