-- The call on the state and the item.
use Rattle.std.proofs.Common.{Ok, Err, Some, None, refl}
use Rattle.fallible_core.proofs.one_to_one.scan.ScanPassPassTuple2.pass.Goals as goal

pub returns-in-Ok-Some : goal.returns-in-Ok-Some
returns-in-Ok-Some g c = (Ok (Some _), record { shown = _; shows = refl; left = _; called = rw c.in-Ok-Some.field-0-is at c.in-Ok-Some.ensures; leaves = refl }, refl)

pub returns-in-Ok-None : goal.returns-in-Ok-None
returns-in-Ok-None g c = (Ok None, record { shown = _; shows = refl; left = _; called = rw c.in-Ok-None.field-0-is at c.in-Ok-None.ensures; leaves = refl }, refl)

pub returns-in-Err : goal.returns-in-Err
returns-in-Err g c = (Err _, record { shown = _; shows = refl; left = _; called = c.in-Err.ensures; leaves = refl }, refl)
