-- The call on a reference to the item, and what becomes of the item.
use Rattle.std.proofs.Common.{Ok, Err, refl}
use Rattle.fallible_itertools.proofs.keyed.KeyPassPass.pass.Goals as goal

pub returns-in-Ok : goal.returns-in-Ok
returns-in-Ok g c = (Ok c.in-Ok.key, record { shown = _; shows = refl; called = c.in-Ok.ensures }, refl)

pub returns-in-Err : goal.returns-in-Err
returns-in-Err g c = (Err c.in-Err.e, record { shown = _; shows = refl; called = c.in-Err.ensures }, refl)
