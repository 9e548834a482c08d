-- The call on a reference to the item, and what becomes of the item by its key.
use Rattle.std.specs.Prelude.{Ok, Err}
use Rattle.std.proofs.Common.{refl}
use Rattle.fallible_itertools_adapters.proofs.unique.KeyPassPassTuple2HashSet.pass.Goals as goal

pub returns-in-Ok : goal.returns-in-Ok
returns-in-Ok g c = (_, (Ok c.in-Ok.key, record { shown = _; shows = refl; called = c.in-Ok.ensures }, c.first_of_key.ensures), refl)

pub returns-in-Err : goal.returns-in-Err
returns-in-Err g c = (_, (Err c.in-Err.e, record { shown = _; shows = refl; called = c.in-Err.ensures }, (refl, refl)), refl)
