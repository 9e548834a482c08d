-- The clone of what the item points to, or its failure.
use Rattle.std.proofs.Common.{Ok, Err, refl}
use Rattle.fallible_core.proofs.one_to_one.cloned.ClonePassPassUnitRef.pass.Goals as goal

pub returns-in-Ok : goal.returns-in-Ok
returns-in-Ok g c = (Ok c.in-Ok.y, c.in-Ok.ensures.cases, refl)

pub returns-in-Err : goal.returns-in-Err
returns-in-Err g c = (Err c.from.result, (c.in-Err.ensures.cases, (_, c.from.ensures)), refl)
