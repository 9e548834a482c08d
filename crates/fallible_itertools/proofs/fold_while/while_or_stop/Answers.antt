-- What the fold stops with, by each of its answers.
use Rattle.std.proofs.Common.{refl, Ok, Err}
use Rattle.fallible_itertools.proofs.fold_while.while_or_stop.Goals as goal

pub returns-in-Some : goal.returns-in-Some
returns-in-Some g c = (Ok c.in-Some.value, rw (c.in-Ok-None.is, c.in-Ok-None.field-0-is) (c.in-Some.value, c.in-Some.is, refl), refl)

pub returns-in-Ok-Some-Ok : goal.returns-in-Ok-Some-Ok
returns-in-Ok-Some-Ok g c = (Err (Ok c.in-Ok-Some-Ok.value), rw (c.in-Ok-Some-Ok.is, c.in-Ok-Some-Ok.field-0-is, c.in-Ok-Some-Ok.field-0-0-is) refl, refl)

pub returns-in-Ok-Some-Err : goal.returns-in-Ok-Some-Err
returns-in-Ok-Some-Err g c = (Err (Err c.in-Ok-Some-Err.e), rw (c.in-Ok-Some-Err.is, c.in-Ok-Some-Err.field-0-is, c.in-Ok-Some-Err.field-0-0-is) refl, refl)

pub returns : goal.returns
returns g c = (Err (Err c.in-Err.e), rw c.in-Err.is refl, refl)
