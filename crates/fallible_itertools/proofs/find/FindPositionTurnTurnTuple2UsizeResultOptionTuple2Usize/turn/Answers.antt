-- What the predicate returns decides.
use Rattle.std.proofs.Common.{refl}
use Rattle.fallible_itertools.proofs.find.FindPositionTurnTurnTuple2UsizeResultOptionTuple2Usize.turn.Goals as goal

pub returns-in-Ok-true : goal.returns-in-Ok-true
returns-in-Ok-true g c = (c.in-Ok-true.field-0, record { shown = _; shows = refl; called = c.in-Ok-true.ensures }, (let t = c.in-Ok-true.field-0-test in cc))

pub returns-in-Ok-false : goal.returns-in-Ok-false
returns-in-Ok-false g c = (refl, (c.in-Ok-false.field-0, record { shown = _; shows = refl; called = c.in-Ok-false.ensures }, λ n. (let t = c.in-Ok-false.field-0-test in cc)))
