-- The call on a reference to the failure, which then is the answer.
use Rattle.std.proofs.Common.{refl}
use Rattle.fallible_itertools_adapters.proofs.failing.InspectErrFailFail.fail.Goals as goal

pub returns : goal.returns
returns g c = (record { shown = _; shows = refl; called = c.state.ensures }, refl)
