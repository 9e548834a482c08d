-- The one failure.
use Rattle.std.proofs.Common.{refl}
use Rattle.fallible_iterator.proofs.Lemmas.Sources.Once.{lists_once_err}
use Rattle.fallible_iterator.proofs.sources.making.once_err.Goals as goal

pub returns-clause-lists : goal.returns-clause-lists
returns-clause-lists g c = lists_once_err _ c.args.error refl
