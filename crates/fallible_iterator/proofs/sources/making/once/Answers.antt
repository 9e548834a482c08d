-- The one item.
use Rattle.std.proofs.Common.{refl}
use Rattle.fallible_iterator.proofs.Lemmas.Sources.Once.{lists_once}
use Rattle.fallible_iterator.proofs.sources.making.once.Goals as goal

pub returns-clause-lists : goal.returns-clause-lists
returns-clause-lists g c = lists_once _ c.args.value refl
