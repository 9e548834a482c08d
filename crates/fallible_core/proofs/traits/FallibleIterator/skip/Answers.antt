-- What the source lists, without the first items.
use Rattle.std.proofs.Common.{refl}
use Rattle.fallible_core.proofs.Lemmas.Cutting.Skip.{lists_skipped}
use Rattle.fallible_core.proofs.traits.FallibleIterator.skip.Goals as goal

pub returns-clause-lists : goal.returns-clause-lists
returns-clause-lists g c l i = lists_skipped g.Self.FallibleIterator.contract _ c.args.n l refl i
