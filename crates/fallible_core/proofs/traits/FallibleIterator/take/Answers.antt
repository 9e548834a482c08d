-- What the source lists or repeats, up to the last item that is taken.
use Rattle.std.proofs.Common.{refl}
use Rattle.fallible_core.proofs.Lemmas.Cutting.Take.{lists_taken, lists_repeated}
use Rattle.fallible_core.proofs.traits.FallibleIterator.take.Goals as goal

pub returns-clause-lists : goal.returns-clause-lists
returns-clause-lists g c l i = lists_taken g.Self.FallibleIterator.contract _ c.args.n l refl i

pub returns-clause-repeats : goal.returns-clause-repeats
returns-clause-repeats g c x p = lists_repeated g.Self.FallibleIterator.contract _ c.args.n x refl p
