-- What the source lists.
use Rattle.std.proofs.Common.{refl}
use Rattle.fallible_core.proofs.Lemmas.Peeking.Peekable.{lists_peekable}
use Rattle.fallible_core.proofs.traits.FallibleIterator.peekable.Goals as goal

pub returns-clause-lists : goal.returns-clause-lists
returns-clause-lists g c l i = lists_peekable g.Self.FallibleIterator.contract _ l refl i
