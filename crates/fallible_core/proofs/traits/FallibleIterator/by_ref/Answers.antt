-- What the one that the reference points to lists.
use Rattle.fallible_core.proofs.Lemmas.Borrowed.{lists_borrowed}
use Rattle.fallible_core.proofs.traits.FallibleIterator.by_ref.Goals as goal

pub returns-clause-lists : goal.returns-clause-lists
returns-clause-lists g c l i = lists_borrowed g.Self.FallibleIterator.contract _ l i
