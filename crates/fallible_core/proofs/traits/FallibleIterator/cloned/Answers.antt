-- What the items of the source's list point to, where clones equal their originals; and clones of it, until one fails.
use Rattle.fallible_core.proofs.Lemmas.OneToOne.Cloned.{lists_pointed_to, lists_pointed_to_until_refused}
use Rattle.fallible_core.proofs.traits.FallibleIterator.cloned.Goals as goal

pub returns-clause-lists : goal.returns-clause-lists
returns-clause-lists g c l i equal infallible = lists_pointed_to g.T.Clone.is_clone g.T.Clone.is_infallible g.Self.Error.From.from_gives equal infallible g.Self.FallibleIterator.contract _ l i

pub returns-clause-until_refused : goal.returns-clause-until_refused
returns-clause-until_refused g c l i = lists_pointed_to_until_refused g.T.Clone.is_clone g.T.Clone.is_infallible g.Self.Error.From.from_gives g.Self.FallibleIterator.contract _ l i
