-- What the source lists, each item beside its number.
use Rattle.std.proofs.Common.{refl}
use Rattle.fallible_core.proofs.Lemmas.OneToOne.Enumerate.{lists_numbered}
use Rattle.fallible_core.proofs.traits.FallibleIterator.enumerate.Goals as goal

pub returns-clause-lists : goal.returns-clause-lists
returns-clause-lists g c l i = lists_numbered g.Self.FallibleIterator.contract _ 0 l refl i
