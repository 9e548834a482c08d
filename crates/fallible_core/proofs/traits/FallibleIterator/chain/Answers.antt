-- What the first lists, and then what the second lists.
use Rattle.std.proofs.Common.{refl}
use Rattle.fallible_core.proofs.Lemmas.Joining.Chain.{lists_chained}
use Rattle.fallible_core.proofs.traits.FallibleIterator.chain.Goals as goal

pub returns-clause-lists : goal.returns-clause-lists
returns-clause-lists g c a b i k = lists_chained g.Self.FallibleIterator.contract g.I.IntoFallibleIter.FallibleIterator.contract _ _ a b refl i (k _ c.into_fallible_iter.ensures)
