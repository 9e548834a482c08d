-- The pairs of what both sides list.
use Rattle.std.proofs.Common.{refl}
use Rattle.fallible_contract.specs.Lists.{items}
use Rattle.fallible_core.proofs.Lemmas.Joining.Zip.{lists_zipped, no_failure_at_end_in_items}
use Rattle.fallible_core.proofs.traits.FallibleIterator.zip.Goals as goal

pub returns-clause-lists : goal.returns-clause-lists
returns-clause-lists g c a b i k clear = lists_zipped g.Self.FallibleIterator.contract g.I.IntoFallibleIter.FallibleIterator.contract _ _ a b refl clear i (k _ c.into_fallible_iter.ensures)

pub returns-clause-items : goal.returns-clause-items
returns-clause-items g c a i b k = lists_zipped g.Self.FallibleIterator.contract g.I.IntoFallibleIter.FallibleIterator.contract _ _ a (items b) refl (no_failure_at_end_in_items a b) i (k _ c.into_fallible_iter.ensures)
