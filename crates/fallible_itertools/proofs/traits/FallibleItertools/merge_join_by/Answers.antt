-- What both sides list, joined in order.
use Rattle.std.specs.Prelude.{◌+◌}
use Rattle.std.proofs.Common.{sym, subst, inr, arith}
use Rattle.fallible_iterator.specs.Contract.{AtMost}
use Rattle.fallible_iterator.specs.Cutting.Fuse.{fuse_contract, fuse_source}
use Rattle.fallible_itertools_joins.specs.Merge.{merge_join_by_contract}
use Rattle.fallible_itertools_joins.specs.Sides.{fused_contract}
use Rattle.fallible_iterator.proofs.Lemmas.Lists.ForGood.{lists_once}
use Rattle.fallible_itertools_joins.proofs.Lemmas.Merge.{lists_for_good_merge_joined}
use Rattle.fallible_itertools.proofs.traits.FallibleItertools.merge_join_by.Goals as goal

pub returns-clause-lists : goal.returns-clause-lists
returns-clause-lists g c h acts a b i k = lists_once _ (lists_for_good_merge_joined g.Self.FallibleIterator.contract g.I.IntoFallibleIter.FallibleIterator.contract g.F.FnMut _ _ _ _ h a b c.new.ensures c.fuse.ensures.parts c.fuse-2.ensures.parts acts i (k _ c.into_fallible_iter.ensures))

pub returns-clause-for_good : goal.returns-clause-for_good
returns-clause-for_good g c h acts a b i k = lists_for_good_merge_joined g.Self.FallibleIterator.contract g.I.IntoFallibleIter.FallibleIterator.contract g.F.FnMut _ _ _ _ h a b c.new.ensures c.fuse.ensures.parts c.fuse-2.ensures.parts acts i (k _ c.into_fallible_iter.ensures)

pub returns-clause-bounded : goal.returns-clause-bounded
returns-clause-bounded g c a b k x y le = subst (λ s. AtMost (merge_join_by_contract (fused_contract g.Self.FallibleIterator.contract) (fused_contract g.I.IntoFallibleIter.FallibleIterator.contract) g.F.FnMut) s k) (sym c.new.ensures) (inr (a + b, (a, b, subst (λ p. (fuse_contract g.Self.FallibleIterator.contract).bound p a) (sym c.fuse.ensures.parts) x, subst (λ s. g.I.IntoFallibleIter.FallibleIterator.contract.bound (fuse_source s.1) b) c.new.ensures y, omega arith), le))
