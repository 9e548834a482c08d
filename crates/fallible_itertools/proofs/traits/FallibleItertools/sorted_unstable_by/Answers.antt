-- What `collect` returned, sorted in place by the closure.
use Rattle.fallible_iterator.proofs.Lemmas.Lists.Drawn.{collected_is_failure}
use Rattle.fallible_itertools.specs.Sorted.{HasItems, HasItemsInOrderByComparisons, HasItemsInOrderByTest}
use Rattle.fallible_itertools.proofs.Lemmas.Contents.{made_of_collected_where_ok}
use Rattle.fallible_itertools.proofs.Lemmas.Sorted.{items_in_order_by_test_where_compares, collected_where_sorted_in_place}
use Rattle.fallible_itertools.proofs.traits.FallibleItertools.sorted_unstable_by.Goals as goal

pub returns-clause-collects : goal.returns-clause-collects
returns-clause-collects g c = (_, c.collect.ensures.collects, c.items_in_order_by.ensures)

pub returns-clause-value : goal.returns-clause-value
returns-clause-value g c lt orders compares l i = collected_where_sorted_in_place (HasItemsInOrderByComparisons g.F.FnMut c.args.f) (HasItemsInOrderByTest lt) (items_in_order_by_test_where_compares g.F.FnMut c.args.f lt orders compares) l _ _ c.items_in_order_by.ensures (c.collect.ensures.value l i)

pub returns-clause-contents : goal.returns-clause-contents
returns-clause-contents g c lt orders compares l i = made_of_collected_where_ok (HasItemsInOrderByTest lt) l _ (returns-clause-value g c lt orders compares l i)

pub returns-clause-items : goal.returns-clause-items
returns-clause-items g c l i = collected_where_sorted_in_place (HasItemsInOrderByComparisons g.F.FnMut c.args.f) HasItems (λ items v h. h.same) l _ _ c.items_in_order_by.ensures (c.collect.ensures.value l i)

pub returns-clause-failure : goal.returns-clause-failure
returns-clause-failure g c l i e is = collected_is_failure HasItems l (returns-clause-items g c l i) is
