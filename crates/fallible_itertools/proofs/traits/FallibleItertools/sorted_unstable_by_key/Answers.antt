-- What `collect` returned, sorted in place by the keys.
use Rattle.fallible_iterator.proofs.Lemmas.Lists.Drawn.{collected_is_failure}
use Rattle.fallible_itertools.specs.Sorted.{HasItems, HasItemsInOrderByCalls, HasItemsInOrderByKey}
use Rattle.fallible_itertools.proofs.Lemmas.Contents.{made_of_collected_where_ok}
use Rattle.fallible_itertools.proofs.Lemmas.Sorted.{items_in_order_by_key_where_computes, collected_where_sorted_in_place}
use Rattle.fallible_itertools.proofs.traits.FallibleItertools.sorted_unstable_by_key.Goals as goal

pub returns-clause-collects : goal.returns-clause-collects
returns-clause-collects g c = (_, c.collect.ensures.collects, c.items_in_order_by_key.ensures)

pub returns-clause-value : goal.returns-clause-value
returns-clause-value g c key computes l i = collected_where_sorted_in_place (HasItemsInOrderByCalls g.F.FnMut g.K.Ord.cmp c.args.f) (HasItemsInOrderByKey key g.K.Ord.cmp) (items_in_order_by_key_where_computes g.F.FnMut g.K.Ord.cmp c.args.f key computes) l _ _ c.items_in_order_by_key.ensures (c.collect.ensures.value l i)

pub returns-clause-contents : goal.returns-clause-contents
returns-clause-contents g c key computes l i = made_of_collected_where_ok (HasItemsInOrderByKey key g.K.Ord.cmp) l _ (returns-clause-value g c key computes l i)

pub returns-clause-items : goal.returns-clause-items
returns-clause-items g c l i = collected_where_sorted_in_place (HasItemsInOrderByCalls g.F.FnMut g.K.Ord.cmp c.args.f) HasItems (λ items v h. h.same) l _ _ c.items_in_order_by_key.ensures (c.collect.ensures.value l i)

pub returns-clause-failure : goal.returns-clause-failure
returns-clause-failure g c l i e is = collected_is_failure HasItems l (returns-clause-items g c l i) is
