-- What `collect` returned, sorted in place.
use Rattle.fallible_itertools.specs.Sorted.{HasItemsInOrder}
use Rattle.fallible_itertools.proofs.Lemmas.Contents.{contents_of_collected}
use Rattle.fallible_itertools.proofs.Lemmas.Sorted.{collected_where_sorted_in_place}
use Rattle.fallible_itertools.proofs.traits.FallibleItertools.sorted_unstable.Goals as goal

pub returns-clause-collects : goal.returns-clause-collects
returns-clause-collects g c = (_, c.collect.ensures.collects, c.items_in_order.ensures)

pub returns-clause-value : goal.returns-clause-value
returns-clause-value g c l i = collected_where_sorted_in_place (HasItemsInOrder g.Self.Item.Ord.cmp) (HasItemsInOrder g.Self.Item.Ord.cmp) (λ items v h. h) l _ _ c.items_in_order.ensures (c.collect.ensures.value l i)

pub returns-clause-contents : goal.returns-clause-contents
returns-clause-contents g c l i = contents_of_collected (HasItemsInOrder g.Self.Item.Ord.cmp) l _ (returns-clause-value g c l i)
