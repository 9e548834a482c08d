-- What `collect` returned, sorted by the keys.
use Rattle.fallible_iterator.proofs.Lemmas.Lists.Drawn.{collected_is_failure}
use Rattle.fallible_itertools.specs.Sorted.{HasItems, IsSortedByCalls, IsSortedByKeyOf}
use Rattle.fallible_itertools.proofs.Lemmas.Sorted.{has_items_where_sorted_by_calls, sorted_of_collected, sorted_by_key_where_computes_key}
use Rattle.fallible_itertools.proofs.Lemmas.Contents.{made_of_collected_where_ok}
use Rattle.fallible_itertools.proofs.traits.FallibleItertools.sorted_by_key.Goals as goal

pub returns-clause-collects : goal.returns-clause-collects
returns-clause-collects g c = (_, c.collect.ensures.collects, c.sorted_items_by_key.ensures)

pub returns-clause-value : goal.returns-clause-value
returns-clause-value g c key computes l i = sorted_of_collected (IsSortedByKeyOf key g.K.Ord.cmp) l _ _ (sorted_by_key_where_computes_key g.F.FnMut g.K.Ord.cmp c.args.f key computes _ _ c.sorted_items_by_key.ensures) (c.collect.ensures.value l i)

pub returns-clause-contents : goal.returns-clause-contents
returns-clause-contents g c key computes l i = made_of_collected_where_ok (IsSortedByKeyOf key g.K.Ord.cmp) l _ (returns-clause-value g c key computes l i)

pub returns-clause-failure : goal.returns-clause-failure
returns-clause-failure g c l i e is = collected_is_failure (IsSortedByCalls g.F.FnMut g.K.Ord.cmp c.args.f) l (sorted_of_collected (IsSortedByCalls g.F.FnMut g.K.Ord.cmp c.args.f) l _ _ c.sorted_items_by_key.ensures (c.collect.ensures.value l i)) is

pub returns-clause-items : goal.returns-clause-items
returns-clause-items g c l i = sorted_of_collected HasItems l _ _ (has_items_where_sorted_by_calls g.F.FnMut g.K.Ord.cmp c.args.f _ _ c.sorted_items_by_key.ensures) (c.collect.ensures.value l i)
