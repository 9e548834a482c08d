-- What `collect` returned, sorted by the closure.
use Rattle.fallible_iterator.proofs.Lemmas.Lists.Drawn.{collected_is_failure}
use Rattle.fallible_itertools.specs.Sorted.{HasItems, IsSortedByComparisons, IsSortedByTest}
use Rattle.fallible_itertools.proofs.Lemmas.Sorted.{has_items_where_sorted_by_comparisons, sorted_of_collected, sorted_by_test_where_compares}
use Rattle.fallible_itertools.proofs.Lemmas.Contents.{made_of_collected_where_ok}
use Rattle.fallible_itertools.proofs.traits.FallibleItertools.sorted_by.Goals as goal

pub returns-clause-collects : goal.returns-clause-collects
returns-clause-collects g c = (_, c.collect.ensures.collects, c.sorted_items_by.ensures)

pub returns-clause-value : goal.returns-clause-value
returns-clause-value g c lt orders compares l i = sorted_of_collected (IsSortedByTest lt) l _ _ (sorted_by_test_where_compares g.F.FnMut c.args.f lt orders compares _ _ c.sorted_items_by.ensures) (c.collect.ensures.value l i)

pub returns-clause-contents : goal.returns-clause-contents
returns-clause-contents g c lt orders compares l i = made_of_collected_where_ok (IsSortedByTest lt) l _ (returns-clause-value g c lt orders compares l i)

pub returns-clause-failure : goal.returns-clause-failure
returns-clause-failure g c l i e is = collected_is_failure (IsSortedByComparisons g.F.FnMut c.args.f) l (sorted_of_collected (IsSortedByComparisons g.F.FnMut c.args.f) l _ _ c.sorted_items_by.ensures (c.collect.ensures.value l i)) is

pub returns-clause-items : goal.returns-clause-items
returns-clause-items g c l i = sorted_of_collected HasItems l _ _ (has_items_where_sorted_by_comparisons g.F.FnMut c.args.f _ _ c.sorted_items_by.ensures) (c.collect.ensures.value l i)
