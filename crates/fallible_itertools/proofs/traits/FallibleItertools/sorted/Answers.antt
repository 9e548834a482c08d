-- What `collect` returned, sorted.
use Rattle.fallible_itertools.specs.Sorted.{IsSortedOf}
use Rattle.fallible_itertools.proofs.Lemmas.Contents.{contents_of_collected}
use Rattle.fallible_itertools.proofs.Lemmas.Sorted.{sorted_of_collected}
use Rattle.fallible_itertools.proofs.traits.FallibleItertools.sorted.Goals as goal

pub returns-clause-collects : goal.returns-clause-collects
returns-clause-collects g c = (_, c.collect.ensures.collects, c.sorted_items.ensures)

pub returns-clause-value : goal.returns-clause-value
returns-clause-value g c l i = sorted_of_collected (IsSortedOf g.Self.Item.Ord.cmp) l _ _ c.sorted_items.ensures (c.collect.ensures.value l i)

pub returns-clause-contents : goal.returns-clause-contents
returns-clause-contents g c l i = contents_of_collected (IsSortedOf g.Self.Item.Ord.cmp) l _ (returns-clause-value g c l i)
