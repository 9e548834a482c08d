-- What `collect` makes of the mapped iterator.
use Rattle.std.proofs.Common.{subst, sym}
use Rattle.fallible_iterator.specs.OneToOne.Map.{map_parts, map_contract}
use Rattle.fallible_itertools.proofs.Lemmas.Contents.{contents_of_collected}
use Rattle.fallible_itertools.proofs.Lemmas.Partition.{collects_of_view_where_view_is_known}
use Rattle.fallible_itertools.proofs.traits.FallibleItertools.partition_map.Goals as goal

pub collect-requires-clause-can_next : goal.collect-requires-clause-can_next
collect-requires-clause-can_next g c = subst (map_contract g.Self.FallibleIterator.contract g.F.FnMut).can_next (sym c.map.ensures.parts) (c.requires.can_next, c.requires.callable)

pub returns-clause-collects : goal.returns-clause-collects
returns-clause-collects g c = collects_of_view_where_view_is_known map_parts (map_contract g.Self.FallibleIterator.contract g.F.FnMut).steps _ _ _ _ c.map.ensures.parts c.collect.result c.collect.ensures.collects

pub returns-clause-value : goal.returns-clause-value
returns-clause-value g c h l acts i = c.collect.ensures.value _ (c.map.ensures.lists h l acts i)

pub returns-clause-contents : goal.returns-clause-contents
returns-clause-contents g c h l acts i = contents_of_collected _ _ _ (returns-clause-value g c h l acts i)
