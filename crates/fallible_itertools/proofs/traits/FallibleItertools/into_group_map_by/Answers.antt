-- What `into_group_map` makes of the items paired with their keys.
use Rattle.std.proofs.Common.{refl}
use Rattle.fallible_itertools.specs.Keyed.{keyed_parts, keyed_contract}
use Rattle.fallible_itertools.proofs.Lemmas.Keyed.{lists_keyed}
use Rattle.fallible_itertools.proofs.Lemmas.Partition.{collects_of_view_where_view_is_known}
use Rattle.fallible_itertools.proofs.traits.FallibleItertools.into_group_map_by.Goals as goal

pub returns-clause-collects : goal.returns-clause-collects
returns-clause-collects g c = collects_of_view_where_view_is_known keyed_parts (keyed_contract g.Self.FallibleIterator.contract g.F.FnMut).steps _ _ _ _ refl c.into_group_map.result c.into_group_map.ensures.collects

pub returns-clause-value : goal.returns-clause-value
returns-clause-value g c h l acts i = c.into_group_map.ensures.value _ (lists_keyed g.Self.FallibleIterator.contract g.F.FnMut _ h l acts i)

pub returns-clause-contents : goal.returns-clause-contents
returns-clause-contents g c h l acts i = c.into_group_map.ensures.contents _ (lists_keyed g.Self.FallibleIterator.contract g.F.FnMut _ h l acts i)
