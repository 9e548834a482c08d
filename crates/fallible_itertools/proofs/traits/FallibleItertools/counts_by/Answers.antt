-- What `counts` makes of the mapped iterator.
use Rattle.std.specs.Prelude.{◌^◌, ◌-◌}
use Rattle.std.proofs.Common.{subst, sym}
use Rattle.fallible_iterator.specs.Contract.{AtMost}
use Rattle.fallible_iterator.specs.OneToOne.Map.{map_parts, map_contract}
use Rattle.fallible_itertools.proofs.Lemmas.Partition.{collects_of_view_where_view_is_known}
use Rattle.fallible_itertools.proofs.traits.FallibleItertools.counts_by.Goals as goal

pub counts-requires-clause-can_next : goal.counts-requires-clause-can_next
counts-requires-clause-can_next g c = subst (map_contract g.Self.FallibleIterator.contract g.F.FnMut).can_next (sym c.map.ensures.parts) (c.requires.can_next, c.requires.callable)

pub counts-requires-clause-fits : goal.counts-requires-clause-fits
counts-requires-clause-fits g c = subst (λ p. AtMost (map_contract g.Self.FallibleIterator.contract g.F.FnMut) p (2 ^ 64 - 1)) (sym c.map.ensures.parts) c.requires.fits

pub returns-clause-collects : goal.returns-clause-collects
returns-clause-collects g c = collects_of_view_where_view_is_known map_parts (map_contract g.Self.FallibleIterator.contract g.F.FnMut).steps _ _ _ _ c.map.ensures.parts c.counts.result c.counts.ensures.collects

pub returns-clause-value : goal.returns-clause-value
returns-clause-value g c h l acts i = c.counts.ensures.value _ (c.map.ensures.lists h l acts i)

pub returns-clause-contents : goal.returns-clause-contents
returns-clause-contents g c h l acts i = c.counts.ensures.contents _ (c.map.ensures.lists h l acts i)
