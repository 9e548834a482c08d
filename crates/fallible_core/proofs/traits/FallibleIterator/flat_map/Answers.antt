-- The lists of the inner iterators that the closure makes, joined.
use Rattle.std.proofs.Common.{refl}
use Rattle.fallible_contract.specs.Contract.{parts_as}
use Rattle.fallible_core.specs.Joining.FlatMap.{flat_map_parts}
use Rattle.fallible_core.specs.OneToOne.Map.{map_parts, map_contract, mapped}
use Rattle.fallible_core.proofs.Lemmas.Joining.Flatten.{lists_flattened}
use Rattle.fallible_core.proofs.traits.FallibleIterator.flat_map.Goals as goal

pub returns-clause-lists : goal.returns-clause-lists
returns-clause-lists g c inner each h l acts i =
    lists_flattened _ g.U.IntoFallibleIter.FallibleIterator.contract inner (mapped h l) each flat_map_parts (parts_as map_parts (map_contract g.Self.FallibleIterator.contract g.F.FnMut)) _ _ refl (c.map.ensures.lists h l acts i)
