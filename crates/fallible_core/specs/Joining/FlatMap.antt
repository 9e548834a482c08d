-- `FlatMap`: the closure's results become inner iterators, whose answers are joined as `Flatten` joins them.
use Rattle.std.proofs.Common.{refl}
use Rattle.std.specs.Prelude.{Option, Result}
use Rattle.std.specs.Fn.{Mut}
use Rattle.fallible_contract.specs.Contract.{Inverse, Contract, parts_as}
use Rattle.fallible_core.specs.Joining.Flatten.{flatten_contract}
use Rattle.fallible_core.specs.OneToOne.Map.{map_source, map_closure, map_parts, map_contract}
use Rattle.fallible_core.specs.declared.joining.flat_map.FlatMap.{FlatMap}
use Rattle.fallible_core.specs.declared.one_to_one.map.Map.{Map}

-- `FlatMap`'s contract: that of a `Flatten` over the `Map` of the closure.
abbrev pub flat_map_contract : {S F X Y C B E : Type 0} → Contract S X E → Mut F (X × Unit {0}) (Result Y E) → (Y → C → Type 0) → Contract C B E → Contract (Map S F × Option C) B E
flat_map_contract m g into inner = flatten_contract (parts_as map_parts (map_contract m g)) into inner

module _ {I U F J : Type 0} where
  -- the `Map` of the closure over the source
  abbrev pub flat_map_mapped : FlatMap I U F J → Map I F
  flat_map_mapped s = s.it

  -- the source
  abbrev pub flat_map_source : FlatMap I U F J → I
  flat_map_source s = map_source (flat_map_mapped s)

  -- the closure
  abbrev pub flat_map_closure : FlatMap I U F J → F
  flat_map_closure s = map_closure (flat_map_mapped s)

  -- the current inner iterator
  abbrev pub flat_map_inner : FlatMap I U F J → Option J
  flat_map_inner s = s.in_hand

  -- the `Map` of the closure over the source, and the current inner iterator
  abbrev pub flat_map_parts : FlatMap I U F J → Map I F × Option J
  flat_map_parts s = (flat_map_mapped s, flat_map_inner s)

  -- and back
  pub flat_map_made : Inverse flat_map_parts
  flat_map_made = record { make = λ p. record { it = p.0; in_hand = p.1; made = record {} }; made = λ s. refl; has = λ p. refl }
