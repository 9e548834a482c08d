-- The contract of `FlatMap` is lawful where those of the source and of the inner iterators are.
use Rattle.std.specs.Prelude.{Result}
use Rattle.std.specs.Fn.{Mut}
use Rattle.fallible_contract.specs.Contract.{Contract, Lawful}
use Rattle.fallible_contract.specs.Laws.Contract.{lawful_parts}
use Rattle.fallible_core.specs.Joining.FlatMap.{flat_map_contract}
use Rattle.fallible_core.specs.OneToOne.Map.{map_made}
use Rattle.fallible_core.specs.Laws.Joining.Flatten.{lawful_flatten}
use Rattle.fallible_core.specs.Laws.OneToOne.Map.{lawful_map}

pub lawful_flat_map : {S F X Y C B E : Type 0} {m : Contract S X E} {inner : Contract C B E} (g : Mut F (X × Unit {0}) (Result Y E)) → Lawful m → (into : Y → C → Type 0) → Lawful inner → Lawful (flat_map_contract m g into inner)
lawful_flat_map g l into k = lawful_flatten _ (lawful_parts map_made (lawful_map g l)) into _ k
