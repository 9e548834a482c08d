-- A fold over the two parts is one over the struct of them.
use Rattle.std.proofs.Common.{refl}
use Rattle.fallible_contract.proofs.Lemmas.Overriding.{drained_seen, holds_each_turn_seen}
use Rattle.fallible_core.specs.Joining.FlatMap.{flat_map_contract, flat_map_parts}
use Rattle.fallible_core.proofs.joining.flat_map.FlatMapFallibleIterator.drive.Goals as goal

pub drive_joined-requires-clause-callable : goal.drive_joined-requires-clause-callable
drive_joined-requires-clause-callable g c = holds_each_turn_seen flat_map_parts (λ s p. record { it = p.0; in_hand = p.1; made = s.made }) (λ s p. refl) (flat_map_contract g.I.FallibleIterator.contract g.F.FnMut g.U.IntoFallibleIterator.into_gives g.U.IntoFallibleIter.FallibleIterator.contract) c.requires.callable

pub returns : goal.returns
returns g c = drained_seen flat_map_parts (λ s p. record { it = p.0; in_hand = p.1; made = s.made }) (λ s p. refl) (flat_map_contract g.I.FallibleIterator.contract g.F.FnMut g.U.IntoFallibleIterator.into_gives g.U.IntoFallibleIter.FallibleIterator.contract) c.drive_joined.ensures
