-- The fold of its source.
use Rattle.fallible_contract.specs.Closures.{call_by_value}
use Rattle.fallible_contract.proofs.Lemmas.Folding.{holds_each_turn_of_source_fold, holds_at_each_turn_of_held, drained_of_holder}
use Rattle.fallible_core.specs.Filtering.FilterMap.{filter_map_outcome}
use Rattle.fallible_core.proofs.filtering.filter_map.FilterMapFallibleIterator.drive.Goals as goal

pub drive_passing-requires-clause-callable : goal.drive_passing-requires-clause-callable
drive_passing-requires-clause-callable g c = holds_each_turn_of_source_fold g.met.I.FallibleIterator.lawful (call_by_value g.F.FnMut) filter_map_outcome (g.K.Turn.turns c.args.turn.now) c.requires.can_next.1.0 c.requires.can_next.1.1 (holds_at_each_turn_of_held (λ p. record { it = p.0; f = p.1 }) (λ p x q step. step) c.requires.callable)

pub returns : goal.returns
returns g c = drained_of_holder (λ p. record { it = p.0; f = p.1 }) (λ p r q step. step) c.drive_passing.ensures
