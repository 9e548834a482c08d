-- The fold of its source from the back.
use Rattle.fallible_contract.specs.Closures.{call_by_value}
use Rattle.fallible_contract.proofs.Lemmas.Folding.{holds_each_turn_of_source_fold, holds_at_each_turn_of_held, drained_of_holder}
use Rattle.fallible_core.specs.OneToOne.Map.{map_outcome}
use Rattle.fallible_core.proofs.one_to_one.map.MapDoubleEndedFallibleIterator.drive_back.Goals as goal

pub drive_back_passing-requires-clause-callable : goal.drive_back_passing-requires-clause-callable
drive_back_passing-requires-clause-callable g c = holds_each_turn_of_source_fold g.met.I.DoubleEndedFallibleIterator.lawful_ends.back (call_by_value g.F.FnMut) map_outcome (g.K.Turn.turns c.args.turn.now) c.requires.can_next.0 c.requires.can_next.1 (holds_at_each_turn_of_held (λ p. record { it = p.0; f = p.1 }) (λ p x q step. step) c.requires.callable)

pub returns : goal.returns
returns g c = drained_of_holder (λ p. record { it = p.0; f = p.1 }) (λ p r q step. step) c.drive_back_passing.ensures
