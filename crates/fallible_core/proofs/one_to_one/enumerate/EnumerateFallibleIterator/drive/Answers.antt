-- The fold of its source, by each item's number.
use Rattle.fallible_contract.proofs.Lemmas.Folding.{holds_at_each_turn_of_held, drained_of_holder}
use Rattle.fallible_core.proofs.Lemmas.OneToOne.EnumerateFolds.{numbered_step_of_passing, holds_each_turn_numbered}
use Rattle.fallible_core.proofs.one_to_one.enumerate.EnumerateFallibleIterator.drive.Goals as goal

pub drive_passing-requires-clause-callable : goal.drive_passing-requires-clause-callable
drive_passing-requires-clause-callable g c = holds_each_turn_numbered g.met.I.FallibleIterator.lawful (g.K.Turn.turns c.args.turn.now) c.requires.can_next (holds_at_each_turn_of_held (λ p. record { it = p.0; count = p.1 }) (λ p x q step. numbered_step_of_passing p _ q step) c.requires.callable)

pub returns : goal.returns
returns g c = drained_of_holder (λ p. record { it = p.0; count = p.1 }) numbered_step_of_passing c.drive_passing.ensures
