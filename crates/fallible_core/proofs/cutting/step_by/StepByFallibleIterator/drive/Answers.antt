-- The fold of its source, which counts down the items that are left out.
use Rattle.fallible_contract.proofs.Lemmas.Folding.{holds_at_each_turn_of_held, drained_of_holder, takes_where_always_callable}
use Rattle.fallible_core.specs.Cutting.StepBy.{count_call, count_outcome, count_takes}
use Rattle.fallible_core.proofs.Lemmas.Cutting.StepByFolds.{step_by_step_of_draw}
use Rattle.fallible_core.proofs.cutting.step_by.StepByFallibleIterator.drive.Goals as goal

pub drive_passing-requires-clause-callable : goal.drive_passing-requires-clause-callable
drive_passing-requires-clause-callable g c = takes_where_always_callable (count_call c.args.self.now.between) count_outcome (g.K.Turn.turns c.args.turn.now) {pre = count_takes} (λ n x. tt) (holds_at_each_turn_of_held (λ p. record { it = p.0; between = c.args.self.now.between; to_skip = p.1 }) (λ p x q step. step_by_step_of_draw c.args.self.now.between p _ q step) c.requires.callable)

pub returns : goal.returns
returns g c = drained_of_holder (λ p. record { it = p.0; between = c.args.self.now.between; to_skip = p.1 }) (step_by_step_of_draw c.args.self.now.between) c.drive_passing.ensures
