-- What the source makes of the goal, and the conversion where it met a failure.
use Rattle.fallible_iterator.specs.Goals.{goal_turns}
use Rattle.fallible_iterator.proofs.Lemmas.FailingFolds.{fails_last_drive, drained_of_failing_step_by_source}
use Rattle.fallible_iterator.proofs.Lemmas.Folding.{drained_of_holder}
use Rattle.fallible_itertools_adapters.proofs.Lemmas.Failing.{takes_each_failure}
use Rattle.fallible_itertools_adapters.proofs.failing.ErrIntoFallibleIterator.drive_to.Goals as goal

pub failed-requires : goal.failed-requires
failed-requires g c = takes_each_failure _ _

pub returns : goal.returns
returns g c = drained_of_holder (λ p. record { it = p.0; made = record {} }) (λ p r q step. step) (drained_of_failing_step_by_source _ _ (fails_last_drive goal_turns _ _) c.drive_to.ensures c.failed.ensures)
