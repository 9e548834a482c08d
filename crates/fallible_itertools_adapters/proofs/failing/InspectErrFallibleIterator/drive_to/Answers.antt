-- What the source makes of the goal, and the call where it met a failure.
use Rattle.fallible_iterator.specs.Closures.{takes_by_reference}
use Rattle.fallible_iterator.specs.Goals.{goal_turns}
use Rattle.fallible_iterator.proofs.Lemmas.FailingFolds.{fails_last_drive, drained_of_failing_step_by_source, takes_failure_made}
use Rattle.fallible_iterator.proofs.Lemmas.Folding.{drained_of_holder}
use Rattle.fallible_itertools_adapters.specs.Failing.{seen_call}
use Rattle.fallible_itertools_adapters.proofs.failing.InspectErrFallibleIterator.drive_to.Goals as goal

pub failed-requires : goal.failed-requires
failed-requires g c = takes_failure_made g.met.I.FallibleIterator.lawful (seen_call g.F.FnMut) (takes_by_reference g.F.FnMut) (fails_last_drive goal_turns _ _) c.requires.can_next c.drive_to.ensures

pub returns : goal.returns
returns g c = drained_of_holder (λ p. record { it = p.0; f = p.1 }) (λ p r q step. step) (drained_of_failing_step_by_source _ _ (fails_last_drive goal_turns _ _) c.drive_to.ensures c.failed.ensures)
