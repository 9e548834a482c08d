-- A fold of the source, and the call where it met a failure.
use Rattle.fallible_contract.proofs.Lemmas.FailingFolds.{fails_last_drive, drained_of_failing_step_by_source, holds_each_turn_of_source_by_failing, takes_failure_made}
use Rattle.fallible_core.proofs.failing.drive_failing.Goals as goal

pub drive-requires-clause-callable : goal.drive-requires-clause-callable
drive-requires-clause-callable g c = holds_each_turn_of_source_by_failing _ c.requires.callable

pub failed-requires : goal.failed-requires
failed-requires g c = takes_failure_made g.met.I.FallibleIterator.lawful (g.A.Fail.call c.args.adapter.now) (g.A.Fail.can_fail c.args.adapter.now) (fails_last_drive (g.K.Turn.turns c.args.turn.now) _ _) (c.requires.can_next, c.requires.takes) c.drive.ensures

pub returns : goal.returns
returns g c = drained_of_failing_step_by_source _ _ (fails_last_drive (g.K.Turn.turns c.args.turn.now) _ _) c.drive.ensures c.failed.ensures
