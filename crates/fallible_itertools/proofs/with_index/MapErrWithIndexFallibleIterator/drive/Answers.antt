-- The fold of its source, which counts, and the call on the failure that it met.
use Rattle.std.specs.Prelude.{⊤}
use Rattle.fallible_iterator.proofs.Lemmas.FailingFolds.{fails_last_drive, drained_of_failing_step_by_source, takes_failure_made}
use Rattle.fallible_iterator.proofs.Lemmas.Folding.{takes_where_always_callable, holds_at_each_turn_of_held, drained_of_holder}
use Rattle.fallible_itertools.specs.WithIndex.{count_call, count_outcome, index_call, index_takes}
use Rattle.fallible_itertools.specs.Laws.WithIndex.{lawful_indexed}
use Rattle.fallible_itertools.proofs.Lemmas.WithIndex.{holds_each_turn_counted, drained_indexed}
use Rattle.fallible_itertools.proofs.with_index.MapErrWithIndexFallibleIterator.drive.Goals as goal

pub drive_passing-met-requires-clause-callable : goal.drive_passing-met-requires-clause-callable
drive_passing-met-requires-clause-callable g c = takes_where_always_callable count_call count_outcome (g.K.Turn.turns c.args.turn.now) {pre = λ _ _. ⊤} (λ n x. tt) (holds_each_turn_counted c.args.self.now.f (holds_at_each_turn_of_held (λ p. record { it = p.0.0; index = p.0.1; f = p.1 }) (λ p x q step. step) c.requires.callable))

pub failed-requires : goal.failed-requires
failed-requires g c = takes_failure_made (lawful_indexed g.met.I.FallibleIterator.lawful) (index_call g.F.FnMut) (index_takes g.F.FnMut) (fails_last_drive (g.K.Turn.turns c.args.turn.now) _ _) c.requires.can_next (drained_indexed _ (fails_last_drive (g.K.Turn.turns c.args.turn.now) _ _) c.drive_passing-met.ensures c.failed-beside.ensures)

pub returns : goal.returns
returns g c = drained_of_holder (λ p. record { it = p.0.0; index = p.0.1; f = p.1 }) (λ p r q step. step) (drained_of_failing_step_by_source _ _ (fails_last_drive (g.K.Turn.turns c.args.turn.now) _ _) (drained_indexed _ (fails_last_drive (g.K.Turn.turns c.args.turn.now) _ _) c.drive_passing-met.ensures c.failed-beside.ensures) c.failed.ensures)
