-- A count is the source's fold, which adds one for each item that is kept; the others are its own fold.
use Rattle.std.proofs.Common.{refl}
use Rattle.fallible_contract.specs.Closures.{call_by_reference}
use Rattle.fallible_contract.specs.Folds.{IsNthTurn}
use Rattle.fallible_contract.specs.Goals.{goal_turns, IsCountTurn, IsLastTurn}
use Rattle.fallible_contract.specs.Laws.Contract.{lawful_parts}
use Rattle.fallible_contract.proofs.Lemmas.Folds.{holds_each_turn_by_implication, holds_each_turn_below_from}
use Rattle.fallible_contract.proofs.Lemmas.Folding.{holds_each_turn_of_source_fold, holds_at_each_turn_of_held, drained_of_holder}
use Rattle.fallible_contract.proofs.Lemmas.Goals.{driven_of_own, ended_over, failed_over}
use Rattle.fallible_core.specs.Filtering.Filter.{tested_outcome, filter_made}
use Rattle.fallible_core.specs.Laws.Filtering.Filter.{lawful_filter}
use Rattle.std.specs.declared.convert.Infallible.{Infallible}
use Rattle.fallible_contract.specs.declared.goals.Goal.TheVariants.{Count, Last, Nth}
use Rattle.fallible_core.proofs.filtering.filter.FilterFallibleIterator.drive_to.Goals as goal

pub drive_count_passing-requires-clause-callable : goal.drive_count_passing-requires-clause-callable
drive_count_passing-requires-clause-callable g c = holds_each_turn_of_source_fold g.met.I.FallibleIterator.lawful (call_by_reference g.F.FnMut) tested_outcome (IsCountTurn {R = Infallible}) c.requires.can_next.1.0 c.requires.can_next.1.1
    (holds_at_each_turn_of_held (λ p. record { it = p.0; f = p.1 }) (λ p x q step. step) (holds_each_turn_by_implication (λ n x k h. h.1) (λ n x h. h) (holds_each_turn_below_from _ _ (lawful_parts filter_made (lawful_filter g.F.FnMut g.met.I.FallibleIterator.lawful)) c.requires.can_next (rw c.in-Count.is at c.requires.reachable))))

pub returns-in-Ok-None : goal.returns-in-Ok-None
returns-in-Ok-None g c = rw c.in-Count.is (ended_over Count goal_turns IsCountTurn (λ n x k w. (k, (refl, w.1), refl)) (drained_of_holder (λ p. record { it = p.0; f = p.1 }) (λ p r q step. step) (rw c.in-Ok-None.field-0-is at c.in-Ok-None.ensures)))

pub returns-in-Err : goal.returns-in-Err
returns-in-Err g c = rw c.in-Count.is (failed_over Count goal_turns IsCountTurn (λ n x k w. (k, (refl, w.1), refl)) (drained_of_holder (λ p. record { it = p.0; f = p.1 }) (λ p r q step. step) c.in-Err.ensures))

pub returns-in-Ok-None-drive : goal.returns-in-Ok-None-drive
returns-in-Ok-None-drive g c = rw c.in-Last.is (ended_over Last goal_turns IsLastTurn (λ p x q w. (q, (refl, w.1), refl)) (rw c.in-Ok-None-drive.field-0-is at c.in-Ok-None-drive.ensures))

pub returns-in-Err-drive : goal.returns-in-Err-drive
returns-in-Err-drive g c = rw c.in-Last.is (failed_over Last goal_turns IsLastTurn (λ p x q w. (q, (refl, w.1), refl)) c.in-Err-drive.ensures)

pub returns-in-Nth : goal.returns-in-Nth
returns-in-Nth g c = rw c.in-Nth.is (driven_of_own Nth goal_turns IsNthTurn (λ p x r q w. (q, w, refl)) c.drive-in-Nth.ensures)
