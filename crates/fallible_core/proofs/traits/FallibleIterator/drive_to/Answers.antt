-- A count and a last item are one fold; an `nth` skips one by one.
use Rattle.std.proofs.Common.{refl, arith}
use Rattle.fallible_contract.specs.Folds.{IsNthTurn}
use Rattle.fallible_contract.proofs.Lemmas.Folds.{driven_by_item_first, driven_end, driven_failure, holds_each_turn_by_implication, holds_each_turn_below_from}
use Rattle.fallible_contract.specs.Goals.{goal_turns, IsCountTurn, IsLastTurn}
use Rattle.fallible_contract.specs.declared.goals.Goal.TheVariants.{Count, Last, Nth}
use Rattle.fallible_contract.proofs.Lemmas.Goals.{driven_of_own, ended_over, failed_over, nth_driven_where_none_left}
use Rattle.fallible_core.proofs.traits.FallibleIterator.drive_to.Goals as goal

pub drive-requires-clause-callable : goal.drive-requires-clause-callable
drive-requires-clause-callable g c = holds_each_turn_by_implication (λ n x k h. h.1) (λ n x h. h) (holds_each_turn_below_from _ _ g.met.Self.FallibleIterator.lawful c.requires.can_next (rw c.in-Count.is at c.requires.reachable))

pub returns-in-Ok-None : goal.returns-in-Ok-None
returns-in-Ok-None g c = rw c.in-Count.is (ended_over Count goal_turns IsCountTurn (λ p x q w. (q, (refl, w.1), refl)) (rw c.in-Ok-None.field-0-is at c.in-Ok-None.ensures))

pub returns-in-Err : goal.returns-in-Err
returns-in-Err g c = rw c.in-Count.is (failed_over Count goal_turns IsCountTurn (λ p x q w. (q, (refl, w.1), refl)) c.in-Err.ensures)

pub returns-in-Ok-None-drive : goal.returns-in-Ok-None-drive
returns-in-Ok-None-drive g c = rw c.in-Last.is (ended_over Last goal_turns IsLastTurn (λ p x q w. (q, (refl, w.1), refl)) (rw c.in-Ok-None-drive.field-0-is at c.in-Ok-None-drive.ensures))

pub returns-in-Err-drive : goal.returns-in-Err-drive
returns-in-Err-drive g c = rw c.in-Last.is (failed_over Last goal_turns IsLastTurn (λ p x q w. (q, (refl, w.1), refl)) c.in-Err-drive.ensures)

pub loop-left-init : goal.loop-left-init
loop-left-init g c = record { whole = λ r t k h. h; can_next = c.requires.can_next }

pub loop-left-preserved : goal.loop-left-preserved
loop-left-preserved g c = let i = c.loop-left.invariant in let step = rw c.in-Ok-Some-next.field-0-is at c.in-Ok-Some-next.ensures in record {
  whole = λ r t k rest. i.whole r t k (driven_by_item_first _ step (omega arith) rest);
  can_next = (g.met.Self.FallibleIterator.lawful.kept_by_draw _ _ _ i.can_next step).can_next;
}

pub returns-in-Ok-None-next : goal.returns-in-Ok-None-next
returns-in-Ok-None-next g c = rw c.in-Nth.is (driven_of_own Nth goal_turns IsNthTurn (λ p x r q w. (q, w, refl)) (c.loop-left.invariant.whole _ _ _ (driven_end (rw c.in-Ok-None-next.field-0-is at c.in-Ok-None-next.ensures))))

pub returns-in-Err-next : goal.returns-in-Err-next
returns-in-Err-next g c = rw c.in-Nth.is (driven_of_own Nth goal_turns IsNthTurn (λ p x r q w. (q, w, refl)) (c.loop-left.invariant.whole _ _ _ (driven_failure c.in-Err-next.ensures)))

pub returns-after-loop-left : goal.returns-after-loop-left
returns-after-loop-left g c = rw c.in-Nth.is (driven_of_own Nth goal_turns IsNthTurn (λ p x r q w. (q, w, refl)) (c.loop-left.invariant.whole _ _ _ (nth_driven_where_none_left c.loop-left.left c.next-in-Nth.result c.loop-left-test.false c.next-in-Nth.ensures)))
