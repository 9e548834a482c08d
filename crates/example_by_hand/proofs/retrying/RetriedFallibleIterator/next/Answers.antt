-- A failure is passed over, and what is none is the answer.
use Rattle.std.specs.Prelude.{◌≡◌}
use Rattle.std.proofs.Common.{rules}
use Rattle.example_by_hand.proofs.AskedAgain.{gathers_at_once, gathers_last, gathers_from_after_failure}
use Rattle.example_by_hand.proofs.retrying.RetriedFallibleIterator.next.Goals as goal

pub returns-in-Ok : goal.returns-in-Ok
returns-in-Ok g c = (c.loop-left.invariant.2.gathers_from_start _ _ (gathers_at_once _ c.in-Ok.answer c.in-Ok.ensures), c.loop-left.invariant.1)

pub loop-left-preserved-in-Err : goal.loop-left-preserved-in-Err
loop-left-preserved-in-Err g c = (search rules, c.loop-left.invariant.1, gathers_from_after_failure _ c.loop-left.invariant.2 c.in-Err.ensures (search rules))

pub returns : goal.returns
returns g c = (c.loop-left.invariant.2.gathers_from_start _ _ (let none : c.loop-left.left ≡ 0 = search rules in rw none (gathers_last c.next-2.result c.next-2.ensures)), c.loop-left.invariant.1)
