-- The call on a reference to the item, and the side that takes it.
use Rattle.std.proofs.Common.{refl}
use Rattle.fallible_contract.proofs.collecting.PartitionTurnTurnTuple2Tuple2Fault.turn.Goals as goal

pub returns-in-Err : goal.returns-in-Err
returns-in-Err g c = (c.call_mut.new.self, record { shown = _; shows = refl; called = c.in-Err.ensures })

pub returns-in-Ok-push_one : goal.returns-in-Ok-push_one
returns-in-Ok-push_one g c = ((c.in-Ok.answer, record { shown = _; shows = refl; called = c.in-Ok.ensures }, rw c.if-answer.true (λ xs ys h k. (c.in-Ok-push_one.ensures xs h, k))))

pub returns-in-Err-push_one : goal.returns-in-Err-push_one
returns-in-Err-push_one g c = (c.in-Ok.answer, c.call_mut.new.self, record { shown = _; shows = refl; called = c.in-Ok.ensures }, rw c.if-answer.true c.in-Err-push_one.ensures)

pub returns-in-Ok-push_one-2 : goal.returns-in-Ok-push_one-2
returns-in-Ok-push_one-2 g c = ((c.in-Ok.answer, record { shown = _; shows = refl; called = c.in-Ok.ensures }, rw c.if-answer.false (λ xs ys h k. (h, c.in-Ok-push_one-2.ensures ys k))))

pub returns-in-Err-push_one-2 : goal.returns-in-Err-push_one-2
returns-in-Err-push_one-2 g c = (c.in-Ok.answer, c.call_mut.new.self, record { shown = _; shows = refl; called = c.in-Ok.ensures }, rw c.if-answer.false c.in-Err-push_one-2.ensures)
