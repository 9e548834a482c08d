-- Each item passed over goes before what is left of the call.
use Rattle.std.proofs.Common.{arith}
use Rattle.fallible_iterator.proofs.Lemmas.Nth.{nth_drains_after_item, nth_drains_at_once, nth_drains_where_number_is_zero}
use Rattle.fallible_itertools.proofs.double_ended.nth_from_back.Goals as goal

pub loop-left-init : goal.loop-left-init
loop-left-init g c = record { whole = λ r t h. h; can_next = c.requires }

pub loop-left-preserved : goal.loop-left-preserved
loop-left-preserved g c = let i = c.loop-left.invariant in let step = rw c.in-Ok-Some.field-0-is at c.in-Ok-Some.ensures in record {
  whole = λ r t rest. i.whole r t (nth_drains_after_item _ _ _ (omega arith) step rest);
  can_next = (g.met.I.DoubleEndedFallibleIterator.lawful_ends.back.kept_by_draw _ _ _ i.can_next step).can_next;
}

pub returns-in-Ok-None : goal.returns-in-Ok-None
returns-in-Ok-None g c = c.loop-left.invariant.whole _ _ (nth_drains_at_once _ (omega arith) (rw c.in-Ok-None.field-0-is at c.in-Ok-None.ensures))

pub returns-in-Err : goal.returns-in-Err
returns-in-Err g c = c.loop-left.invariant.whole _ _ (nth_drains_at_once _ (omega arith) c.in-Err.ensures)

pub returns : goal.returns
returns g c = c.loop-left.invariant.whole _ _ (nth_drains_where_number_is_zero c.loop-left.left c.next_back-2.result c.loop-left-test.false c.next_back-2.ensures)
