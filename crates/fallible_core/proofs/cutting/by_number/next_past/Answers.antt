-- Each left-out item goes before what follows.
use Rattle.std.proofs.Common.{arith}
use Rattle.fallible_contract.proofs.Lemmas.ByNumber.{none, keeps_end, keeps_failure, leaves_after_item_left_out}
use Rattle.fallible_core.specs.Laws.Cutting.Skip.{skip_trace_of_leaves, leaves_plain_draw}
use Rattle.fallible_core.proofs.cutting.by_number.next_past.Goals as goal

pub returns-then-to_skip-eq0 : goal.returns-then-to_skip-eq0
returns-then-to_skip-eq0 g c = skip_trace_of_leaves _ {p = (c.args.it.now, c.args.to_skip.now)} {q = (c.next.new.self, c.loop-x.to_skip)} (c.loop-x.invariant.whole _ _ _ (leaves_plain_draw _ c.loop-x.to_skip _ (omega (arith, c.if-to_skip-eq0.true)) (rw c.in-Ok-Some.field-0-is at c.in-Ok-Some.ensures)))

pub returns-in-Ok-None : goal.returns-in-Ok-None
returns-in-Ok-None g c = skip_trace_of_leaves _ {p = (c.args.it.now, c.args.to_skip.now)} {q = (c.next.new.self, c.loop-x.to_skip)} (c.loop-x.invariant.whole _ _ _ (keeps_end (rw c.in-Ok-None.field-0-is at c.in-Ok-None.ensures) none))

pub returns-in-Err : goal.returns-in-Err
returns-in-Err g c = skip_trace_of_leaves _ {p = (c.args.it.now, c.args.to_skip.now)} {q = (c.next.new.self, c.loop-x.to_skip)} (c.loop-x.invariant.whole _ _ _ (keeps_failure c.in-Err.e c.in-Err.ensures none))

pub loop-x-preserved : goal.loop-x-preserved
loop-x-preserved g c = let i = c.loop-x.invariant in let step = rw c.in-Ok-Some.field-0-is at c.in-Ok-Some.ensures in record {
  whole = λ r t k rest. i.whole r t k (leaves_after_item_left_out _ _ c.in-Ok-Some.x c.loop-x.to_skip (omega (arith, c.if-to_skip-eq0.false)) step rest);
  can_next = (g.met.I.FallibleIterator.lawful.kept_by_draw _ _ _ i.can_next step).can_next;
}
