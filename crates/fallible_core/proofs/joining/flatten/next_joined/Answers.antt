-- An answer of the current inner iterator, or one of the outer source after its end, is one from the start. An item of the outer source goes before what follows.
use Rattle.std.proofs.Common.{arith, rules, refl, Ok, Err}
use Rattle.fallible_core.specs.Laws.Joining.Flatten.{kept_by_draws_where_inner_begins}
use Rattle.fallible_core.proofs.Lemmas.Joining.Flatten.{flatten_trace_in_hand, flatten_trace_after_end, flatten_trace_at_item, flatten_trace_outer_failure, flatten_trace_outer_end}
use Rattle.fallible_core.proofs.joining.flatten.next_joined.Goals.{in-Some+in-Ok-None, in-None}
use Rattle.fallible_core.proofs.joining.flatten.next_joined.Goals as goal

pub returns-in-Ok-Some : goal.returns-in-Ok-Some
returns-in-Ok-Some g c = c.loop-in_hand.invariant.whole _ _ (flatten_trace_in_hand (Ok c.in-Ok-Some.some) c.in-Some.is c.in-Ok-Some.ensures (search rules))

pub returns-in-Err : goal.returns-in-Err
returns-in-Err g c = c.loop-in_hand.invariant.whole _ _ (flatten_trace_in_hand (Err c.in-Err.e) c.in-Some.is c.in-Err.ensures refl)

pub returns-in-Ok-None-next : goal.returns-in-Ok-None-next
returns-in-Ok-None-next g c = let ended = flatten_trace_outer_end (rw c.in-Ok-None-next.field-0-is at c.in-Ok-None-next.ensures) in c.loop-in_hand.invariant.whole _ _ (elim c.match-in_hand.branch [
  | in-Some+in-Ok-None w ↦ flatten_trace_after_end w.next.new.self w.in-Some.is (rw w.in-Ok-None.field-0-is at w.in-Ok-None.ensures) ended
  | in-None w ↦ rw w.in-None.is ended
])

pub returns-in-Err-next : goal.returns-in-Err-next
returns-in-Err-next g c = let failed = flatten_trace_outer_failure c.in-Err-next.e c.in-Err-next.ensures in c.loop-in_hand.invariant.whole _ _ (elim c.match-in_hand.branch [
  | in-Some+in-Ok-None w ↦ flatten_trace_after_end w.next.new.self w.in-Some.is (rw w.in-Ok-None.field-0-is at w.in-Ok-None.ensures) failed
  | in-None w ↦ rw w.in-None.is failed
])

pub loop-in_hand-preserved : goal.loop-in_hand-preserved
loop-in_hand-preserved g c = let m = g.O.FallibleIterator.contract in let inner = g.U.IntoFallibleIter.FallibleIterator.contract in
    let l = g.met.O.FallibleIterator.lawful in let k = g.met.U.IntoFallibleIter.FallibleIterator.lawful in
    let i = c.loop-in_hand.invariant in
    let step = rw c.in-Ok-Some-next.field-0-is at c.in-Ok-Some-next.ensures in
    let fewer = (l.kept_by_draw _ _ _ i.can_next.0 step).answer.1 i.bounded.0 i.bounded.1 in
    record {
      can_next = (kept_by_draws_where_inner_begins m l g.U.IntoFallibleIterator.into_gives inner k _ _ _ _ (i.can_next.0, i.can_next.1, tt, i.can_next.3) step c.into_fallible_iter.ensures).can_next;
      bounded = (fewer.0, fewer.1, omega (arith, fewer.2, i.bounded.2));
      whole = λ r q rest. i.whole r q (elim c.match-in_hand.branch [
        | in-Some+in-Ok-None w ↦ flatten_trace_after_end w.next.new.self w.in-Some.is (rw w.in-Ok-None.field-0-is at w.in-Ok-None.ensures) (flatten_trace_at_item c.in-Ok-Some-next.x step c.into_fallible_iter.ensures rest)
        | in-None w ↦ rw w.in-None.is (flatten_trace_at_item c.in-Ok-Some-next.x step c.into_fallible_iter.ensures rest)
      ]);
    }
