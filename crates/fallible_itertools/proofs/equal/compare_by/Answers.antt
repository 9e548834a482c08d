-- Each round goes before the comparison from there on.
use Rattle.std.proofs.Common.{refl, Ok, Err, Some, None}
use Rattle.fallible_iterator.proofs.Lemmas.Comparing.{either_at_most_by_bound_of_either, either_at_most_after_fewer}
use Rattle.fallible_itertools.proofs.Lemmas.Equal.{callable_at_first_round, callable_in_rounds_after, compare_by_draws_where_round_goes_on, compare_by_draws_left_failure, compare_by_draws_last_round, last_turn_round_right_failure}
use Rattle.fallible_itertools.proofs.equal.compare_by.Goals as goal

pub loop-x-init : goal.loop-x-init
loop-x-init g c = rw (c.number_of_either-left.ensures.left, c.number_of_either-left.ensures.right) (record {
  can_left = c.requires.left;
  can_right = c.requires.right;
  bounded = either_at_most_by_bound_of_either g.L.FallibleIterator.contract g.R.FallibleIterator.contract _ _ _ c.number_of_either-left.ensures.number;
  callable = c.requires.callable;
  whole = λ r h. h;
})

pub returns-in-Err : goal.returns-in-Err
returns-in-Err g c = c.loop-x.invariant.whole _ (compare_by_draws_left_failure _ _ c.in-Err.ensures)

pub returns-in-Err-next : goal.returns-in-Err-next
returns-in-Err-next g c = c.loop-x.invariant.whole _ (compare_by_draws_last_round _ _ (Ok c.in-Ok.x) (Err c.in-Err-next.e) c.in-Ok.ensures c.in-Err-next.ensures (last_turn_round_right_failure (g.K.Turn.turns c.args.turn.now) c.loop-x.state c.in-Ok.x c.in-Err-next.e))

pub returns-in-None-None : goal.returns-in-None-None
returns-in-None-None g c = c.loop-x.invariant.whole _ (compare_by_draws_last_round _ _ (Ok None) (Ok None) (rw c.in-None-None.is-0 at c.in-Ok.ensures) (rw c.in-None-None.is-1 at c.in-Ok-next.ensures) refl)

pub returns-in-None-Some : goal.returns-in-None-Some
returns-in-None-Some g c = c.loop-x.invariant.whole _ (compare_by_draws_last_round _ _ (Ok None) (Ok (Some c.in-None-Some.field-0-1)) (rw c.in-None-Some.is-0 at c.in-Ok.ensures) (rw c.in-None-Some.is-1 at c.in-Ok-next.ensures) refl)

pub returns-in-Some-None : goal.returns-in-Some-None
returns-in-Some-None g c = c.loop-x.invariant.whole _ (compare_by_draws_last_round _ _ (Ok (Some c.in-Some-None.field-0-0)) (Ok None) (rw c.in-Some-None.is-0 at c.in-Ok.ensures) (rw c.in-Some-None.is-1 at c.in-Ok-next.ensures) refl)

pub turn-requires : goal.turn-requires
turn-requires g c = callable_at_first_round _ _ c.in-Some-Some.x c.in-Some-Some.y c.loop-x.invariant.callable (rw c.in-Some-Some.is-0 at c.in-Ok.ensures) (rw c.in-Some-Some.is-1 at c.in-Ok-next.ensures)

pub returns-in-Break : goal.returns-in-Break
returns-in-Break g c = c.loop-x.invariant.whole _ (compare_by_draws_last_round _ _ (Ok (Some c.in-Some-Some.x)) (Ok (Some c.in-Some-Some.y)) (rw c.in-Some-Some.is-0 at c.in-Ok.ensures) (rw c.in-Some-Some.is-1 at c.in-Ok-next.ensures) (_, c.in-Break.ensures))

pub loop-x-preserved : goal.loop-x-preserved
loop-x-preserved g c =
    let step = rw c.in-Some-Some.is-0 at c.in-Ok.ensures in let next = rw c.in-Some-Some.is-1 at c.in-Ok-next.ensures in
    let goes = g.met.L.FallibleIterator.lawful.kept_by_draw _ _ _ c.loop-x.invariant.can_left step in
    let went = g.met.R.FallibleIterator.lawful.kept_by_draw _ _ _ c.loop-x.invariant.can_right next in record {
      can_left = goes.can_next;
      can_right = went.can_next;
      bounded = either_at_most_after_fewer g.L.FallibleIterator.contract g.R.FallibleIterator.contract _ _ _ _ _ _ goes.answer.1 went.answer.1 c.one_less-count.ensures c.loop-x.invariant.bounded;
      callable = callable_in_rounds_after _ _ _ _ _ c.loop-x.invariant.callable step next c.in-Continue.ensures;
      whole = λ r rest. c.loop-x.invariant.whole r (compare_by_draws_where_round_goes_on _ _ _ _ _ step next c.in-Continue.ensures rest);
    }
