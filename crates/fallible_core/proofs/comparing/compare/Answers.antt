-- Each round goes before the comparison from there on.
use Rattle.std.proofs.Common.{Ok, sym, ◌∙◌}
use Rattle.fallible_contract.proofs.Lemmas.Comparing.{compare_draws_after_equal_items, compare_draws_left_failure, compare_draws_by_last_round, last_round_right_failure, last_round_where_round_decided, undecided_are_equal, either_at_most_after_fewer, either_at_most_by_bound_of_either}
use Rattle.fallible_core.proofs.comparing.compare.Goals as goal

pub loop-x-init : goal.loop-x-init
loop-x-init g c = record {
  can_left = c.requires.left;
  can_right = c.requires.right;
  bounded = either_at_most_by_bound_of_either g.L.FallibleIterator.contract g.R.FallibleIterator.contract _ _ _ c.number-count.ensures;
  whole = λ r h. h;
}

pub returns-in-Err : goal.returns-in-Err
returns-in-Err g c = c.loop-x.invariant.whole _ (compare_draws_left_failure _ _ c.in-Err.ensures)

pub returns-in-Err-next : goal.returns-in-Err-next
returns-in-Err-next g c = c.loop-x.invariant.whole _ (compare_draws_by_last_round _ _ _ _ c.in-Ok.ensures c.in-Err-next.ensures (last_round_right_failure g.K.Comparison.rule c.in-Ok.x c.in-Err-next.e))

pub returns-in-Some : goal.returns-in-Some
returns-in-Some g c = c.loop-x.invariant.whole _ (compare_draws_by_last_round _ _ (Ok c.in-Ok.x) (Ok c.in-Ok-next.y) c.in-Ok.ensures c.in-Ok-next.ensures (last_round_where_round_decided g.K.Comparison.rule _ c.in-Ok.x c.in-Ok-next.y c.in-Some.order (sym c.decide.ensures ∙ c.in-Some.is)))

pub loop-x-preserved : goal.loop-x-preserved
loop-x-preserved g c = let equal = undecided_are_equal g.K.Comparison.rule c.in-Ok.x c.in-Ok-next.y (sym c.decide.ensures ∙ c.in-None.is) in
    let step = rw equal.2 at c.in-Ok.ensures in let next = rw equal.3 at c.in-Ok-next.ensures in
    let goes = g.met.L.FallibleIterator.lawful.kept_by_draw _ _ _ c.loop-x.invariant.can_left step in
    let went = g.met.R.FallibleIterator.lawful.kept_by_draw _ _ _ c.loop-x.invariant.can_right next in record {
      can_left = goes.can_next;
      can_right = went.can_next;
      bounded = either_at_most_after_fewer g.L.FallibleIterator.contract g.R.FallibleIterator.contract _ _ _ _ _ _ goes.answer.1 went.answer.1 c.one_less-count.ensures c.loop-x.invariant.bounded;
      whole = λ r rest. c.loop-x.invariant.whole r (compare_draws_after_equal_items _ _ equal.4 step next rest);
    }
