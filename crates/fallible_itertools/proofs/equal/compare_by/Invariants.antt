-- Both sides may be drawn from, some bound of one of them is at most the one counted down, the turn may be taken from here on, and what a comparison from here returns, the whole returns.
use Rattle.fallible_iterator.specs.Folds.{goes_on}
use Rattle.fallible_iterator.proofs.Lemmas.Comparing.{EitherAtMost}
use Rattle.fallible_itertools.specs.Equal.{CallableInRounds, CompareByDraws}
use Rattle.fallible_itertools.proofs.equal.compare_by.Given as goal

abbrev pub invariant-loop-x : goal.invariant-loop-x
invariant-loop-x g l = let m = g.L.FallibleIterator.contract in let o = g.R.FallibleIterator.contract in record {
  can_left : m.can_next l.left;
  can_right : o.can_next l.right;
  bounded : EitherAtMost m o l.left l.right l.count.value;
  callable : CallableInRounds m.steps o.steps (goes_on (g.K.Turn.turns l.turn)) (g.K.Turn.can_turn l.turn) l.left l.right l.state;
  whole : (r : _) → CompareByDraws (g.K.Turn.turns l.turn) m.steps o.steps l.left l.right l.state r → CompareByDraws (g.K.Turn.turns l.fn.turn) m.steps o.steps l.fn.left l.fn.right l.fn.state r;
}

abbrev pub decreases-loop-x : goal.decreases-loop-x
decreases-loop-x g l = l.count.value
