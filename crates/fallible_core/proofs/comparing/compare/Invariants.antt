-- Both sides may be drawn from, some bound of one of them is at most the one counted down, and what a comparison from here returns, the whole returns.
use Rattle.fallible_contract.proofs.Lemmas.Comparing.{EitherAtMost}
use Rattle.fallible_contract.specs.Comparing.{CompareDraws}
use Rattle.fallible_core.proofs.comparing.compare.Given as goal

abbrev pub invariant-loop-x : goal.invariant-loop-x
invariant-loop-x g l = let m = g.L.FallibleIterator.contract in let o = g.R.FallibleIterator.contract in record {
  can_left : m.can_next l.both.left;
  can_right : o.can_next l.both.right;
  bounded : EitherAtMost m o l.both.left l.both.right l.count.value;
  whole : (r : _) → CompareDraws g.K.Comparison.rule m.steps o.steps l.both.left l.both.right r → CompareDraws g.K.Comparison.rule m.steps o.steps l.fn.left l.fn.right r;
}

abbrev pub decreases-loop-x : goal.decreases-loop-x
decreases-loop-x g l = l.count.value
