-- A bound is counted down.
use Rattle.fallible_iterator.proofs.Lemmas.Loops.{CountsDown}
use Rattle.example_by_hand.proofs.looping.drop_up_to_zero.Given as goal

abbrev pub invariant-loop-left : goal.invariant-loop-left
invariant-loop-left g l = CountsDown g.I.FallibleIterator.contract l.it l.left.value

abbrev pub decreases-loop-left : goal.decreases-loop-left
decreases-loop-left g l = l.left.value
