-- A bound is counted down, and what reads alike of the whole is what does of the rest.
use Rattle.fallible_iterator.specs.Ends.{from_front}
use Rattle.fallible_iterator.proofs.Lemmas.Loops.{CountsDown}
use Rattle.fallible_iterator.proofs.Lemmas.LoopsAtEnds.{AnswersFromBetweenEnds}
use Rattle.example_by_hand.specs.Alike.{alike}
use Rattle.example_by_hand.proofs.back.read_alike.Given as goal

abbrev pub invariant-loop-left : goal.invariant-loop-left
invariant-loop-left g l = let m = g.I.FallibleIterator.contract in let e = g.I.DoubleEndedFallibleIterator.ends in CountsDown (from_front m e) l.it l.left.value × AnswersFromBetweenEnds m.steps e.steps alike l.fn.it alike l.it

abbrev pub decreases-loop-left : goal.decreases-loop-left
decreases-loop-left g l = l.left.value
