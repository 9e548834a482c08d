-- A bound is counted down, and what the whole returns is what the rest returns from here.
use Rattle.std.specs.Prelude.{Ok}
use Rattle.fallible_iterator.specs.Lists.{folded}
use Rattle.fallible_iterator.proofs.Lemmas.Loops.{CountsDown, AnswersFromHere}
use Rattle.example_by_hand.proofs.drawing.draw_all.Given as goal

abbrev pub invariant-loop-left : goal.invariant-loop-left
invariant-loop-left g l = let m = g.I.FallibleIterator.contract in CountsDown m l.it l.left.value × AnswersFromHere m.steps (λ done rest. folded (λ e. e) (λ done _. Ok done) done rest) l.fn.it (tt {0}) l.it (tt {0})

abbrev pub decreases-loop-left : goal.decreases-loop-left
decreases-loop-left g l = l.left.value
