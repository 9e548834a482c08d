-- A bound is counted down, and what the whole returns is what the rest returns from here.
use Rattle.std.specs.Prelude.{◌+◌, ◌%◌, ◌^◌, Ok, nat_lt}
use Rattle.fallible_iterator.specs.Lists.{folded, taken_while}
use Rattle.fallible_iterator.proofs.Lemmas.Loops.{CountsDown, AnswersFromHere}
use Rattle.example_by_hand.proofs.drawing.sum_up_to_zero.Given as goal

abbrev pub invariant-loop-left : goal.invariant-loop-left
invariant-loop-left g l = let m = g.I.FallibleIterator.contract in CountsDown m l.it l.left.value × AnswersFromHere m.steps (λ s rest. folded (λ e. e) (λ s x. Ok ((s + x) % 2 ^ 64)) s (taken_while (λ x. Ok (nat_lt 0 x)) rest)) l.fn.it 0 l.it l.sum

abbrev pub decreases-loop-left : goal.decreases-loop-left
decreases-loop-left g l = l.left.value
