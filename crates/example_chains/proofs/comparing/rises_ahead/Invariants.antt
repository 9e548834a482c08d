-- A bound is counted down, and what the whole returns is what the rest returns from here.
use Rattle.fallible_iterator.specs.Contract.{parts_as}
use Rattle.fallible_iterator.specs.Peeking.Peekable.{peekable_contract, peekable_parts}
use Rattle.fallible_iterator.proofs.Lemmas.Loops.{CountsDown, AnswersFromHere}
use Rattle.example_chains.specs.Rises.{risen_from}
use Rattle.example_chains.proofs.comparing.rises_ahead.Given as goal

abbrev pub invariant-loop-left : goal.invariant-loop-left
invariant-loop-left g l = let m = parts_as peekable_parts (peekable_contract g.J.FallibleIterator.contract) in CountsDown m l.ahead l.left.value × AnswersFromHere m.steps (λ f rest. f rest) l.fn.ahead (risen_from 0) l.ahead (risen_from l.rises)

abbrev pub decreases-loop-left : goal.decreases-loop-left
decreases-loop-left g l = l.left.value
