-- A bound is counted down.
use Rattle.fallible_iterator.specs.Contract.{parts_as}
use Rattle.fallible_iterator.specs.Peeking.Peekable.{peekable_contract, peekable_parts}
use Rattle.fallible_iterator.proofs.Lemmas.Loops.{CountsDown}
use Rattle.example_by_hand.proofs.looping.drop_small.Given as goal

abbrev pub invariant-loop-left : goal.invariant-loop-left
invariant-loop-left g l = CountsDown (parts_as peekable_parts (peekable_contract g.I.FallibleIterator.contract)) l.ahead l.left.value

abbrev pub decreases-loop-left : goal.decreases-loop-left
decreases-loop-left g l = l.left.value
