-- A bound is counted down, what draws keep is kept, and the tokens of the whole are those of the rest from here.
use Rattle.fallible_iterator.specs.Contract.{KeptByDraws, parts_as}
use Rattle.fallible_iterator.specs.Peeking.Peekable.{peekable_contract, peekable_parts}
use Rattle.fallible_iterator.proofs.Lemmas.Loops.{CountsDown}
use Rattle.fallible_json.specs.Checked.{state_of}
use Rattle.fallible_json.proofs.Lemmas.Checked.{GoesOn}
use Rattle.fallible_json.proofs.checked.drawn.Given as goal

abbrev pub invariant-loop-token : goal.invariant-loop-token
invariant-loop-token g l = let m = parts_as peekable_parts (peekable_contract g.I.FallibleIterator.contract) in CountsDown m l.ahead l.left.value × m.is_finite l.ahead × KeptByDraws m l.fn.ahead l.ahead × GoesOn m l.fn.ahead (state_of l.fn.nesting) l.ahead (state_of l.nesting)

abbrev pub decreases-loop-token : goal.decreases-loop-token
decreases-loop-token g l = l.left.value
