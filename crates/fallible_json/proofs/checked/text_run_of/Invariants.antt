-- A bound is counted down, what draws keep is kept, and the run of the whole is that of the rest from here.
use Rattle.fallible_iterator.specs.Contract.{Stays, parts_as}
use Rattle.fallible_iterator.specs.Peeking.Peekable.{peekable_contract, peekable_parts}
use Rattle.fallible_iterator.proofs.Lemmas.Loops.{AnswersFromHere, CountsDown}
use Rattle.fallible_json.specs.Checked.{text_run_of}
use Rattle.fallible_json.proofs.checked.text_run_of.Given as goal

abbrev pub invariant-loop-next : goal.invariant-loop-next
invariant-loop-next g l = let m = parts_as peekable_parts (peekable_contract g.I.FallibleIterator.contract) in CountsDown m l.ahead l.left.value × Stays m l.fn.ahead l.ahead × AnswersFromHere m.steps text_run_of l.fn.ahead (l.fn.first, l.fn.begun, l.fn.text.items) l.ahead (l.last, l.phase, l.text.items)

abbrev pub decreases-loop-next : goal.decreases-loop-next
decreases-loop-next g l = l.left.value
