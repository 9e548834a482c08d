-- The bytes so far are digits.
use Rattle.std.specs.Prelude.{length, ◌-◌}
use Rattle.example_tasks.specs.Expressions.{ReadsDigits}
use Rattle.example_tasks.proofs.tokens.digits_in_front.Given as goal

abbrev pub invariant-loop-end : goal.invariant-loop-end
invariant-loop-end l = ReadsDigits l.text l.end

abbrev pub decreases-loop-end : goal.decreases-loop-end
decreases-loop-end l = length l.text - l.end
