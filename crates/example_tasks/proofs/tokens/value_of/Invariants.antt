-- A bound is counted down, and what the whole comes to is what the rest comes to from here, also with any room that holds the levels outside.
use Rattle.std.specs.Prelude.{true, [], ℕ, ◌≤◌, reverse, vec_capacity}
use Rattle.fallible_iterator.proofs.Lemmas.Loops.{CountsDown, AnswersFromHere}
use Rattle.example_tasks.specs.Expressions.{no_terms, value_from, value_from_in}
use Rattle.example_tasks.proofs.tokens.value_of.Given as goal

abbrev pub invariant-loop-calculation : goal.invariant-loop-calculation
invariant-loop-calculation g l = let m = g.I.FallibleIterator.contract in CountsDown m l.tokens l.left.value × AnswersFromHere m.steps value_from l.fn.tokens ([], no_terms, true) l.tokens (reverse l.calculation.outside.items, l.calculation.level, l.calculation.is_begun) × ((room : ℕ) → vec_capacity l.calculation.outside ≤ room → AnswersFromHere m.steps (value_from_in room) l.fn.tokens ([], no_terms, true) l.tokens (reverse l.calculation.outside.items, l.calculation.level, l.calculation.is_begun))

abbrev pub decreases-loop-calculation : goal.decreases-loop-calculation
decreases-loop-calculation g l = l.left.value
