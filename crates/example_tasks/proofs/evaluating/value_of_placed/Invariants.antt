-- A bound is counted down, and what the whole comes to is what the rest comes to from here, also with any room that holds the levels outside.
use Rattle.std.specs.Prelude.{true, [], ℕ, ◌≤◌, reverse, vec_capacity}
use Rattle.fallible_iterator.proofs.Lemmas.Loops.{CountsDown, AnswersFromHere}
use Rattle.example_tasks.specs.Evaluating.{placed_value_from}
use Rattle.example_tasks.specs.Expressions.{no_terms, after_token, after_token_in}
use Rattle.example_tasks.proofs.evaluating.value_of_placed.Given as goal

abbrev pub invariant-loop-next : goal.invariant-loop-next
invariant-loop-next g l = let m = g.I.FallibleIterator.contract in CountsDown m l.tokens l.left.value × AnswersFromHere m.steps (placed_value_from after_token) l.fn.tokens ([], no_terms, true) l.tokens (reverse l.calculation.outside.items, l.calculation.level, l.calculation.is_begun) × ((room : ℕ) → vec_capacity l.calculation.outside ≤ room → AnswersFromHere m.steps (placed_value_from (after_token_in room)) l.fn.tokens ([], no_terms, true) l.tokens (reverse l.calculation.outside.items, l.calculation.level, l.calculation.is_begun))

abbrev pub decreases-loop-next : goal.decreases-loop-next
decreases-loop-next g l = l.left.value
