-- The tokens of the bytes are what is written.
use Rattle.std.proofs.Common.{ap, ◌∙◌}
use Rattle.example_tasks.specs.Evaluating.{value_of_placed}
use Rattle.example_tasks.proofs.evaluating.evaluate.Goals as goal

pub returns-clause-written : goal.returns-clause-written
returns-clause-written g c = λ l i e xs is lexes known. c.value_of_placed.ensures.value _ (c.new.ensures.lists _ (c.enumerate.ensures.lists l i)) known ∙ ap value_of_placed lexes ∙ c.law_written_placed.ensures e xs is
