-- What comes of the first answer, or of the one after an item that is left out.
use Rattle.fallible_iterator.proofs.Lemmas.Passing.{pass_trace_answer}
use Rattle.fallible_itertools_adapters.proofs.Lemmas.Tuples.{step_after_left_out}
use Rattle.fallible_itertools_adapters.proofs.tuples.next_of_two.Goals as goal

pub returns-in-Some : goal.returns-in-Some
returns-in-Some g c = pass_trace_answer c.draw.result c.draw.ensures.drawn (rw c.in-Some.is at c.answer_of.ensures)

pub returns-in-Some-answer_of : goal.returns-in-Some-answer_of
returns-in-Some-answer_of g c = step_after_left_out _ _ _ c.draw.result c.next.result c.draw.ensures.drawn (rw c.in-None.is at c.answer_of.ensures) c.next.ensures (rw c.in-Some-answer_of.is at c.answer_of-in-None.ensures)
