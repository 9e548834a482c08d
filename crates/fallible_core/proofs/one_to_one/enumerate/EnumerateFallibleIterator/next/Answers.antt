-- One answer of the source, numbered where it is an item, is the trace of one answer.
use Rattle.std.proofs.Common.{refl}
use Rattle.fallible_contract.proofs.Lemmas.Passing.{pass_trace_answer}
use Rattle.fallible_core.proofs.Lemmas.OneToOne.EnumerateFolds.{numbered_step_of_passing, number_takes_drawn_item}
use Rattle.fallible_core.proofs.one_to_one.enumerate.EnumerateFallibleIterator.next.Goals as goal

pub passed-requires-clause-takes : goal.passed-requires-clause-takes
passed-requires-clause-takes g c = number_takes_drawn_item g.met.I.FallibleIterator.lawful c.requires _ c.next.ensures

pub passed-requires-clause-answers : goal.passed-requires-clause-answers
passed-requires-clause-answers g c = λ x n. refl

pub returns : goal.returns
returns g c = numbered_step_of_passing _ _ _ (pass_trace_answer _ c.next.ensures c.passed.ensures)
