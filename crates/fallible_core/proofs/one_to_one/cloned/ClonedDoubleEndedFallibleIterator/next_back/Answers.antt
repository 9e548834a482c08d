-- One answer of the source from the back, and the clone of what it points to, are the trace of one answer.
use Rattle.fallible_contract.proofs.Lemmas.Passing.{pass_trace_answer, if_item_freely}
use Rattle.fallible_core.proofs.Lemmas.OneToOne.Map.{leaves_none_out_of_map}
use Rattle.fallible_core.proofs.one_to_one.cloned.ClonedDoubleEndedFallibleIterator.next_back.Goals as goal

pub passed-requires-clause-takes : goal.passed-requires-clause-takes
passed-requires-clause-takes g c = if_item_freely (λ x. tt) c.next_back.result

pub passed-requires-clause-answers : goal.passed-requires-clause-answers
passed-requires-clause-answers g c = leaves_none_out_of_map

pub returns : goal.returns
returns g c = pass_trace_answer _ c.next_back.ensures c.passed.ensures
