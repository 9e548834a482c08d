-- One answer of the source from the back, and what the closure makes of it, are the trace of one answer.
use Rattle.fallible_contract.proofs.Lemmas.Passing.{pass_trace_answer, if_item_where_callable}
use Rattle.fallible_core.proofs.Lemmas.OneToOne.Map.{leaves_none_out_of_map}
use Rattle.fallible_core.proofs.one_to_one.map.MapDoubleEndedFallibleIterator.next_back.Goals as goal

pub passed-requires-clause-takes : goal.passed-requires-clause-takes
passed-requires-clause-takes g c = if_item_where_callable g.met.I.DoubleEndedFallibleIterator.lawful_ends.back c.requires.0 _ c.next_back.ensures c.requires.1

pub passed-requires-clause-answers : goal.passed-requires-clause-answers
passed-requires-clause-answers g c = leaves_none_out_of_map

pub returns : goal.returns
returns g c = pass_trace_answer _ c.next_back.ensures c.passed.ensures
