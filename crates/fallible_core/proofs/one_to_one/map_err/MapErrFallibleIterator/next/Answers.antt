-- One answer of the source, and the call where it is a failure, are the trace of one answer.
use Rattle.fallible_contract.specs.Closures.{call_by_value, takes_by_value}
use Rattle.fallible_contract.proofs.Lemmas.Failing.{failing_trace_of_failing_answer}
use Rattle.fallible_contract.proofs.Lemmas.FailingFolds.{closure_takes_drawn_failure}
use Rattle.fallible_core.proofs.one_to_one.map_err.MapErrFallibleIterator.next.Goals as goal

pub failed-requires : goal.failed-requires
failed-requires g c = closure_takes_drawn_failure g.met.I.FallibleIterator.lawful (call_by_value g.F.FnMut) (takes_by_value g.F.FnMut) c.requires _ c.next.ensures

pub returns : goal.returns
returns g c = failing_trace_of_failing_answer g.I.FallibleIterator.contract.steps _ _ c.next.ensures c.failed.ensures
