-- One answer of the source from the back, and the call where it is a failure, are the trace of one answer.
use Rattle.fallible_iterator.specs.Closures.{takes_by_reference}
use Rattle.fallible_iterator.proofs.Lemmas.Failing.{failing_trace_of_failing_answer}
use Rattle.fallible_iterator.proofs.Lemmas.FailingFolds.{closure_takes_drawn_failure}
use Rattle.fallible_itertools_adapters.specs.Failing.{seen_call}
use Rattle.fallible_itertools_adapters.proofs.failing.InspectErrDoubleEndedFallibleIterator.next_back.Goals as goal

pub failed-requires : goal.failed-requires
failed-requires g c = closure_takes_drawn_failure g.met.I.DoubleEndedFallibleIterator.lawful_ends.back (seen_call g.F.FnMut) (takes_by_reference g.F.FnMut) c.requires _ c.next_back.ensures

pub returns : goal.returns
returns g c = failing_trace_of_failing_answer g.I.DoubleEndedFallibleIterator.ends.steps _ _ c.next_back.ensures c.failed.ensures
