-- One answer of the source from the back, and the conversion where it is a failure, are the trace of one answer.
use Rattle.fallible_iterator.proofs.Lemmas.Failing.{failing_trace_of_failing_answer}
use Rattle.fallible_itertools_adapters.proofs.Lemmas.Failing.{takes_each_failure}
use Rattle.fallible_itertools_adapters.proofs.failing.ErrIntoDoubleEndedFallibleIterator.next_back.Goals as goal

pub failed-requires : goal.failed-requires
failed-requires g c = takes_each_failure _ _

pub returns : goal.returns
returns g c = failing_trace_of_failing_answer g.I.DoubleEndedFallibleIterator.ends.steps _ _ c.next_back.ensures c.failed.ensures
