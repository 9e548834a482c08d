-- One answer of the source, and the copy of what it points to, are the trace of one answer.
use Rattle.std.proofs.Common.{refl}
use Rattle.fallible_iterator.proofs.Lemmas.Passing.{pass_trace_answer, if_item_freely}
use Rattle.fallible_itertools_adapters.proofs.copied.CopiedDoubleEndedFallibleIterator.next_back.Goals as goal

pub passed-requires-clause-takes : goal.passed-requires-clause-takes
passed-requires-clause-takes g c = if_item_freely (λ x. tt) c.next_back.result

pub passed-requires-clause-answers : goal.passed-requires-clause-answers
passed-requires-clause-answers g c = λ x u. refl

pub returns : goal.returns
returns g c = pass_trace_answer _ c.next_back.ensures c.passed.ensures
