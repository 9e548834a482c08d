-- What both columns list, in turn.
use Rattle.std.proofs.Common.{rules}
use Rattle.example_itertools.proofs.joining.nth_in_turn.Goals as goal

pub returns : goal.returns
returns c = c.nth.ensures.value _ (c.interleave.ensures.lists _ _ (c.convert.ensures.results _ (search (rules, c.into_iter.ensures.runs))) (λ right same. rw same (c.convert-2.ensures.results _ (search (rules, c.into_iter-2.ensures.runs)))))
