-- What both columns list, merged.
use Rattle.std.proofs.Common.{rules}
use Rattle.example_itertools.proofs.joining.last_of_both.Goals as goal

pub returns : goal.returns
returns c = c.last.ensures.value _ (c.merge.ensures.lists _ _ (c.convert.ensures.results _ (search (rules, c.into_iter.ensures.runs))) (λ right same. rw same (c.convert-2.ensures.results _ (search (rules, c.into_iter-2.ensures.runs)))))
