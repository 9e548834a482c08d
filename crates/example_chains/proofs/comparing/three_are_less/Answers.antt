-- What each side lists.
use Rattle.std.proofs.Common.{rules}
use Rattle.example_chains.proofs.comparing.three_are_less.Goals as goal

pub returns : goal.returns
returns c = c.lt.ensures.value _ _ (c.take.ensures.lists _ (c.filter.ensures.lists _ _ (search rules) (c.convert.ensures.results _ (search rules)))) (λ right same. rw same (c.take-2.ensures.lists _ (c.filter-2.ensures.lists _ _ (search rules) (c.convert-2.ensures.results _ (search rules)))))
