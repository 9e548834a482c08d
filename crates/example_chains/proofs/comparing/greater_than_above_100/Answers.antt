-- What each side lists.
use Rattle.std.proofs.Common.{rules}
use Rattle.example_chains.proofs.comparing.greater_than_above_100.Goals as goal

pub returns : goal.returns
returns c = c.gt.ensures.value _ _ (c.convert.ensures.results _ (search rules)) (λ right same. rw same (c.filter.ensures.lists _ _ (search rules) (c.convert-2.ensures.results _ (search rules))))
