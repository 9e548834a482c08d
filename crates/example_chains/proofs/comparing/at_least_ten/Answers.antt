-- What each side lists.
use Rattle.std.proofs.Common.{rules}
use Rattle.example_chains.proofs.comparing.at_least_ten.Goals as goal

pub returns : goal.returns
returns c = c.ge.ensures.value _ _ (c.skip.ensures.lists _ (c.convert.ensures.results _ (search rules))) (λ right same. rw same (c.take.ensures.lists _ (c.convert-2.ensures.results _ (search rules))))
