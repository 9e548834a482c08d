-- What each side lists.
use Rattle.std.proofs.Common.{rules}
use Rattle.example_chains.proofs.comparing.order_of_ten.Goals as goal

pub returns : goal.returns
returns c = c.partial_cmp.ensures.value _ _ (c.take.ensures.lists _ (c.convert.ensures.results _ (search rules))) (λ right same. rw same (c.skip.ensures.lists _ (c.convert-2.ensures.results _ (search rules))))
