-- What each side lists.
use Rattle.std.proofs.Common.{rules}
use Rattle.example_chains.proofs.comparing.up_to_doubled.Goals as goal

pub returns : goal.returns
returns c = c.le.ensures.value _ _ (c.convert.ensures.results _ (search rules)) (λ right same. rw same (c.map.ensures.lists _ _ (search rules) (c.convert-2.ensures.results _ (search rules))))
