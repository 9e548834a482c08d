-- What each side lists.
use Rattle.std.proofs.Common.{rules}
use Rattle.example_chains.proofs.comparing.doubled_differ.Goals as goal

pub returns : goal.returns
returns c = c.ne.ensures.value _ _ (c.map.ensures.lists _ _ (search rules) (c.convert.ensures.results _ (search rules))) (λ right same. rw same (c.convert-2.ensures.results _ (search rules)))
