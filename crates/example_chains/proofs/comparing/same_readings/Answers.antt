-- What each side lists.
use Rattle.std.proofs.Common.{rules}
use Rattle.example_chains.proofs.comparing.same_readings.Goals as goal

pub returns : goal.returns
returns c = c.eq.ensures.value _ _ (c.convert.ensures.results _ (search rules)) (λ right same. rw same (c.convert-2.ensures.results _ (search rules)))
