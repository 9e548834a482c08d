-- By the states that tokens lead to, of which each can be ended.
use Rattle.fallible_json.proofs.Lemmas.Wanted.{wanted_at_end, wanted_at_failure, wanted_at_token}
use Rattle.fallible_json.proofs.laws.law_wanted.Goals as goal

pub returns-clause-source : goal.returns-clause-source
returns-clause-source g c = wanted_at_failure

pub returns-clause-unexpected : goal.returns-clause-unexpected
returns-clause-unexpected g c = wanted_at_token

pub returns-clause-ended : goal.returns-clause-ended
returns-clause-ended g c = wanted_at_end
