-- By the law of tokens, since in a JSON text each is as long as can be.
use Rattle.fallible_json.proofs.Lemmas.SpelledJson.{is_json_of_spelled, spelled_of_json}
use Rattle.fallible_json.proofs.laws.law_spelled.Goals as goal

pub returns-clause-written : goal.returns-clause-written
returns-clause-written c = is_json_of_spelled

pub returns-clause-accepted : goal.returns-clause-accepted
returns-clause-accepted c = spelled_of_json
