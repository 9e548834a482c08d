-- By the law of placed tokens.
use Rattle.fallible_json.proofs.Lemmas.Json.{is_json_of_tree, tree_of_json}
use Rattle.fallible_json.proofs.laws.law_json.Goals as goal

pub returns-clause-written : goal.returns-clause-written
returns-clause-written c = is_json_of_tree

pub returns-clause-accepted : goal.returns-clause-accepted
returns-clause-accepted c = tree_of_json
