-- By what each token makes of the state, and since a text can be ended from each.
use Rattle.fallible_json.proofs.Lemmas.Fault.{begins_tree_up_to_failure, ended_begins_tree, unexpected_begins_no_tree}
use Rattle.fallible_json.proofs.laws.law_minified_faults.Goals as goal

pub returns-clause-source : goal.returns-clause-source
returns-clause-source g c = begins_tree_up_to_failure

pub returns-clause-unexpected : goal.returns-clause-unexpected
returns-clause-unexpected g c = unexpected_begins_no_tree

pub returns-clause-ended : goal.returns-clause-ended
returns-clause-ended g c = ended_begins_tree
