-- By induction over the placed tokens, and by the law of trees.
use Rattle.fallible_json.proofs.Lemmas.Lexeme.{minified_of_tree, tree_of_minified}
use Rattle.fallible_json.proofs.laws.law_minified.Goals as goal

pub returns-clause-written : goal.returns-clause-written
returns-clause-written g c = minified_of_tree

pub returns-clause-accepted : goal.returns-clause-accepted
returns-clause-accepted g c = tree_of_minified
