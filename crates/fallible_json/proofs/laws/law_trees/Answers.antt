-- By induction over the tree, and over the tokens.
use Rattle.fallible_json.proofs.Lemmas.SameTree.{same_tree_of_written}
use Rattle.fallible_json.proofs.Lemmas.Text.{text_is_written}
use Rattle.fallible_json.proofs.Lemmas.Tree.{is_text_written}
use Rattle.fallible_json.proofs.laws.law_trees.Goals as goal

pub returns-clause-written : goal.returns-clause-written
returns-clause-written c = is_text_written

pub returns-clause-accepted : goal.returns-clause-accepted
returns-clause-accepted c = text_is_written

pub returns-clause-one : goal.returns-clause-one
returns-clause-one c = same_tree_of_written
