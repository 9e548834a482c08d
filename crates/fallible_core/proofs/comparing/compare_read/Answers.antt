-- The answer of the loop of rounds is read.
use Rattle.fallible_contract.proofs.Lemmas.Comparing.{either_or_ends_by_one_of}
use Rattle.fallible_contract.proofs.Lemmas.Lists.Compared.{read_as_of_lists}
use Rattle.fallible_core.proofs.comparing.compare_read.Goals as goal

pub compare-answer-requires-clause-right : goal.compare-answer-requires-clause-right
compare-answer-requires-clause-right g c = c.requires.right _ c.into_fallible_iter.ensures

pub compare-answer-requires-clause-finite : goal.compare-answer-requires-clause-finite
compare-answer-requires-clause-finite g c = either_or_ends_by_one_of _ _ _ c.into_fallible_iter.ensures c.requires.finite

pub returns-clause-compared : goal.returns-clause-compared
returns-clause-compared g c = record { answer = _; compared = record { right = _; made = c.into_fallible_iter.ensures; compared = c.compare-answer.ensures }; is = c.read.ensures }

pub returns-clause-value : goal.returns-clause-value
returns-clause-value g c a b i j = read_as_of_lists a b (returns-clause-compared g c) i j
