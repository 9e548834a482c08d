-- The loop of rounds by the closure's answers is the comparison, and its answer is read.
use Rattle.std.proofs.Common.{ap, ◌∙◌}
use Rattle.fallible_iterator.specs.Comparing.{read_as, reads_eq}
use Rattle.fallible_iterator.specs.Folds.{call_with}
use Rattle.fallible_iterator.proofs.Lemmas.Comparing.{either_or_ends_by_one_of}
use Rattle.fallible_itertools.specs.Equal.{equal_by}
use Rattle.fallible_itertools.proofs.Lemmas.Equal.{turns_as_of_eq_where_acts, compared_by_of_lists}
use Rattle.fallible_itertools.proofs.traits.FallibleItertools.eq_by.Goals as goal

pub compare_by-answer-requires-clause-right : goal.compare_by-answer-requires-clause-right
compare_by-answer-requires-clause-right g c = c.requires.right _ c.into_fallible_iter.ensures

pub compare_by-answer-requires-clause-finite : goal.compare_by-answer-requires-clause-finite
compare_by-answer-requires-clause-finite g c = either_or_ends_by_one_of _ _ _ c.into_fallible_iter.ensures c.requires.finite

pub compare_by-answer-requires-clause-callable : goal.compare_by-answer-requires-clause-callable
compare_by-answer-requires-clause-callable g c = c.requires.callable _ c.into_fallible_iter.ensures

pub returns-clause-compared : goal.returns-clause-compared
returns-clause-compared g c = (_, record { right = _; made = c.into_fallible_iter.ensures; compared = c.compare_by-answer.ensures }, c.read.ensures)

pub returns-clause-value : goal.returns-clause-value
unfolding equal_by
returns-clause-value g c h acts a b i j = let w = returns-clause-compared g c in w.2 ∙ ap (read_as reads_eq) (compared_by_of_lists _ (turns_as_of_eq_where_acts (call_with g.F.FnMut) h acts) a b w.1 i j)
