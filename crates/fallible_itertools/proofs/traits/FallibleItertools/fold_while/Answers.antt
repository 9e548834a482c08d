-- The fold whose state is the value, in its slot, and the closure.
use Rattle.fallible_iterator.specs.Folds.{call_with}
use Rattle.fallible_iterator.specs.Laws.Contract.{stays_run}
use Rattle.fallible_iterator.proofs.Lemmas.Folds.{callable_driving_slot}
use Rattle.fallible_itertools.specs.FoldWhile.{WhileCall}
use Rattle.fallible_itertools.proofs.Lemmas.FoldWhile.{is_some_value_left, fold_while_drains_by_fold, folded_while_of_lists, lists_rest_while_done, lists_rest_while_failed}
use Rattle.fallible_itertools.proofs.traits.FallibleItertools.fold_while.Goals as goal

pub drive-answer-requires-clause-callable : goal.drive-answer-requires-clause-callable
drive-answer-requires-clause-callable g c = callable_driving_slot (WhileCall (call_with g.F.FnMut)) c.requires.callable

pub while_or_stop-requires : goal.while_or_stop-requires
while_or_stop-requires g c = λ ended. is_some_value_left (call_with g.F.FnMut) _ _ (rw ended at c.drive-answer.ensures)

pub returns-clause-folded : goal.returns-clause-folded
returns-clause-folded g c = fold_while_drains_by_fold (call_with g.F.FnMut) c.drive-answer.ensures c.while_or_stop.ensures

pub returns-clause-value : goal.returns-clause-value
returns-clause-value g c h l acts i = folded_while_of_lists h (call_with g.F.FnMut) _ acts l i (returns-clause-folded g c)

pub returns-clause-rest_done : goal.returns-clause-rest_done
returns-clause-rest_done g c h l acts i b is = lists_rest_while_done h (call_with g.F.FnMut) _ acts l i b (returns-clause-folded g c) is

pub returns-clause-rest_failed : goal.returns-clause-rest_failed
returns-clause-rest_failed g c h l acts i e is = lists_rest_while_failed h (call_with g.F.FnMut) _ acts l i e (returns-clause-folded g c) is

pub returns-clause-stays : goal.returns-clause-stays
returns-clause-stays g c = stays_run g.met.Self.FallibleIterator.lawful _ _ _ c.requires.can_next c.drive-answer.ensures.ran
