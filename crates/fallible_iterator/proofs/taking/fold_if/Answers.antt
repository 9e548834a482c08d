-- A failure of the source or of the test, one of the closure, an item on which both returned, and an item that is rejected or an end: what each makes of the run, and what the run says of a list and of what stays.
use Rattle.std.proofs.Common.{rules}
use Rattle.fallible_contract.specs.Closures.{call_by_reference, takes_by_reference}
use Rattle.fallible_contract.specs.Folds.{call_with, takes_with}
use Rattle.fallible_core.specs.Peeking.Peekable.{peekable_parts}
use Rattle.fallible_iterator.proofs.Lemmas.Taking.{callable_after_accepted, counts_down_accepted, fold_if_with_accepted_item_before, fold_if_ends, fold_if_fails, fold_if_stops, folded_if_of_lists, lists_rest_fold_if, stays_fold_if, takes_accepted, testable_on_next}
use Rattle.fallible_iterator.proofs.taking.fold_if.Goals as goal

pub next_accepted-requires-clause-callable : goal.next_accepted-requires-clause-callable
next_accepted-requires-clause-callable g c x left step y shows = testable_on_next g.I.FallibleIterator.contract.steps (call_by_reference g.P.FnMut) (call_with g.F.FnMut) (takes_by_reference g.P.FnMut) (takes_with g.F.FnMut) (peekable_parts c.loop-left.ahead) left _ _ x c.loop-left.invariant.callable step y shows

pub returns-in_err-x-clause-folded : goal.returns-in_err-x-clause-folded
returns-in_err-x-clause-folded g c = c.loop-left.invariant.whole _ _ (fold_if_fails g.I.FallibleIterator.contract.steps (call_by_reference g.P.FnMut) (call_with g.F.FnMut) c.loop-left.value c.loop-left.f c.in_err-x.field-0.0 (search rules) (search rules) c.next_accepted.ensures)

pub f-requires : goal.f-requires
f-requires g c = takes_accepted g.I.FallibleIterator.contract.steps (call_by_reference g.P.FnMut) (call_with g.F.FnMut) (takes_by_reference g.P.FnMut) (takes_with g.F.FnMut) c.in-Some.x c.loop-left.invariant.callable (search rules) c.next_accepted.ensures

pub returns-in_err-value-clause-folded : goal.returns-in_err-value-clause-folded
returns-in_err-value-clause-folded g c = c.loop-left.invariant.whole _ _ (fold_if_stops g.I.FallibleIterator.contract.steps (call_by_reference g.P.FnMut) (call_with g.F.FnMut) c.in-Some.x c.in_err-value.field-0.0 (search rules) (search rules) c.next_accepted.ensures c.in_err-value.ensures)

pub loop-left-preserved : goal.loop-left-preserved
loop-left-preserved g c = record {
  counts = counts_down_accepted g.met.I.FallibleIterator.lawful _ _ c.in-Some.x c.loop-left.invariant.counts (search rules) c.next_accepted.ensures c.one_less-left.ensures;
  callable = callable_after_accepted g.I.FallibleIterator.contract.steps (call_by_reference g.P.FnMut) (call_with g.F.FnMut) (takes_by_reference g.P.FnMut) (takes_with g.F.FnMut) c.in-Some.x c.loop-left.invariant.callable (search rules) c.next_accepted.ensures c.in_ok-value.ensures;
  whole = λ r t rest. c.loop-left.invariant.whole r t (fold_if_with_accepted_item_before g.I.FallibleIterator.contract.steps (call_by_reference g.P.FnMut) (call_with g.F.FnMut) c.in-Some.x (search rules) c.next_accepted.ensures c.in_ok-value.ensures rest);
}

pub returns-clause-folded : goal.returns-clause-folded
returns-clause-folded g c = c.loop-left.invariant.whole _ _ (fold_if_ends g.I.FallibleIterator.contract.steps (call_by_reference g.P.FnMut) (call_with g.F.FnMut) c.loop-left.value c.loop-left.f (search rules) c.next_accepted.ensures)

pub returns-in_err-x-clause-value : goal.returns-in_err-x-clause-value
returns-in_err-x-clause-value g c p l acts i h folds = folded_if_of_lists _ _ _ _ _ p h acts folds l (returns-in_err-x-clause-folded g c) i

pub returns-in_err-x-clause-rest : goal.returns-in_err-x-clause-rest
returns-in_err-x-clause-rest g c p l acts i h folds = lists_rest_fold_if _ _ _ _ _ p h acts folds l (returns-in_err-x-clause-folded g c) i

pub returns-in_err-x-clause-stays : goal.returns-in_err-x-clause-stays
returns-in_err-x-clause-stays g c = stays_fold_if g.met.I.FallibleIterator.lawful _ _ _ c.requires.can_next (returns-in_err-x-clause-folded g c)

pub returns-in_err-value-clause-value : goal.returns-in_err-value-clause-value
returns-in_err-value-clause-value g c p l acts i h folds = folded_if_of_lists _ _ _ _ _ p h acts folds l (returns-in_err-value-clause-folded g c) i

pub returns-in_err-value-clause-rest : goal.returns-in_err-value-clause-rest
returns-in_err-value-clause-rest g c p l acts i h folds = lists_rest_fold_if _ _ _ _ _ p h acts folds l (returns-in_err-value-clause-folded g c) i

pub returns-in_err-value-clause-stays : goal.returns-in_err-value-clause-stays
returns-in_err-value-clause-stays g c = stays_fold_if g.met.I.FallibleIterator.lawful _ _ _ c.requires.can_next (returns-in_err-value-clause-folded g c)

pub returns-clause-value : goal.returns-clause-value
returns-clause-value g c p l acts i h folds = folded_if_of_lists _ _ _ _ _ p h acts folds l (returns-clause-folded g c) i

pub returns-clause-rest : goal.returns-clause-rest
returns-clause-rest g c p l acts i h folds = lists_rest_fold_if _ _ _ _ _ p h acts folds l (returns-clause-folded g c) i

pub returns-clause-stays : goal.returns-clause-stays
returns-clause-stays g c = stays_fold_if g.met.I.FallibleIterator.lawful _ _ _ c.requires.can_next (returns-clause-folded g c)
