-- A failure of the source; what is held, drawn where the test accepts it or fails on it; and a rejected item or an end, which stays held.
use Rattle.fallible_contract.specs.Closures.{call_by_reference}
use Rattle.fallible_iterator.proofs.Lemmas.Taking.{step_gives_item_held_after_fill, takes_if_accepted, takes_if_fails_where_fill_fails, takes_if_fails_where_test_fails, takes_if_ends_where_test_refuses}
use Rattle.fallible_iterator.proofs.taking.next_accepted.Goals as goal

pub returns-in-Err : goal.returns-in-Err
returns-in-Err g c = takes_if_fails_where_fill_fails g.I.FallibleIterator.contract.steps (call_by_reference g.P.FnMut) _ _ _ _ c.in-Err.ensures.filled

pub none_held_or_accepts-requires : goal.none_held_or_accepts-requires
none_held_or_accepts-requires g c x held = c.requires.callable x _ (step_gives_item_held_after_fill g.I.FallibleIterator.contract.steps _ _ x c.in-Ok.ensures.filled held)

pub returns-in-Ok-true : goal.returns-in-Ok-true
returns-in-Ok-true g c = takes_if_accepted g.I.FallibleIterator.contract.steps (call_by_reference g.P.FnMut) _ _ _ _ _ _ c.in-Ok.ensures.filled (rw c.in-Ok-true.field-0-test at c.in-Ok-true.ensures) c.next.ensures

pub returns-in-Ok-false : goal.returns-in-Ok-false
returns-in-Ok-false g c = takes_if_ends_where_test_refuses g.I.FallibleIterator.contract.steps (call_by_reference g.P.FnMut) _ _ _ _ c.in-Ok.ensures.filled (rw c.in-Ok-false.field-0-test at c.in-Ok-false.ensures)

pub returns-in-Ok-next : goal.returns-in-Ok-next
returns-in-Ok-next g c = takes_if_fails_where_test_fails g.I.FallibleIterator.contract.steps (call_by_reference g.P.FnMut) _ _ _ _ _ _ _ c.in-Ok.ensures.filled c.in-Err-none_held_or_accepts.ensures c.next-in-Err-none_held_or_accepts.ensures
