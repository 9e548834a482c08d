-- A failure of the source; what is held, drawn where the closure accepts it or fails on it; and a rejected item, which stays held.
use Rattle.fallible_iterator.specs.Closures.{call_by_reference}
use Rattle.fallible_itertools_adapters.proofs.Lemmas.PeekingTakeWhile.{ahead_fails, ahead_takes, ahead_ends_where_refused, ahead_fails_where_accept_fails}
use Rattle.fallible_itertools_adapters.proofs.peeking_take_while.PeekablePeekingNext.next_accepted.Goals as goal

pub returns-in-Err : goal.returns-in-Err
returns-in-Err g c = ahead_fails g.I.FallibleIterator.contract (call_by_reference g.F.FnMut) _ _ _ _ c.in-Err.ensures.filled

pub returns-in-Ok-true : goal.returns-in-Ok-true
returns-in-Ok-true g c = ahead_takes g.I.FallibleIterator.contract (call_by_reference g.F.FnMut) _ _ _ _ _ _ c.in-Ok.ensures.filled (rw c.in-Ok-true.field-0-test at c.in-Ok-true.ensures) c.next.ensures

pub returns-in-Ok-false : goal.returns-in-Ok-false
returns-in-Ok-false g c = ahead_ends_where_refused g.I.FallibleIterator.contract (call_by_reference g.F.FnMut) _ _ _ _ c.in-Ok.ensures.filled (rw c.in-Ok-false.field-0-test at c.in-Ok-false.ensures)

pub returns-in-Ok-next : goal.returns-in-Ok-next
returns-in-Ok-next g c = ahead_fails_where_accept_fails g.I.FallibleIterator.contract (call_by_reference g.F.FnMut) _ _ _ _ _ _ _ c.in-Ok.ensures.filled c.in-Err-none_held_or_accepts.ensures c.next-in-Err-none_held_or_accepts.ensures
