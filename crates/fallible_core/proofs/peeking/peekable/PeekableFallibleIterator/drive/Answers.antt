-- The turn on a held item and then a fold of the source; a held end is a fold without a draw.
use Rattle.std.proofs.Common.{sym, refl}
use Rattle.fallible_core.proofs.Lemmas.Peeking.PeekableFolds.{drained_where_none_held, driven_where_item_held, driven_stops_at_held_item, drained_where_end_held, holds_each_turn_where_none_held, item_takes, holds_each_turn_after_held_item}
use Rattle.fallible_core.proofs.peeking.peekable.PeekableFallibleIterator.drive.Goals as goal

pub turn-requires : goal.turn-requires
turn-requires g c = item_takes g.I.FallibleIterator.contract c.args.self.now _ (sym (rw c.in-Some-Some.field-0-is at c.in-Some-Some.ensures.value)) c.requires.callable

pub drive-requires-clause-callable : goal.drive-requires-clause-callable
drive-requires-clause-callable g c = holds_each_turn_after_held_item g.I.FallibleIterator.contract c.args.self.now _ (sym (rw c.in-Some-Some.field-0-is at c.in-Some-Some.ensures.value)) c.in-Continue.ensures c.requires.callable

pub drive-requires-in-None-clause-callable : goal.drive-requires-in-None-clause-callable
drive-requires-in-None-clause-callable g c = holds_each_turn_where_none_held g.I.FallibleIterator.contract c.args.self.now (sym c.in-None.ensures.value) c.requires.callable

pub returns-in-Continue : goal.returns-in-Continue
returns-in-Continue g c = rw c.in-Some-Some.ensures.after (driven_where_item_held g.I.FallibleIterator.contract c.args.self.now _ (sym (rw c.in-Some-Some.field-0-is at c.in-Some-Some.ensures.value)) c.in-Continue.ensures c.drive.ensures)

pub returns-in-Break : goal.returns-in-Break
returns-in-Break g c = rw c.in-Some-Some.ensures.after (driven_stops_at_held_item g.I.FallibleIterator.contract c.args.self.now _ (sym (rw c.in-Some-Some.field-0-is at c.in-Some-Some.ensures.value)) c.in-Break.ensures)

pub returns-in-Some-None : goal.returns-in-Some-None
returns-in-Some-None g c = rw c.in-Some-None.ensures.after (drained_where_end_held g.I.FallibleIterator.contract c.args.self.now (sym (rw c.in-Some-None.field-0-is at c.in-Some-None.ensures.value)) (record { carried = _; went = refl; exit = (refl, refl) }))

pub returns-in-None : goal.returns-in-None
returns-in-None g c = rw c.in-None.ensures.after (drained_where_none_held g.I.FallibleIterator.contract c.args.self.now (sym c.in-None.ensures.value) c.drive-in-None.ensures)
