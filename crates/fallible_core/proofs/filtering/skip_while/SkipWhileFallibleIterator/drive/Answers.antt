-- A fold of `SkipWhile` begins with a draw of it, and after an item it is a fold of the source.
use Rattle.std.specs.Prelude.{Some, Ok}
use Rattle.fallible_contract.specs.Laws.Contract.{lawful_parts}
use Rattle.fallible_contract.proofs.Lemmas.Folds.{holds_at_first_turn, holds_each_turn_after_item, driven_by_item_first, driven_end, driven_failure, driven_of_first_break}
use Rattle.fallible_core.specs.Filtering.SkipWhile.{skip_while_made}
use Rattle.fallible_core.specs.Laws.Filtering.SkipWhile.{lawful_skip_while}
use Rattle.fallible_core.proofs.Lemmas.Filtering.SkipWhileFolds.{skipping_flag_is_true_after_item, holds_each_turn_past, drained_past}
use Rattle.fallible_core.proofs.filtering.skip_while.SkipWhileFallibleIterator.drive.Goals as goal

pub turn-requires : goal.turn-requires
turn-requires g c = holds_at_first_turn {s = c.args.self.now} {t = c.next.new.self} c.requires.callable (rw c.in-Ok-Some.field-0-is at c.in-Ok-Some.ensures)

pub drive-requires-clause-can_next : goal.drive-requires-clause-can_next
drive-requires-clause-can_next g c = ((lawful_parts skip_while_made (lawful_skip_while g.P.FnMut g.met.I.FallibleIterator.lawful)).kept_by_draw c.args.self.now (Ok (Some c.in-Ok-Some.x)) c.next.new.self c.requires.can_next (rw c.in-Ok-Some.field-0-is at c.in-Ok-Some.ensures)).can_next.1.0

pub drive-requires-clause-finite : goal.drive-requires-clause-finite
drive-requires-clause-finite g c = ((lawful_parts skip_while_made (lawful_skip_while g.P.FnMut g.met.I.FallibleIterator.lawful)).kept_by_draw c.args.self.now (Ok (Some c.in-Ok-Some.x)) c.next.new.self c.requires.can_next (rw c.in-Ok-Some.field-0-is at c.in-Ok-Some.ensures)).is_finite c.requires.finite

pub drive-requires-clause-callable : goal.drive-requires-clause-callable
drive-requires-clause-callable g c = holds_each_turn_past g.I.FallibleIterator.contract g.P.FnMut {s = c.next.new.self} (skipping_flag_is_true_after_item g.I.FallibleIterator.contract g.P.FnMut c.args.self.now c.next.new.self c.in-Ok-Some.x (rw c.in-Ok-Some.field-0-is at c.in-Ok-Some.ensures)) (holds_each_turn_after_item {s = c.args.self.now} {t = c.next.new.self} c.requires.callable (rw c.in-Ok-Some.field-0-is at c.in-Ok-Some.ensures) c.in-Continue.ensures)

pub returns-in-Continue : goal.returns-in-Continue
returns-in-Continue g c = driven_by_item_first {s = c.args.self.now} {t = c.next.new.self} c.in-Ok-Some.x (rw c.in-Ok-Some.field-0-is at c.in-Ok-Some.ensures) c.in-Continue.ensures (drained_past g.I.FallibleIterator.contract g.P.FnMut {s = c.next.new.self} (skipping_flag_is_true_after_item g.I.FallibleIterator.contract g.P.FnMut c.args.self.now c.next.new.self c.in-Ok-Some.x (rw c.in-Ok-Some.field-0-is at c.in-Ok-Some.ensures)) c.drive.ensures)

pub returns-in-Break : goal.returns-in-Break
returns-in-Break g c = driven_of_first_break {s = c.args.self.now} {t = c.next.new.self} c.in-Ok-Some.x (rw c.in-Ok-Some.field-0-is at c.in-Ok-Some.ensures) c.in-Break.ensures

pub returns-in-Ok-None : goal.returns-in-Ok-None
returns-in-Ok-None g c = driven_end {s = c.args.self.now} {t = c.next.new.self} (rw c.in-Ok-None.field-0-is at c.in-Ok-None.ensures)

pub returns-in-Err : goal.returns-in-Err
returns-in-Err g c = driven_failure {s = c.args.self.now} {t = c.next.new.self} c.in-Err.ensures
