-- Each turn goes before the fold from there on.
use Rattle.std.proofs.Common.{arith}
use Rattle.fallible_contract.proofs.Lemmas.Folds.{holds_at_first_turn, holds_each_turn_after_item, driven_by_item_first, driven_end, driven_failure, driven_of_first_break}
use Rattle.fallible_core.proofs.traits.double_ended.DoubleEndedFallibleIterator.drive_back.Goals as goal

pub turn-requires : goal.turn-requires
turn-requires g c = holds_at_first_turn c.loop-x.invariant.callable (rw c.in-Ok-Some.field-0-is at c.in-Ok-Some.ensures)

pub returns-in-Break : goal.returns-in-Break
returns-in-Break g c = c.loop-x.invariant.whole _ _ _ (driven_of_first_break _ (rw c.in-Ok-Some.field-0-is at c.in-Ok-Some.ensures) c.in-Break.ensures)

pub returns-in-Ok-None : goal.returns-in-Ok-None
returns-in-Ok-None g c = c.loop-x.invariant.whole _ _ _ (driven_end (rw c.in-Ok-None.field-0-is at c.in-Ok-None.ensures))

pub returns-in-Err : goal.returns-in-Err
returns-in-Err g c = c.loop-x.invariant.whole _ _ _ (driven_failure c.in-Err.ensures)

pub loop-x-preserved : goal.loop-x-preserved
loop-x-preserved g c = let step = rw c.in-Ok-Some.field-0-is at c.in-Ok-Some.ensures in
    let goes = g.met.Self.DoubleEndedFallibleIterator.lawful_ends.back.kept_by_draw _ _ _ c.loop-x.invariant.can_next step in
    let b = c.loop-x.invariant.bounded in
    let fewer = goes.answer.1 b.0 b.1 in record {
      can_next = goes.can_next;
      bounded = (fewer.0, fewer.1, omega (arith, fewer.2, b.2));
      callable = holds_each_turn_after_item c.loop-x.invariant.callable step c.in-Continue.ensures;
      whole = λ r t d rest. c.loop-x.invariant.whole r t d (driven_by_item_first _ step c.in-Continue.ensures rest);
    }
