-- A fold from the back of `Chain` is one of the second, and after its end one of the first; where one side alone is still drawn, it is one of that side.
use Rattle.std.proofs.Common.{refl, ap}
use Rattle.fallible_contract.specs.Ends.{from_back}
use Rattle.fallible_core.specs.Joining.Chain.{chain_parts, sides_back}
use Rattle.fallible_core.proofs.Lemmas.Joining.Chain.{chain_parts_back, of_parts_back}
use Rattle.fallible_core.specs.Laws.Joining.ChainTraces.{chain_back_twice}
use Rattle.fallible_core.proofs.Lemmas.Joining.ChainFolds.{still_drawn_is_both, sides_back_is_never_second_alone, first_is_finite, second_is_finite, drive_met_end, last_is_not_end_of_drive, drive_joins, holds_each_turn_second_by_itself, holds_each_turn_first, holds_each_turn_second, drained_chain_second_alone, drained_chain_first_alone, drained_chain_first, drained_chain_both}
use Rattle.fallible_core.proofs.joining.chain.ChainDoubleEndedFallibleIterator.drive_back.Goals as goal

pub drive_back-requires-clause-callable : goal.drive_back-requires-clause-callable
drive_back-requires-clause-callable g c = holds_each_turn_second_by_itself chain_parts_back of_parts_back chain_back_twice (from_back g.U.FallibleIterator.contract g.U.DoubleEndedFallibleIterator.ends) (from_back g.T.FallibleIterator.contract g.T.DoubleEndedFallibleIterator.ends) (ap sides_back c.in-FirstAlone.is) c.requires.callable

pub drive_back-requires-in_default : goal.drive_back-requires-in_default
drive_back-requires-in_default g c = record {
  can_next = c.requires.can_next.1;
  finite = second_is_finite g.T.FallibleIterator.contract g.U.FallibleIterator.contract (chain_parts c.args.self.now) c.in_default.not-FirstAlone c.requires.finite;
  callable = holds_each_turn_first chain_parts_back of_parts_back chain_back_twice (from_back g.U.FallibleIterator.contract g.U.DoubleEndedFallibleIterator.ends) (from_back g.T.FallibleIterator.contract g.T.DoubleEndedFallibleIterator.ends) (sides_back_is_never_second_alone _ c.in_default.not-FirstAlone) c.requires.callable;
}

pub drive_back-requires-in_default-still_drawn : goal.drive_back-requires-in_default-still_drawn
drive_back-requires-in_default-still_drawn g c = record {
  can_next = c.requires.can_next.0;
  finite = first_is_finite g.T.FallibleIterator.contract g.U.FallibleIterator.contract (chain_parts c.args.self.now) c.in_default-still_drawn.not-SecondAlone c.requires.finite;
  callable = holds_each_turn_second chain_parts_back of_parts_back chain_back_twice (from_back g.U.FallibleIterator.contract g.U.DoubleEndedFallibleIterator.ends) (from_back g.T.FallibleIterator.contract g.T.DoubleEndedFallibleIterator.ends) (ap sides_back (still_drawn_is_both _ c.in_default-still_drawn.not-SecondAlone c.in_default.not-FirstAlone)) (drive_met_end (g.K.Turn.turns c.args.turn.now)) (rw c.in-Ok-None.field-0-is at c.in-Ok-None.ensures) c.requires.callable;
}

pub returns-in-FirstAlone : goal.returns-in-FirstAlone
returns-in-FirstAlone g c = drained_chain_second_alone chain_parts_back of_parts_back chain_back_twice (from_back g.U.FallibleIterator.contract g.U.DoubleEndedFallibleIterator.ends) (from_back g.T.FallibleIterator.contract g.T.DoubleEndedFallibleIterator.ends) (ap sides_back c.in-FirstAlone.is) refl (ap sides_back c.in-FirstAlone.is) c.drive_back.ensures

pub returns-in-Ok-Some : goal.returns-in-Ok-Some
returns-in-Ok-Some g c = drained_chain_first chain_parts_back of_parts_back chain_back_twice (from_back g.U.FallibleIterator.contract g.U.DoubleEndedFallibleIterator.ends) (from_back g.T.FallibleIterator.contract g.T.DoubleEndedFallibleIterator.ends) (sides_back_is_never_second_alone _ c.in_default.not-FirstAlone) refl refl (last_is_not_end_of_drive (g.K.Turn.turns c.args.turn.now) (λ e. absurd cc)) (rw c.in-Ok-Some.field-0-is at c.in-Ok-Some.ensures)

pub returns-in-SecondAlone : goal.returns-in-SecondAlone
returns-in-SecondAlone g c = drained_chain_first_alone chain_parts_back of_parts_back chain_back_twice (from_back g.U.FallibleIterator.contract g.U.DoubleEndedFallibleIterator.ends) (from_back g.T.FallibleIterator.contract g.T.DoubleEndedFallibleIterator.ends) (ap sides_back c.in-SecondAlone.is) refl (ap sides_back c.in-SecondAlone.is) (rw c.in-Ok-None.field-0-is at c.in-Ok-None.ensures)

pub returns-in_default-still_drawn : goal.returns-in_default-still_drawn
returns-in_default-still_drawn g c = drained_chain_both chain_parts_back of_parts_back chain_back_twice (from_back g.U.FallibleIterator.contract g.U.DoubleEndedFallibleIterator.ends) (from_back g.T.FallibleIterator.contract g.T.DoubleEndedFallibleIterator.ends) (ap sides_back (still_drawn_is_both _ c.in_default-still_drawn.not-SecondAlone c.in_default.not-FirstAlone)) refl (drive_joins (g.K.Turn.turns c.args.turn.now)) (rw c.in-Ok-None.field-0-is at c.in-Ok-None.ensures) c.drive_back-in_default-still_drawn.ensures

pub returns-in-Err : goal.returns-in-Err
returns-in-Err g c = drained_chain_first chain_parts_back of_parts_back chain_back_twice (from_back g.U.FallibleIterator.contract g.U.DoubleEndedFallibleIterator.ends) (from_back g.T.FallibleIterator.contract g.T.DoubleEndedFallibleIterator.ends) (sides_back_is_never_second_alone _ c.in_default.not-FirstAlone) refl refl (last_is_not_end_of_drive (g.K.Turn.turns c.args.turn.now) (λ e. absurd cc)) c.in-Err.ensures
