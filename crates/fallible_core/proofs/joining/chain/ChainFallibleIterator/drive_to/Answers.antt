-- What the first makes of the goal, and after its end the second; where one side alone is still drawn, that side.
use Rattle.std.proofs.Common.{refl}
use Rattle.fallible_contract.specs.Goals.{goal_turns}
use Rattle.fallible_core.specs.Joining.Chain.{chain_parts}
use Rattle.fallible_core.proofs.Lemmas.Joining.Chain.{of_parts}
use Rattle.fallible_core.proofs.Lemmas.Joining.ChainFolds.{still_drawn_is_both, last_is_not_end_of_drive, drive_joins, drained_chain_second_alone, drained_chain_first_alone, drained_chain_first, drained_chain_both}
use Rattle.fallible_core.proofs.Lemmas.Joining.ChainConsuming.{reachable_first, reachable_second_alone, reachable_second_past_first}
use Rattle.fallible_core.proofs.joining.chain.ChainFallibleIterator.drive_to.Goals as goal

pub drive_to-requires-clause-reachable : goal.drive_to-requires-clause-reachable
drive_to-requires-clause-reachable g c = reachable_second_alone g.T.FallibleIterator.contract g.U.FallibleIterator.contract (chain_parts c.args.self.now) c.args.goal.now c.in-SecondAlone.is c.requires.reachable

pub drive_to-requires-in_default : goal.drive_to-requires-in_default
drive_to-requires-in_default g c = record {
  can_next = c.requires.can_next.0;
  reachable = reachable_first g.T.FallibleIterator.contract g.U.FallibleIterator.contract (chain_parts c.args.self.now) c.args.goal.now c.in_default.not-SecondAlone c.requires.reachable;
}

pub drive_to-requires-in_default-still_drawn : goal.drive_to-requires-in_default-still_drawn
drive_to-requires-in_default-still_drawn g c = record {
  can_next = c.requires.can_next.1;
  reachable = reachable_second_past_first g.T.FallibleIterator.contract g.U.FallibleIterator.contract (chain_parts c.args.self.now) c.args.goal.now g.met.T.FallibleIterator.lawful c.requires.can_next.0 (still_drawn_is_both _ c.in_default.not-SecondAlone c.in_default-still_drawn.not-FirstAlone) c.requires.reachable (rw c.in-Ok-None.field-0-is at c.in-Ok-None.ensures);
}

pub returns-in-SecondAlone : goal.returns-in-SecondAlone
returns-in-SecondAlone g c = drained_chain_second_alone chain_parts of_parts (λ p. refl) g.T.FallibleIterator.contract g.U.FallibleIterator.contract c.in-SecondAlone.is refl c.in-SecondAlone.is c.drive_to.ensures

pub returns-in-Ok-Some : goal.returns-in-Ok-Some
returns-in-Ok-Some g c = drained_chain_first chain_parts of_parts (λ p. refl) g.T.FallibleIterator.contract g.U.FallibleIterator.contract c.in_default.not-SecondAlone refl refl (last_is_not_end_of_drive goal_turns (λ e. absurd cc)) (rw c.in-Ok-Some.field-0-is at c.in-Ok-Some.ensures)

pub returns-in-FirstAlone : goal.returns-in-FirstAlone
returns-in-FirstAlone g c = drained_chain_first_alone chain_parts of_parts (λ p. refl) g.T.FallibleIterator.contract g.U.FallibleIterator.contract c.in-FirstAlone.is refl c.in-FirstAlone.is (rw c.in-Ok-None.field-0-is at c.in-Ok-None.ensures)

pub returns-in_default-still_drawn : goal.returns-in_default-still_drawn
returns-in_default-still_drawn g c = drained_chain_both chain_parts of_parts (λ p. refl) g.T.FallibleIterator.contract g.U.FallibleIterator.contract (still_drawn_is_both _ c.in_default.not-SecondAlone c.in_default-still_drawn.not-FirstAlone) refl (drive_joins goal_turns) (rw c.in-Ok-None.field-0-is at c.in-Ok-None.ensures) c.drive_to-in_default-still_drawn.ensures

pub returns-in-Err : goal.returns-in-Err
returns-in-Err g c = drained_chain_first chain_parts of_parts (λ p. refl) g.T.FallibleIterator.contract g.U.FallibleIterator.contract c.in_default.not-SecondAlone refl refl (last_is_not_end_of_drive goal_turns (λ e. absurd cc)) c.in-Err.ensures
