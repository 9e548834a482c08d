-- A fold of `Skip` begins with a fold of the source up to the first item that stays, which is one draw, and after that item it is a fold of the source.
use Rattle.fallible_contract.specs.Laws.Contract.{kept_by_draws_run}
use Rattle.fallible_contract.proofs.Lemmas.Folds.{holds_at_first_turn, driven_end, driven_failure, driven_of_first_break}
use Rattle.fallible_core.proofs.Lemmas.Cutting.SkipFolds.{contract_step_of_driven_to_nth, holds_each_turn_past, driven_past}
use Rattle.fallible_core.proofs.cutting.skip.SkipFallibleIterator.drive.Goals as goal

pub turn-requires : goal.turn-requires
turn-requires g c = holds_at_first_turn c.requires.callable (contract_step_of_driven_to_nth g.I.FallibleIterator.contract c.args.self.now (rw c.in-Ok-Some.field-0-is at c.in-Ok-Some.ensures))

pub drive-requires-in-Continue-clause-can_next : goal.drive-requires-in-Continue-clause-can_next
drive-requires-in-Continue-clause-can_next g c = (kept_by_draws_run g.met.I.FallibleIterator.lawful _ _ _ c.requires.can_next c.drive.ensures.ran).can_next

pub drive-requires-in-Continue-clause-finite : goal.drive-requires-in-Continue-clause-finite
drive-requires-in-Continue-clause-finite g c = (kept_by_draws_run g.met.I.FallibleIterator.lawful _ _ _ c.requires.can_next c.drive.ensures.ran).is_finite c.requires.finite

pub drive-requires-in-Continue-clause-callable : goal.drive-requires-in-Continue-clause-callable
drive-requires-in-Continue-clause-callable g c = holds_each_turn_past g.I.FallibleIterator.contract c.args.self.now (rw c.in-Ok-Some.field-0-is at c.in-Ok-Some.ensures) c.requires.callable c.in-Continue.ensures

pub returns-in-Continue : goal.returns-in-Continue
returns-in-Continue g c = driven_past g.I.FallibleIterator.contract c.args.self.now (rw c.in-Ok-Some.field-0-is at c.in-Ok-Some.ensures) c.in-Continue.ensures c.drive-in-Continue.ensures

pub returns-in-Break : goal.returns-in-Break
returns-in-Break g c = driven_of_first_break _ (contract_step_of_driven_to_nth g.I.FallibleIterator.contract c.args.self.now (rw c.in-Ok-Some.field-0-is at c.in-Ok-Some.ensures)) c.in-Break.ensures

pub returns-in-Ok-None : goal.returns-in-Ok-None
returns-in-Ok-None g c = driven_end (contract_step_of_driven_to_nth g.I.FallibleIterator.contract c.args.self.now (rw c.in-Ok-None.field-0-is at c.in-Ok-None.ensures))

pub returns-in-Err : goal.returns-in-Err
returns-in-Err g c = driven_failure (contract_step_of_driven_to_nth g.I.FallibleIterator.contract c.args.self.now c.in-Err.ensures)
