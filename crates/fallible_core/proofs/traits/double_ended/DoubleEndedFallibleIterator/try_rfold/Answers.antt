-- The fold whose state is the value, in its slot, and the closure.
use Rattle.fallible_contract.specs.Folds.{call_with}
use Rattle.fallible_contract.proofs.Lemmas.Folds.{callable_driving_slot, slot_never_empty, fold_drains_slot_ended, fold_drains_slot_failed, fold_drains_slot_stopped}
use Rattle.fallible_contract.proofs.Lemmas.Lists.Drawn.{folded_of_lists}
use Rattle.fallible_core.proofs.Lemmas.RestAtEnds.{lists_both_ends_fold_rest_at_back}
use Rattle.fallible_contract.specs.Laws.Contract.{stays_run}
use Rattle.fallible_core.proofs.traits.double_ended.DoubleEndedFallibleIterator.try_rfold.Goals as goal

pub drive_back-answer-requires-clause-callable : goal.drive_back-answer-requires-clause-callable
drive_back-answer-requires-clause-callable g c = callable_driving_slot (call_with g.F.FnMut) c.requires.callable

pub unreachable-requires : goal.unreachable-requires
unreachable-requires g c = slot_never_empty (call_with g.F.FnMut) (rw (c.in-Ok-None.field-0-is, c.in-None.is) at c.in-Ok-None.ensures)

pub returns-in-Some-clause-folded : goal.returns-in-Some-clause-folded
returns-in-Some-clause-folded g c = fold_drains_slot_ended (call_with g.F.FnMut) g.E.From.from_gives _ c.drive_back-answer.new.state.1 (rw (c.in-Ok-None.field-0-is, c.in-Some.is) at c.in-Ok-None.ensures)

pub returns-in-Ok-Some-clause-folded : goal.returns-in-Ok-Some-clause-folded
returns-in-Ok-Some-clause-folded g c = fold_drains_slot_stopped (call_with g.F.FnMut) g.E.From.from_gives _ _ (rw c.in-Ok-Some.field-0-is at c.in-Ok-Some.ensures)

pub returns-clause-folded : goal.returns-clause-folded
returns-clause-folded g c = fold_drains_slot_failed (call_with g.F.FnMut) g.E.From.from_gives _ _ _ c.in-Err.ensures c.from.ensures

pub returns-in-Some-clause-value : goal.returns-in-Some-clause-value
returns-in-Some-clause-value g c convert converts h l acts i = folded_of_lists _ _ convert h _ acts converts l (returns-in-Some-clause-folded g c) i

pub returns-in-Some-clause-rest : goal.returns-in-Some-clause-rest
returns-in-Some-clause-rest g c h l acts i = lists_both_ends_fold_rest_at_back _ _ _ _ h _ acts l (returns-in-Some-clause-folded g c) i

pub returns-in-Some-clause-stays : goal.returns-in-Some-clause-stays
returns-in-Some-clause-stays g c = stays_run g.met.Self.DoubleEndedFallibleIterator.lawful_ends.back _ _ _ c.requires.can_next (returns-in-Some-clause-folded g c).ran

pub returns-in-Ok-Some-clause-value : goal.returns-in-Ok-Some-clause-value
returns-in-Ok-Some-clause-value g c convert converts h l acts i = folded_of_lists _ _ convert h _ acts converts l (returns-in-Ok-Some-clause-folded g c) i

pub returns-in-Ok-Some-clause-rest : goal.returns-in-Ok-Some-clause-rest
returns-in-Ok-Some-clause-rest g c h l acts i = lists_both_ends_fold_rest_at_back _ _ _ _ h _ acts l (returns-in-Ok-Some-clause-folded g c) i

pub returns-in-Ok-Some-clause-stays : goal.returns-in-Ok-Some-clause-stays
returns-in-Ok-Some-clause-stays g c = stays_run g.met.Self.DoubleEndedFallibleIterator.lawful_ends.back _ _ _ c.requires.can_next (returns-in-Ok-Some-clause-folded g c).ran

pub returns-clause-value : goal.returns-clause-value
returns-clause-value g c convert converts h l acts i = folded_of_lists _ _ convert h _ acts converts l (returns-clause-folded g c) i

pub returns-clause-rest : goal.returns-clause-rest
returns-clause-rest g c h l acts i = lists_both_ends_fold_rest_at_back _ _ _ _ h _ acts l (returns-clause-folded g c) i

pub returns-clause-stays : goal.returns-clause-stays
returns-clause-stays g c = stays_run g.met.Self.DoubleEndedFallibleIterator.lawful_ends.back _ _ _ c.requires.can_next (returns-clause-folded g c).ran
