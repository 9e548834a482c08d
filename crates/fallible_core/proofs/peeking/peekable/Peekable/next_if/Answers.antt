-- One draw, after which an item that the closure returns false on is put back, and an end.
use Rattle.std.proofs.Common.{Some, None, refl}
use Rattle.fallible_contract.specs.Traces.{item}
use Rattle.fallible_contract.specs.Laws.Contract.{stays_reflexive}
use Rattle.fallible_contract.proofs.Lemmas.Contract.{stays_step}
use Rattle.fallible_core.specs.Peeking.Peekable.{peekable_parts}
use Rattle.fallible_core.specs.Laws.Peeking.Peekable.{lawful_peekable}
use Rattle.fallible_core.proofs.Lemmas.Peeking.Peekable.{next_if_takes_item, next_if_keeps_item, next_if_keeps_end, next_if_takes_failure, stays_where_draw_is_held}
use Rattle.fallible_core.proofs.Lemmas.Peeking.PeekableLists.{next_if_answers_first_if_and_lists_rest}
use Rattle.fallible_core.proofs.peeking.peekable.Peekable.next_if.Goals as goal

pub returns-then-f-clause-taken : goal.returns-then-f-clause-taken
returns-then-f-clause-taken g c = next_if_takes_item _ _ _ _ _ (rw c.in-Ok-Some.field-0-is at c.in-Ok-Some.ensures) record { shown = _; shows = refl; says = record { met = c.if-f.ensures } }

pub returns-in-Ok-Some-clause-taken : goal.returns-in-Ok-Some-clause-taken
returns-in-Ok-Some-clause-taken g c = next_if_keeps_item _ _ _ (peekable_parts c.next.new.self) _ (rw c.in-Ok-Some.field-0-is at c.in-Ok-Some.ensures) record { shown = _; shows = refl; says = record { met = c.if-f.ensures } }

pub returns-in-Ok-Some-clause-stays : goal.returns-in-Ok-Some-clause-stays
returns-in-Ok-Some-clause-stays g c = stays_where_draw_is_held g.met.I.FallibleIterator.lawful _ (peekable_parts c.next.new.self) (Some c.in-Ok-Some.x) c.requires.can_next (rw c.in-Ok-Some.field-0-is at c.in-Ok-Some.ensures)

pub returns-in-Ok-None-clause-taken : goal.returns-in-Ok-None-clause-taken
returns-in-Ok-None-clause-taken g c = next_if_keeps_end _ _ _ (peekable_parts c.next.new.self) (rw c.in-Ok-None.field-0-is at c.in-Ok-None.ensures)

pub returns-in-Ok-None-clause-stays : goal.returns-in-Ok-None-clause-stays
returns-in-Ok-None-clause-stays g c = stays_where_draw_is_held g.met.I.FallibleIterator.lawful _ (peekable_parts c.next.new.self) None c.requires.can_next (rw c.in-Ok-None.field-0-is at c.in-Ok-None.ensures)

pub returns-clause-taken : goal.returns-clause-taken
returns-clause-taken g c = next_if_takes_failure _ _ _ _ _ c.in-Err.ensures

pub returns-then-f-clause-stays : goal.returns-then-f-clause-stays
returns-then-f-clause-stays g c = stays_step (lawful_peekable g.met.I.FallibleIterator.lawful) (stays_reflexive c.requires.can_next) c.next.ensures

pub returns-then-f-clause-fewer : goal.returns-then-f-clause-fewer
returns-then-f-clause-fewer g c x is = ((lawful_peekable g.met.I.FallibleIterator.lawful).kept_by_draw _ (item c.in-Ok-Some.x) _ c.requires.can_next (rw c.in-Ok-Some.field-0-is at c.in-Ok-Some.ensures)).answer.1

pub returns-then-f-clause-lists : goal.returns-then-f-clause-lists
returns-then-f-clause-lists g c h l acts i = next_if_answers_first_if_and_lists_rest g.I.FallibleIterator.contract _ _ l i h acts (returns-then-f-clause-taken g c)

pub returns-in-Ok-Some-clause-lists : goal.returns-in-Ok-Some-clause-lists
returns-in-Ok-Some-clause-lists g c h l acts i = next_if_answers_first_if_and_lists_rest g.I.FallibleIterator.contract _ _ l i h acts (returns-in-Ok-Some-clause-taken g c)

pub returns-in-Ok-None-clause-lists : goal.returns-in-Ok-None-clause-lists
returns-in-Ok-None-clause-lists g c h l acts i = next_if_answers_first_if_and_lists_rest g.I.FallibleIterator.contract _ _ l i h acts (returns-in-Ok-None-clause-taken g c)

pub returns-clause-stays : goal.returns-clause-stays
returns-clause-stays g c = stays_step (lawful_peekable g.met.I.FallibleIterator.lawful) (stays_reflexive c.requires.can_next) c.next.ensures

pub returns-clause-lists : goal.returns-clause-lists
returns-clause-lists g c h l acts i = next_if_answers_first_if_and_lists_rest g.I.FallibleIterator.contract _ _ l i h acts (returns-clause-taken g c)
