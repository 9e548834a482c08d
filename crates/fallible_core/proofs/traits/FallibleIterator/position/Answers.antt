-- The fold whose state is the number of items before and the closure is the search.
use Rattle.std.proofs.Common.{None}
use Rattle.fallible_contract.specs.Closures.{call_by_value}
use Rattle.fallible_contract.specs.Searching.{position_pick}
use Rattle.fallible_contract.proofs.Lemmas.Searching.{search_drains_of_position_drive, holds_each_turn_with_count_below_bound}
use Rattle.fallible_contract.proofs.Lemmas.Lists.Searched.{position_in_of_lists}
use Rattle.fallible_contract.proofs.Lemmas.Lists.Rest.{lists_rest_place}
use Rattle.fallible_contract.specs.Laws.Contract.{stays_run}
use Rattle.fallible_core.proofs.traits.FallibleIterator.position.Goals as goal

pub drive-requires-clause-callable : goal.drive-requires-clause-callable
drive-requires-clause-callable g c = holds_each_turn_with_count_below_bound (call_by_value g.F.FnMut) position_pick _ g.met.Self.FallibleIterator.lawful c.requires.can_next c.requires.fits c.requires.callable

pub returns-clause-searched : goal.returns-clause-searched
returns-clause-searched g c = (_, search_drains_of_position_drive {call = call_by_value g.F.FnMut} {pick = position_pick} None (λ p x r q w. w) c.drive.ensures c.answer_or_none.ensures)

pub returns-clause-value : goal.returns-clause-value
returns-clause-value g c h l acts i = position_in_of_lists l i {call = call_by_value g.F.FnMut} h acts (search_drains_of_position_drive {call = call_by_value g.F.FnMut} {pick = position_pick} None (λ p x r q w. w) c.drive.ensures c.answer_or_none.ensures)

pub returns-clause-rest : goal.returns-clause-rest
returns-clause-rest g c h l acts i no_end = lists_rest_place l i {call = call_by_value g.F.FnMut} h acts (search_drains_of_position_drive {call = call_by_value g.F.FnMut} {pick = position_pick} None (λ p x r q w. w) c.drive.ensures c.answer_or_none.ensures) no_end

pub returns-clause-stays : goal.returns-clause-stays
returns-clause-stays g c = stays_run g.met.Self.FallibleIterator.lawful _ _ _ c.requires.can_next c.drive.ensures.ran
