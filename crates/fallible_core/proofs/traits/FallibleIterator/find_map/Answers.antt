-- The fold whose state is the closure is the search.
use Rattle.std.proofs.Common.{None}
use Rattle.fallible_contract.specs.Closures.{call_by_value}
use Rattle.fallible_contract.specs.Searching.{find_map_pick}
use Rattle.fallible_contract.proofs.Lemmas.Searching.{search_drains_of_drive}
use Rattle.fallible_contract.proofs.Lemmas.Lists.Searched.{find_mapped_of_lists}
use Rattle.fallible_contract.proofs.Lemmas.Lists.Rest.{lists_rest_find_map}
use Rattle.fallible_contract.specs.Laws.Contract.{stays_run}
use Rattle.fallible_core.proofs.traits.FallibleIterator.find_map.Goals as goal

pub returns-clause-searched : goal.returns-clause-searched
returns-clause-searched g c = (_, search_drains_of_drive {call = call_by_value g.F.FnMut} {pick = find_map_pick} None (λ f x r g w. w) c.drive.ensures c.answer_or_none.ensures)

pub returns-clause-value : goal.returns-clause-value
returns-clause-value g c h l acts i = find_mapped_of_lists l i {call = call_by_value g.F.FnMut} h acts (search_drains_of_drive {call = call_by_value g.F.FnMut} {pick = find_map_pick} None (λ f x r g w. w) c.drive.ensures c.answer_or_none.ensures)

pub returns-clause-rest : goal.returns-clause-rest
returns-clause-rest g c h l acts i no_end = lists_rest_find_map l i {call = call_by_value g.F.FnMut} h acts (search_drains_of_drive {call = call_by_value g.F.FnMut} {pick = find_map_pick} None (λ f x r g w. w) c.drive.ensures c.answer_or_none.ensures) no_end

pub returns-clause-stays : goal.returns-clause-stays
returns-clause-stays g c = stays_run g.met.Self.FallibleIterator.lawful _ _ _ c.requires.can_next c.drive.ensures.ran
