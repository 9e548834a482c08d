-- The fold whose state is the closure is the search.
use Rattle.fallible_contract.specs.Closures.{call_by_value}
use Rattle.fallible_contract.specs.Searching.{for_each_pick}
use Rattle.fallible_contract.proofs.Lemmas.Searching.{search_drains_of_drive}
use Rattle.fallible_contract.proofs.Lemmas.Lists.Searched.{each_done_of_lists}
use Rattle.fallible_core.proofs.traits.FallibleIterator.for_each.Goals as goal

pub returns-clause-searched : goal.returns-clause-searched
returns-clause-searched g c = let d = search_drains_of_drive {call = call_by_value g.F.FnMut} {pick = for_each_pick} tt (λ f x r g w. w) c.drive.ensures c.answer_or.ensures in (c.drive.new.self, _, d)

pub returns-clause-value : goal.returns-clause-value
returns-clause-value g c h l acts i = each_done_of_lists l i {call = call_by_value g.F.FnMut} h acts (search_drains_of_drive {call = call_by_value g.F.FnMut} {pick = for_each_pick} tt (λ f x r g w. w) c.drive.ensures c.answer_or.ensures)
