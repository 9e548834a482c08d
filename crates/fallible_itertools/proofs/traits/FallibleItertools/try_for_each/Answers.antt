-- The fold whose state is the closure is the search.
use Rattle.fallible_iterator.specs.Closures.{call_by_value}
use Rattle.fallible_iterator.specs.Searching.{for_each_pick}
use Rattle.fallible_iterator.specs.Laws.Contract.{stays_run}
use Rattle.fallible_iterator.proofs.Lemmas.Searching.{search_drains_of_drive}
use Rattle.fallible_itertools.proofs.Lemmas.Find.{driven_converted, try_each_done_of_lists, lists_rest_try_each}
use Rattle.fallible_itertools.proofs.traits.FallibleItertools.try_for_each.Goals as goal

pub returns-clause-searched : goal.returns-clause-searched
returns-clause-searched g c = (_, search_drains_of_drive {call = call_by_value g.F.FnMut} {pick = for_each_pick} tt (λ f x r g w. w) (driven_converted c.converted.ensures c.drive.ensures) c.answer_or.ensures)

pub returns-clause-value : goal.returns-clause-value
returns-clause-value g c convert converts h l acts i = try_each_done_of_lists convert converts l i {call = call_by_value g.F.FnMut} h acts (returns-clause-searched g c).1

pub returns-clause-rest : goal.returns-clause-rest
returns-clause-rest g c h l acts i e is = lists_rest_try_each l i {call = call_by_value g.F.FnMut} h acts (returns-clause-searched g c).1 is

pub returns-clause-stays : goal.returns-clause-stays
returns-clause-stays g c = stays_run g.met.Self.FallibleIterator.lawful _ _ _ c.requires.can_next c.drive.ensures.ran
