-- The fold whose state is the predicate is the search.
use Rattle.fallible_iterator.specs.Closures.{call_by_reference}
use Rattle.fallible_iterator.specs.Laws.Contract.{stays_run}
use Rattle.fallible_iterator.proofs.Lemmas.Searching.{search_drains_found}
use Rattle.fallible_itertools.proofs.Lemmas.Find.{driven_converted, try_found_of_lists, lists_rest_try_true}
use Rattle.fallible_itertools.proofs.traits.FallibleItertools.try_find.Goals as goal

pub returns-clause-searched : goal.returns-clause-searched
returns-clause-searched g c = (_, search_drains_found (call_by_reference g.F.FnMut) _ (λ f x r g w. w) (driven_converted c.converted.ensures c.drive.ensures) c.found.ensures)

pub returns-clause-value : goal.returns-clause-value
returns-clause-value g c convert converts h l acts i = try_found_of_lists convert converts l i {call = call_by_reference g.F.FnMut} h acts (returns-clause-searched g c).1

pub returns-clause-rest : goal.returns-clause-rest
returns-clause-rest g c h l acts i no_end = lists_rest_try_true l i {call = call_by_reference g.F.FnMut} h acts (returns-clause-searched g c).1 no_end

pub returns-clause-stays : goal.returns-clause-stays
returns-clause-stays g c = stays_run g.met.Self.FallibleIterator.lawful _ _ _ c.requires.can_next c.drive.ensures.ran
