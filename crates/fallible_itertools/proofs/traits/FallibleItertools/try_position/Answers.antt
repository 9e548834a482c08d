-- The fold whose state is the number of items before and the predicate is the search.
use Rattle.std.proofs.Common.{None}
use Rattle.fallible_iterator.specs.Closures.{call_by_value}
use Rattle.fallible_iterator.specs.Searching.{position_pick}
use Rattle.fallible_iterator.specs.Laws.Contract.{stays_run}
use Rattle.fallible_iterator.proofs.Lemmas.Searching.{search_drains_of_position_drive, holds_each_turn_with_count_below_bound}
use Rattle.fallible_itertools.proofs.Lemmas.Find.{unfailing, driven_converted, try_position_in_of_lists, lists_rest_try_true_placed}
use Rattle.fallible_itertools.proofs.traits.FallibleItertools.try_position.Goals as goal

pub drive-requires-clause-callable : goal.drive-requires-clause-callable
drive-requires-clause-callable g c = holds_each_turn_with_count_below_bound (unfailing (call_by_value g.F.FnMut)) position_pick _ g.met.Self.FallibleIterator.lawful c.requires.can_next c.requires.fits c.requires.callable

pub returns-clause-searched : goal.returns-clause-searched
returns-clause-searched g c = (_, search_drains_of_position_drive {call = call_by_value g.F.FnMut} {pick = position_pick} None (λ p x r q w. w) (driven_converted c.converted.ensures c.drive.ensures) c.answer_or_none.ensures)

pub returns-clause-value : goal.returns-clause-value
returns-clause-value g c convert converts h l acts i = try_position_in_of_lists convert converts l i {call = call_by_value g.F.FnMut} h acts (returns-clause-searched g c).1

pub returns-clause-rest : goal.returns-clause-rest
returns-clause-rest g c h l acts i no_end = lists_rest_try_true_placed l i {call = call_by_value g.F.FnMut} h acts (returns-clause-searched g c).1 no_end

pub returns-clause-stays : goal.returns-clause-stays
returns-clause-stays g c = stays_run g.met.Self.FallibleIterator.lawful _ _ _ c.requires.can_next c.drive.ensures.ran
