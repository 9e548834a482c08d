-- The fold from the back that stops at the item is the search.
use Rattle.std.proofs.Common.{rules}
use Rattle.fallible_iterator.specs.Closures.{call_by_reference}
use Rattle.fallible_iterator.specs.Laws.Contract.{stays_run}
use Rattle.fallible_iterator.proofs.Lemmas.Folds.{holds_each_turn_by_implication}
use Rattle.fallible_iterator.proofs.Lemmas.Searching.{search_drains_found}
use Rattle.fallible_iterator.proofs.Lemmas.Lists.Searched.{found_of_lists}
use Rattle.fallible_itertools.proofs.Lemmas.FromBack.{find_at_back_is_found_of_reversed}
use Rattle.fallible_itertools.proofs.double_ended.DoubleEndedFallibleItertools.rfind.Goals as goal

pub drive_back-requires-clause-callable : goal.drive_back-requires-clause-callable
drive_back-requires-clause-callable g c = holds_each_turn_by_implication (λ d x e w. search rules) (λ d x p. search rules) c.requires.callable

pub returns-clause-searched : goal.returns-clause-searched
returns-clause-searched g c = (_, search_drains_found (call_by_reference g.F.FnMut) _ (λ d x r e w. search rules) c.drive_back.ensures c.found.ensures)

pub returns-clause-value : goal.returns-clause-value
returns-clause-value g c h l acts i = found_of_lists l i {call = call_by_reference g.F.FnMut} h acts (returns-clause-searched g c).1

pub returns-clause-rest : goal.returns-clause-rest
returns-clause-rest g c h l acts i = find_at_back_is_found_of_reversed l i {call = call_by_reference g.F.FnMut} h acts (returns-clause-searched g c).1

pub returns-clause-stays : goal.returns-clause-stays
returns-clause-stays g c = stays_run g.met.Self.DoubleEndedFallibleIterator.lawful_ends.back _ _ _ c.requires.can_next c.drive_back.ensures.ran
