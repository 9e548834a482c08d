-- The fold that stops at the item is the search, whose state is the predicate.
use Rattle.std.proofs.Common.{rules}
use Rattle.fallible_contract.specs.Closures.{call_by_reference}
use Rattle.fallible_contract.proofs.Lemmas.Folds.{holds_each_turn_by_implication}
use Rattle.fallible_contract.proofs.Lemmas.Lists.Searched.{found_of_lists}
use Rattle.fallible_contract.proofs.Lemmas.Lists.Rest.{lists_rest_find}
use Rattle.fallible_contract.proofs.Lemmas.Searching.{search_drains_found}
use Rattle.fallible_contract.specs.Laws.Contract.{stays_run}
use Rattle.fallible_core.proofs.traits.FallibleIterator.find.Goals as goal

pub drive-requires-clause-callable : goal.drive-requires-clause-callable
drive-requires-clause-callable g c = holds_each_turn_by_implication (λ d x e w. search rules) (λ d x p. search rules) c.requires.callable

pub returns-clause-searched : goal.returns-clause-searched
returns-clause-searched g c = (_, search_drains_found (call_by_reference g.F.FnMut) _ (λ d x r e w. search rules) c.drive.ensures c.found.ensures)

pub returns-clause-value : goal.returns-clause-value
returns-clause-value g c h l acts i = found_of_lists l i {call = call_by_reference g.F.FnMut} h acts (search_drains_found (call_by_reference g.F.FnMut) _ (λ d x r e w. search rules) c.drive.ensures c.found.ensures)

pub returns-clause-rest : goal.returns-clause-rest
returns-clause-rest g c h l acts i no_end = lists_rest_find l i {call = call_by_reference g.F.FnMut} h acts (search_drains_found (call_by_reference g.F.FnMut) _ (λ d x r e w. search rules) c.drive.ensures c.found.ensures) no_end

pub returns-clause-stays : goal.returns-clause-stays
returns-clause-stays g c = stays_run g.met.Self.FallibleIterator.lawful _ _ _ c.requires.can_next c.drive.ensures.ran
