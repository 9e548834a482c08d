-- The search that stops at the first item kept or failed is the trace of one answer; once the predicate returned false, so is one of the source.
use Rattle.std.proofs.Common.{rules}
use Rattle.fallible_contract.specs.Closures.{call_by_reference}
use Rattle.fallible_contract.specs.Passing.{PassTest}
use Rattle.fallible_contract.proofs.Lemmas.Folds.{holds_each_turn_by_implication}
use Rattle.fallible_contract.proofs.Lemmas.Passing.{callable_in_search_of_passes, pass_trace_of_search_drains}
use Rattle.fallible_contract.proofs.Lemmas.Searching.{search_drains_found}
use Rattle.fallible_core.specs.Filtering.SkipWhile.{skip_call, skip_while_outcome}
use Rattle.fallible_core.proofs.Lemmas.Filtering.SkipWhileFolds.{step_of_source_skipping}
use Rattle.fallible_core.proofs.filtering.skip_while.SkipWhileFallibleIterator.next.Goals as goal

pub drive-requires-clause-callable : goal.drive-requires-clause-callable
drive-requires-clause-callable g c = holds_each_turn_by_implication (λ d x e w. search rules) (λ d x p. search rules) (callable_in_search_of_passes skip_while_outcome g.met.I.FallibleIterator.lawful c.requires.1.0 c.requires.1.1)

pub returns-then-self : goal.returns-then-self
returns-then-self g c = step_of_source_skipping g.I.FallibleIterator.contract g.P.FnMut {s = c.args.self.now} c.if-self.true c.next.ensures

pub returns-else-self : goal.returns-else-self
returns-else-self g c = pass_trace_of_search_drains {outcome = skip_while_outcome} (search_drains_found (PassTest (skip_call (call_by_reference g.P.FnMut)) skip_while_outcome) _ (λ d x r e w. search rules) c.drive.ensures c.found.ensures)
