-- The fold whose state is the value and the closure is the fold.
use Rattle.std.specs.Prelude.{◌≡◌}
use Rattle.std.proofs.Common.{refl}
use Rattle.fallible_contract.specs.Folds.{call_with, ReduceCall}
use Rattle.fallible_contract.proofs.Lemmas.Folds.{fold_drains_ended, fold_drains_failed, fold_drains_stopped}
use Rattle.fallible_contract.proofs.Lemmas.Lists.Drawn.{reduced_of_lists}
use Rattle.fallible_core.proofs.traits.FallibleIterator.reduce.Goals as goal

pub returns-in-Ok-None-clause-reduced : goal.returns-in-Ok-None-clause-reduced
returns-in-Ok-None-clause-reduced g c = (_, fold_drains_ended (ReduceCall (call_with g.F.FnMut)) (λ e d. d ≡ e) _ (rw c.in-Ok-None.field-0-is at c.in-Ok-None.ensures))

pub returns-in-Ok-Some-clause-reduced : goal.returns-in-Ok-Some-clause-reduced
returns-in-Ok-Some-clause-reduced g c = (_, fold_drains_stopped (ReduceCall (call_with g.F.FnMut)) (λ e d. d ≡ e) _ _ (rw c.in-Ok-Some.field-0-is at c.in-Ok-Some.ensures))

pub returns-clause-reduced : goal.returns-clause-reduced
returns-clause-reduced g c = (_, fold_drains_failed (ReduceCall (call_with g.F.FnMut)) (λ e d. d ≡ e) _ _ _ c.in-Err.ensures refl)

pub returns-in-Ok-None-clause-value : goal.returns-in-Ok-None-clause-value
returns-in-Ok-None-clause-value g c h l acts i = reduced_of_lists (call_with g.F.FnMut) _ h acts l (returns-in-Ok-None-clause-reduced g c).1 i

pub returns-in-Ok-Some-clause-value : goal.returns-in-Ok-Some-clause-value
returns-in-Ok-Some-clause-value g c h l acts i = reduced_of_lists (call_with g.F.FnMut) _ h acts l (returns-in-Ok-Some-clause-reduced g c).1 i

pub returns-clause-value : goal.returns-clause-value
returns-clause-value g c h l acts i = reduced_of_lists (call_with g.F.FnMut) _ h acts l (returns-clause-reduced g c).1 i
