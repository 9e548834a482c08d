-- The fold whose state is the best so far and the closure is the fold.
use Rattle.std.proofs.Common.{refl}
use Rattle.fallible_contract.proofs.Lemmas.Folds.{fold_drains_ended, fold_drains_failed, fold_drains_stopped}
use Rattle.fallible_core.proofs.picking.best_by.Goals as goal

pub returns-in-Ok-None : goal.returns-in-Ok-None
returns-in-Ok-None g c = record { after = _; folded = fold_drains_ended _ _ _ (rw c.in-Ok-None.field-0-is at c.in-Ok-None.ensures) }

pub returns-in-Ok-Some : goal.returns-in-Ok-Some
returns-in-Ok-Some g c = record { after = _; folded = fold_drains_stopped _ _ _ _ (rw c.in-Ok-Some.field-0-is at c.in-Ok-Some.ensures) }

pub returns : goal.returns
returns g c = record { after = _; folded = fold_drains_failed _ _ _ _ _ c.in-Err.ensures refl }
