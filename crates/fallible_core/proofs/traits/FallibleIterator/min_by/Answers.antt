-- The fold goes through the bests, as the closure says.
use Rattle.fallible_contract.specs.Picking.{call_at_two}
use Rattle.fallible_contract.proofs.Lemmas.Picking.{pick_drains_of_fold, best_by_of_lists}
use Rattle.std.specs.declared.cmp.Ordering.TheVariants.{Less}
use Rattle.fallible_core.proofs.traits.FallibleIterator.min_by.Goals as goal

pub returns-clause-picked : goal.returns-clause-picked
returns-clause-picked g c = pick_drains_of_fold Less (call_at_two g.F.FnMut) c.best_by.ensures

pub returns-clause-value : goal.returns-clause-value
returns-clause-value g c h l acts i = best_by_of_lists Less (call_at_two g.F.FnMut) h acts (λ e d k. k) l c.best_by.ensures.folded i
