-- The fold that keeps the better of two by their keys finds the item of the best key.
use Rattle.fallible_contract.specs.Closures.{call_by_reference}
use Rattle.fallible_contract.proofs.Lemmas.Picking.{best_by_key_drains_of_fold, best_by_key_of_lists}
use Rattle.std.specs.declared.cmp.Ordering.TheVariants.{Less}
use Rattle.fallible_core.proofs.traits.FallibleIterator.min_by_key.Goals as goal

pub returns-clause-best : goal.returns-clause-best
returns-clause-best g c = best_by_key_drains_of_fold g.met.B.Ord.total Less tt (call_by_reference g.F.FnMut) _ (λ e d h. h) c.best_by_key.ensures.1 c.without_key.ensures

pub returns-clause-value : goal.returns-clause-value
returns-clause-value g c h l acts i = best_by_key_of_lists Less g.B.Ord.cmp (call_by_reference g.F.FnMut) h acts (λ e d k. k) l c.best_by_key.ensures.1 c.without_key.ensures i
