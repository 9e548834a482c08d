-- The fold that keeps the better of two by the order finds the best.
use Rattle.std.proofs.Common.{rules}
use Rattle.fallible_contract.proofs.Lemmas.Picking.{best_drains_by_order, best_by_order_of_lists, greatest_of_lists}
use Rattle.fallible_core.proofs.traits.FallibleIterator.max.Goals as goal

pub returns-clause-best : goal.returns-clause-best
returns-clause-best g c = best_drains_by_order g.Self.Item.Ord.cmp c.best_by.ensures g.met.Self.Item.Ord.total tt (λ f x y r j k. search rules)

pub returns-clause-value : goal.returns-clause-value
returns-clause-value g c l i = greatest_of_lists g.Self.Item.Ord.cmp l _ (best_by_order_of_lists g.Self.Item.Ord.cmp c.best_by.ensures l (λ x y r j k. search rules) i)
