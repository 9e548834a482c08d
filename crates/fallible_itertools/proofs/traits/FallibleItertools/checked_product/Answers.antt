-- The fold that stops where the product doesn't fit is the product.
use Rattle.fallible_itertools.proofs.Lemmas.CheckedSum.{total_drains_by_fold, totalled_of_lists}
use Rattle.fallible_itertools.proofs.traits.FallibleItertools.checked_product.Goals as goal

pub returns-clause-product : goal.returns-clause-product
returns-clause-product g c = total_drains_by_fold g.Self.Item.CheckedTotal.times (rw c.one-product.ensures at c.drive-answer.ensures) c.total_or_none.ensures

pub returns-clause-value : goal.returns-clause-value
returns-clause-value g c l i = totalled_of_lists g.Self.Item.CheckedTotal.times l (returns-clause-product g c) i
