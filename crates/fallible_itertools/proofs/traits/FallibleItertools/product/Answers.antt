-- The fold whose state is the total multiplies all items.
use Rattle.fallible_itertools.proofs.Lemmas.Total.{added_drains_by_fold, added_of_lists}
use Rattle.fallible_itertools.proofs.traits.FallibleItertools.product.Goals as goal

pub returns-clause-product : goal.returns-clause-product
returns-clause-product g c = added_drains_by_fold g.S.Total.times (rw c.one-product.ensures at c.drive-answer.ensures) c.total_or_failure.ensures

pub returns-clause-value : goal.returns-clause-value
returns-clause-value g c l i = added_of_lists g.S.Total.times l (returns-clause-product g c) i
