-- The fold whose state is the total adds all items.
use Rattle.fallible_itertools.proofs.Lemmas.Total.{added_drains_by_fold, added_of_lists}
use Rattle.fallible_itertools.proofs.traits.FallibleItertools.sum.Goals as goal

pub returns-clause-sum : goal.returns-clause-sum
returns-clause-sum g c = added_drains_by_fold g.S.Total.plus (rw c.zero-sum.ensures at c.drive-answer.ensures) c.total_or_failure.ensures

pub returns-clause-value : goal.returns-clause-value
returns-clause-value g c l i = added_of_lists g.S.Total.plus l (returns-clause-sum g c) i
