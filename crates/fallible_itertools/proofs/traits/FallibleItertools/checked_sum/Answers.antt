-- The fold that stops where the sum doesn't fit is the sum.
use Rattle.fallible_itertools.proofs.Lemmas.CheckedSum.{total_drains_by_fold, totalled_of_lists}
use Rattle.fallible_itertools.proofs.traits.FallibleItertools.checked_sum.Goals as goal

pub returns-clause-sum : goal.returns-clause-sum
returns-clause-sum g c = total_drains_by_fold g.Self.Item.CheckedTotal.plus (rw c.zero-sum.ensures at c.drive-answer.ensures) c.total_or_none.ensures

pub returns-clause-value : goal.returns-clause-value
returns-clause-value g c l i = totalled_of_lists g.Self.Item.CheckedTotal.plus l (returns-clause-sum g c) i
