-- Counted on from 0, the number is the count; that of a list is its length, or its failure.
use Rattle.fallible_contract.proofs.Lemmas.Folds.{count_drains_to_end, count_drains_to_failure}
use Rattle.fallible_contract.proofs.Lemmas.Lists.Drawn.{counted_of_lists}
use Rattle.fallible_contract.proofs.Lemmas.Goals.{stays_count, count_of_ended, count_of_failed}
use Rattle.fallible_core.proofs.traits.FallibleIterator.count.Goals as goal

pub returns-in-Count-clause-counted : goal.returns-in-Count-clause-counted
returns-in-Count-clause-counted g c = (c.drive_to.new.self, count_drains_to_end (count_of_ended (rw c.in-Count.is at c.in-Ok.ensures)))

pub returns-in-Count-clause-value : goal.returns-in-Count-clause-value
returns-in-Count-clause-value g c l i = counted_of_lists l (count_drains_to_end (count_of_ended (rw c.in-Count.is at c.in-Ok.ensures))) i

pub unreachable-requires : goal.unreachable-requires
unreachable-requires g c = let k = stays_count c.in-Ok.ensures in c.in_default.not-Count k.0 k.1

pub returns-clause-counted : goal.returns-clause-counted
returns-clause-counted g c = let k = stays_count c.in-Err.ensures in (c.drive_to.new.self, count_drains_to_failure (count_of_failed (rw k.1 at c.in-Err.ensures)))

pub returns-clause-value : goal.returns-clause-value
returns-clause-value g c l i = let k = stays_count c.in-Err.ensures in counted_of_lists l (count_drains_to_failure (count_of_failed (rw k.1 at c.in-Err.ensures))) i
