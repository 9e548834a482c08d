-- The last of a list is its last item, or its failure.
use Rattle.fallible_contract.proofs.Lemmas.Lists.Drawn.{last_of_lists}
use Rattle.fallible_contract.proofs.Lemmas.Goals.{stays_last, last_of_ended, last_of_failed}
use Rattle.fallible_core.proofs.traits.FallibleIterator.last.Goals as goal

pub returns-in-Last-clause-last : goal.returns-in-Last-clause-last
returns-in-Last-clause-last g c = (c.drive_to.new.self, last_of_ended (rw c.in-Last.is at c.in-Ok.ensures))

pub returns-in-Last-clause-value : goal.returns-in-Last-clause-value
returns-in-Last-clause-value g c l i = last_of_lists l (last_of_ended (rw c.in-Last.is at c.in-Ok.ensures)) i

pub unreachable-requires : goal.unreachable-requires
unreachable-requires g c = let q = stays_last c.in-Ok.ensures in c.in_default.not-Last q.0 q.1

pub returns-clause-last : goal.returns-clause-last
returns-clause-last g c = (c.drive_to.new.self, last_of_failed c.in-Err.ensures)

pub returns-clause-value : goal.returns-clause-value
returns-clause-value g c l i = last_of_lists l (last_of_failed c.in-Err.ensures) i
