-- The source's goal stays a count, and it counts the items on.
use Rattle.fallible_contract.proofs.Lemmas.Goals.{stays_count, count_of_ended, count_of_failed}
use Rattle.fallible_core.proofs.goals.count_on.Goals as goal

pub unreachable-requires : goal.unreachable-requires
unreachable-requires g c = let k = stays_count c.drive_to-answer.ensures in c.in_default.not-Count k.0 k.1

pub returns-in-Ok : goal.returns-in-Ok
returns-in-Ok g c = count_of_ended (rw c.in-Count.is at c.in-Ok.ensures)

pub returns : goal.returns
returns g c = count_of_failed (rw c.in-Count.is at c.in-Err.ensures)
