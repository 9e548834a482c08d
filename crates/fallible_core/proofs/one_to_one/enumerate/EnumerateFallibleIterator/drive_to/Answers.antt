-- A count is the source's, and its own number goes up by as much, which is within the source's bound; the others are its fold.
use Rattle.std.proofs.Common.{refl, arith}
use Rattle.fallible_contract.specs.Goals.{goal_turns, IsLastTurn}
use Rattle.fallible_contract.specs.Folds.{IsNthTurn}
use Rattle.fallible_contract.proofs.Lemmas.BoundsRuns.{number_at_most_bound}
use Rattle.fallible_contract.proofs.Lemmas.Overriding.{drained_seen}
use Rattle.fallible_contract.proofs.Lemmas.Goals.{driven_of_own, ended_over, failed_over, driven_of_count_ended, driven_of_count_failed}
use Rattle.fallible_contract.specs.declared.goals.Goal.TheVariants.{Last, Nth}
use Rattle.fallible_core.specs.OneToOne.Enumerate.{enumerate_contract, enumerate_parts}
use Rattle.fallible_core.proofs.Lemmas.OneToOne.EnumerateFolds.{count_drains_on_numbered}
use Rattle.fallible_core.proofs.one_to_one.enumerate.EnumerateFallibleIterator.drive_to.Goals as goal

pub overflow_add-self : goal.overflow_add-self
overflow_add-self g c = let can = c.requires.can_next in let most = number_at_most_bound g.met.I.FallibleIterator.lawful can.can_next can.bounds c.count_on-counted.ensures in let fits = can.fits in omega (arith, most, fits)

pub returns-in-Ok : goal.returns-in-Ok
returns-in-Ok g c = rw c.in-Count.is (drained_seen enumerate_parts (λ s p. record { it = p.0; count = p.1 }) (λ s p. refl) (enumerate_contract g.I.FallibleIterator.contract) (driven_of_count_ended (count_drains_on_numbered c.in-Ok.ensures)))

pub returns-in-Err : goal.returns-in-Err
returns-in-Err g c = rw c.in-Count.is (drained_seen enumerate_parts (λ s p. record { it = p.0; count = p.1 }) (λ s p. refl) (enumerate_contract g.I.FallibleIterator.contract) (driven_of_count_failed (count_drains_on_numbered c.in-Err.ensures)))

pub returns-in-Ok-None : goal.returns-in-Ok-None
returns-in-Ok-None g c = rw c.in-Last.is (ended_over Last goal_turns IsLastTurn (λ p x q w. (q, (refl, w.1), refl)) (rw c.in-Ok-None.field-0-is at c.in-Ok-None.ensures))

pub returns-in-Err-drive : goal.returns-in-Err-drive
returns-in-Err-drive g c = rw c.in-Last.is (failed_over Last goal_turns IsLastTurn (λ p x q w. (q, (refl, w.1), refl)) c.in-Err-drive.ensures)

pub returns-in-Nth : goal.returns-in-Nth
returns-in-Nth g c = rw c.in-Nth.is (driven_of_own Nth goal_turns IsNthTurn (λ p x r q w. (q, w, refl)) c.drive-in-Nth.ensures)
