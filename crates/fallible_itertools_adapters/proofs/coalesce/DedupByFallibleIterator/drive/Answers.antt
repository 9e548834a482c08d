-- The fold of a stage.
use Rattle.fallible_iterator.proofs.Lemmas.Folding.{holds_at_each_turn_of_held, drained_of_holder}
use Rattle.fallible_itertools_adapters.proofs.coalesce.DedupByFallibleIterator.drive.Goals as goal

pub drive_stage-requires-clause-callable : goal.drive_stage-requires-clause-callable
drive_stage-requires-clause-callable g c = holds_at_each_turn_of_held (λ p. record { it = p.0; stage = p.1 }) (λ p x q step. step) c.requires.callable

pub returns : goal.returns
returns g c = drained_of_holder (λ p. record { it = p.0; stage = p.1 }) (λ p r q step. step) c.drive_stage.ensures
