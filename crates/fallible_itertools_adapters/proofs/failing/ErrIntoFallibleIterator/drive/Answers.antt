-- The fold of such an adapter.
use Rattle.fallible_iterator.proofs.Lemmas.Folding.{holds_at_each_turn_of_held, drained_of_holder}
use Rattle.fallible_itertools_adapters.specs.Laws.Failing.{convert_call_is_callable}
use Rattle.fallible_itertools_adapters.proofs.failing.ErrIntoFallibleIterator.drive.Goals as goal

pub drive_failing-requires-clause-takes : goal.drive_failing-requires-clause-takes
drive_failing-requires-clause-takes g c = convert_call_is_callable g.E.From.from_gives

pub drive_failing-requires-clause-callable : goal.drive_failing-requires-clause-callable
drive_failing-requires-clause-callable g c = holds_at_each_turn_of_held (λ p. record { it = p.0; made = record {} }) (λ p x q step. step) c.requires.callable

pub returns : goal.returns
returns g c = drained_of_holder (λ p. record { it = p.0; made = record {} }) (λ p r q step. step) c.drive_failing.ensures
