-- The fold of such an adapter from the back.
use Rattle.fallible_iterator.proofs.Lemmas.Folding.{holds_at_each_turn_of_held, drained_of_holder}
use Rattle.fallible_itertools_adapters.specs.Laws.Failing.{convert_call_is_callable}
use Rattle.fallible_itertools_adapters.proofs.failing.ErrIntoDoubleEndedFallibleIterator.drive_back.Goals as goal

pub drive_back_failing-requires-clause-takes : goal.drive_back_failing-requires-clause-takes
drive_back_failing-requires-clause-takes g c = convert_call_is_callable g.E.From.from_gives

pub drive_back_failing-requires-clause-callable : goal.drive_back_failing-requires-clause-callable
drive_back_failing-requires-clause-callable g c = holds_at_each_turn_of_held (λ p. record { it = p.0; made = record {} }) (λ p x q step. step) c.requires.callable

pub returns : goal.returns
returns g c = drained_of_holder (λ p. record { it = p.0; made = record {} }) (λ p r q step. step) c.drive_back_failing.ensures
