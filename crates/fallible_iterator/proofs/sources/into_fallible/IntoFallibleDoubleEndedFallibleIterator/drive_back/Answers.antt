-- The fold of the std iterator from the back.
use Rattle.std.proofs.Common.{[], refl}
use Rattle.fallible_contract.proofs.Lemmas.Folding.{holds_at_each_turn_of_held, drained_of_holder}
use Rattle.fallible_iterator.proofs.sources.into_fallible.IntoFallibleDoubleEndedFallibleIterator.drive_back.Goals as goal

pub drive_back_std-requires-clause-can : goal.drive_back_std-requires-clause-can
drive_back_std-requires-clause-can g c = c.requires.can_next.asked_back [] _ refl

pub drive_back_std-requires-clause-callable : goal.drive_back_std-requires-clause-callable
drive_back_std-requires-clause-callable g c = holds_at_each_turn_of_held (λ p. record { it = p }) (λ p x q step. step) c.requires.callable

pub returns : goal.returns
returns g c = drained_of_holder (λ p. record { it = p }) (λ p r q step. step) c.drive_back_std.ensures
