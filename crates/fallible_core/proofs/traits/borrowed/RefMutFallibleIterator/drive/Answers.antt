-- A fold of the one that it points to is a fold of it.
use Rattle.std.proofs.Common.{refl}
use Rattle.fallible_contract.proofs.Lemmas.Folding.{holds_at_each_turn_of_held, drained_of_holder}
use Rattle.fallible_core.proofs.traits.borrowed.RefMutFallibleIterator.drive.Goals as goal

pub drive-requires-clause-callable : goal.drive-requires-clause-callable
drive-requires-clause-callable g c = holds_at_each_turn_of_held (λ p. record c.args.self.now { now = p }) (λ p x q step. (step, refl)) c.requires.callable

pub returns : goal.returns
returns g c = drained_of_holder (λ p. record c.args.self.now { now = p }) (λ p r q step. (step, refl)) c.drive.ensures
