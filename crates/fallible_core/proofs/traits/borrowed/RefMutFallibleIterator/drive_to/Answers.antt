-- The draws of the one that it points to are its own.
use Rattle.std.proofs.Common.{refl}
use Rattle.fallible_contract.proofs.Lemmas.Folding.{drained_of_holder}
use Rattle.fallible_core.proofs.traits.borrowed.RefMutFallibleIterator.drive_to.Goals as goal

pub returns : goal.returns
returns g c = drained_of_holder (λ p. record c.args.self.now { now = p }) (λ p r q step. (step, refl)) c.drive_to.ensures
