-- The draws of the one in it are its own.
use Rattle.fallible_contract.proofs.Lemmas.Folding.{drained_of_holder}
use Rattle.fallible_core.proofs.traits.boxed.BoxFallibleIterator.drive_to.Goals as goal

pub returns : goal.returns
returns g c = drained_of_holder (λ p. record c.args.self.now { value = p }) (λ p r q step. step) (rw c.deref_mut.ensures.value at c.drive_to.ensures)
