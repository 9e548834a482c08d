-- The call of the one that is held is that of the whole, since its steps are.
use Rattle.std.proofs.Common.{refl}
use Rattle.fallible_iterator.specs.Contract.{unbounded_contract}
use Rattle.fallible_iterator.proofs.Lemmas.Overriding.{drained_seen}
use Rattle.test_support.proofs.counted_numbers.CountedNumbersFallibleIterator.drive_to.Goals as goal

pub returns : goal.returns
returns g c = drained_seen (λ s. s.it) (λ s it. record s { it = it }) (λ s it. refl) (unbounded_contract _) c.drive_to.ensures
