-- The call of the one that is held is that of the whole, since its steps are.
use Rattle.std.proofs.Common.{refl}
use Rattle.fallible_iterator.proofs.Lemmas.Overriding.{drained_seen}
use Rattle.test_support.proofs.counted.CountedFallibleIterator.drive_to.Goals as goal

pub returns : goal.returns
returns g c = drained_seen (λ s. s.it) (λ s it. record s { it = it }) (λ s it. refl) g.I.FallibleIterator.contract c.drive_to.ensures
