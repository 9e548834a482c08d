-- The call of the one that is held is that of the whole, since its steps are.
use Rattle.std.proofs.Common.{refl}
use Rattle.fallible_iterator.specs.Contract.{unbounded_contract}
use Rattle.fallible_iterator.proofs.Lemmas.Overriding.{holds_each_turn_seen, drained_seen}
use Rattle.test_support.proofs.counted_numbers.CountedNumbersFallibleIterator.drive.Goals as goal

pub drive-requires-clause-callable : goal.drive-requires-clause-callable
drive-requires-clause-callable g c = holds_each_turn_seen (λ s. s.it) (λ s it. record s { it = it }) (λ s it. refl) (unbounded_contract _) c.requires.callable

pub returns : goal.returns
returns g c = drained_seen (λ s. s.it) (λ s it. record s { it = it }) (λ s it. refl) (unbounded_contract _) c.drive.ensures
