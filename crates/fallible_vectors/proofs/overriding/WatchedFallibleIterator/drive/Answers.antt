-- The fold of the iterator that is held is that of the whole, since its steps are.
use Rattle.std.proofs.Common.{refl}
use Rattle.fallible_iterator.proofs.Lemmas.Overriding.{holds_each_turn_seen, drained_seen}
use Rattle.fallible_vectors.proofs.overriding.WatchedFallibleIterator.drive.Goals as goal

pub drive-requires-clause-callable : goal.drive-requires-clause-callable
drive-requires-clause-callable g c = holds_each_turn_seen (λ w. w.it) (λ w it. record w { it = it }) (λ w it. refl) g.I.FallibleIterator.contract c.requires.callable

pub returns : goal.returns
returns g c = drained_seen (λ w. w.it) (λ w it. record w { it = it }) (λ w it. refl) g.I.FallibleIterator.contract c.drive.ensures
