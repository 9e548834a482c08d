-- A fold of the source is a fold from the back of what swaps its ends.
use Rattle.std.proofs.Common.{refl}
use Rattle.fallible_contract.specs.Ends.{from_front}
use Rattle.fallible_contract.proofs.Lemmas.Overriding.{holds_each_turn_seen, drained_seen}
use Rattle.fallible_core.specs.Ends.Rev.{rev_parts}
use Rattle.fallible_core.proofs.ends.rev.RevDoubleEndedFallibleIterator.drive_back.Goals as goal

pub drive-requires-clause-callable : goal.drive-requires-clause-callable
drive-requires-clause-callable g c = holds_each_turn_seen rev_parts (λ s p. record s { it = p }) (λ s p. refl) (from_front g.I.FallibleIterator.contract g.I.DoubleEndedFallibleIterator.ends) c.requires.callable

pub returns : goal.returns
returns g c = drained_seen rev_parts (λ s p. record s { it = p }) (λ s p. refl) (from_front g.I.FallibleIterator.contract g.I.DoubleEndedFallibleIterator.ends) c.drive.ensures
