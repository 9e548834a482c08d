-- A fold from the back of the source is a fold of what swaps its ends.
use Rattle.std.proofs.Common.{refl}
use Rattle.fallible_contract.specs.Ends.{from_back}
use Rattle.fallible_contract.proofs.Lemmas.Overriding.{holds_each_turn_seen, drained_seen}
use Rattle.fallible_core.specs.Ends.Rev.{rev_parts}
use Rattle.fallible_core.proofs.ends.rev.RevFallibleIterator.drive.Goals as goal

pub drive_back-requires-clause-callable : goal.drive_back-requires-clause-callable
drive_back-requires-clause-callable g c = holds_each_turn_seen rev_parts (λ s p. record s { it = p }) (λ s p. refl) (from_back g.I.FallibleIterator.contract g.I.DoubleEndedFallibleIterator.ends) c.requires.callable

pub returns : goal.returns
returns g c = drained_seen rev_parts (λ s p. record s { it = p }) (λ s p. refl) (from_back g.I.FallibleIterator.contract g.I.DoubleEndedFallibleIterator.ends) c.drive_back.ensures
