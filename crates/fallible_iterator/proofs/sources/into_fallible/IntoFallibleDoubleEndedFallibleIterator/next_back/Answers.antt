-- The std iterator may be drawn from the back now, after no answer.
use Rattle.std.proofs.Common.{[], refl}
use Rattle.fallible_iterator.proofs.sources.into_fallible.IntoFallibleDoubleEndedFallibleIterator.next_back.Goals as goal

pub next_back-requires : goal.next_back-requires
next_back-requires g c = c.requires.asked_back [] _ refl
