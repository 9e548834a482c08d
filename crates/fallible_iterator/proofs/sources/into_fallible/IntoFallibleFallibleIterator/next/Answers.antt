-- The std iterator may be drawn now, after no answer.
use Rattle.std.proofs.Common.{[], refl}
use Rattle.fallible_iterator.proofs.sources.into_fallible.IntoFallibleFallibleIterator.next.Goals as goal

pub next-requires : goal.next-requires
next-requires g c = c.requires.asked [] _ refl
