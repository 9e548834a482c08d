-- The lowest number is the first of what is shown.
use Rattle.std.proofs.Common.{refl}
use Rattle.example_by_hand.proofs.Between.{takes_shown_end, takes_shown_front}
use Rattle.example_by_hand.proofs.own.BetweenFallibleIterator.next.Goals as goal

pub returns-then-self : goal.returns-then-self
returns-then-self c = takes_shown_end _ _ c.if-self.true

pub returns : goal.returns
returns c = takes_shown_front _ _ _ c.if-self.false refl
