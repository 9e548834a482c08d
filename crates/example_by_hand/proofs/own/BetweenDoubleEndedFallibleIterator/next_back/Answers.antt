-- The greatest number is the last of what is shown.
use Rattle.std.proofs.Common.{arith}
use Rattle.example_by_hand.proofs.Between.{takes_shown_end_at_back, takes_shown_back}
use Rattle.example_by_hand.proofs.own.BetweenDoubleEndedFallibleIterator.next_back.Goals as goal

pub returns-then-self : goal.returns-then-self
returns-then-self c = takes_shown_end_at_back _ _ c.if-self.true

pub returns : goal.returns
returns c = takes_shown_back _ _ _ c.if-self.false (omega (arith, c.if-self.false))
