-- The source may be drawn from, and what is gathered from here on is what is gathered from the start.
use Rattle.std.specs.Prelude.{◌≡◌}
use Rattle.example_by_hand.proofs.AskedAgain.{GathersFrom}
use Rattle.example_by_hand.proofs.retrying.RetriedFallibleIterator.next.Given as goal

abbrev pub invariant-loop-left : goal.invariant-loop-left
invariant-loop-left g l = let m = g.I.FallibleIterator.contract in m.can_next l.self.it × (l.self.retries ≡ l.fn.self.retries) × GathersFrom m.steps l.fn.self.retries l.fn.self.it l.left l.self.it

abbrev pub decreases-loop-left : goal.decreases-loop-left
decreases-loop-left g l = l.left
