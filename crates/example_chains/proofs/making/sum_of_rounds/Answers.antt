-- What is taken are the first items of round after round.
use Rattle.std.proofs.Common.{rules}
use Rattle.example_chains.proofs.making.sum_of_rounds.Goals as goal

pub returns : goal.returns
returns g c xs granted each = let made = c.in_ok-cycle.ensures in c.fold.ensures.value _ _ (search rules) (c.law_cycle_taken.ensures _ _ _ _ xs c.take.ensures.parts made.1 made.0 granted each)
