-- It lists what it shows, and as many items are to come as the number says.
use Rattle.std.specs.Prelude.{length}
use Rattle.std.proofs.Common.{arith, inr}
use Rattle.fallible_iterator.specs.Laws.Showing.{lists_shown}
use Rattle.example_by_hand.specs.Down.{counts_down, down_from}
use Rattle.example_by_hand.proofs.Down.{length_down}
use Rattle.example_by_hand.proofs.own.Countdown.new.Goals as goal

pub returns-clause-lists : goal.returns-clause-lists
returns-clause-lists c = lists_shown counts_down _

pub returns-clause-fits : goal.returns-clause-fits
returns-clause-fits c = let same = length_down c.args.left in inr (length (down_from c.args.left), omega arith, omega (arith, same))
