-- It lists what it shows, from both ends, which are items alone, and as many are to come as lie between.
use Rattle.std.specs.Prelude.{length, reverse}
use Rattle.std.proofs.Common.{refl, arith, inr}
use Rattle.fallible_iterator.specs.Lists.{reversed}
use Rattle.fallible_iterator.specs.Laws.Showing.{lists_shown, never_fails_shown}
use Rattle.fallible_iterator.specs.Laws.ShowingEnds.{lists_both_ends_shown}
use Rattle.example_by_hand.specs.Between.{numbers_between, shows_between}
use Rattle.example_by_hand.proofs.Between.{length_between}
use Rattle.example_by_hand.proofs.own.Between.new.Goals as goal

pub returns-clause-both : goal.returns-clause-both
returns-clause-both c = lists_both_ends_shown shows_between _

pub returns-clause-lists : goal.returns-clause-lists
returns-clause-lists c = lists_shown shows_between _

pub returns-clause-back : goal.returns-clause-back
unfolding reversed
returns-clause-back c = lists_shown (λ s. reverse (shows_between s)) _

pub returns-clause-sure : goal.returns-clause-sure
returns-clause-sure c = never_fails_shown shows_between _ _ refl

pub returns-clause-fits : goal.returns-clause-fits
returns-clause-fits c = let same = length_between c.args.low c.args.high in inr (length (numbers_between c.args.low c.args.high), omega arith, omega (arith, same))
