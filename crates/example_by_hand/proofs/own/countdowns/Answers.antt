-- Each countdown lists what it shows.
use Rattle.std.proofs.Common.{rules}
use Rattle.fallible_iterator.specs.Laws.Showing.{lists_shown}
use Rattle.example_by_hand.specs.Down.{counts_down}
use Rattle.example_by_hand.proofs.own.countdowns.Goals as goal

pub returns : goal.returns
returns c = c.collect.ensures.value _ (c.take.ensures.lists _ (c.flat_map.ensures.lists counts_down (λ x s same. rw same (lists_shown counts_down _)) _ _ (search rules) (c.convert.ensures.results _ (search rules))))
