-- A countdown from below 256 yields at most 255 numbers, and each lists what it shows.
use Rattle.std.proofs.Common.{rules, arith, ◌<◌}
use Rattle.fallible_iterator.specs.Laws.Own.{lists_giving}
use Rattle.fallible_iterator.specs.Laws.Showing.{lists_shown}
use Rattle.fallible_iterator.specs.Showing.{listing}
use Rattle.example_by_hand.specs.Down.{counts_down}
use Rattle.example_by_hand.specs.Rounds.{shows_rounds}
use Rattle.example_by_hand.proofs.Down.{length_down}
use Rattle.example_by_hand.proofs.own.numbers_in_rounds.Goals as goal

pub law_flatten_finite-requires-clause-inner : goal.law_flatten_finite-requires-clause-inner
law_flatten_finite-requires-clause-inner c = λ x d given same. let e = length_down x.left in let few = given.1 in rw same (omega (arith, e, few))

pub returns : goal.returns
returns c = c.fold.ensures.value _ _ (search rules) (c.flatten-joined.ensures.lists counts_down _ (λ x s same. rw same (lists_shown counts_down _)) (lists_giving (listing shows_rounds) (λ round. round.left < 256) (lists_shown shows_rounds _)))
