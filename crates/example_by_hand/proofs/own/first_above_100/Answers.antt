-- A countdown from a byte yields at most 255 numbers, and each lists what it shows.
use Rattle.std.proofs.Common.{rules, arith}
use Rattle.fallible_iterator.specs.Laws.Showing.{lists_shown}
use Rattle.example_by_hand.specs.Down.{counts_down}
use Rattle.example_by_hand.proofs.Down.{length_down}
use Rattle.example_by_hand.proofs.own.first_above_100.Goals as goal

pub law_flat_map_finite-requires-clause-inner : goal.law_flat_map_finite-requires-clause-inner
law_flat_map_finite-requires-clause-inner g c = λ x d may same. let e = length_down x.left in let called = may.called in let says = may.says in rw same (grind (arith, e, called, says))

pub returns : goal.returns
returns g c l i = c.find.ensures.value _ _ (search rules) (c.flat_map-joined.ensures.lists counts_down (λ x s same. rw same (lists_shown counts_down _)) _ _ (search rules) (c.take.ensures.lists l i))
