-- The sum, and the first that is left.
use Rattle.std.proofs.Common.{refl}
use Rattle.fallible_iterator.proofs.Lemmas.Lent.{on_value_of_value}
use Rattle.example_by_hand.proofs.parsing.sum_and_next.Goals as goal

pub returns-clause-value : goal.returns-clause-value
returns-clause-value g c l i found = on_value_of_value _ c.in_ok-sum.was (c.sum_below_ten.ensures.value l i) (on_value_of_value _ c.in_ok-draw.was (c.draw.ensures.value _ (c.sum_below_ten.ensures.rest l _ i c.in_ok-sum.was found)) refl)
