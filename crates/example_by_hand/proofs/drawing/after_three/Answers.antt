-- What the lender has left.
use Rattle.std.proofs.Common.{rules, ◌∙◌}
use Rattle.fallible_iterator.proofs.Lemmas.Lent.{lists_rest_lent_nth, on_value_of_failure, lists_lent, nth_of_taken, on_value_of_value}
use Rattle.example_by_hand.proofs.drawing.after_three.Goals as goal

pub returns-in_err-nth : goal.returns-in_err-nth
returns-in_err-nth g c l i no_end = on_value_of_failure _ c.in_err-nth.was (c.nth.ensures.value _ (c.take.ensures.lists l (lists_lent i)) ∙ nth_of_taken 2 l) (search rules)

pub returns : goal.returns
returns g c l i no_end = on_value_of_value _ c.in_ok-nth.was (c.nth.ensures.value _ (c.take.ensures.lists l (lists_lent i)) ∙ nth_of_taken 2 l) (c.draw.ensures.value _ (lists_rest_lent_nth 2 (search rules) c.take.ensures.parts c.in_ok-nth.ensures.nth i no_end))
