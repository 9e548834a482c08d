-- What the borrow lists, and what the lender has left.
use Rattle.std.proofs.Common.{rules, ◌+◌, ◌%◌, ◌^◌, Ok}
use Rattle.fallible_iterator.proofs.Lemmas.Lent.{lists_rest_lent, lists_lent}
use Rattle.example_by_hand.proofs.drawing.sum_of_two.Goals as goal

pub returns-clause-value : goal.returns-clause-value
returns-clause-value g c l i = c.try_fold.ensures.value (λ e. e) (search rules) (λ s x. Ok ((s + x) % 2 ^ 32)) _ (search rules) (c.take.ensures.lists l (lists_lent i))

pub returns-clause-rest : goal.returns-clause-rest
returns-clause-rest g c l sum second i is two = lists_rest_lent 1 (search rules) c.take.ensures.parts (rw is at c.try_fold.ensures.folded) i (λ e. cc)
