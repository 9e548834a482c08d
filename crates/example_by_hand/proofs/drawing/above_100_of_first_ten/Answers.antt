-- What the borrow lists under both, and what the lender has left.
use Rattle.std.proofs.Common.{rules, ◌+◌, ◌%◌, ◌^◌, Ok, nat_lt}
use Rattle.fallible_iterator.proofs.Lemmas.Lent.{lists_rest_lent_filter, lists_lent}
use Rattle.example_by_hand.proofs.drawing.above_100_of_first_ten.Goals as goal

pub returns-clause-value : goal.returns-clause-value
returns-clause-value g c l i = c.try_fold.ensures.value (λ e. e) (search rules) (λ n x. Ok ((n + 1) % 2 ^ 64)) _ (search rules) (c.filter.ensures.lists (λ x. Ok (nat_lt 100 x)) _ (search rules) (c.take.ensures.lists l (lists_lent i)))

pub returns-clause-rest : goal.returns-clause-rest
returns-clause-rest g c l n tenth i is has = lists_rest_lent_filter (λ x. nat_lt 100 x) (search rules) (search rules) c.take.ensures.parts c.filter.ensures.parts (rw is at c.try_fold.ensures.folded) i (λ e. cc)
