-- What the borrow lists, and what the lender has left.
use Rattle.std.proofs.Common.{rules, Ok, nat_lt, ◌+◌, ◌%◌, ◌^◌}
use Rattle.fallible_iterator.proofs.Lemmas.Lent.{lists_lent}
use Rattle.fallible_iterator.proofs.Lemmas.LentWhile.{lists_rest_lent_while}
use Rattle.example_by_hand.proofs.parsing.sum_below_ten.Goals as goal

pub returns-clause-value : goal.returns-clause-value
returns-clause-value g c l i = c.try_fold.ensures.value (λ e. e) (search rules) (λ s x. Ok ((s + x) % 2 ^ 64)) _ (search rules) (c.take_while.ensures.lists (λ x. Ok (nat_lt x 10)) l (search rules) (lists_lent i))

pub returns-clause-rest : goal.returns-clause-rest
returns-clause-rest g c l sum i is found = lists_rest_lent_while (search rules) (search rules) c.take_while.ensures.source c.take_while.ensures.predicate c.take_while.ensures.refused (rw is at c.try_fold.ensures.folded) i found
