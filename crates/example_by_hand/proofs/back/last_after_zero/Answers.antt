-- What the search leaves, drawn from the back.
use Rattle.std.proofs.Common.{rules, Ok}
use Rattle.std.specs.Prelude.{eqb}
use Rattle.fallible_iterator.proofs.Lemmas.Ends.{lists_both_ends_rest_true}
use Rattle.example_by_hand.proofs.back.last_after_zero.Goals as goal

pub returns-in-Some-clause-some : goal.returns-in-Some-clause-some
returns-in-Some-clause-some g c l x i is = (c.draw_back.ensures.rest _ (lists_both_ends_rest_true l i (λ r. Ok (eqb r 0)) (search rules) c.find.ensures.searched.1 (search rules))).0
