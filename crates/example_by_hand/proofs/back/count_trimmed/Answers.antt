-- What the search leaves, from the back.
use Rattle.std.proofs.Common.{rules, Ok}
use Rattle.std.specs.Prelude.{eqb, not}
use Rattle.fallible_iterator.proofs.Lemmas.Ends.{lists_both_ends_rest_true}
use Rattle.example_by_hand.proofs.back.count_trimmed.Goals as goal

pub returns-in-Some-clause-some : goal.returns-in-Some-clause-some
returns-in-Some-clause-some c x is = c.count.ensures.value _ (c.skip_while.ensures.lists _ _ (search rules) (c.rev.ensures.lists _ (c.law_draws.ensures.each_end.back _ _
    (lists_both_ends_rest_true _ (c.law_listed_vec.ensures.results _ c.args.readings.items (search rules)) (λ r. Ok (not (eqb r 0))) (search rules) c.find.ensures.searched.1 (search rules)))))
