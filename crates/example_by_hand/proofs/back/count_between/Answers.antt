-- The first draw takes the first, the second the last; where nothing is left, each draw is an end.
use Rattle.std.proofs.Common.{rules, Ok, ◌∷◌, ◌++◌, []}
use Rattle.fallible_iterator.specs.Lists.{counted}
use Rattle.example_by_hand.proofs.back.count_between.Goals as goal

pub returns-clause-value : goal.returns-clause-value
returns-clause-value c first last between same = let left = (c.law_draws.ensures.front _ _ _ _ _ (c.law_listed_vec.ensures.listed _ (Ok first ∷ (between ++ Ok last ∷ [])) (search (same, rules))) c.next.ensures).1 in
    c.count.ensures.value _ (c.law_draws.ensures.each_end.front _ _ (c.law_draws.ensures.back _ _ _ (Ok last) between left c.next_back.ensures).1)

pub returns-clause-one : goal.returns-clause-one
unfolding counted
returns-clause-one c only same = let listed = c.law_listed_vec.ensures.listed _ (Ok only ∷ []) (search (same, rules)) in
    c.count.ensures.value [] (record { runs = λ r t step. ((((listed.for 3).0 _ _ c.next.ensures).1.1 _ _ c.next_back.ensures).1.0 r t step).0 })

pub returns-clause-none : goal.returns-clause-none
unfolding counted
returns-clause-none c same = let listed = c.law_listed_vec.ensures.listed _ [] (search (same, rules)) in
    c.count.ensures.value [] (record { runs = λ r t step. ((((listed.for 3).0 _ _ c.next.ensures).1.1 _ _ c.next_back.ensures).1.0 r t step).0 })
