-- What the third draw leaves, drawn from the back.
use Rattle.std.proofs.Common.{rules, Ok, ◌*◌}
use Rattle.fallible_iterator.proofs.Lemmas.Ends.{lists_both_ends_rest_nth}
use Rattle.fallible_iterator.specs.Listing.{by_function}
use Rattle.example_by_hand.proofs.back.last_after_three.Goals as goal

pub returns-in-Some-clause-value : goal.returns-in-Some-clause-value
returns-in-Some-clause-value c third is = (c.draw_back.ensures.rest _ (lists_both_ends_rest_nth _ (c.law_lists.ensures _ (by_function _ _ (λ x. Ok (x * 2)) _ c.map-it.ensures.parts (search rules)
    (c.law_listed_vec.ensures.results _ c.args.readings.items (search rules)))) c.nth.ensures.nth (search rules))).0
