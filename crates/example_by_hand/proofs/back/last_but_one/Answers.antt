-- What the filter lists from both ends, of what the map does.
use Rattle.std.proofs.Common.{rules, Ok, ◌*◌}
use Rattle.fallible_iterator.specs.Listing.{by_function}
use Rattle.example_by_hand.proofs.back.last_but_one.Goals as goal

pub returns : goal.returns
returns c = c.last_but_one_of.ensures _ (c.law_lists-2.ensures _ (by_function _ _ _ _ c.filter-above.ensures.parts (search rules)
    (c.law_lists.ensures _ (by_function _ _ (λ x. Ok (x * 2)) _ c.map-doubled.ensures.parts (search rules) (c.law_listed_vec.ensures.results _ c.args.readings.items (search rules))))))
