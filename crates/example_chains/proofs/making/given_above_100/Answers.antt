-- What the closure's state shows is what is left of the vector's iterator.
use Rattle.std.proofs.Common.{rules, ◌≡◌, Ok, nat_lt}
use Rattle.std.specs.Vec.Iter.{into_iter_items}
use Rattle.fallible_iterator.specs.Lists.{results}
use Rattle.example_chains.proofs.making.given_above_100.Goals as goal

pub returns : goal.returns
unfolding results
returns c = let same : c.args.readings.items ≡ into_iter_items c.into_iter-left.result = search rules in
    rw same (c.count.ensures.value _ (c.filter.ensures.lists (λ x. Ok (nat_lt 100 x)) _ (search rules) (c.take.ensures.lists _ (c.from_fn.ensures.shown (λ f. into_iter_items f.0) (λ f r h called. search rules)))))
