-- What comes back lists what went out.
use Rattle.std.proofs.Common.{rules, Ok, nat_lt}
use Rattle.example_chains.proofs.bridging.there_and_back_of_ten.Goals as goal

pub returns : goal.returns
returns c = let went_out = c.take.ensures.lists _ (c.convert.ensures.results c.args.readings.items (search rules)) in
    c.count.ensures.value _ (c.filter.ensures.lists (λ x. Ok (nat_lt 100 x)) _ (search rules) (c.law_iterator.ensures.lists _ _ _ _ c.transpose_into_fallible.ensures.parts c.iterator.ensures.parts went_out))
