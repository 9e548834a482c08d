-- The run of the record is the definition of `take`, by the headline.
use Rattle.std.proofs.Common.{◌++◌, ◌∷◌, [], map, subst}
use Rattle.fallible_iterator.specs.Cutting.Take.{take_parts, takes_all}
use Rattle.fallible_iterator.specs.Traces.{item}
use Rattle.example_by_hand.proofs.by_definition.count_of_first.Goals as goal

pub returns : goal.returns
returns g c =
    let after = c.count.ensures.counted.0 in
    let d = c.count.ensures.counted.1 in
    let trace = map item d.items ++ d.last ∷ [] in
    (d.items, d.last, take_parts after, subst (λ p. takes_all g.I.FallibleIterator.contract.traces p trace (take_parts after)) c.take.ensures.parts ((c.law_headline.ensures c.take.result trace after).0 d.ran), d.at.exit)
