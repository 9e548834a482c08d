-- Each text is made of the number at its place, up to an allocation failure.
use Rattle.std.proofs.Common.{rules, tests, Ok}
use Rattle.std.specs.Fmt.{decimal}
use Rattle.fallible_iterator.proofs.Lemmas.Making.{collected_made, lists_made_by_map}
use Rattle.example_by_hand.proofs.parsing.texts_of.Goals as goal

pub returns : goal.returns
returns c = collected_made _ _ _ _ c.collect.ensures.collects (lists_made_by_map (λ x. Ok (decimal x)) c.map.ensures.parts (λ x r q k. search (rules, tests)) (c.convert.ensures.results _ (search rules)))
