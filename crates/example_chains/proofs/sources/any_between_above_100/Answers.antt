-- A range counts up, and each of its numbers is in an `Ok`.
use Rattle.std.proofs.Common.{rules, tests, refl, Ok}
use Rattle.std.proofs.lemmas.Iterator.{YieldsList-from_map, YieldsList-from_range}
use Rattle.fallible_iterator.proofs.Lemmas.Sources.StdChains.{items_read_yielded}
use Rattle.example_chains.proofs.sources.any_between_above_100.Goals as goal

pub returns : goal.returns
returns c = c.any.ensures.value _ _ (search rules) (c.convert.ensures.items _ (items_read_yielded _ _ (YieldsList-from_map _ (λ x. Ok x) (YieldsList-from_range c.args.start c.args.end _ (search rules) refl) c.map.ensures.closure (λ x r q k. search (rules, tests)))))
