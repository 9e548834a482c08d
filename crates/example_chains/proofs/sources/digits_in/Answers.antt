-- The characters of the text are read, each in an `Ok`.
use Rattle.std.proofs.Common.{rules, tests, Ok}
use Rattle.std.proofs.lemmas.Iterator.{YieldsList-from_map, YieldsList-from_chars}
use Rattle.fallible_iterator.proofs.Lemmas.Sources.StdChains.{items_read_yielded}
use Rattle.example_chains.proofs.sources.digits_in.Goals as goal

pub returns : goal.returns
returns c = c.count.ensures.value _ (c.filter.ensures.lists _ _ (search rules) (c.convert.ensures.items _ (items_read_yielded _ _ (YieldsList-from_map _ (λ x. Ok x) (YieldsList-from_chars c.args.text.now (search rules) (search rules)) c.map.ensures.closure (λ x r q k. search (rules, tests))))))
