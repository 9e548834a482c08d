-- The lines of the text are read, and the length of each is in an `Ok`.
use Rattle.std.proofs.Common.{rules, tests, length, Ok}
use Rattle.std.proofs.lemmas.Iterator.{YieldsList-from_map}
use Rattle.std.proofs.lemmas.Iterator.Splits.{YieldsList-from_lines}
use Rattle.fallible_iterator.proofs.Lemmas.Sources.StdChains.{items_read_mapped}
use Rattle.example_chains.proofs.sources.longest_line.Goals as goal

pub returns : goal.returns
returns c = c.max.ensures.value _ (c.convert.ensures.items _ (items_read_mapped _ length _ (YieldsList-from_map _ (λ t. Ok (length t)) (YieldsList-from_lines c.args.text.now (search rules)) c.map.ensures.closure (λ x r q k. search (rules, tests)))))
