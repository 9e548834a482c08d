-- The row is cut at each comma, and the length of each cell is in an `Ok`.
use Rattle.std.proofs.Common.{rules, tests, arith, length, Ok}
use Rattle.std.proofs.lemmas.Iterator.{YieldsList-from_map}
use Rattle.std.proofs.lemmas.Iterator.Splits.{YieldsList-from_str_split}
use Rattle.fallible_iterator.proofs.Lemmas.Sources.StdChains.{items_read_mapped}
use Rattle.example_chains.proofs.sources.longest_cell.Goals as goal

pub returns : goal.returns
returns c = c.max.ensures.value _ (c.convert.ensures.items _ (items_read_mapped _ length _ (YieldsList-from_map _ (λ t. Ok (length t)) (YieldsList-from_str_split 44 c.args.row.now (omega arith) (search rules) (search rules) (search rules)) c.map.ensures.closure (λ x r q k. search (rules, tests)))))
