-- The pairs are listed, and collected.
use Rattle.std.proofs.Common.{rules, ◌*◌, Ok}
use Rattle.example_chains.proofs.collecting.doubled_hashed_map.Goals as goal

pub returns : goal.returns
returns c = c.collect.ensures.value _ (c.map.ensures.lists (λ x. Ok (x, x * 2)) _ (search rules) (c.convert.ensures.results _ (search rules)))
