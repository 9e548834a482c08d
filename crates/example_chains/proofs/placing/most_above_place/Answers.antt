-- What `map` makes of the numbered list.
use Rattle.std.proofs.Common.{arith}
use Rattle.example_chains.proofs.placing.most_above_place.Goals as goal

pub returns : goal.returns
returns g c = λ l i. c.max.ensures.value _ (c.map.ensures.lists _ _ (grind arith) (grind arith))
