-- The sums of the pairs are folded.
use Rattle.std.specs.Prelude.{◌+◌, ◌%◌, ◌^◌, Ok}
use Rattle.std.proofs.Common.{rules}
use Rattle.example_by_hand.proofs.pairing.sum_of_pairs.Goals as goal

pub returns : goal.returns
returns g c = λ l i. c.fold.ensures.value (λ s x. Ok ((s + x) % 2 ^ 64)) _ (search rules) (c.map.ensures.lists (λ both. Ok (both.0 + both.1)) _ (search rules) (c.new.ensures.lists l i))
