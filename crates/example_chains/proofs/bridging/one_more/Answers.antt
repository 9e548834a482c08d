-- What is collected is what `unwrap` reads of the numbers mapped.
use Rattle.std.proofs.Common.{rules, arith, Ok, ◌+◌, ◌%◌, ◌^◌}
use Rattle.example_chains.proofs.bridging.one_more.Goals as goal

pub returns : goal.returns
returns c = let reads = c.unwrap.ensures.reads _ (c.map.ensures.lists (λ x. Ok ((x + 1) % 2 ^ 32)) _ (search rules) (c.into_fallible.ensures.lists c.args.numbers.items (search rules))) in grind arith
