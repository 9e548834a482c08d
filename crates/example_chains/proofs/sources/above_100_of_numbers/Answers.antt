-- The numbers are listed, each in an `Ok`, and filtered.
use Rattle.std.proofs.Common.{rules}
use Rattle.example_chains.proofs.sources.above_100_of_numbers.Goals as goal

pub returns : goal.returns
returns c = c.count.ensures.value _ (c.filter.ensures.lists _ _ (search rules) (c.convert.ensures.items _ (search rules)))
