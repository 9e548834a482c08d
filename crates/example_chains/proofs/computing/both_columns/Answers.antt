-- Each column lists its numbers.
use Rattle.std.proofs.Common.{rules}
use Rattle.example_chains.proofs.computing.both_columns.Goals as goal

pub returns : goal.returns
returns c = c.count.ensures.value _ (c.chain.ensures.lists _ _ (search rules) (λ back same. rw same (c.convert-2.ensures.items _ (search rules))))
