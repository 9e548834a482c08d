-- The text's tokens are what the calculation draws.
use Rattle.std.proofs.Common.{rules}
use Rattle.example_tasks.proofs.tokens.evaluate.Goals as goal

pub returns-clause-room : goal.returns-clause-room
returns-clause-room c = c.value_of.ensures.room _ (search rules)
