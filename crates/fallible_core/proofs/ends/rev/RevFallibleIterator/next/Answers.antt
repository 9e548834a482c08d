-- A draw of the source from the back is one of what swaps its ends.
use Rattle.std.proofs.Common.{rules}
use Rattle.fallible_core.proofs.ends.rev.RevFallibleIterator.next.Goals as goal

pub returns : goal.returns
returns g c = search rules
