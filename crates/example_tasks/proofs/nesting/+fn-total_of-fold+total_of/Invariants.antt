-- A call within the closure goes one less deep.
use Rattle.std.proofs.Common.{◌+◌, ◌*◌}
use Rattle.example_tasks.proofs.nesting.+fn-total_of-fold+total_of.Given as goal

abbrev pub decreases-fold : goal.decreases-fold
decreases-fold l = l.depth * 2

abbrev pub decreases-total_of : goal.decreases-total_of
decreases-total_of l = l.depth * 2 + 1
