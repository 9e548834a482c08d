-- What the search for the item with the rest of them to pass over does from here, the whole does.
use Rattle.fallible_iterator.specs.Folds.{NthDrains}
use Rattle.fallible_itertools.proofs.double_ended.nth_from_back.Given as goal

abbrev pub invariant-loop-left : goal.invariant-loop-left
invariant-loop-left g l = let e = g.I.DoubleEndedFallibleIterator.ends in record {
  whole : (r : _) (t : _) → NthDrains e.steps l.it l.left r t → NthDrains e.steps l.fn.it l.fn.n r t;
  can_next : e.can_next l.it;
}

abbrev pub decreases-loop-left : goal.decreases-loop-left
decreases-loop-left g l = l.left
