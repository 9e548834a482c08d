-- What a fold for the items that are left to skip does from here, the whole does.
use Rattle.fallible_contract.specs.Folds.{Driven, IsNthTurn}
use Rattle.fallible_core.proofs.traits.FallibleIterator.drive_to.Given as goal

abbrev pub invariant-loop-left : goal.invariant-loop-left
invariant-loop-left g l = let m = g.Self.FallibleIterator.contract in record {
  whole : (r : _) (t : _) (k : _) → Driven m.steps IsNthTurn l.self l.left r t k → Driven m.steps IsNthTurn l.initial.self l.initial.left r t k;
  can_next : m.can_next l.self;
}

abbrev pub decreases-loop-left : goal.decreases-loop-left
decreases-loop-left g l = l.left
