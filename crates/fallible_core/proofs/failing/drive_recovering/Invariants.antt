-- Before each fold of the source it may be made, what remains is counted down, and what a fold from here does, the whole fold does.
use Rattle.fallible_contract.specs.Failing.{recovering_contract}
use Rattle.fallible_contract.specs.Folds.{CallableDriving, Driven}
use Rattle.fallible_core.proofs.failing.drive_recovering.Given as goal

abbrev pub invariant-loop-value : goal.invariant-loop-value
invariant-loop-value g l = let m = recovering_contract g.I.FallibleIterator.contract (g.A.Pass.call l.adapter) (g.A.Pass.can_pass l.adapter) (g.A.Pass.outcome l.adapter) in record {
  can_next : m.can_next (l.it, l.p);
  bounded : m.bound (l.it, l.p) l.left.value;
  callable : CallableDriving m.steps (g.K.Turn.turns l.turn) (g.K.Turn.can_turn l.turn) (l.it, l.p) l.state;
  whole : (r : _) (t : _) (d : _) → Driven m.steps (g.K.Turn.turns l.turn) (l.it, l.p) l.state r t d → Driven m.steps (g.K.Turn.turns l.fn.turn) (l.fn.it, l.fn.p) l.fn.state r t d;
}

abbrev pub decreases-loop-value : goal.decreases-loop-value
decreases-loop-value g l = l.left.value
