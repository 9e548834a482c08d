-- From each turn on the fold may go on, some bound is at most the one counted down, and what a fold from here does, the whole fold does.
use Rattle.std.proofs.Common.{ℕ, ◌≤◌}
use Rattle.fallible_contract.specs.Folds.{CallableDriving, Driven}
use Rattle.fallible_core.proofs.traits.double_ended.DoubleEndedFallibleIterator.drive_back.Given as goal

abbrev pub invariant-loop-x : goal.invariant-loop-x
invariant-loop-x g l = let m = g.Self.FallibleIterator.contract in let e = g.Self.DoubleEndedFallibleIterator.ends in record {
  can_next : e.can_next l.self;
  bounded : (n : ℕ) × m.bound l.self n × (n ≤ l.left.value);
  callable : CallableDriving e.steps (g.K.Turn.turns l.turn) (g.K.Turn.can_turn l.turn) l.self l.state;
  whole : (r : _) (t : _) (d : _) → Driven e.steps (g.K.Turn.turns l.turn) l.self l.state r t d → Driven e.steps (g.K.Turn.turns l.fn.turn) l.fn.self l.fn.state r t d;
}

abbrev pub decreases-loop-x : goal.decreases-loop-x
decreases-loop-x g l = l.left.value
