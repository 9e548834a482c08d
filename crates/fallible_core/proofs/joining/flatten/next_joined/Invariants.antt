-- One answer from here is one from the start: no more is known of the inner iterators that ended.
use Rattle.std.proofs.Common.{[], ◌∷◌, ℕ, ◌≤◌}
use Rattle.fallible_core.specs.Joining.Flatten.{FlattenTrace, flatten_contract}
use Rattle.fallible_core.proofs.joining.flatten.next_joined.Given as goal

abbrev pub invariant-loop-in_hand : goal.invariant-loop-in_hand
invariant-loop-in_hand g l = let m = g.O.FallibleIterator.contract in let into = g.U.IntoFallibleIterator.into_gives in let inner = g.U.IntoFallibleIter.FallibleIterator.contract in record {
  can_next : (flatten_contract m into inner).can_next (l.outer, l.in_hand);
  bounded : (n : ℕ) × m.bound l.outer n × (n ≤ l.left.value);
  whole : (r : _) (q : _) → FlattenTrace m.steps into inner.steps (l.outer, l.in_hand) (r ∷ []) q → FlattenTrace m.steps into inner.steps (l.fn.outer, l.fn.in_hand) (r ∷ []) q;
}

abbrev pub decreases-loop-in_hand : goal.decreases-loop-in_hand
decreases-loop-in_hand g l = l.left.value
