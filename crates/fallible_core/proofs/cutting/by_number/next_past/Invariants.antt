-- What follows from here, with the items that are left to leave out, follows from the start.
use Rattle.std.proofs.Common.{[], ◌∷◌}
use Rattle.fallible_contract.proofs.Lemmas.ByNumber.{Leaves}
use Rattle.fallible_core.proofs.cutting.by_number.next_past.Given as goal

abbrev pub invariant-loop-x : goal.invariant-loop-x
invariant-loop-x g l = let m = g.I.FallibleIterator.contract in record {
  whole : (r : _) (t : _) (k : _) → Leaves m.steps 0 l.to_skip l.it (r ∷ []) t k → Leaves m.steps 0 l.fn.to_skip l.fn.it (r ∷ []) t k;
  can_next : m.can_next l.it;
}

abbrev pub decreases-loop-x : goal.decreases-loop-x
decreases-loop-x g l = l.to_skip
