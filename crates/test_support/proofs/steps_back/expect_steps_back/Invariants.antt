-- After the calls so far it may be drawn from at either end, and is finite.
use Rattle.test_support.proofs.steps_back.expect_steps_back.Given as goal

abbrev pub invariant-loop-call : goal.invariant-loop-call
invariant-loop-call g l = record {
  can_next : g.I.DoubleEndedFallibleIterator.ends.can_next l.it;
  finite : g.I.FallibleIterator.contract.is_finite l.it;
}
