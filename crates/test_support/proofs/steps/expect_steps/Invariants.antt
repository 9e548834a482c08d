-- The calls so far keep what draws keep.
use Rattle.fallible_iterator.specs.Contract.{KeptByDraws}
use Rattle.test_support.proofs.steps.expect_steps.Given as goal

abbrev pub invariant-loop-call : goal.invariant-loop-call
invariant-loop-call g l = KeptByDraws g.I.FallibleIterator.contract l.fn.it l.it
