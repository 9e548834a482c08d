-- The draws so far keep what draws keep.
use Rattle.fallible_iterator.specs.Contract.{KeptByDraws}
use Rattle.test_support.proofs.course.expect_course.Given as goal

abbrev pub invariant-loop-hint : goal.invariant-loop-hint
invariant-loop-hint g l = KeptByDraws g.I.FallibleIterator.contract l.fn.it l.it
