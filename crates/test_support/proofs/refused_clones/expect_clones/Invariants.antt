-- The draws so far keep what draws keep.
use Rattle.fallible_iterator.specs.Contract.{KeptByDraws}
use Rattle.test_support.proofs.refused_clones.expect_clones.Given as goal

abbrev pub invariant-loop-number : goal.invariant-loop-number
invariant-loop-number g l = KeptByDraws g.I.FallibleIterator.contract l.fn.it l.it
