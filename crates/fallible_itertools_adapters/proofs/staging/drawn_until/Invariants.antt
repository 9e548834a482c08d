-- A bound is counted down, the adapter may be called on what may come, and an answer from here is one from the beginning.
use Rattle.fallible_iterator.proofs.Lemmas.Loops.{CountsDown}
use Rattle.fallible_itertools_adapters.specs.Staging.{DrawsUpTo, TakesAll, rule_meets}
use Rattle.fallible_itertools_adapters.proofs.staging.drawn_until.Given as goal

abbrev pub invariant-loop-emitted : goal.invariant-loop-emitted
invariant-loop-emitted g l = let m = g.I.FallibleIterator.contract in let comes = g.G.Stage.rule.comes in let meets = rule_meets g.G.Stage.rule in record {
  counts : CountsDown m l.it l.left.value;
  takes : TakesAll m meets g.G.Stage.rule.takes l.it l.held;
  whole : (r : _) (t : _) (q : _) → DrawsUpTo comes meets m.steps l.it l.held r t q → DrawsUpTo comes meets m.steps l.fn.it l.fn.held r t q;
}

abbrev pub decreases-loop-emitted : goal.decreases-loop-emitted
decreases-loop-emitted g l = l.left.value
