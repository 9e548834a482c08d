-- A bound is counted down, and what the whole comes to is what the rest comes to from here.
use Rattle.std.specs.Prelude.{[], reverse}
use Rattle.fallible_iterator.proofs.Lemmas.Loops.{CountsDown, AnswersFromHere}
use Rattle.fallible_json.specs.Grammar.{begin}
use Rattle.fallible_json.specs.Minifying.{wanting_from}
use Rattle.fallible_json.proofs.minifying.minify.Given as goal

abbrev pub invariant-loop-next : goal.invariant-loop-next
invariant-loop-next g l = let m = g.I.FallibleIterator.contract in CountsDown m l.tokens l.left.value × AnswersFromHere m.steps (wanting_from l.text) l.fn.tokens (begin, []) l.tokens ((reverse l.nesting.containers.items, l.nesting.expects), l.json.items)

abbrev pub decreases-loop-next : goal.decreases-loop-next
decreases-loop-next g l = l.left.value
