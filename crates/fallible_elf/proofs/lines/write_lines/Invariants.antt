-- A bound is counted down, and the lines so far and those of what is left are all of them.
use Rattle.std.specs.Prelude.{ℕ, List, [], ◌++◌}
use Rattle.std.specs.Io.KnownBytes.{Appends}
use Rattle.fallible_iterator.proofs.Lemmas.Loops.{CountsDown, AnswersFromHere}
use Rattle.fallible_elf.specs.Text.{lines_of}
use Rattle.fallible_elf.proofs.lines.write_lines.Given as goal

abbrev pub invariant-loop-item : goal.invariant-loop-item
invariant-loop-item g l = let m = g.I.FallibleIterator.contract in CountsDown m l.it l.left.value × ((text : List ℕ) × Appends (g.W.WriteText.written l.fn.writer) (g.W.WriteText.written l.writer) text × AnswersFromHere m.steps (λ before rest. before ++ lines_of g.T.WriteLine.line rest) l.fn.it [] l.it text)

abbrev pub decreases-loop-item : goal.decreases-loop-item
decreases-loop-item g l = l.left.value
