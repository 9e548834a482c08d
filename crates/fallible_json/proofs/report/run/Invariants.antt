-- All that was read is taken, but for what the buffer holds; and what is printed of it was written.
use Rattle.std.proofs.Common.{◌-◌, ◌≤◌, ◌^◌}
use Rattle.fallible_json.proofs.Lemmas.Buffer.{Holds}
use Rattle.fallible_json.proofs.report.run.Given as goal

abbrev pub invariant-loop-read : goal.invariant-loop-read
invariant-loop-read g l = record {
  holds : Holds l.prints (g.R.ReadBytes.left l.fn.reader) (g.R.ReadBytes.left l.reader) (g.W.WriteText.written l.fn.writer) (g.W.WriteText.written l.writer) l.texts l.buffer.items l.held l.checked l.read;
  few : l.read ≤ 2 ^ 61;
}

abbrev pub decreases-loop-read : goal.decreases-loop-read
decreases-loop-read g l = 2 ^ 61 - l.read
