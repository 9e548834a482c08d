-- Whole records are added up, and fewer bytes than one has are held.
use Rattle.std.proofs.Common.{◌≡◌, ◌+◌, ◌*◌, ◌<◌, ◌≤◌, length, take}
use Rattle.fallible_table.proofs.Lemmas.Reading.{ReadSoFar}
use Rattle.fallible_table.proofs.reading.sum_up_read.Given as goal

abbrev pub invariant-loop-read : goal.invariant-loop-read
invariant-loop-read g l = record {
  so_far : ReadSoFar (g.R.ReadBytes.left l.fn.reader) (g.R.ReadBytes.left l.reader) (take l.held l.buffer) l.totals;
  short : l.held < 8;
  room : length l.buffer ≡ 65536;
  few : 8 * l.totals.records + l.held ≤ 65536 * l.read;
  many : l.read ≤ 8 * l.totals.records + l.held;
}
