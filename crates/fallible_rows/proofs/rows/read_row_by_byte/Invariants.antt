use Rattle.std.proofs.Common.{◌≡◌, ℕ, List, length}
use Rattle.fallible_rows.specs.Digits.{TellsOf}
use Rattle.program_io.specs.Bytes.{GivesBytes}
use Rattle.fallible_rows.specs.RowTraces.{IsOneRow}
use Rattle.fallible_rows.proofs.rows.read_row_by_byte.Given as goal

abbrev pub invariant-loop-read : goal.invariant-loop-read
invariant-loop-read g l = record {
  bytes : List ℕ;
  one : IsOneRow bytes;
  given : GivesBytes g.B.ReadByte.left g.B.ReadByte.stays l.fn.reader bytes l.reader;
  tells : TellsOf l.row bytes;
  long : length bytes ≡ l.read;
}
