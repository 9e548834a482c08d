-- These bytes came after those that were there.
use Rattle.std.proofs.Common.{◌≡◌, ◌≤◌, ℕ, List, ◌++◌, length}
use Rattle.program_io.specs.Bytes.{GivesBytes}
use Rattle.program_io.proofs.reading.read_up_to.Given as goal

abbrev pub invariant-loop : goal.invariant-loop
invariant-loop g l = record {
  more : List ℕ;
  are : l.bytes.items ≡ l.fn.bytes.items ++ more;
  given : GivesBytes g.R.ReadByte.left g.R.ReadByte.stays l.fn.reader more l.reader;
  some : l.counter ≤ length l.bytes.items;
  within : length l.bytes.items ≤ l.size;
}
