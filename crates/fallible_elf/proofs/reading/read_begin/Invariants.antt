-- These bytes were read, and no others.
use Rattle.std.proofs.Common.{◌≡◌, ◌≤◌, length, take}
use Rattle.std.specs.Io.KnownBytes.{Consumes}
use Rattle.fallible_elf.proofs.reading.read_begin.Given as goal

abbrev pub invariant-loop : goal.invariant-loop
invariant-loop g l = record {
  taken : Consumes (g.R.ReadBytes.left l.fn.reader) (g.R.ReadBytes.left l.reader) (take l.count l.begin);
  room : length l.begin ≡ 64;
  few : l.count ≤ 64;
  some : l.counter ≤ l.count;
}
