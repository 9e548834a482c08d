-- The lines that end within the first so many bytes were counted.
use Rattle.std.proofs.Common.{◌≡◌, ◌≤◌, take}
use Rattle.sum_groups.specs.Groups.{ended_lines}
use Rattle.sum_groups.proofs.groups.ended_lines.Given as goal

abbrev pub invariant-loop-byte : goal.invariant-loop-byte
invariant-loop-byte l = record {
  counted : l.count ≡ ended_lines (take l.byte-index l.bytes);
  few : l.count ≤ l.byte-index;
}
