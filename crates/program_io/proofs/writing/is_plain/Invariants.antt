-- The first so many bytes are shown as they stand.
use Rattle.std.proofs.Common.{◌≡◌, take}
use Rattle.program_io.specs.Showing.{shown}
use Rattle.program_io.proofs.writing.is_plain.Given as goal

abbrev pub invariant-loop-byte : goal.invariant-loop-byte
invariant-loop-byte l = shown (take l.byte-index l.word) ≡ take l.byte-index l.word
