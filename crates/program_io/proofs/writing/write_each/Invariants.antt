-- The first so many bytes were written.
use Rattle.std.proofs.Common.{take}
use Rattle.std.specs.Io.KnownBytes.{Appends}
use Rattle.program_io.specs.Showing.{shown}
use Rattle.program_io.proofs.writing.write_each.Given as goal

abbrev pub invariant-loop-byte : goal.invariant-loop-byte
invariant-loop-byte g l = Appends (g.W.WriteText.written l.fn.writer) (g.W.WriteText.written l.writer) (shown (take l.byte-index l.word))
