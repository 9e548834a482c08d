-- The first so many bytes were written.
use Rattle.std.proofs.Common.{take}
use Rattle.std.specs.Io.KnownBytes.{Appends}
use Rattle.fallible_pg.specs.Csv.{doubled}
use Rattle.fallible_pg.proofs.csv.write_doubled.Given as goal

abbrev pub invariant-loop-byte : goal.invariant-loop-byte
invariant-loop-byte g l = Appends (g.P.PutBytes.written l.fn.writer) (g.P.PutBytes.written l.writer) (doubled (take l.byte-index l.field))
