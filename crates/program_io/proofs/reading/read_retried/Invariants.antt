-- Each read before was interrupted.
use Rattle.std.proofs.Common.{◌≡◌, ◌⊎◌}
use Rattle.std.specs.Io.KnownBytes.{Keeps}
use Rattle.std.specs.declared.io.ErrorKind.TheVariants.{Interrupted}
use Rattle.program_io.proofs.reading.read_retried.Given as goal

abbrev pub invariant-loop : goal.invariant-loop
invariant-loop g l = record {
  kept : Keeps (g.R.ReadBytes.left l.fn.reader) (g.R.ReadBytes.left l.reader);
  tried : (l.counter ≡ 0) ⊎ ((last : g.row.R.Denot) × Keeps (g.R.ReadBytes.left l.fn.reader) (g.R.ReadBytes.left last) × g.R.ReadBytes.fails Interrupted last l.reader);
}
