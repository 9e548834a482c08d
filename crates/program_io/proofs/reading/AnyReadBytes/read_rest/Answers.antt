-- All bytes were read after those before, or some.
use Rattle.std.proofs.Common.{rules}
use Rattle.std.proofs.KnownBytes.{Consumes-nil}
use Rattle.program_io.proofs.reading.AnyReadBytes.read_rest.Goals as goal

pub returns-in_err-bytes : goal.returns-in_err-bytes
returns-in_err-bytes g c = let none = Consumes-nil (g.R.Read.remaining c.args.self.now) in search (rules, none)
