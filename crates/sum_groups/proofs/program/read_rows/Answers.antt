-- A read that failed after the first line.
use Rattle.std.proofs.Common.{rules}
use Rattle.program_io.specs.Reading.{Fails}
use Rattle.sum_groups.proofs.Failing.{after_line}
use Rattle.sum_groups.proofs.program.read_rows.Goals as goal

pub returns : goal.returns
returns g c = after_line g.R.ReadBytes.left (Fails g.R.ReadBytes.left g.R.ReadBytes.fails) (record { line = _; first = c.in-Ok.ensures.0; rows = search rules; consumed = c.in-Ok.ensures.1 }) c.read_rest.new.self _ _ c.in-Err-read_rest.ensures c.fault_of_read-in-Err-read_rest.ensures
