-- What is told was written, and then the newline.
use Rattle.program_io.proofs.Lemmas.Writing.{on_ok_appends_last}
use Rattle.fallible_pg.proofs.printing.PgInputInputFault.write_line.Goals as goal

pub returns-clause-line : goal.returns-clause-line
returns-clause-line g c = on_ok_appends_last _ _ _ _ _ _ c.in_ok-write.ensures.line c.write_bytes.ensures.whole
