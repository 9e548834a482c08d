-- Of a header with a fault nothing is written.
use Rattle.fallible_elf.proofs.Lemmas.Report.{reads_faulty_told}
use Rattle.fallible_elf.proofs.report.run.Goals as goal

pub returns-in-Ok-Err-clause-fault : goal.returns-in-Ok-Err-clause-fault
returns-in-Ok-Err-clause-fault g c = λ f is. reads_faulty_told _ _ _ c.in-Ok-Err.fault f is (rw c.in-Ok-Err.field-0-is at c.in-Ok-Err.ensures)
