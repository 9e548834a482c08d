-- The report was written in chunks, and what was held is handed on; or writing failed, and the file has sections.
use Rattle.std.proofs.Common.{rules}
use Rattle.program_io.specs.Reading.{ReadsAll}
use Rattle.fallible_elf.specs.Report.{HasSections}
use Rattle.elf_tables.proofs.Lemmas.Run.{reported_faulty, sections_where_held}
use Rattle.elf_tables.proofs.program.run_whole.Goals as goal

pub returns-in-Ok-hand_on-2 : goal.returns-in-Ok-hand_on-2
returns-in-Ok-hand_on-2 g c =
    let left = g.R.ReadBytes.left in
    let written = g.W.WriteText.written in
    reported_faulty (left c.args.input.now) (left c.run.new.reader) (written c.args.output.now.writer) (written c.run.new.writer.writer) (written c.hand_on-in-Err-Input.new.self.writer) c.args.output.now.held.items c.run.new.writer.held.items c.requires c.in-Ok-hand_on-2.ensures.done.1 c.in-Err-Input.fault (c.run.ensures.fault c.in-Err-Input.fault (search rules))

pub returns-in-Err-hand_on : goal.returns-in-Err-hand_on
returns-in-Err-hand_on g c =
    let left = g.R.ReadBytes.left in
    let failed = c.in-Err-hand_on.ensures.failed in
    (sections_where_held (ReadsAll (left c.args.input.now) (left c.run.new.reader) HasSections) c.args.output.now c.run.new.writer (λ s. s.held.items) c.run.result c.in-Err-Input.fault (search rules) c.run.ensures.untouched c.requires failed.0, failed.1)
