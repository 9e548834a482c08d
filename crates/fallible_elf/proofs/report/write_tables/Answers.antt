-- The sections were written, and the sets and ranges where these have no fault.
use Rattle.std.proofs.Common.{subst}
use Rattle.fallible_elf.specs.Report.{IsFound}
use Rattle.fallible_elf.proofs.Lemmas.Report.{on_ok_report, report_of_sections}
use Rattle.fallible_elf.proofs.report.write_tables.Goals as goal

pub returns-in_ok-write_sets-in-Ok-clause-text : goal.returns-in_ok-write_sets-in-Ok-clause-text
returns-in_ok-write_sets-in-Ok-clause-text g c = on_ok_report c.write_ranges.result c.args.file.now c.in-Ok.found c.args.tables.sections _ _ _ _ c.requires.0 (subst (IsFound c.args.file.now) c.in-Ok.is c.requires.1) c.in_ok-write_sections.ensures.text c.in_ok-write_sets-in-Ok.ensures.text c.write_ranges.ensures.text

pub returns-in-Err-clause-text : goal.returns-in-Err-clause-text
returns-in-Err-clause-text g c = report_of_sections c.args.file.now _ c.args.tables.sections _ _ c.requires.0 (subst (IsFound c.args.file.now) c.in-Err.is c.requires.1) c.in_ok-write_sections.ensures.text
