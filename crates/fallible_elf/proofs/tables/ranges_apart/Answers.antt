-- The sections are those of their list, and what is said of them is said of the file.
use Rattle.std.proofs.Common.{ap, sym, ◌∙◌}
use Rattle.fallible_elf.specs.Overlaps.{apart_check}
use Rattle.fallible_elf.proofs.Lemmas.Report.{collected_is_items, collected_is_fault, ranges_apart_is, ranges_apart_where_ok, ranges_apart_of_faulty_headers}
use Rattle.fallible_elf.proofs.tables.ranges_apart.Goals as goal

pub returns-in_err-sections-clause-fault : goal.returns-in_err-sections-clause-fault
returns-in_err-sections-clause-fault c = λ f is. ranges_apart_of_faulty_headers c.args.file.now f (collected_is_fault _ c.range_sections.ensures c.in_err-sections.was c.from_residual.ensures.1 is)

pub returns-clause-ok : goal.returns-clause-ok
returns-clause-ok c = ranges_apart_where_ok c.args.file.now _ _ c.check_apart.result (collected_is_items _ c.range_sections.ensures c.in_ok-sections.was) c.as_slice.ensures.value c.check_apart.ensures.ok

pub returns-clause-fault : goal.returns-clause-fault
returns-clause-fault c = λ f is. ranges_apart_is c.args.file.now _ _ (collected_is_items _ c.range_sections.ensures c.in_ok-sections.was) (ap (apart_check c.args.file.now) (sym c.as_slice.ensures.value) ∙ c.check_apart.ensures.fault f is)
