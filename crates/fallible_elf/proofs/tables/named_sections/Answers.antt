-- The headers were counted, and their names have room, or not.
use Rattle.std.proofs.Common.{sym, ◌∙◌}
use Rattle.fallible_elf.specs.Sections.{headers_of}
use Rattle.fallible_elf.proofs.Lemmas.Count.{collected_where_counted, collected_failure_where_counted}
use Rattle.fallible_elf.proofs.Lemmas.Report.{named_sections_of_names, named_sections_faulty, named_sections_of_faulty_headers, told_fault}
use Rattle.fallible_elf.proofs.tables.named_sections.Goals as goal

pub returns-clause-ok : goal.returns-clause-ok
returns-clause-ok c =
    let all = collected_where_counted (headers_of c.args.file.now) _ (sym (c.count.ensures.value _ c.sections_of.ensures.lists) ∙ c.in_ok-sections.was) in
    (all.0, named_sections_of_names c.args.file.now all.0 all.1 (sym c.in_ok-check_names.was ∙ c.check_names.ensures all.0 all.1), all.2)

pub returns-in_err-sections-clause-fault : goal.returns-in_err-sections-clause-fault
returns-in_err-sections-clause-fault c = told_fault _ c.from_residual.ensures.1 (named_sections_of_faulty_headers c.args.file.now _ (collected_failure_where_counted (headers_of c.args.file.now) _ (sym (c.count.ensures.value _ c.sections_of.ensures.lists) ∙ c.in_err-sections.was)))

pub returns-in_err-check_names-clause-fault : goal.returns-in_err-check_names-clause-fault
returns-in_err-check_names-clause-fault c =
    let all = collected_where_counted (headers_of c.args.file.now) _ (sym (c.count.ensures.value _ c.sections_of.ensures.lists) ∙ c.in_ok-sections.was) in
    told_fault _ c.from_residual-in_err-check_names.ensures.1 (named_sections_faulty c.args.file.now all.0 _ all.1 (sym c.in_err-check_names.was ∙ c.check_names.ensures all.0 all.1))
