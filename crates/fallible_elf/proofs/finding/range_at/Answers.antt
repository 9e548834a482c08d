-- The file has no fault, so the search meets none.
use Rattle.std.specs.Prelude.{◌≡◌, Ok}
use Rattle.std.proofs.Common.{rules, subst}
use Rattle.fallible_elf.specs.Report.{IsFound}
use Rattle.fallible_elf.proofs.Lemmas.Finding.{range_is_first, no_fault_in_search}
use Rattle.fallible_elf.proofs.finding.range_at.Goals as goal

pub returns-in-Ok-first_holding-clause-ok : goal.returns-in-Ok-first_holding-clause-ok
returns-in-Ok-first_holding-clause-ok c =
    let is : c.in_ok-found.field-0.found ≡ Ok c.in-Ok.field-0 = search rules in
    range_is_first c.args.file.now c.args.address _ c.in-Ok.field-0 _ c.in_ok-found.ensures.ok.0 (subst (IsFound c.args.file.now) is c.in_ok-found.ensures.ok.1) c.in-Ok-first_holding.ensures

pub returns-in-Err-first_holding-clause-fault : goal.returns-in-Err-first_holding-clause-fault
returns-in-Err-first_holding-clause-fault c =
    let is : c.in_ok-found.field-0.found ≡ Ok c.in-Ok.field-0 = search rules in
    λ f told. absurd (no_fault_in_search c.args.file.now c.args.address c.in-Ok.field-0 c.in-Err-first_holding.fault (subst (IsFound c.args.file.now) is c.in_ok-found.ensures.ok.1) c.in-Err-first_holding.ensures)
