-- The counts are exact.
use Rattle.std.proofs.Common.{sym, subst}
use Rattle.fallible_elf.specs.Report.{HasFound}
use Rattle.fallible_elf.specs.declared.tables.Found.{Found}
use Rattle.fallible_elf.proofs.Lemmas.Report.{has_found}
use Rattle.fallible_elf.proofs.tables.found_in.Goals as goal

pub returns-in-Ok-exact-clause-ok : goal.returns-in-Ok-exact-clause-ok
returns-in-Ok-exact-clause-ok c =
    let exact = c.in-Ok-exact.ensures.ok in
    subst (λ (found : Found). HasFound c.args.file.now found) (sym exact.0) (has_found c.args.file.now c.in-Ok.found c.in_ok-ranges_apart.ensures.ok c.in-Ok.ensures.sets c.in-Ok.ensures.ranges exact.1 exact.2)
