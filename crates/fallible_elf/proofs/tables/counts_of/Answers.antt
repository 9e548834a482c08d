-- The fault of a count is that of the sets, or of the ranges.
use Rattle.std.proofs.Common.{sym, ◌∙◌}
use Rattle.fallible_elf.proofs.Lemmas.Report.{found_of_uncounted_sets, found_of_uncounted_ranges, told_found}
use Rattle.fallible_elf.proofs.tables.counts_of.Goals as goal

pub returns-in_err-sets-clause-fault : goal.returns-in_err-sets-clause-fault
returns-in_err-sets-clause-fault c = told_found c.args.file.now _ c.from_residual.ensures.1 (found_of_uncounted_sets c.args.file.now _ (sym c.count_sets.ensures ∙ c.in_err-sets.was))

pub returns-in_err-ranges-clause-fault : goal.returns-in_err-ranges-clause-fault
returns-in_err-ranges-clause-fault c = told_found c.args.file.now _ c.from_residual-in_err-ranges.ensures.1 (found_of_uncounted_ranges c.args.file.now _ _ (sym c.count_sets.ensures ∙ c.in_ok-sets.was) (sym c.count_ranges.ensures ∙ c.in_err-ranges.was))
