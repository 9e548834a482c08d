use Rattle.std.proofs.Common.{rules}
use Rattle.fallible_elf.specs.Sets.{ranges_of}
use Rattle.fallible_elf.proofs.Lemmas.NoRanges.{fault_counted, none_counted, some_counted}
use Rattle.fallible_elf.proofs.finding.has_no_ranges.Goals as goal

pub returns-then-count-gt0-clause-some : goal.returns-then-count-gt0-clause-some
returns-then-count-gt0-clause-some c = λ _. some_counted (ranges_of c.args.file.now) c.in-Ok.count c.in-Ok.ensures (search rules)

pub returns-else-count-gt0-clause-none : goal.returns-else-count-gt0-clause-none
returns-else-count-gt0-clause-none c = λ _. none_counted (ranges_of c.args.file.now) c.in-Ok.count c.in-Ok.ensures (search rules)

pub returns-in-Err-clause-some : goal.returns-in-Err-clause-some
returns-in-Err-clause-some c = λ _. fault_counted (ranges_of c.args.file.now) c.in-Err.field-0 c.in-Err.ensures
