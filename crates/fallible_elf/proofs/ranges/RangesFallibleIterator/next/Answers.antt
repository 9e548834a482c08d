-- A range is the first of what is shown, and where the room ends the fault.
use Rattle.std.proofs.Common.{rules, arith, ◌-◌}
use Rattle.fallible_elf.proofs.Lemmas.Range.{takes_shown_fault, takes_shown_end, takes_shown_last, takes_shown_range}
use Rattle.fallible_elf.proofs.ranges.RangesFallibleIterator.next.Goals as goal

pub returns-in-Some : goal.returns-in-Some
returns-in-Some c = (takes_shown_fault _ _ _ (search rules) (search rules) (search rules), search rules)

pub returns-in-None : goal.returns-in-None
returns-in-None c = (takes_shown_end _ _ _ (search rules) (search rules) (search rules), search rules)

pub returns-then-length-eq0 : goal.returns-then-length-eq0
returns-then-length-eq0 c = (takes_shown_last _ _ _ _ (c.args.self.now.left - 1) (omega arith) (search rules) (search rules), search rules)

pub returns : goal.returns
returns c = (takes_shown_range _ _ _ _ (omega arith) (search rules) (search rules), search rules)
