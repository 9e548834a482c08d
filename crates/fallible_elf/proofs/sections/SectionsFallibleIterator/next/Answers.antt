-- A header is the first of what is shown, and after the last one the fault.
use Rattle.std.proofs.Common.{rules, arith}
use Rattle.fallible_elf.proofs.Lemmas.Section.{takes_shown_fault, takes_shown_end, takes_shown_header}
use Rattle.fallible_elf.proofs.sections.SectionsFallibleIterator.next.Goals as goal

pub returns-in-Some : goal.returns-in-Some
returns-in-Some c = (takes_shown_fault _ _ _ _ (search rules) (search rules) (search rules), search rules)

pub returns-in-None : goal.returns-in-None
returns-in-None c = (takes_shown_end _ _ _ _ (search rules) (search rules) (search rules), search rules)

pub returns-in-Ok : goal.returns-in-Ok
returns-in-Ok c = (takes_shown_header _ _ _ _ _ (omega arith) c.named_at.ensures (search rules), search rules)

pub returns-in-Err : goal.returns-in-Err
returns-in-Err c = (takes_shown_header _ _ _ _ _ (omega arith) c.named_at.ensures (search rules), search rules)
