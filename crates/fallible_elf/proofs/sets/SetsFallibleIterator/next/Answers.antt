-- A set is the first of what is shown, and after the last one the fault.
use Rattle.std.proofs.Common.{rules}
use Rattle.fallible_elf.proofs.Lemmas.Set.{takes_shown_fault, takes_shown_end, takes_shown_set, takes_shown_damaged_set}
use Rattle.fallible_elf.proofs.sets.SetsFallibleIterator.next.Goals as goal

pub returns-in-Some : goal.returns-in-Some
returns-in-Some c = (takes_shown_fault _ _ _ (search rules) (search rules) (search rules), search rules)

pub returns-in-None : goal.returns-in-None
returns-in-None c = (takes_shown_end _ _ _ (search rules) (search rules) (search rules), search rules)

pub returns-in-Ok : goal.returns-in-Ok
returns-in-Ok c = (takes_shown_set _ _ _ _ _ (search rules) c.in-Ok.ensures.value, search rules)

pub returns-in-Err : goal.returns-in-Err
returns-in-Err c = (takes_shown_damaged_set _ _ _ _ _ (search rules) c.in-Err.ensures.value, search rules)
