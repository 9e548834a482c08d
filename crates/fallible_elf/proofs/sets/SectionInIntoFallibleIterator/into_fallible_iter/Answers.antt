-- It shows the sets of the section, or its fault.
use Rattle.std.proofs.Common.{rules}
use Rattle.fallible_elf.proofs.Lemmas.Set.{sets_between_is_sets_in, sets_between_fault}
use Rattle.fallible_elf.proofs.sets.SectionInIntoFallibleIterator.into_fallible_iter.Goals as goal

pub returns-in-Err : goal.returns-in-Err
returns-in-Err c = (sets_between_fault c.args.self.file.now _ _ c.in-Err.ensures.value, search rules)

pub returns : goal.returns
returns c = (sets_between_is_sets_in c.args.self.file.now _ _ c.in-Ok.ensures.value, search rules)
