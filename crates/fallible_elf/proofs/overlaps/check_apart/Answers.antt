-- Fewer than two sections lie apart.
use Rattle.fallible_elf.proofs.Lemmas.Overlap.{apart_few}
use Rattle.fallible_elf.proofs.overlaps.check_apart.Goals as goal

pub returns-then-sections-lt2-clause-ok : goal.returns-then-sections-lt2-clause-ok
returns-then-sections-lt2-clause-ok c = apart_few _ _ c.if-sections-lt2.true
