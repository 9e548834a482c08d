-- The marks are those of the sections so far, which lie apart.
use Rattle.std.proofs.Common.{◌≡◌, take, drop}
use Rattle.fallible_elf.specs.Overlaps.{apart_after, apart_check, MarksAre}
use Rattle.fallible_elf.proofs.overlaps.claim_each.Given as goal

abbrev pub invariant-loop-section : goal.invariant-loop-section
invariant-loop-section l = MarksAre l.file (take l.section-index l.sections) l.marks × (apart_after l.file (take l.section-index l.sections) (drop l.section-index l.sections) ≡ apart_check l.file l.sections)
