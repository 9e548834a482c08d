-- The digits that are left go on with the number so far.
use Rattle.std.proofs.Common.{◌≡◌, drop}
use Rattle.elf_tables.specs.Words.{number_after}
use Rattle.elf_tables.proofs.words.number_of.Given as goal

abbrev pub invariant-loop-byte : goal.invariant-loop-byte
invariant-loop-byte l = number_after l.number (drop l.byte-index l.digits) ≡ number_after 0 l.digits
