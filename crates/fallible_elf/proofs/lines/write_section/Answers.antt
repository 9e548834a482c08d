-- The numbers, the name and the newline were written.
use Rattle.std.proofs.KnownBytes.{Appends-trans}
use Rattle.program_io.proofs.Lemmas.Writing.{on_ok_appends_last}
use Rattle.fallible_elf.proofs.lines.write_section.Goals as goal

pub returns-clause-text : goal.returns-clause-text
returns-clause-text g c =
    let numbers = Appends-trans _ _ _ _ _ (Appends-trans _ _ _ _ _ c.in_ok-write_decimal.ensures.text c.in_ok-write_type.ensures.text) c.in_ok-write_extent.ensures.text in
    let name = rw c.name_or_none.ensures at c.in_ok-write_name.ensures.text in
    on_ok_appends_last c.write_bytes.result _ _ _ _ _ (Appends-trans _ _ _ _ _ numbers name) c.write_bytes.ensures.whole
