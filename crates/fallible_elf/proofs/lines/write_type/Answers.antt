-- Both texts were written.
use Rattle.std.specs.Prelude.{◌++◌, codes, decimal}
use Rattle.std.proofs.Common.{append_assoc}
use Rattle.fallible_elf.specs.Text.{hex}
use Rattle.fallible_elf.proofs.Lemmas.Text.{on_ok_last}
use Rattle.fallible_elf.proofs.lines.write_type.Goals as goal

pub returns-clause-text : goal.returns-clause-text
returns-clause-text g c = on_ok_last c.write_hex.result _ _ _ _ _ _ c.in_ok-write_decimal.ensures.text c.write_hex.ensures.text (append_assoc (codes " type " ++ decimal c.args.section.now.kind) (codes " address ") (hex c.args.section.now.address))
