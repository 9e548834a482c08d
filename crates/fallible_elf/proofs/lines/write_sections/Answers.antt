-- The sections are numbered, and their lines are written after the count.
use Rattle.std.specs.Prelude.{length, codes}
use Rattle.std.proofs.Common.{rules}
use Rattle.fallible_iterator.specs.Lists.{numbered}
use Rattle.fallible_elf.specs.Sections.{headers_of}
use Rattle.fallible_elf.specs.Text.{sections_text}
use Rattle.fallible_elf.proofs.Lemmas.Text.{count_and_lines, lines_of_numbered, number_in, numbered_line, on_ok_table}
use Rattle.fallible_elf.proofs.lines.write_sections.Goals as goal

pub returns-clause-text : goal.returns-clause-text
returns-clause-text g c =
    let lists = c.map-lines.ensures.lists (number_in c.args.file) (numbered 0 (headers_of c.args.file.now)) (search rules) (c.enumerate-numbered.ensures.lists (headers_of c.args.file.now) c.sections_of.ensures.lists) in
    on_ok_table c.write_lines.result _ numbered_line _ _ _ (sections_text c.args.file.now) _ _ _ _ (λ xs is has. count_and_lines (codes "sections ") c.args.count (length xs) _ _ has (lines_of_numbered c.args.file (headers_of c.args.file.now) xs 0 is)) lists c.in_ok-write_count.ensures.text c.write_lines.ensures.text
