-- The sets of each section are joined, and their lines are written after the count.
use Rattle.std.specs.Prelude.{◌-◌, codes}
use Rattle.std.proofs.Common.{rules}
use Rattle.fallible_iterator.specs.Laws.Own.{lists_bounded_by}
use Rattle.fallible_iterator.specs.Laws.Showing.{lists_shown}
use Rattle.fallible_iterator.specs.Showing.{listing}
use Rattle.fallible_elf.specs.Sets.{sets_in, range_sections}
use Rattle.fallible_elf.specs.Shown.{shows_sets}
use Rattle.fallible_elf.specs.Text.{set_line, sets_text}
use Rattle.fallible_elf.proofs.Lemmas.Range.{flattened_mapped}
use Rattle.fallible_elf.proofs.Lemmas.Text.{on_ok_table, table_of_lines}
use Rattle.fallible_elf.specs.declared.sets.SectionIn.{SectionIn}
use Rattle.fallible_elf.proofs.lines.write_sets.Goals as goal

pub returns-clause-text : goal.returns-clause-text
returns-clause-text g c =
    let lists = c.flat_map-joined.ensures.lists (λ of. sets_in of.file.now of.section) (λ x s same. rw (← same.0) (lists_bounded_by (listing shows_sets) (λ r. r.end - r.place) (lists_shown shows_sets s))) _ _ (search rules) (c.filter.ensures.lists _ _ (search rules) c.sections_of.ensures.lists) in
    let each = flattened_mapped (λ (of : SectionIn). sets_in of.file.now of.section) (λ section. record { file = c.args.file; section = section }) (range_sections c.args.file.now) in
    on_ok_table c.write_lines.result _ set_line _ _ _ sets_text _ _ _ _ (λ xs is has. table_of_lines (codes "sets ") set_line _ _ c.args.count each xs is has) lists c.in_ok-write_count.ensures.text c.write_lines.ensures.text
