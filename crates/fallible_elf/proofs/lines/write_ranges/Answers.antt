-- The ranges of each set are joined, and their lines are written after the count.
use Rattle.std.specs.Prelude.{◌-◌, codes}
use Rattle.std.proofs.Common.{rules, ap, ◌∙◌}
use Rattle.fallible_iterator.specs.Laws.Own.{lists_bounded_by}
use Rattle.fallible_iterator.specs.Laws.Showing.{lists_shown}
use Rattle.fallible_iterator.specs.Lists.{flattened}
use Rattle.fallible_iterator.specs.Showing.{listing}
use Rattle.fallible_elf.specs.Sets.{sets_in, range_sections, ranges_in}
use Rattle.fallible_elf.specs.Text.{range_line, ranges_text}
use Rattle.fallible_elf.specs.Shown.{shows_sets, shows_ranges}
use Rattle.fallible_elf.proofs.Lemmas.Range.{flattened_mapped}
use Rattle.fallible_elf.proofs.Lemmas.Text.{on_ok_table, table_of_lines}
use Rattle.fallible_elf.specs.declared.ranges.SetIn.{SetIn}
use Rattle.fallible_elf.specs.declared.sets.SectionIn.{SectionIn}
use Rattle.fallible_elf.proofs.lines.write_ranges.Goals as goal

pub law_flat_map_finite-requires-2-clause-outer : goal.law_flat_map_finite-requires-2-clause-outer
law_flat_map_finite-requires-2-clause-outer g c = rw c.flat_map-joined.ensures.source c.law_flat_map_finite.ensures

pub returns-clause-text : goal.returns-clause-text
returns-clause-text g c =
    let sets = c.flat_map-sets.ensures.lists (λ of. sets_in of.file.now of.section) (λ x s same. rw (← same.0) (lists_bounded_by (listing shows_sets) (λ r. r.end - r.place) (lists_shown shows_sets s))) _ _ (search rules) (c.filter.ensures.lists _ _ (search rules) c.sections_of.ensures.lists) in
    let each = flattened_mapped (λ (of : SectionIn). sets_in of.file.now of.section) (λ section. record { file = c.args.file; section = section }) (range_sections c.args.file.now) in
    let lists = c.flat_map-joined.ensures.lists (λ of. ranges_in of.file.now of.set) (λ x s same. rw (← same.0) (lists_bounded_by (listing shows_ranges) (λ r. r.left) (lists_shown shows_ranges s))) _ _ (search rules) sets in
    let same = flattened_mapped (λ (of : SetIn). ranges_in of.file.now of.set) (λ set. record { file = c.args.file; set = set }) _ ∙ ap (flattened (ranges_in c.args.file.now)) each in
    on_ok_table c.write_lines.result _ range_line _ _ _ ranges_text _ _ _ _ (λ xs is has. table_of_lines (codes "ranges ") range_line _ _ c.args.count same xs is has) lists c.in_ok-write_count.ensures.text c.write_lines.ensures.text
