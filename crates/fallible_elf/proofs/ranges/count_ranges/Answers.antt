-- The ranges of each set are joined, and counted.
use Rattle.std.specs.Prelude.{◌+◌, ◌-◌, ◌^◌, min, Ok}
use Rattle.std.proofs.Common.{rules, ap, ◌∙◌}
use Rattle.fallible_iterator.specs.Laws.Own.{lists_bounded_by}
use Rattle.fallible_iterator.specs.Laws.Showing.{lists_shown}
use Rattle.fallible_iterator.specs.Lists.{flattened}
use Rattle.fallible_iterator.specs.Showing.{listing}
use Rattle.fallible_elf.specs.Sets.{sets_in, range_sections, ranges_in, saturating_count}
use Rattle.fallible_elf.specs.Shown.{shows_sets, shows_ranges}
use Rattle.fallible_elf.proofs.Lemmas.Range.{flattened_mapped}
use Rattle.fallible_elf.specs.declared.ranges.SetIn.{SetIn}
use Rattle.fallible_elf.specs.declared.sets.SectionIn.{SectionIn}
use Rattle.fallible_elf.proofs.ranges.count_ranges.Goals as goal

pub law_flat_map_finite-requires-2-clause-outer : goal.law_flat_map_finite-requires-2-clause-outer
law_flat_map_finite-requires-2-clause-outer c = rw c.flat_map-joined.ensures.source c.law_flat_map_finite.ensures

pub returns : goal.returns
returns c =
    let sets = c.flat_map-sets.ensures.lists (λ of. sets_in of.file.now of.section) (λ x s same. rw (← same.0) (lists_bounded_by (listing shows_sets) (λ r. r.end - r.place) (lists_shown shows_sets s))) _ _ (search rules) (c.filter.ensures.lists _ _ (search rules) c.sections_of.ensures.lists) in
    let each = flattened_mapped (λ (of : SectionIn). sets_in of.file.now of.section) (λ section. record { file = c.args.file; section = section }) (range_sections c.args.file.now) in
    c.fold.ensures.value (λ n _. Ok (min (n + 1) (2 ^ 64 - 1))) _ (search rules) (c.flat_map-joined.ensures.lists (λ of. ranges_in of.file.now of.set) (λ x s same. rw (← same.0) (lists_bounded_by (listing shows_ranges) (λ r. r.left) (lists_shown shows_ranges s))) _ _ (search rules) sets) ∙ ap saturating_count (flattened_mapped (λ (of : SetIn). ranges_in of.file.now of.set) (λ set. record { file = c.args.file; set = set }) _ ∙ ap (flattened (ranges_in c.args.file.now)) each)
