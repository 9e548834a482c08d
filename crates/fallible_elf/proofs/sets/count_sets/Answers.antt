-- The sets of each section are joined, and counted.
use Rattle.std.specs.Prelude.{◌+◌, ◌-◌, ◌^◌, min, Ok}
use Rattle.std.proofs.Common.{rules, ap, ◌∙◌}
use Rattle.fallible_iterator.specs.Laws.Own.{lists_bounded_by}
use Rattle.fallible_iterator.specs.Laws.Showing.{lists_shown}
use Rattle.fallible_iterator.specs.Showing.{listing}
use Rattle.fallible_elf.specs.Sets.{sets_in, range_sections, saturating_count}
use Rattle.fallible_elf.specs.Shown.{shows_sets}
use Rattle.fallible_elf.proofs.Lemmas.Range.{flattened_mapped}
use Rattle.fallible_elf.specs.declared.sets.SectionIn.{SectionIn}
use Rattle.fallible_elf.proofs.sets.count_sets.Goals as goal

pub returns : goal.returns
returns c = c.fold.ensures.value (λ n _. Ok (min (n + 1) (2 ^ 64 - 1))) _ (search rules) (c.flat_map-joined.ensures.lists (λ of. sets_in of.file.now of.section) (λ x s same. rw (← same.0) (lists_bounded_by (listing shows_sets) (λ r. r.end - r.place) (lists_shown shows_sets s))) _ _ (search rules) (c.filter.ensures.lists _ _ (search rules) c.sections_of.ensures.lists)) ∙ ap saturating_count (flattened_mapped (λ (of : SectionIn). sets_in of.file.now of.section) (λ section. record { file = c.args.file; section = section }) (range_sections c.args.file.now))
