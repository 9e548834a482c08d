-- The sets of each section are joined.
use Rattle.std.specs.Prelude.{◌-◌}
use Rattle.std.proofs.Common.{rules}
use Rattle.fallible_iterator.specs.Laws.Own.{lists_bounded_by}
use Rattle.fallible_iterator.specs.Laws.Showing.{lists_shown}
use Rattle.fallible_iterator.specs.Showing.{listing}
use Rattle.fallible_elf.specs.Sets.{sets_in, range_sections}
use Rattle.fallible_elf.specs.Shown.{shows_sets}
use Rattle.fallible_elf.proofs.Lemmas.Range.{flattened_mapped, collected_as_same}
use Rattle.fallible_elf.specs.declared.sets.SectionIn.{SectionIn}
use Rattle.fallible_elf.proofs.sets.all_sets.Goals as goal

pub returns : goal.returns
returns c = collected_as_same _ _ (flattened_mapped (λ (of : SectionIn). sets_in of.file.now of.section) (λ section. record { file = c.args.file; section = section }) (range_sections c.args.file.now)) (c.collect.ensures.value _ (c.flat_map-joined.ensures.lists (λ of. sets_in of.file.now of.section) (λ x s same. rw (← same.0) (lists_bounded_by (listing shows_sets) (λ r. r.end - r.place) (lists_shown shows_sets s))) _ _ (search rules) (c.filter.ensures.lists _ _ (search rules) c.sections_of.ensures.lists)))
