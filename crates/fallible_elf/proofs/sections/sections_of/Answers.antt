-- It lists what it shows.
use Rattle.fallible_iterator.specs.Laws.Own.{lists_bounded_by}
use Rattle.fallible_iterator.specs.Laws.Showing.{lists_shown}
use Rattle.fallible_iterator.specs.Showing.{listing}
use Rattle.fallible_elf.specs.Shown.{shows_headers}
use Rattle.fallible_elf.proofs.Lemmas.Section.{headers_from_table, headers_from_fault}
use Rattle.fallible_elf.proofs.sections.sections_of.Goals as goal

pub returns-in-Err-clause-lists : goal.returns-in-Err-clause-lists
returns-in-Err-clause-lists c = rw (← headers_from_fault c.args.file.now _ c.in-Err.ensures.value) (lists_bounded_by (listing shows_headers) (λ s. s.left) (lists_shown shows_headers _))

pub returns-clause-lists : goal.returns-clause-lists
returns-clause-lists c = rw (← headers_from_table c.args.file.now _ c.in-Ok.ensures.value) (lists_bounded_by (listing shows_headers) (λ s. s.left) (lists_shown shows_headers _))
