-- What the iterators show: the answers that are left.
use Rattle.std.specs.Prelude.{List, Result}
use Rattle.fallible_elf.specs.Sections.{headers_from}
use Rattle.fallible_elf.specs.Sets.{sets_between, ranges_from}
use Rattle.fallible_elf.specs.declared.fault.ElfFault.{ElfFault}
use Rattle.fallible_elf.specs.declared.ranges.Ranges.{Ranges}
use Rattle.fallible_elf.specs.declared.section.Section.{Section}
use Rattle.fallible_elf.specs.declared.sections.Sections.{Sections}
use Rattle.fallible_elf.specs.declared.set.Range.{Range}
use Rattle.fallible_elf.specs.declared.set.Set.{Set}
use Rattle.fallible_elf.specs.declared.sets.Sets.{Sets}

-- the headers that are left
abbrev pub shows_headers : Sections → List (Result Section ElfFault)
shows_headers s = headers_from s.names s.names_size s.fault s.file.now s.place s.left

-- the sets that are left
abbrev pub shows_sets : Sets → List (Result Set ElfFault)
shows_sets s = sets_between s.fault s.file.now s.place s.end

-- the ranges that are left
abbrev pub shows_ranges : Ranges → List (Result Range ElfFault)
shows_ranges s = ranges_from s.fault s.unit s.file.now s.place s.left
