-- A file whose header has a fault has no section, and no report.
use Rattle.std.specs.Prelude.{◌≡◌, ℕ, List, [], ◌∷◌, Err}
use Rattle.std.proofs.Common.{refl, ap}
use Rattle.fallible_iterator.specs.Lists.{collected}
use Rattle.fallible_elf.specs.Headers.{table_of}
use Rattle.fallible_elf.specs.Reading.{HasHeaderFault}
use Rattle.fallible_elf.specs.Report.{named_sections, report_of}
use Rattle.fallible_elf.specs.Sections.{headers_of, headers_of_table}
use Rattle.fallible_elf.specs.declared.fault.ElfFault.{ElfFault}

module _ (bytes : List ℕ) (f : ElfFault) (has : HasHeaderFault f bytes) where
  table_of_header_fault : table_of bytes ≡ Err f
  table_of_header_fault = rw has refl

  headers_of_header_fault : headers_of bytes ≡ Err f ∷ []
  unfolding headers_of
  headers_of_header_fault = ap (headers_of_table bytes) table_of_header_fault

  collected_of_header_fault : collected (headers_of bytes) ≡ Err f
  unfolding collected
  collected_of_header_fault = rw headers_of_header_fault refl

  pub named_sections_of_header_fault : named_sections bytes ≡ Err f
  named_sections_of_header_fault = rw collected_of_header_fault refl

  pub report_of_header_fault : report_of bytes ≡ []
  report_of_header_fault = rw collected_of_header_fault refl
