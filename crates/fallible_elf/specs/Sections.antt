-- The section headers that stand in a file.
use Rattle.std.specs.Prelude.{ℕ, zero, suc, ◌+◌, List, [], ◌∷◌, Option, Some, None, Result, Ok, Err, nat_lt, eqb, if◌then◌else◌}
use Rattle.fallible_elf.specs.Faults.{fault_at, fault_in}
use Rattle.fallible_elf.specs.Headers.{table_of}
use Rattle.fallible_elf.specs.Numbers.{u32_at, u64_at}
use Rattle.fallible_elf.specs.declared.fault.ElfFault.{ElfFault}
use Rattle.fallible_elf.specs.declared.fault.Damage.TheVariants.{NameOutOfRange}
use Rattle.fallible_elf.specs.declared.header.Table.{Table}
use Rattle.fallible_elf.specs.declared.section.Section.{Section}

-- The section whose header begins at a place, with the place of its name. From its begin on, the header has at 4 the type, at 8 the flags, at 16 the address, at 24 the offset, and at 32 the size.
abbrev pub section_at : Option ℕ → List ℕ → ℕ → Section
section_at name bytes place = record {
  name = name;
  kind = u32_at bytes (place + 4);
  flags = u64_at bytes (place + 8);
  address = u64_at bytes (place + 16);
  offset = u64_at bytes (place + 24);
  size = u64_at bytes (place + 32);
}

-- The section whose header begins at a place, where the names begin at another and have so many bytes. A header has at 0 where its name begins among the names; where that is not among them, there is the fault at the header. Where the names have no bytes, the section has none.
abbrev pub header_at : ℕ → ℕ → List ℕ → ℕ → Result Section ElfFault
header_at names names_size bytes place = if eqb names_size 0 then Ok (section_at None bytes place)
    else if nat_lt (u32_at bytes place) names_size then Ok (section_at (Some (names + u32_at bytes place)) bytes place)
    else Err (fault_at place NameOutOfRange)

-- so many headers from a place on, one after the other, each of 64 bytes, and then the fault, where there is one
unfoldable pub headers_from : ℕ → ℕ → Option ElfFault → List ℕ → ℕ → ℕ → List (Result Section ElfFault)
headers_from names names_size f bytes place zero = fault_in f
headers_from names names_size f bytes place (suc n) = header_at names names_size bytes place ∷ headers_from names names_size f bytes (place + 64) n

-- the headers of a table, or the fault for which there is none
abbrev pub headers_of_table : List ℕ → Result Table ElfFault → List (Result Section ElfFault)
headers_of_table bytes (Ok table) = headers_from table.names table.names_size None bytes table.place table.count
headers_of_table bytes (Err f) = Err f ∷ []

-- the section headers of a file, each as a section or as the fault of its name; of a file whose header or table has a fault, that fault alone
unfoldable pub headers_of : List ℕ → List (Result Section ElfFault)
headers_of bytes = headers_of_table bytes (table_of bytes)
