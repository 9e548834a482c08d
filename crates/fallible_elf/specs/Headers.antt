-- The header of an ELF file of 64 bits, and the table of its section headers.
use Rattle.std.specs.Prelude.{ℕ, ◌+◌, ◌-◌, ◌*◌, List, [], ◌∷◌, length, slice_index, Bool, Result, Ok, nat_le, nat_lt, nat_eq, eqb, ◌&&◌, if◌then◌else◌}
use Rattle.std.specs.List.{starts_with}
use Rattle.fallible_iterator.specs.Lists.{on_value}
use Rattle.fallible_elf.specs.Faults.{fault_at, first_fault}
use Rattle.fallible_elf.specs.Numbers.{u16_at, u32_at, u64_at}
use Rattle.fallible_elf.specs.declared.fault.ElfFault.{ElfFault}
use Rattle.fallible_elf.specs.declared.fault.Damage.TheVariants.{NotElf, HeaderCut, NotWide, NotLittleEndian, EntrySize, TableOutOfRange, NamesNumber, NamesOutOfRange, NamesNotEnded}
use Rattle.fallible_elf.specs.declared.header.Table.{Table}

-- ---- the header of the file: 64 bytes

-- The first four bytes are 127 and the letters ELF, byte 4 is 2 for 64 bits, and byte 5 is 1 for numbers that begin with their least byte.
abbrev pub header_checks : List ℕ → List (Bool × ElfFault)
header_checks bytes =
    (starts_with nat_eq bytes (127 ∷ 69 ∷ 76 ∷ 70 ∷ []), fault_at 0 NotElf)
    ∷ (nat_le 64 (length bytes), fault_at (length bytes) HeaderCut)
    ∷ (eqb (slice_index bytes 4) 2, fault_at 4 NotWide)
    ∷ (eqb (slice_index bytes 5) 1, fault_at 5 NotLittleEndian)
    ∷ []

-- where the section headers begin: the eight bytes at 40; 0 where there are none
abbrev pub table_place : List ℕ → ℕ
table_place bytes = u64_at bytes 40

-- where the section header of a number begins, each of which has 64 bytes
abbrev pub header_place : List ℕ → ℕ → ℕ
header_place bytes number = table_place bytes + 64 * number

-- how many section headers there are: the two bytes at 60; where these are 0, the size of section 0
abbrev pub section_count : List ℕ → ℕ
section_count bytes = if eqb (u16_at bytes 60) 0 then u64_at bytes (table_place bytes + 32) else u16_at bytes 60

-- the number of the section that has the names: the two bytes at 62; where these are 65535, the link of section 0; 0 where the sections have no names
abbrev pub names_number : List ℕ → ℕ
names_number bytes = if eqb (u16_at bytes 62) 65535 then u32_at bytes (table_place bytes + 40) else u16_at bytes 62

-- ---- the table of the section headers, and their names

-- where the header of the names begins; a section begins at the offset that its header has at 24, and has the size that it has at 32
abbrev pub names_header : List ℕ → ℕ
names_header bytes = header_place bytes (names_number bytes)

abbrev pub names_place : List ℕ → ℕ
names_place bytes = u64_at bytes (names_header bytes + 24)

abbrev pub names_size : List ℕ → ℕ
names_size bytes = u64_at bytes (names_header bytes + 32)

-- One of the headers is that of the names, which lie in the file and end with a 0.
abbrev pub names_checks : List ℕ → List (Bool × ElfFault)
names_checks bytes =
    (nat_lt (names_number bytes) (section_count bytes), fault_at 62 NamesNumber)
    ∷ (nat_le (names_place bytes + names_size bytes) (length bytes), fault_at (names_header bytes + 24) NamesOutOfRange)
    ∷ (nat_lt 0 (names_size bytes) && eqb (slice_index bytes (names_place bytes + names_size bytes - 1)) 0, fault_at (names_header bytes + 32) NamesNotEnded)
    ∷ []

-- A header has 64 bytes, by the two bytes at 58. The first one and all of them lie in the file.
abbrev pub table_checks : List ℕ → List (Bool × ElfFault)
table_checks bytes =
    (eqb (u16_at bytes 58) 64, fault_at 58 EntrySize)
    ∷ (nat_le (table_place bytes + 64) (length bytes), fault_at 40 TableOutOfRange)
    ∷ (nat_le (header_place bytes (section_count bytes)) (length bytes), fault_at 40 TableOutOfRange)
    ∷ []

-- the table: where the headers begin and how many there are, and where their names begin and how many bytes these have
abbrev pub full_table : List ℕ → Table
full_table bytes = record { place = table_place bytes; count = section_count bytes; names = names_place bytes; names_size = names_size bytes }

-- the same without names, of which there are no bytes then
abbrev pub nameless_table : List ℕ → Table
nameless_table bytes = record { place = table_place bytes; count = section_count bytes; names = 0; names_size = 0 }

-- the table of no section
abbrev pub no_table : Table
no_table = record { place = 0; count = 0; names = 0; names_size = 0 }

-- the table of headers that lie in the file: without names where their number is 0, and otherwise with them, or the first fault of the names
abbrev pub named_table : List ℕ → Result Table ElfFault
named_table bytes = if eqb (names_number bytes) 0 then Ok (nameless_table bytes) else on_value (first_fault (names_checks bytes)) (λ _. Ok (full_table bytes))

-- what comes after a good header: no table, where its place is 0, and otherwise the table
abbrev pub table_after_header : List ℕ → Result Table ElfFault
table_after_header bytes = if eqb (table_place bytes) 0 then Ok no_table else on_value (first_fault (table_checks bytes)) (λ _. named_table bytes)

-- the table of a file, or the first fault of its header and its table
abbrev pub table_of : List ℕ → Result Table ElfFault
table_of bytes = on_value (first_fault (header_checks bytes)) (λ _. table_after_header bytes)
