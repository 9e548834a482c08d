-- The sets of address ranges that stand in a file, and their ranges, as DWARF writes them in sections `.debug_aranges`.
use Rattle.std.specs.Prelude.{ℕ, zero, suc, ◌+◌, ◌-◌, ◌*◌, ◌/◌, ◌%◌, ◌^◌, min, drop, List, [], ◌∷◌, ◌++◌, length, slice_index, Bool, false, not, Option, Some, None, Result, Ok, Err, nat_le, nat_lt, nat_eq, eqb, ◌&&◌, ◌||◌, if◌then◌else◌, codes}
use Rattle.std.specs.List.{starts_with}
use Rattle.fallible_iterator.specs.Lists.{on_value, filtered, flattened, folded}
use Rattle.fallible_elf.specs.Faults.{fault_at, fault_in, first_fault}
use Rattle.fallible_elf.specs.Numbers.{u16_at, u32_at, u64_at}
use Rattle.fallible_elf.specs.Sections.{headers_of}
use Rattle.fallible_elf.specs.declared.fault.ElfFault.{ElfFault}
use Rattle.fallible_elf.specs.declared.fault.Damage.TheVariants.{SetsOutOfRange, SetsCompressed, SetsRelocated, SetCut, SetForm, SetVersion, AddressSize, SegmentSize, RangesNotEnded}
use Rattle.fallible_elf.specs.declared.section.Section.{Section}
use Rattle.fallible_elf.specs.declared.set.Region.{Region}
use Rattle.fallible_elf.specs.declared.set.Set.{Set}
use Rattle.fallible_elf.specs.declared.set.Range.{Range}

-- ---- one set

-- A set has one of two forms, of 32-bit and of 64-bit DWARF. In the first four bytes say how many bytes come after them, fewer than 2 ^ 32 - 16, and the offset of the unit has four bytes. In the second four bytes of 255 come first, then eight that say how many bytes come after them, and the offset of the unit has eight bytes.

-- whether the set at a place is one of 64-bit DWARF
abbrev pub is_dwarf64 : List ℕ → ℕ → Bool
is_dwarf64 bytes place = eqb (u32_at bytes place) 4294967295

-- where a set of 32-bit DWARF ends that begins at a place
abbrev pub dwarf32_end : List ℕ → ℕ → ℕ
dwarf32_end bytes place = place + 4 + u32_at bytes place

-- where a set of 64-bit DWARF ends that begins at a place
abbrev pub dwarf64_end : List ℕ → ℕ → ℕ
dwarf64_end bytes place = place + 12 + u64_at bytes (place + 4)

-- The set at a place of a section that ends at the limit is one of 32-bit or of 64-bit DWARF. Each has at least 16 bytes.
abbrev pub form_checks : List ℕ → ℕ → ℕ → List (Bool × ElfFault)
form_checks bytes limit place =
    (nat_le (place + 16) limit, fault_at place SetCut)
    ∷ (nat_lt (u32_at bytes place) 4294967280 || is_dwarf64 bytes place, fault_at place SetForm)
    ∷ []

-- A set of 32-bit DWARF: 16 bytes stand before its ranges. It ends in the section, after those 16 bytes. Its version, at 4, is 2. At 10 stands the size of an address, 8, and at 11 that of a segment, 0.
abbrev pub dwarf32_checks : List ℕ → ℕ → ℕ → List (Bool × ElfFault)
dwarf32_checks bytes limit place =
    (nat_le (place + 16) (dwarf32_end bytes place) && nat_le (dwarf32_end bytes place) limit, fault_at place SetCut)
    ∷ (eqb (u16_at bytes (place + 4)) 2, fault_at (place + 4) SetVersion)
    ∷ (eqb (slice_index bytes (place + 10)) 8, fault_at (place + 10) AddressSize)
    ∷ (eqb (slice_index bytes (place + 11)) 0, fault_at (place + 11) SegmentSize)
    ∷ []

-- A set of 64-bit DWARF: 32 bytes stand before its ranges. It ends in the section, after those 32 bytes. Its version, at 12, is 2. At 22 stands the size of an address, 8, and at 23 that of a segment, 0.
abbrev pub dwarf64_checks : List ℕ → ℕ → ℕ → List (Bool × ElfFault)
dwarf64_checks bytes limit place =
    (nat_le (place + 32) limit, fault_at place SetCut)
    ∷ (nat_le (place + 32) (dwarf64_end bytes place) && nat_le (dwarf64_end bytes place) limit, fault_at place SetCut)
    ∷ (eqb (u16_at bytes (place + 12)) 2, fault_at (place + 12) SetVersion)
    ∷ (eqb (slice_index bytes (place + 22)) 8, fault_at (place + 22) AddressSize)
    ∷ (eqb (slice_index bytes (place + 23)) 0, fault_at (place + 23) SegmentSize)
    ∷ []

-- the set of 32-bit DWARF, or its first fault: at 6 stands the offset of its unit
unfoldable pub dwarf32_set : List ℕ → ℕ → ℕ → Result Set ElfFault
dwarf32_set bytes limit place = on_value (first_fault (dwarf32_checks bytes limit place)) (λ _. Ok (record { unit = u32_at bytes (place + 6); place = place + 16; end = dwarf32_end bytes place }))

-- the set of 64-bit DWARF, or its first fault: at 14 stands the offset of its unit
unfoldable pub dwarf64_set : List ℕ → ℕ → ℕ → Result Set ElfFault
dwarf64_set bytes limit place = on_value (first_fault (dwarf64_checks bytes limit place)) (λ _. Ok (record { unit = u64_at bytes (place + 14); place = place + 32; end = dwarf64_end bytes place }))

-- the set at a place, by its form, or its first fault
unfoldable pub set_at : List ℕ → ℕ → ℕ → Result Set ElfFault
set_at bytes limit place = on_value (first_fault (form_checks bytes limit place)) (λ _. if is_dwarf64 bytes place then dwarf64_set bytes limit place else dwarf32_set bytes limit place)

-- ---- the sets of a section

-- a set, and what comes after it; nothing comes after a fault
abbrev pub set_then : Result Set ElfFault → (Set → List (Result Set ElfFault)) → List (Result Set ElfFault)
set_then (Ok set) rest = Ok set ∷ rest set
set_then (Err f) rest = Err f ∷ []

-- the sets from a place up to the limit, one after the other, at most so many, and then the fault, where there is one
unfoldable pub sets_from : Option ElfFault → List ℕ → ℕ → ℕ → ℕ → List (Result Set ElfFault)
sets_from f bytes limit place zero = fault_in f
sets_from f bytes limit place (suc most) = if nat_lt place limit then set_then (set_at bytes limit place) (λ set. sets_from f bytes limit set.end most) else fault_in f

-- all of them: there are no more than bytes
abbrev pub sets_between : Option ElfFault → List ℕ → ℕ → ℕ → List (Result Set ElfFault)
sets_between f bytes place limit = sets_from f bytes limit place (limit - place)

-- ---- the sets of a file

-- whether this is the place of the name `.debug_aranges`
abbrev pub names_ranges : List ℕ → Option ℕ → Bool
names_ranges bytes None = false
names_ranges bytes (Some place) = starts_with nat_eq (drop place bytes) (codes ".debug_aranges" ++ 0 ∷ [])

-- whether this is the place of the name `.zdebug_aranges`, by which older tools say that the section is compressed
abbrev pub names_packed_ranges : List ℕ → Option ℕ → Bool
names_packed_ranges bytes None = false
names_packed_ranges bytes (Some place) = starts_with nat_eq (drop place bytes) (codes ".zdebug_aranges" ++ 0 ∷ [])

-- whether a section has address ranges: its type is 1, and its name is `.debug_aranges` or `.zdebug_aranges`
unfoldable pub has_ranges : List ℕ → Section → Bool
has_ranges bytes section = eqb section.kind 1 && (names_ranges bytes section.name || names_packed_ranges bytes section.name)

-- whether a section is compressed: bit 11 of its flags says so, or its name
unfoldable pub is_compressed : List ℕ → Section → Bool
is_compressed bytes section = eqb (section.flags / 2048 % 2) 1 || names_packed_ranges bytes section.name

-- whether a file's linker still has to write the lengths of ranges: it is a relocatable object, by the two bytes at 16, and its machine, by the two at 18, is RISC-V or LoongArch, where linking may shorten code
unfoldable pub relocates_lengths : List ℕ → Bool
relocates_lengths bytes = nat_le 20 (length bytes) && eqb (u16_at bytes 16) 1 && (eqb (u16_at bytes 18) 243 || eqb (u16_at bytes 18) 258)

-- The bytes of a section lie in the file, and are not compressed, and no length in them is relocated.
abbrev pub region_checks : List ℕ → Section → List (Bool × ElfFault)
region_checks bytes section =
    (nat_le (section.offset + section.size) (length bytes), fault_at section.offset SetsOutOfRange)
    ∷ (not (is_compressed bytes section), fault_at section.offset SetsCompressed)
    ∷ (not (relocates_lengths bytes), fault_at section.offset SetsRelocated)
    ∷ []

-- the bytes of a section: from its offset on, so many as its size says
abbrev pub region_of : List ℕ → Section → Result Region ElfFault
region_of bytes section = on_value (first_fault (region_checks bytes section)) (λ _. Ok (record { place = section.offset; end = section.offset + section.size }))

-- the sets of a region, or the fault for which there is none
abbrev pub sets_of_region : List ℕ → Result Region ElfFault → List (Result Set ElfFault)
sets_of_region bytes (Ok region) = sets_between None bytes region.place region.end
sets_of_region bytes (Err f) = Err f ∷ []

-- the sets of a section up to the first fault
unfoldable pub sets_in : List ℕ → Section → List (Result Set ElfFault)
sets_in bytes section = sets_of_region bytes (region_of bytes section)

-- the sections that have address ranges, in the order of their headers, and the faults of headers
abbrev pub range_sections : List ℕ → List (Result Section ElfFault)
range_sections bytes = filtered (λ section. Ok (has_ranges bytes section)) (headers_of bytes)

-- the sets of all these sections
abbrev pub sets_of : List ℕ → List (Result Set ElfFault)
sets_of bytes = flattened (sets_in bytes) (range_sections bytes)

-- ---- the ranges

-- the range at a place: its address and its length, of eight bytes each
abbrev pub range_at : ℕ → List ℕ → ℕ → Range
range_at unit bytes place = record { unit = unit; address = u64_at bytes place; length = u64_at bytes (place + 8) }

-- whether the ranges end here: both are 0
abbrev pub is_last : List ℕ → ℕ → Bool
is_last bytes place = eqb (u64_at bytes place) 0 && eqb (u64_at bytes (place + 8)) 0

-- the ranges from a place on, one after the other, up to the end, or at most so many and then the fault
unfoldable pub ranges_from : Option ElfFault → ℕ → List ℕ → ℕ → ℕ → List (Result Range ElfFault)
ranges_from f unit bytes place zero = fault_in f
ranges_from f unit bytes place (suc n) = if is_last bytes place then [] else Ok (range_at unit bytes place) ∷ ranges_from f unit bytes (place + 16) n

-- how many ranges have room in a set and in the file, of 16 bytes each
abbrev pub room : List ℕ → Set → ℕ
room bytes set = (min set.end (length bytes) - set.place) / 16

-- the ranges of a set up to their end; where they have none, the fault after them
abbrev pub ranges_in : List ℕ → Set → List (Result Range ElfFault)
ranges_in bytes set = ranges_from (Some (fault_at (set.place + 16 * room bytes set) RangesNotEnded)) set.unit bytes set.place (room bytes set)

-- the ranges of all sets of a file, set by set
abbrev pub ranges_of : List ℕ → List (Result Range ElfFault)
ranges_of bytes = flattened (ranges_in bytes) (sets_of bytes)

-- ---- counts

-- how many items there are, or 2 ^ 64 - 1 where there are more, or the first failure
abbrev pub saturating_count : {A : Type 0} → List (Result A ElfFault) → Result ℕ ElfFault
saturating_count l = folded (λ e. e) (λ n _. Ok (min (n + 1) (2 ^ 64 - 1))) 0 l
