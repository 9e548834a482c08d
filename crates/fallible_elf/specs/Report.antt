-- What a run over a file reads and writes, and what it tells of a fault.
use Rattle.std.specs.Prelude.{◌≡◌, ◌⊎◌, ⊤, ℕ, List, ◌++◌, length, Option, Some, None, Result, Ok, Err, codes}
use Rattle.std.specs.Io.KnownBytes.{Appends}
use Rattle.program_io.specs.Faults.{placed_text}
use Rattle.program_io.specs.Reading.{ReadsAll}
use Rattle.fallible_iterator.specs.Lists.{collected, on_value}
use Rattle.fallible_elf.specs.Sections.{headers_of}
use Rattle.fallible_elf.specs.Text.{text_where, sections_text, sets_text, ranges_text}
use Rattle.fallible_elf.specs.Names.{names_check}
use Rattle.fallible_elf.specs.Overlaps.{apart_check}
use Rattle.fallible_elf.specs.Reading.{HasHeader, HasHeaderFault, ReadsHead}
use Rattle.fallible_elf.specs.Sets.{range_sections, sets_of, ranges_of}
use Rattle.fallible_iterator.specs.Fault.{Fault}
use Rattle.fallible_iterator.specs.Fault.TheVariants.{Source}
use Rattle.program_io.specs.declared.fault.RunFault.{RunFault}
use Rattle.program_io.specs.declared.fault.RunFault.TheVariants.{Input, Read, Memory}
use Rattle.fallible_elf.specs.declared.fault.Damage.{Damage}
use Rattle.fallible_elf.specs.declared.fault.Damage.TheVariants.{NotElf, HeaderCut, NotWide, NotLittleEndian, EntrySize, TableOutOfRange, NamesNumber, NamesOutOfRange, NamesNotEnded, NameOutOfRange, NamesTooLong, SetsOutOfRange, SetsOverlap, SetsCompressed, SetsRelocated, SetCut, SetForm, SetVersion, AddressSize, SegmentSize, RangesNotEnded}
use Rattle.fallible_elf.specs.declared.fault.ElfFault.{ElfFault}
use Rattle.fallible_elf.specs.declared.section.Section.{Section}
use Rattle.fallible_elf.specs.declared.set.Range.{Range}
use Rattle.fallible_elf.specs.declared.set.Set.{Set}
use Rattle.fallible_elf.specs.declared.tables.Found.{Found}
use Rattle.fallible_elf.specs.declared.tables.Tables.{Tables}

-- ---- what a file has

-- the sections of a file, or the first fault: of the headers, then of the names together
abbrev pub named_sections : List ℕ → Result (List Section) ElfFault
named_sections bytes = on_value (collected (headers_of bytes)) (λ sections. on_value (names_check bytes sections) (λ _. Ok sections))

-- whether the sections of address ranges of a file lie apart, or the first fault
abbrev pub ranges_apart : List ℕ → Result (Unit {0}) ElfFault
ranges_apart bytes = on_value (collected (range_sections bytes)) (λ sections. apart_check bytes sections)

-- the sets of a file and their ranges, or the first fault: of sections of these that overlap, then of the sets, then of their ranges
abbrev pub found_of : List ℕ → Result (List Set × List Range) ElfFault
found_of bytes = on_value (ranges_apart bytes) (λ _. on_value (collected (sets_of bytes)) (λ sets. on_value (collected (ranges_of bytes)) (λ ranges. Ok (sets, ranges))))

-- A file has so many sections, and none of them has a fault.
abbrev pub HasSectionsOf : List ℕ → ℕ → Type 0
HasSectionsOf bytes n = (sections : List Section) × (named_sections bytes ≡ Ok sections) × (n ≡ length sections)

-- A file has so many sets and ranges, and none of them has a fault.
abbrev pub HasFound : List ℕ → Found → Type 0
HasFound bytes found = (sets : List Set) × (ranges : List Range) × (found_of bytes ≡ Ok (sets, ranges)) × (found.sets ≡ length sets) × (found.ranges ≡ length ranges)

-- A file has so many sets and ranges, or this is the first fault of these.
abbrev pub IsFound : List ℕ → Result Found ElfFault → Type 0
IsFound bytes (Ok found) = HasFound bytes found
IsFound bytes (Err f) = found_of bytes ≡ Err f

-- A file has so many sections, and so many sets and ranges or the first fault of these.
abbrev pub HasTables : List ℕ → Tables → Type 0
HasTables bytes tables = HasSectionsOf bytes tables.sections × IsFound bytes tables.found

-- No section of a file has a fault.
abbrev pub HasSections : List ℕ → Type 0
HasSections bytes = (sections : List Section) × (named_sections bytes ≡ Ok sections)

-- a fault, or otherwise what comes after
abbrev pub fault_or : {A : Type 0} → Result A ElfFault → Option ElfFault → Option ElfFault
fault_or (Ok x) rest = rest
fault_or (Err f) rest = Some f

-- the first fault of a file, where it has one: of its headers, then of their names, then of sections of address ranges that overlap, then of its sets, then of their ranges
abbrev pub first_damage : List ℕ → Option ElfFault
first_damage bytes = fault_or (named_sections bytes) (fault_or (found_of bytes) None)

-- ---- what is written

-- the text of sections, and after it that of the sets and ranges of the file, where none of these has a fault
abbrev pub report_with : List ℕ → List Section → List ℕ
report_with bytes sections = sections_text bytes sections ++ text_where (λ (sets, ranges). sets_text sets ++ ranges_text ranges) (found_of bytes)

-- what is written of a file: nothing, where a section has a fault
abbrev pub report_of : List ℕ → List ℕ
report_of bytes = text_where (report_with bytes) (named_sections bytes)

-- This is the first fault of a file, where it has one, and its report was written, and nothing else.
abbrev pub Reports : List ℕ → Option ElfFault → Option (List ℕ) → Option (List ℕ) → Type 0
Reports bytes fault written written' = (first_damage bytes ≡ fault) × Appends written written' (report_of bytes)

-- A file was read that has this first fault, and its report was written, and nothing else: all of a file whose header has no fault; or no more than its header, and nothing was written.
abbrev pub ReadsFaulty : Option (List ℕ) → Option (List ℕ) → ElfFault → Option (List ℕ) → Option (List ℕ) → Type 0
ReadsFaulty unread unread' fault written written' =
    ReadsAll unread unread' (λ bytes. HasHeader bytes × Reports bytes (Some fault) written written')
    ⊎ ReadsHead unread unread' (λ bytes. HasHeaderFault fault bytes × Reports bytes (Some fault) written written')

-- Nothing was written, and the writer is as it was, where no memory was left or a read failed; and where the input has a fault, unless its sections have none.
abbrev pub LeavesWriter : {W : Type 0} → Type 0 → W → W → Result (Unit {0}) (RunFault ElfFault) → Type 0
LeavesWriter has_sections writer writer' (Err (Input fault)) = (writer' ≡ writer) ⊎ has_sections
LeavesWriter has_sections writer writer' (Err Read) = writer' ≡ writer
LeavesWriter has_sections writer writer' (Err Memory) = writer' ≡ writer
LeavesWriter has_sections writer writer' outcome = ⊤

-- ---- faults

-- what a fault of tables is for a run
abbrev pub as_run_fault : Fault ElfFault → RunFault ElfFault
as_run_fault (Source f) = Input f
as_run_fault fault = Memory

-- what is wrong, as text
abbrev pub damage_text : Damage → List ℕ
damage_text NotElf = codes "no ELF file"
damage_text HeaderCut = codes "the header is cut short"
damage_text NotWide = codes "no file of 64 bits"
damage_text NotLittleEndian = codes "numbers don't begin with their least byte"
damage_text EntrySize = codes "section headers have another size than 64"
damage_text TableOutOfRange = codes "section headers lie outside the file"
damage_text NamesNumber = codes "no section has the names"
damage_text NamesOutOfRange = codes "the names lie outside the file"
damage_text NamesNotEnded = codes "the last name has no end"
damage_text NameOutOfRange = codes "a section's name lies outside the names"
damage_text NamesTooLong = codes "the sections' names are too long for the file"
damage_text SetsOutOfRange = codes "the address ranges lie outside the file"
damage_text SetsOverlap = codes "sections of address ranges overlap"
damage_text SetsCompressed = codes "the address ranges (.debug_aranges) are compressed: use objcopy --decompress-debug-sections"
damage_text SetsRelocated = codes "the lengths of the address ranges are relocated"
damage_text SetCut = codes "a set of ranges is cut short"
damage_text SetForm = codes "a set's length has an unknown form"
damage_text SetVersion = codes "a set has an unknown version"
damage_text AddressSize = codes "addresses have another size than 8"
damage_text SegmentSize = codes "ranges have segments"
damage_text RangesNotEnded = codes "the ranges of a set have no end"

-- the text of the line that tells a fault, without its newline
abbrev pub text_of : ElfFault → List ℕ
text_of fault = placed_text (codes "byte") fault.place (damage_text fault.damage)

-- the status of a file with such a damage: 5 where it is no file of the kind that is read, 6 where its address ranges are valid and of no kind that is read, else 1
abbrev pub damage_status : Damage → ℕ
damage_status NotElf = 5
damage_status NotWide = 5
damage_status NotLittleEndian = 5
damage_status SetsCompressed = 6
damage_status SetsRelocated = 6
damage_status SetForm = 6
damage_status SetVersion = 6
damage_status AddressSize = 6
damage_status SegmentSize = 6
damage_status damage = 1

-- the status that a program ends with
abbrev pub status_of : ElfFault → ℕ
status_of fault = damage_status fault.damage
