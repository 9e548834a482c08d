-- The first range of a file that holds an address, and what a run that looks for it reads, writes and tells.
use Rattle.std.specs.Prelude.{◌≡◌, ◌≢◌, ◌⊎◌, ℕ, ◌+◌, List, [], ◌∷◌, ◌++◌, Bool, nat_le, nat_lt, ◌&&◌, if◌then◌else◌, Option, Some, None, Result, Ok, Err, codes}
use Rattle.std.specs.Io.KnownBytes.{Appends, Keeps}
use Rattle.std.specs.declared.io.ErrorKind.{ErrorKind}
use Rattle.std.specs.declared.io.ErrorKind.TheVariants.{OutOfMemory}
use Rattle.program_io.specs.Reading.{ReadsAll}
use Rattle.program_io.specs.declared.fault.RunFault.{RunFault}
use Rattle.program_io.specs.declared.fault.RunFault.TheVariants.{Input, Read, Memory, Write}
use Rattle.fallible_iterator.specs.Lists.{collected, on_value}
use Rattle.fallible_elf.specs.Reading.{HasHeader, HasHeaderFault, ReadsHead}
use Rattle.fallible_elf.specs.Report.{found_of, named_sections}
use Rattle.fallible_elf.specs.Report as report
use Rattle.fallible_elf.specs.Sets.{ranges_of}
use Rattle.fallible_elf.specs.Text.{hex, range_line}
use Rattle.fallible_elf.specs.declared.fault.ElfFault.{ElfFault}
use Rattle.fallible_elf.specs.declared.finding.FindFault.{FindFault}
use Rattle.fallible_elf.specs.declared.finding.FindFault.TheVariants.{File, NoRange, NoRanges}
use Rattle.fallible_elf.specs.declared.set.Range.{Range}

-- whether a range holds an address: it is none before the range's first, and none after its last
abbrev pub holds : ℕ → Range → Bool
holds address range = nat_le range.address address && nat_lt address (range.address + range.length)

-- the first of some ranges that holds an address, where one does
unfoldable pub first_that_holds : ℕ → List Range → Option Range
first_that_holds address [] = None
first_that_holds address (range ∷ ranges) = if holds address range then Some range else first_that_holds address ranges

-- of the ranges of a file the first that holds an address, where one does; or the file's first fault
abbrev pub first_range_at : List ℕ → ℕ → Result (Option Range) ElfFault
first_range_at bytes address = on_value (named_sections bytes) (λ _. on_value (found_of bytes) (λ (sets, ranges). Ok (first_that_holds address ranges)))

-- A file has no range.
abbrev pub HasNoRanges : List ℕ → Type 0
HasNoRanges bytes = collected (ranges_of bytes) ≡ Ok []

-- No range of a file holds the address, and the file has some.
abbrev pub LacksAddress : ℕ → List ℕ → Type 0
LacksAddress address bytes = (first_range_at bytes address ≡ Ok None) × ¬ (HasNoRanges bytes)

-- No range of a file holds the address, since the file has none.
abbrev pub LacksRanges : ℕ → List ℕ → Type 0
LacksRanges address bytes = (first_range_at bytes address ≡ Ok None) × HasNoRanges bytes

module _ {W : Type 0} (address : ℕ) (failed : W → Type 0) (written written' : Option (List ℕ)) (writer' : W) where
  -- The line of the first range of a file that holds the address was written, and nothing else.
  abbrev pub PrintsFirst : List ℕ → Type 0
  PrintsFirst bytes = (range : Range) × (first_range_at bytes address ≡ Ok (Some range)) × Appends written written' (range_line range)

  -- A range of a file holds the address.
  abbrev pub HasRange : List ℕ → Type 0
  HasRange bytes = (range : Range) × (first_range_at bytes address ≡ Ok (Some range))

  -- What an outcome says of a file, and of what was written: that the line of the first range that holds the address was written; that no range of the file holds the address, that the file has no range, that it has this first fault, or that there was no memory, and nothing was written; or that a range holds it, and writing failed.
  abbrev pub FindsIn : {T : Type 0} → List ℕ → Result T (RunFault FindFault) → Type 0
  FindsIn bytes (Ok done) = PrintsFirst bytes
  FindsIn bytes (Err (Input (NoRange given))) = (given ≡ address) × LacksAddress address bytes × Keeps written written'
  FindsIn bytes (Err (Input NoRanges)) = LacksRanges address bytes × Keeps written written'
  FindsIn bytes (Err (Input (File fault))) = (first_range_at bytes address ≡ Err fault) × Keeps written written'
  FindsIn bytes (Err Read) = ⊥
  FindsIn bytes (Err Memory) = Keeps written written'
  FindsIn bytes (Err Write) = HasRange bytes × failed writer'

  module _ {R : Type 0} (left : R → Option (List ℕ)) (fails : ErrorKind → R → R → Type 0) (reader reader' : R) where
    -- What an outcome says of the reader too: that a file was read whole, of which it says this; or, at a header with a fault, that no more than 64 bytes were read; or that reading failed, for want of memory or else, and nothing was written.
    abbrev pub Finds : {T : Type 0} → Result T (RunFault FindFault) → Type 0
    Finds (Ok done) = ReadsAll (left reader) (left reader') PrintsFirst
    Finds (Err (Input (NoRange given))) = (given ≡ address) × ReadsAll (left reader) (left reader') (LacksAddress address) × Keeps written written'
    Finds (Err (Input NoRanges)) = ReadsAll (left reader) (left reader') (LacksRanges address) × Keeps written written'
    Finds (Err (Input (File fault))) = (ReadsAll (left reader) (left reader') (λ bytes. HasHeader bytes × (first_range_at bytes address ≡ Err fault)) ⊎ ReadsHead (left reader) (left reader') (λ bytes. HasHeaderFault fault bytes × (first_range_at bytes address ≡ Err fault))) × Keeps written written'
    Finds (Err Read) = ((kind : ErrorKind) × (kind ≢ OutOfMemory) × fails kind reader reader') × Keeps written written'
    Finds (Err Memory) = (fails OutOfMemory reader reader' ⊎ ReadsAll (left reader) (left reader') HasHeader) × Keeps written written'
    Finds (Err Write) = ReadsAll (left reader) (left reader') HasRange × failed writer'

-- ---- faults

-- the text of the line that tells why no range was found, without its newline
abbrev pub text_of : FindFault → List ℕ
text_of (File fault) = report.text_of fault
text_of (NoRange address) = codes "no range holds " ++ hex address
text_of NoRanges = codes "no address ranges: no section .debug_aranges has one"

-- the status that a program ends with: that of the file's fault, 7 where no range holds the address, and 8 where the file has no range
abbrev pub status_of : FindFault → ℕ
status_of (File fault) = report.status_of fault
status_of (NoRange address) = 7
status_of NoRanges = 8
