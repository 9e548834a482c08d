-- Records of bytes, and what is made of them.
use Rattle.std.specs.Prelude.{◌≡◌, ℕ, zero, suc, ◌+◌, ◌*◌, ◌/◌, ◌%◌, ◌^◌, ◌<◌, ◌≤◌, List, [], ◌∷◌, length, take, drop, Bool, nat_le, Some, None, Result, Ok, Err, if◌then◌else◌}
use Rattle.std.specs.Int.{w32, from_le_bytes}
use Rattle.std.proofs.Common.{refl}
use Rattle.fallible_iterator.specs.Traces.{Answered}
use Rattle.fallible_iterator.specs.Contract.{Contract, Replaceable, counted_contract}
use Rattle.fallible_iterator.specs.Lists.{folded, mapped, numbered, failures_mapped}
use Rattle.fallible_iterator.specs.Showing.{first_answers}
use Rattle.fallible_table.specs.declared.table.Record.{Record}
use Rattle.fallible_table.specs.declared.table.Records.{Records}
use Rattle.fallible_table.specs.declared.table.CutShort.{CutShort}
use Rattle.fallible_table.specs.declared.table.TableFault.{TableFault}
use Rattle.fallible_table.specs.declared.table.TableFault.TheVariants.{Bad, Cut}
use Rattle.fallible_table.specs.declared.table.Totals.{Totals}

-- the record that the first eight bytes write: two numbers of four bytes each, the least byte first
abbrev pub record_of : List ℕ → Record
record_of bytes = record { low = from_le_bytes w32 (take 4 bytes); high = from_le_bytes w32 (take 4 (drop 4 bytes)) }

-- what comes after the last whole record: nothing, or a record cut short
abbrev pub cut_of : List ℕ → List (Result Record CutShort)
cut_of [] = []
cut_of (byte ∷ bytes) = Err (record {}) ∷ []

-- so many whole records, and what comes after them
abbrev pub records_then : ℕ → List ℕ → List (Result Record CutShort)
records_then zero bytes = cut_of bytes
records_then (suc n) bytes = Ok (record_of bytes) ∷ records_then n (drop 8 bytes)

-- the records of bytes, eight bytes each, and then the failure of one that is cut short, where bytes are left
unfoldable pub records : List ℕ → List (Result Record CutShort)
records bytes = records_then (length bytes / 8) bytes

-- One draw: a record takes its eight bytes, one that is cut short takes what is left, and an end comes where no byte is left.
abbrev pub DrawsRecord : List ℕ → Answered Record CutShort → List ℕ → Type 0
DrawsRecord bytes (Ok (Some r)) rest = (8 ≤ length bytes) × (r ≡ record_of bytes) × (rest ≡ drop 8 bytes)
DrawsRecord bytes (Ok None) rest = (bytes ≡ []) × (rest ≡ [])
DrawsRecord bytes (Err e) rest = (0 < length bytes) × (length bytes < 8) × (rest ≡ [])

-- The trace is the first of the records of bytes, and ends after the last of them. Each draw takes eight bytes, or all where fewer are left.
abbrev pub TakesRecords : List ℕ → List (Answered Record CutShort) → List ℕ → Type 0
TakesRecords bytes trace rest = (trace ≡ first_answers (length trace) (records bytes)) × (rest ≡ drop (8 * length trace) bytes)

-- The contract of bytes that yield their records: at most as many items are left as bytes.
abbrev pub table_contract : Contract (List ℕ) Record CutShort
table_contract = record (counted_contract DrawsRecord (λ bytes. length bytes)) { traces = TakesRecords }

-- the bytes that are left
abbrev pub bytes_left : Records → List ℕ
bytes_left s = s.bytes.now

-- any others can stand there
pub bytes_put : Replaceable bytes_left
bytes_put = record { put = λ s bytes. record s { bytes = record s.bytes { now = bytes } }; has = λ s bytes. refl }

-- whether the first number is not above the second
abbrev pub is_low_to_high : Record → Bool
is_low_to_high r = nat_le r.low r.high

-- a record, where it is good; otherwise the fault that tells its place
abbrev pub checked : ℕ → Record → Result Record TableFault
checked place r = if is_low_to_high r then Ok r else Err (Bad place)

-- the totals with one record more, all modulo 2 ^ 64
abbrev pub with_record : Totals → Record → Totals
with_record totals r = record { records = (totals.records + 1) % 2 ^ 64; low = (totals.low + r.low) % 2 ^ 64; high = (totals.high + r.high) % 2 ^ 64 }

-- two totals added, all modulo 2 ^ 64
abbrev pub plus : Totals → Totals → Totals
plus totals more = record { records = (totals.records + more.records) % 2 ^ 64; low = (totals.low + more.low) % 2 ^ 64; high = (totals.high + more.high) % 2 ^ 64 }

-- the place that a fault tells
abbrev pub place_of : TableFault → ℕ
place_of (Bad place) = place
place_of (Cut place) = place

-- the same fault, where so many records come before
abbrev pub placed_after : ℕ → TableFault → TableFault
placed_after before (Bad place) = Bad (before + place)
placed_after before (Cut place) = Cut (before + place)

-- the totals of no records
abbrev pub no_totals : Totals
no_totals = record { records = 0; low = 0; high = 0 }

-- the records of a table, each checked, with places from 1 on, up to the first fault: a record that isn't good, or one that is cut short at the table's end
abbrev pub checked_records : List ℕ → List (Result Record TableFault)
checked_records bytes = mapped (λ placed. checked (placed.0 + 1) placed.1) (numbered 0 (failures_mapped (λ _. Cut (length bytes / 8 + 1)) (records bytes)))

-- the totals of a table, or its first fault
abbrev pub totals_of : List ℕ → Result Totals TableFault
totals_of bytes = folded (λ e. e) (λ totals r. Ok (with_record totals r)) no_totals (checked_records bytes)
