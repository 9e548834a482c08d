-- What a run over a table reads and writes.
use Rattle.std.specs.Prelude.{◌≡◌, ◌≢◌, ◌⊎◌, ℕ, ◌+◌, ◌*◌, ◌^◌, ◌<◌, ◌≤◌, List, [], ◌∷◌, ◌++◌, length, Option, Result, Ok, Err, codes, decimal}
use Rattle.std.specs.IoError.{error_kind}
use Rattle.std.specs.Io.KnownBytes.{Appends, Consumes, IsAtEnd, Keeps}
use Rattle.std.specs.declared.io.Error.{Error}
use Rattle.std.specs.declared.io.ErrorKind.{ErrorKind}
use Rattle.std.specs.declared.io.ErrorKind.TheVariants.{OutOfMemory, TimedOut}
use Rattle.program_io.specs.Faults.{placed_text}
use Rattle.program_io.specs.Reading.{Fails}
use Rattle.program_io.specs.declared.fault.RunFault.{RunFault}
use Rattle.program_io.specs.declared.fault.RunFault.TheVariants.{Input, Read, Memory, Write}
use Rattle.fallible_table.specs.Tables.{totals_of}
use Rattle.fallible_table.specs.declared.table.TableFault.{TableFault}
use Rattle.fallible_table.specs.declared.table.TableFault.TheVariants.{Bad, Cut}
use Rattle.fallible_table.specs.declared.table.Totals.{Totals}

-- the lines that tell the totals
abbrev pub report_of : Totals → List ℕ
report_of totals = codes "records " ++ decimal totals.records ++ codes "\nlow " ++ decimal totals.low ++ codes "\nhigh " ++ decimal totals.high ++ 10 ∷ []

-- A reader's bytes were read up to its end, and a table of them comes to this.
abbrev pub ReadsTable : Option (List ℕ) → Option (List ℕ) → Result Totals TableFault → Type 0
ReadsTable unread unread' r = (bytes : List ℕ) × Consumes unread unread' bytes × IsAtEnd unread' × (totals_of bytes ≡ r)

-- the table was read, and its totals were written, and nothing else
abbrev pub WritesReport : Option (List ℕ) → Option (List ℕ) → Option (List ℕ) → Option (List ℕ) → Type 0
WritesReport unread unread' written written' = (totals : Totals) × ReadsTable unread unread' (Ok totals) × Appends written written' (report_of totals)

-- the table was read, and has totals
abbrev pub HasTotals : Option (List ℕ) → Option (List ℕ) → Type 0
HasTotals unread unread' = (totals : Totals) × ReadsTable unread unread' (Ok totals)

-- how many bytes may be read after a bad record that isn't the first
abbrev pub read_ahead : ℕ
read_ahead = 65528

-- A reader's first bytes were read, up to a record that isn't good: each table that begins with them has this fault. Where it is the first record, no byte after it was read, and else at most `read_ahead`.
pub record ReadsBad (unread unread' : Option (List ℕ)) (place : ℕ) : Type 0 where
  pub bytes : List ℕ
  pub taken : Consumes unread unread' bytes
  pub decides : (rest : List ℕ) → totals_of (bytes ++ rest) ≡ Err (Bad place)
  pub first : place ≡ 1 → length bytes ≡ 8
  pub ahead : length bytes ≤ 8 * place + read_ahead

-- The table has this fault: a record isn't good, and was read, with as little after it; or the table was read, and its last record is cut short.
abbrev pub HasFault : Option (List ℕ) → Option (List ℕ) → TableFault → Type 0
HasFault unread unread' (Bad place) = ReadsBad unread unread' place
HasFault unread unread' (Cut place) = ReadsTable unread unread' (Err (Cut place))

-- A reader's first bytes were read: whole records, all good, and then fewer bytes than one has.
pub record NoneBadYet (unread unread' : Option (List ℕ)) : Type 0 where
  pub whole : List ℕ
  pub cut : List ℕ
  pub taken : Consumes unread unread' (whole ++ cut)
  pub totals : Totals
  pub good : totals_of whole ≡ Ok totals
  pub short : length cut < 8

-- A reader yielded so many bytes that it is read no further.
abbrev pub YieldsMany : Option (List ℕ) → Option (List ℕ) → Type 0
YieldsMany unread unread' = (bytes : List ℕ) × Consumes unread unread' bytes × (2 ^ 48 ≤ length bytes)

module _ {R : Type 0} (left : R → Option (List ℕ)) (fails : ErrorKind → R → R → Type 0) where
  -- Reading failed, and no record that was read is bad: a read failed, or too many bytes came, which comes to `TimedOut`.
  pub record FailsUndecided (kind : ErrorKind) (r q : R) : Type 0 where
    pub none_bad : NoneBadYet (left r) (left q)
    pub failed : Fails left fails kind r q ⊎ ((kind ≡ TimedOut) × YieldsMany (left r) (left q))

  -- it yielded a table, which has these totals; or one with this fault; or it failed
  abbrev pub ReadsTotals : R → Result (Result Totals TableFault) Error → R → Type 0
  ReadsTotals r (Ok (Ok totals)) q = ReadsTable (left r) (left q) (Ok totals)
  ReadsTotals r (Ok (Err fault)) q = HasFault (left r) (left q) fault
  ReadsTotals r (Err e) q = FailsUndecided (error_kind e) r q

module _ {R W : Type 0} (left : R → Option (List ℕ)) (fails : ErrorKind → R → R → Type 0) (input input' : R) (failed : W → Type 0) (written written' : Option (List ℕ)) (output' : W) where
  -- What an outcome says of the input, and of what was written: that the table was read, and its totals were written and nothing else; that it has this fault; that reading failed, for want of memory or else; or that it has totals, and writing failed.
  abbrev pub ComesTo : {T : Type 0} → Result T (RunFault TableFault) → Type 0
  ComesTo (Ok done) = WritesReport (left input) (left input') written written'
  ComesTo (Err (Input fault)) = HasFault (left input) (left input') fault × Keeps written written'
  ComesTo (Err Read) = ((kind : ErrorKind) × (kind ≢ OutOfMemory) × fails kind input input') × Keeps written written'
  ComesTo (Err Memory) = fails OutOfMemory input input' × Keeps written written'
  ComesTo (Err Write) = HasTotals (left input) (left input') × failed output'

-- the status that a program ends with
abbrev pub status_of : TableFault → ℕ
status_of (Bad place) = 1
status_of (Cut place) = 5

-- the text of the line that tells a fault, without its newline
abbrev pub text_of : TableFault → List ℕ
text_of (Bad place) = placed_text (codes "record") place (codes "the first number is above the second")
text_of (Cut place) = placed_text (codes "record") place (codes "cut short")
