-- What the program does, by how its run comes out.
use Rattle.std.specs.Prelude.{◌≡◌, ◌≢◌, ◌⊎◌, ℕ, List, Option, IfSome, Result, Ok, Err}
use Rattle.std.specs.Str.{IsUtf8, IsValidUpTo}
use Rattle.std.specs.Io.BufRead.{take_through}
use Rattle.std.specs.Io.KnownBytes.{Appends, Consumes, Keeps}
use Rattle.std.specs.declared.alloc.Global.{Global}
use Rattle.std.specs.declared.io.ErrorKind.{ErrorKind}
use Rattle.std.specs.declared.io.ErrorKind.TheVariants.{OutOfMemory}
use Rattle.std.specs.declared.vec.Vec.{Vec}
use Rattle.program_io.specs.Reading.{IsFirstLine, ReadsAll}
use Rattle.sum_groups.specs.Groups.{IsFaultOf, fault_before, report_of, rows_of}
use Rattle.program_io.specs.declared.fault.RunFault.{RunFault}
use Rattle.program_io.specs.declared.fault.RunFault.TheVariants.{Input, Read, Memory, Write}
use Rattle.sum_groups.specs.declared.fault.GroupsFault.{GroupsFault}
use Rattle.sum_groups.specs.declared.fault.GroupsFault.TheVariants as Is
use Rattle.sum_groups.specs.declared.groups.Row.{Row}

-- The bytes are UTF-8, and these are the rows that their lines are.
abbrev pub AreRowsOf : List ℕ → List Row → Type 0
AreRowsOf bytes rows = IsUtf8 bytes × (rows_of bytes ≡ Ok rows)

-- The bytes are UTF-8, and each of their lines is a row.
abbrev pub AreRows : List ℕ → Type 0
AreRows bytes = (rows : List Row) × AreRowsOf bytes rows

-- What a fault says of bytes that are UTF-8: this line is the first that is wrong.
abbrev pub IsBadRow : List ℕ → GroupsFault → Type 0
IsBadRow bytes (Is.NotText place) = ⊥
IsBadRow bytes (Is.Row bad) = rows_of bytes ≡ Err bad

-- The bytes are no UTF-8 from a place on, and this is their first fault: the first line that is wrong, if it ends before that place, or otherwise that place.
abbrev pub IsNoText : List ℕ → GroupsFault → Type 0
IsNoText bytes fault = ¬ (IsUtf8 bytes) × ((place : ℕ) × IsValidUpTo bytes place × (fault ≡ fault_before bytes place))

-- What a fault says of bytes: they are UTF-8, and this line is the first that is wrong; or they are no UTF-8, and this is their first fault.
abbrev pub IsNoRows : List ℕ → GroupsFault → Type 0
IsNoRows bytes fault = (IsUtf8 bytes × IsBadRow bytes fault) ⊎ IsNoText bytes fault

-- What a fault says of bytes whose report could not be made: the first fault that they have, or what it says of the text that they are.
abbrev pub HasFault : (List ℕ → Type 0) → List ℕ → RunFault GroupsFault → Type 0
HasFault refused bytes (Input fault) = IsNoRows bytes fault
HasFault refused bytes fault = IsUtf8 bytes × IsFaultOf refused bytes fault

-- These bytes are the report of the rows that the bytes are.
abbrev pub IsReportOf : List ℕ → List ℕ → Type 0
IsReportOf bytes report = (rows : List Row) × AreRowsOf bytes rows × (report ≡ report_of rows)

module _ {R : Type 0} (left : R → Option (List ℕ)) (fails : ErrorKind → R → R → Type 0) (input input' : R) where
  -- The input was read up to its end, and this holds of its bytes.
  abbrev pub ReadsAllWhere : (List ℕ → Type 0) → Type 0
  ReadsAllWhere Holds = ReadsAll (left input) (left input') Holds

  -- The first line of the input was read, and nothing after it, and this holds of its bytes.
  abbrev pub ReadsLineWhere : (List ℕ → Type 0) → Type 0
  ReadsLineWhere Holds = (line : List ℕ) × IsFirstLine (left input) line × Consumes (left input) (left input') line × Holds line

  -- The first line of the input, where its bytes are known, is a row, or it has none.
  abbrev pub BeginsWithRow : Type 0
  BeginsWithRow = IfSome (left input) (λ bytes. AreRows (take_through 10 bytes))

  -- A read failed so: that of the first line, or one after it, where that line is a row.
  abbrev pub FailsToRead : ErrorKind → Type 0
  FailsToRead kind = fails kind input input' ⊎ (BeginsWithRow × ((line : List ℕ) × (middle : R) × IsFirstLine (left input) line × Consumes (left input) (left middle) line × fails kind middle input'))

  -- What the input comes to, once it is read: its bytes, of which the first line is a row; the fault of that line, and nothing after it was read; or a read failed, for want of memory or else.
  abbrev pub ReadsRows : Result (Vec ℕ Global) (RunFault GroupsFault) → Type 0
  ReadsRows (Ok bytes) = BeginsWithRow × ReadsAllWhere (λ read. read ≡ bytes.items)
  ReadsRows (Err (Input fault)) = ReadsLineWhere (λ line. IsNoRows line fault)
  ReadsRows (Err Read) = (kind : ErrorKind) × (kind ≢ OutOfMemory) × FailsToRead kind
  ReadsRows (Err Memory) = FailsToRead OutOfMemory
  ReadsRows (Err Write) = ⊥

  -- The input has a fault of its bytes: its first line has it, and nothing after it was read; or that line is a row, and its bytes, which were read up to its end, have it.
  abbrev pub IsFaulty : (List ℕ → Type 0) → Type 0
  IsFaulty Holds = ReadsLineWhere Holds ⊎ (BeginsWithRow × ReadsAllWhere Holds)

  module _ {W : Type 0} (refused : List ℕ → Type 0) (failed : W → Type 0) (written written' : Option (List ℕ)) (output' : W) where
    -- What an outcome says of the input, and of what was written: that its lines are rows, and their report was written and nothing else; that it has this fault first; that reading failed, for want of memory or else; that its lines are rows, and there was no memory for them or their report; or that its lines are rows, and writing failed.
    abbrev pub ComesTo : {T : Type 0} → Result T (RunFault GroupsFault) → Type 0
    ComesTo (Ok done) = ReadsAllWhere (λ bytes. (rows : List Row) × AreRowsOf bytes rows × Appends written written' (report_of rows))
    ComesTo (Err (Input fault)) = IsFaulty (λ bytes. IsNoRows bytes fault) × Keeps written written'
    ComesTo (Err Read) = ((kind : ErrorKind) × (kind ≢ OutOfMemory) × FailsToRead kind) × Keeps written written'
    ComesTo (Err Memory) = (FailsToRead OutOfMemory ⊎ ReadsAllWhere (λ bytes. AreRows bytes × refused bytes)) × Keeps written written'
    ComesTo (Err Write) = ReadsAllWhere (λ bytes. (rows : List Row) × AreRowsOf bytes rows) × failed output'
