-- What a run does to its reader and its writer.
use Rattle.std.specs.Prelude.{◌≡◌, ℕ, ◌-◌, ◌^◌, ◌≤◌, ◌<◌, ◌⊎◌, Bool, true, false, List, [], ◌∷◌, ◌++◌, length, take, All, IfSome, Option, Result, Ok, Err}
use Rattle.std.specs.Io.KnownBytes.{Appends, Consumes, IsAtEnd, Keeps}
use Rattle.fallible_rows.specs.Rows.{rows}
use Rattle.fallible_rows.specs.RowTraces.{IsOneRow, IsClosed}
use Rattle.fallible_rows.specs.Report.{row_limit, is_refused, report}
use Rattle.fallible_rows.specs.declared.fault.BadRow.{BadRow}
use Rattle.program_io.specs.declared.fault.RunFault.{RunFault}
use Rattle.program_io.specs.declared.fault.RunFault.TheVariants.{Input, Read, Memory, Write}

-- how many bytes are read at most: `u64::MAX`
abbrev pub byte_limit : ℕ
byte_limit = 2 ^ 64 - 1

-- each of the rows is a number
abbrev pub AreNumbers : List (List ℕ) → Type 0
AreNumbers rs = All (λ row. is_refused row ≡ false) rs

-- the rows but the last
abbrev pub but_last : List (List ℕ) → List (List ℕ)
but_last rs = take (length rs - 1) rs

-- the bytes close with row 1,000,000, or with the first row that is refused
abbrev pub CloseDeciding : List ℕ → Type 0
CloseDeciding bytes =
    ((prefix : List ℕ) × (bytes ≡ prefix ++ 10 ∷ []))
    × ((length (rows bytes) ≡ row_limit) ⊎ ((place : ℕ) × (report bytes ≡ Err place)))

-- A reader lost these first bytes of those that it had, and no others. They are those up to the newline that closes the first row that is refused, or row 1,000,000, whichever is first, and that newline, and otherwise all that it had; and their report is that of all. They are at most `u64::MAX`, and fewer where the end had to be met.
pub record ReadsPrefix (old new : Option (List ℕ)) (bytes : List ℕ) : Type 0 where
  pub taken : Consumes old new bytes
  pub within : length bytes ≤ byte_limit
  pub none_sooner : AreNumbers (but_last (rows bytes)) × (length (rows bytes) ≤ row_limit)
  pub closed : CloseDeciding bytes ⊎ (IsAtEnd new × (length bytes < byte_limit))
  pub same_report : IfSome old (λ known. report bytes ≡ report known)

-- a reader lost some first bytes of those that it had, where these are known, at most `u64::MAX`, and no others
abbrev pub LosesPrefix : Option (List ℕ) → Option (List ℕ) → Type 0
LosesPrefix old new = (bytes : List ℕ) × Consumes old new bytes × (length bytes ≤ byte_limit)

-- the prefix was read, and its report was written, and nothing else
abbrev pub WritesReport : Option (List ℕ) → Option (List ℕ) → Option (List ℕ) → Option (List ℕ) → Type 0
WritesReport unread unread' written written' =
    (bytes : List ℕ) × (text : List ℕ) × ReadsPrefix unread unread' bytes × (report bytes ≡ Ok text) × Appends written written' text

-- the prefix was read, and the first of its rows that is refused has this place, from 1
abbrev pub IsRefusedAt : ℕ → Option (List ℕ) → Option (List ℕ) → Type 0
IsRefusedAt place unread unread' = (bytes : List ℕ) × ReadsPrefix unread unread' bytes × (report bytes ≡ Err place)

-- the prefix was read, and none of its rows is refused
abbrev pub HasReport : Option (List ℕ) → Option (List ℕ) → Type 0
HasReport unread unread' =
    (bytes : List ℕ) × (text : List ℕ) × ReadsPrefix unread unread' bytes × (report bytes ≡ Ok text)

-- bytes were read, at most `u64::MAX`, of which no row that was closed is refused, and fewer than 1,000,000 were
pub record NoneRefusedYet (old new : Option (List ℕ)) : Type 0 where
  pub closed : List ℕ
  pub unclosed : List ℕ
  pub taken : Consumes old new (closed ++ unclosed)
  pub within : length (closed ++ unclosed) ≤ byte_limit
  pub are_closed : IsClosed closed
  pub one : IsOneRow unclosed
  pub numbers : AreNumbers (rows closed)
  pub few : length (rows closed) < row_limit

-- A read failed after some first bytes, and left the reader so; or as many bytes as may be read were.
abbrev pub FailsReading : {R : Type 0} → (R → Option (List ℕ)) → (Bool → R → R → Type 0) → R → R → Type 0
FailsReading {R} left stays r q = (bytes : List ℕ) × (last : R) × Consumes (left r) (left last) bytes × ((length bytes ≡ byte_limit) ⊎ stays true last q)

module _ {R W : Type 0} (left : R → Option (List ℕ)) (stays : Bool → R → R → Type 0) (input input' : R) (failed : W → Type 0) (written written' : Option (List ℕ)) (output' : W) where
  -- What an outcome says of the input, and of what was written: that a prefix was read that decides, and its report was written and nothing else; that the first of its rows that is refused has this place; that no row was refused before reading failed; or that the prefix has a report, and writing failed. Of memory it doesn't run out.
  abbrev pub ComesTo : {T : Type 0} → Result T (RunFault BadRow) → Type 0
  ComesTo (Ok done) = WritesReport (left input) (left input') written written'
  ComesTo (Err (Input row)) = IsRefusedAt row.place (left input) (left input') × Keeps written written'
  ComesTo (Err Read) = NoneRefusedYet (left input) (left input') × FailsReading left stays input input' × Keeps written written'
  ComesTo (Err Memory) = ⊥
  ComesTo (Err Write) = HasReport (left input) (left input') × failed output'
