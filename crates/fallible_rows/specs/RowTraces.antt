-- What draws from the rows of a reader answer, and what they read.
use Rattle.std.proofs.Common.{refl}
use Rattle.std.specs.Prelude.{Bool, ◌≡◌, ◌≢◌, ℕ, ◌+◌, ◌<◌, ◌⊎◌, min, List, [], ◌∷◌, ◌++◌, length, take, replicate, All, Option, Some, None, Result}
use Rattle.std.specs.Option.{ok_or}
use Rattle.fallible_iterator.specs.Traces.{Answered, item, failure, end}
use Rattle.fallible_iterator.specs.Contract.{Contract, Inverse, unbounded_contract}
use Rattle.fallible_iterator.specs.Lists.{Lists}
use Rattle.fallible_rows.specs.Rows.{rows, row_number}
use Rattle.program_io.specs.Bytes.{GivesByte, GivesBytes, GivesEnd, FailsToRead}
use Rattle.fallible_rows.specs.declared.fault.RowFault.{RowFault}
use Rattle.fallible_rows.specs.declared.fault.RowFault.TheVariants.{Row, Read}
use Rattle.fallible_rows.specs.declared.rows.Ahead.{Ahead}
use Rattle.fallible_rows.specs.declared.rows.Rows.{Rows}

-- the parts of the rows of a reader: the reader, and how many bytes may be read and the place of the next row, until they are exhausted
abbrev pub rows_parts : {B : Type 0} → Rows B → B × Option Ahead
rows_parts s = (s.reader, s.ahead)

-- and back
pub rows_made : {B : Type 0} → Inverse (rows_parts {B = B})
rows_made = record { make = λ p. record { reader = p.0; ahead = p.1 }; made = λ s. refl; has = λ p. refl }

-- at the start: no byte was read, and the first row has place 1
abbrev pub begun : {B : Type 0} → B → ℕ → B × Option Ahead
begun reader limit = (reader, Some (record { left = limit; place = 1 }))

-- ---- answers

-- the place that is told of a place: the smaller of it and `u32::MAX`
abbrev pub told_place : ℕ → ℕ
told_place place = min place 4294967295

-- the place after these rows, of which the first has this place
abbrev pub place_after : ℕ → List (List ℕ) → ℕ
place_after place [] = place
place_after place (row ∷ rest) = place_after (told_place (place + 1)) rest

-- the number as an item, or where there is none the failure that tells the place
abbrev pub answer_of_number : ℕ → Option ℕ → Answered ℕ RowFault
answer_of_number place (Some number) = item number
answer_of_number place None = failure (Row (told_place place))

-- the answer of a row at a place: its number, or the failure that tells the place
abbrev pub row_answer : ℕ → List ℕ → Answered ℕ RowFault
row_answer place row = answer_of_number place (row_number row)

-- the answers of rows, of which the first has this place
abbrev pub row_answers : ℕ → List (List ℕ) → List (Answered ℕ RowFault)
row_answers place [] = []
row_answers place (row ∷ rest) = row_answer place row ∷ row_answers (place + 1) rest

-- the number of a row at a place, or where it is none the failure that tells the place
abbrev pub row_result : ℕ → List ℕ → Result ℕ RowFault
row_result place row = ok_or (row_number row) (Row (told_place place))

-- those of rows, of which the first has this place
abbrev pub row_results : ℕ → List (List ℕ) → List (Result ℕ RowFault)
row_results place [] = []
row_results place (row ∷ rest) = row_result place row ∷ row_results (place + 1) rest

-- ---- bytes

-- bytes of one row: none of them is a newline
abbrev pub IsOneRow : List ℕ → Type 0
IsOneRow bytes = All (λ byte. byte ≢ 10) bytes

-- bytes whose rows are all closed by newlines: there are none, or the last is a newline
abbrev pub IsClosed : List ℕ → Type 0
IsClosed bytes = (bytes ≡ []) ⊎ ((prefix : List ℕ) × (bytes ≡ prefix ++ 10 ∷ []))

module _ {B : Type 0} (left : B → Option (List ℕ)) (stays : Bool → B → B → Type 0) where
  -- a byte more was wanted than may be read, or the read of it failed
  abbrev pub MissesByte : ℕ → ℕ → B → B → Type 0
  MissesByte limit count r q = ((count ≡ limit) × (q ≡ r)) ⊎ ((count < limit) × FailsToRead left stays r q)

  -- ---- one draw

  -- a newline ended the row
  pub record EndsByNewline (last : B) (a : Ahead) (row : List ℕ) (answer : Answered ℕ RowFault) (p : B × Option Ahead) : Type 0 where
    pub after : Ahead
    pub newline : GivesByte left stays last 10 p.0
    pub limit : after.left + length row + 1 ≡ a.left
    pub place : after.place ≡ told_place (a.place + 1)
    pub is_left : p.1 ≡ Some after
    pub answered : answer ≡ row_answer a.place row

  -- the reader's end ended the row: where it has no byte, it is none
  pub record EndsByEnd (last : B) (a : Ahead) (row : List ℕ) (answer : Answered ℕ RowFault) (p : B × Option Ahead) : Type 0 where
    pub met_end : GivesEnd left stays last p.0
    pub limit : length row < a.left
    pub is_left : p.1 ≡ None
    pub answered : ((row ≡ []) × (answer ≡ end)) ⊎ ((row ≢ []) × (answer ≡ row_answer a.place row))

  -- no byte came where one was wanted
  pub record EndsByFailure (last : B) (a : Ahead) (row : List ℕ) (answer : Answered ℕ RowFault) (p : B × Option Ahead) : Type 0 where
    pub missed : MissesByte a.left (length row) last p.0
    pub is_left : p.1 ≡ None
    pub answered : answer ≡ failure Read

  -- One draw reads the bytes of one row, and what ends it: a newline, the reader's end, or a failure.
  pub record DrawsRow (r : B) (a : Ahead) (answer : Answered ℕ RowFault) (p : B × Option Ahead) : Type 0 where
    pub row : List ℕ
    pub one : IsOneRow row
    pub last : B
    pub given : GivesBytes left stays r row last
    pub ended : EndsByNewline last a row answer p ⊎ (EndsByEnd last a row answer p ⊎ EndsByFailure last a row answer p)

  -- One answer: a row, and an end without a read once they are exhausted.
  abbrev pub row_step : B × Option Ahead → Answered ℕ RowFault → B × Option Ahead → Type 0
  row_step (r, Some a) answer p = DrawsRow r a answer p
  row_step (r, None) answer p = (answer ≡ end) × (p ≡ (r, None))

  -- One answer that is not the failure `Read`.
  abbrev pub row_step_where_read : B × Option Ahead → Answered ℕ RowFault → B × Option Ahead → Type 0
  row_step_where_read s answer p = row_step s answer p × (answer ≢ failure Read)

  -- Where no draw fails with `Read`, the answers of s, up to its first end, list l.
  abbrev pub ListsWhereRead : Rows B → List (Result ℕ RowFault) → Type 0
  ListsWhereRead s l = Lists (λ u r v. row_step_where_read (rows_parts u) r (rows_parts v)) s l

  -- ---- whole traces

  -- nothing was read after the last newline: each row closed has its answer, and the next draw goes on with the next row
  pub record StopsBetween (last : B) (a : Ahead) (closed unclosed : List ℕ) (trace : List (Answered ℕ RowFault)) (p : B × Option Ahead) : Type 0 where
    pub after : Ahead
    pub none_unclosed : unclosed ≡ []
    pub limit : after.left + length closed ≡ a.left
    pub place : after.place ≡ place_after a.place (rows closed)
    pub is_left : p ≡ (last, Some after)
    pub answers : trace ≡ row_answers a.place (rows closed)

  -- the reader's end was met: each row of the bytes has its answer, and then come ends
  pub record StopsAtEnd (last : B) (a : Ahead) (closed unclosed : List ℕ) (trace : List (Answered ℕ RowFault)) (p : B × Option Ahead) : Type 0 where
    pub ends : ℕ
    pub met_end : GivesEnd left stays last p.0
    pub limit : length (closed ++ unclosed) < a.left
    pub is_left : p.1 ≡ None
    pub answers : trace ≡ row_answers a.place (rows (closed ++ unclosed)) ++ replicate ends end
    pub ended : unclosed ≡ [] → 0 < ends

  -- no byte came where one was wanted: each row closed has its answer, then comes the failure `Read`, and then ends
  pub record StopsAtFailure (last : B) (a : Ahead) (closed unclosed : List ℕ) (trace : List (Answered ℕ RowFault)) (p : B × Option Ahead) : Type 0 where
    pub ends : ℕ
    pub missed : MissesByte a.left (length (closed ++ unclosed)) last p.0
    pub is_left : p.1 ≡ None
    pub answers : trace ≡ row_answers a.place (rows closed) ++ failure Read ∷ replicate ends end

  -- Draws read bytes one at a time, of which the closed ones end with the last newline. Then they stopped between two rows, at the reader's end, or at a failure.
  pub record ReadsRows (r : B) (a : Ahead) (trace : List (Answered ℕ RowFault)) (p : B × Option Ahead) : Type 0 where
    pub closed : List ℕ
    pub unclosed : List ℕ
    pub last : B
    pub given : GivesBytes left stays r (closed ++ unclosed) last
    pub are_closed : IsClosed closed
    pub one : IsOneRow unclosed
    pub stopped : StopsBetween last a closed unclosed trace p ⊎ (StopsAtEnd last a closed unclosed trace p ⊎ StopsAtFailure last a closed unclosed trace p)

  -- The trace of the rows of a reader: what was read, and ends alone once they are exhausted.
  abbrev pub RowsTrace : B × Option Ahead → List (Answered ℕ RowFault) → B × Option Ahead → Type 0
  RowsTrace (r, Some a) trace p = ReadsRows r a trace p
  RowsTrace (r, None) trace p = ((ends : ℕ) × (trace ≡ replicate ends end)) × (p ≡ (r, None))

  -- The contract of the rows of a reader: they have a bound only where their runs do.
  abbrev pub rows_contract : Contract (B × Option Ahead) ℕ RowFault
  rows_contract = record (unbounded_contract row_step) { traces = RowsTrace }

-- ---- the rows of known bytes

-- the first answers of these: those of the rows of the bytes, from place 1 on, and then ends
abbrev pub IsPrefixOfRowAnswers : List ℕ → List (Answered ℕ RowFault) → Type 0
IsPrefixOfRowAnswers bytes trace = (n : ℕ) × (ends : ℕ) × (trace ≡ take n (row_answers 1 (rows bytes) ++ replicate ends end))

-- no read failed, and no byte was wanted beyond the limit
abbrev pub NeverFailsToRead : List (Answered ℕ RowFault) → Type 0
NeverFailsToRead trace = All (λ r. r ≢ failure Read) trace

module _ {B : Type 0} (left : B → Option (List ℕ)) (stays : Bool → B → B → Type 0) where
  -- no row was drawn, and the reader tells that it has these bytes left, fewer than may be read
  pub record BeginsWith (p : B × Option Ahead) (bytes : List ℕ) : Type 0 where
    pub limit : ℕ
    pub begins : p ≡ begun p.0 limit
    pub tells : left p.0 ≡ Some bytes
    pub within : length bytes < limit

  -- it can yield all of them, one at a time, and then meet its end
  pub record CanGiveAll (p : B × Option Ahead) (bytes : List ℕ) : Type 0 where
    pub last : B
    pub after : B
    pub given : GivesBytes left stays p.0 bytes last
    pub met_end : GivesEnd left stays last after
