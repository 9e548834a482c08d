-- What is kept of the bytes of a row, and what a draw reads of one.
use Rattle.std.specs.Prelude.{Bool, ◌≡◌, ◌≢◌, ℕ, ◌+◌, ◌<◌, List, [], ◌∷◌, ◌++◌, length, Option, Some, None}
use Rattle.program_io.specs.Bytes.{GivesByte, GivesBytes, GivesEnd}
use Rattle.fallible_rows.specs.Rows.{row_number}
use Rattle.fallible_rows.specs.RowTraces.{IsOneRow, MissesByte}
use Rattle.fallible_rows.specs.declared.digits.Digits.{Digits}
use Rattle.fallible_rows.specs.declared.digits.Digits.TheVariants.{Empty, Number, Refused}
use Rattle.fallible_rows.specs.declared.rows.Close.{Close}
use Rattle.fallible_rows.specs.declared.rows.Close.TheVariants.{Newline, End, Failure}

-- it tells of the bytes that came so far: there are none; they are a number of so many digits; or they are none, whatever follows
abbrev pub TellsOf : Digits → List ℕ → Type 0
TellsOf Empty bytes = bytes ≡ []
TellsOf (Number count value) bytes = (row_number bytes ≡ Some value) × (length bytes ≡ count)
TellsOf Refused bytes = (bytes ≢ []) × ((more : List ℕ) → row_number (bytes ++ more) ≡ None)

-- bytes begin with a row that a newline ends, and that is a number of so many digits
pub record HasNumberAhead (bytes : List ℕ) (count value : ℕ) : Type 0 where
  pub row : List ℕ
  pub rest : List ℕ
  pub are : bytes ≡ row ++ 10 ∷ rest
  pub one : IsOneRow row
  pub number : row_number row ≡ Some value
  pub long : length row ≡ count

module _ {B : Type 0} (left : B → Option (List ℕ)) (stays : Bool → B → B → Type 0) where
  -- what ended a row of which at most so many bytes might be read
  abbrev pub ClosesAs : ℕ → List ℕ → B → Close → B → Type 0
  ClosesAs limit row last (Newline more) q = GivesByte left stays last 10 q × (more + length row + 1 ≡ limit)
  ClosesAs limit row last End q = GivesEnd left stays last q × (length row < limit)
  ClosesAs limit row last Failure q = MissesByte left stays limit (length row) last q

  -- a row was read
  pub record ReadsRow (r : B) (limit : ℕ) (made : Digits × Close) (q : B) : Type 0 where
    pub row : List ℕ
    pub one : IsOneRow row
    pub last : B
    pub given : GivesBytes left stays r row last
    pub tells : TellsOf made.0 row
    pub closed : ClosesAs limit row last made.1 q
