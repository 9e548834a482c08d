-- What is reported of bytes.
use Rattle.std.specs.Prelude.{ℕ, ◌+◌, Bool, nat_lt, is_none, List, [], ◌∷◌, ◌++◌, take, count_by, position, Option, Some, None, unwrap_or, Result, Ok, Err, decimal}
use Rattle.fallible_rows.specs.Rows.{rows, row_number}

-- how many rows are looked at
unfoldable pub row_limit : ℕ
row_limit = 1000000

-- the rows that are looked at: the first ones, up to the limit
abbrev pub first_rows : List ℕ → List (List ℕ)
first_rows bytes = take row_limit (rows bytes)

-- whether a row is not a number
abbrev pub is_refused : List ℕ → Bool
is_refused row = is_none (row_number row)

-- whether a row is a number above 100
abbrev pub is_above : List ℕ → Bool
is_above row = nat_lt 100 (unwrap_or (row_number row) 0)

-- the count if no row is refused, and otherwise the place, from 1, of the refused row at an index
abbrev pub unless_refused : Option ℕ → ℕ → Result ℕ ℕ
unless_refused None count = Ok count
unless_refused (Some index) count = Err (index + 1)

-- how many of the rows that are looked at are above 100, or otherwise the place of the first that is refused
abbrev pub tally : List ℕ → Result ℕ ℕ
tally bytes = unless_refused (position is_refused (first_rows bytes)) (count_by is_above (first_rows bytes))

-- a count as the line that tells it
abbrev pub line_of_count : Result ℕ ℕ → Result (List ℕ) ℕ
line_of_count (Ok count) = Ok (decimal count ++ 10 ∷ [])
line_of_count (Err place) = Err place

-- the line that tells how many rows are above 100, or otherwise the place of the first that is refused
abbrev pub report : List ℕ → Result (List ℕ) ℕ
report bytes = line_of_count (tally bytes)
