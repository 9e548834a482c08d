-- Rows of bytes, and the numbers that they write.
use Rattle.std.specs.Prelude.{ℕ, ◌-◌, Bool, ◌&&◌, if◌then◌else◌, ◌==◌, nat_le, List, [], length, take, slice_index_or, Option, Some, None}
use Rattle.std.specs.List.{slice_split}
use Rattle.std.specs.Str.{all_ascii_digits}
use Rattle.std.specs.Str.Parse.{digits_value}

-- whether a byte ends a row
abbrev pub is_newline : ℕ → Bool
is_newline byte = byte == 10

-- a list of pieces, less an empty last piece
abbrev pub without_empty_last : List (List ℕ) → List (List ℕ)
without_empty_last pieces =
    let prefix = length pieces - 1 in
    if length (slice_index_or pieces prefix []) == 0 then take prefix pieces else pieces

-- the rows of bytes: the pieces that the newlines cut them into, less an empty last piece
abbrev pub rows : List ℕ → List (List ℕ)
rows bytes = without_empty_last (slice_split is_newline bytes)

-- whether a row is a number: 1 to 20 ASCII digits, whose value is at most 18446744073709551615
abbrev pub is_number : List ℕ → Bool
is_number row =
    all_ascii_digits row && nat_le 1 (length row) && nat_le (length row) 20
    && nat_le (digits_value 10 row) 18446744073709551615

-- the number that a row writes, where it is one
abbrev pub row_number : List ℕ → Option ℕ
row_number row = if is_number row then Some (digits_value 10 row) else None
