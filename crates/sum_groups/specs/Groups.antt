-- What lines of rows say, and what is printed of rows.
use Rattle.std.specs.Prelude.{◌≡◌, ℕ, ◌+◌, ◌%◌, ◌^◌, Bool, ◌==◌, nat_eq, nat_le, nat_lt, if◌then◌else◌, List, [], ◌∷◌, ◌++◌, length, map, filter, take, Option, Some, None, Result, Ok, Err, codes, decimal}
use Rattle.std.specs.List.{before_first, after_first, position_or_len}
use Rattle.std.specs.Str.Lines.{lines}
use Rattle.fallible_iterator.specs.Lists.{collected, items, mapped, scanned}
use Rattle.fallible_itertools.specs.Chunks.{chunked, chunked_by}
use Rattle.fallible_itertools.specs.CheckedSum.{sum_below, totalled}
use Rattle.program_io.specs.Numbers.{number_of}
use Rattle.std.specs.declared.alloc.AllocError.{AllocError}
use Rattle.std.specs.declared.convert.Infallible.{Infallible}
use Rattle.sum_groups.specs.declared.groups.Row.{Row}
use Rattle.program_io.specs.declared.fault.RunFault.{RunFault}
use Rattle.program_io.specs.declared.fault.RunFault.TheVariants.{Input, Read, Memory, Write}
use Rattle.sum_groups.specs.declared.fault.BadRow.{BadRow}
use Rattle.sum_groups.specs.declared.fault.GroupsFault.{GroupsFault}
use Rattle.sum_groups.specs.declared.fault.GroupsFault.TheVariants as Is
use Rattle.sum_groups.specs.declared.fault.Wrong.{Wrong}
use Rattle.sum_groups.specs.declared.fault.Wrong.TheVariants.{NoRow, Unsorted}

-- ---- rows

-- whether the byte is a comma
abbrev pub is_comma : ℕ → Bool
is_comma b = b == 44

-- the row of a key and an amount, where both are numbers
abbrev pub row_with : Option ℕ → Option ℕ → Option Row
row_with (Some k) (Some a) = Some (record { key = k; amount = a })
row_with (Some k) None = None
row_with None a = None

-- the row that a line is, if it is one: the numbers before and after its first comma
abbrev pub row_of : List ℕ → Option Row
row_of text = if nat_lt (position_or_len is_comma text) (length text)
    then row_with (number_of (before_first is_comma text)) (number_of (after_first is_comma text))
    else None

-- a line that is wrong, at a place
abbrev pub bad_at : ℕ → Wrong → Result (Option Row) BadRow
bad_at place wrong = Err (record { place = place; wrong = wrong })

-- what a line is after so many lines, the last row of which has a key: the row that was found, or what is wrong with it
abbrev pub row_after : ℕ × ℕ → Option Row → Result (Option Row) BadRow
row_after (lines, key) None = bad_at ((lines + 1) % 2 ^ 64) NoRow
row_after (lines, key) (Some row) = if nat_lt row.key key then bad_at ((lines + 1) % 2 ^ 64) Unsorted else Ok (Some row)

-- how many lines there are with this one, and the key of the last row
abbrev pub reached : ℕ × ℕ → Option Row → ℕ × ℕ
reached (lines, key) None = ((lines + 1) % 2 ^ 64, key)
reached (lines, key) (Some row) = ((lines + 1) % 2 ^ 64, row.key)

-- the rows that were found, in order, and for each line that is none, or whose key is below that of the row before, what is wrong; places count from 1 on
abbrev pub rows_in : List (Result (Option Row) BadRow) → List (Result Row BadRow)
rows_in found = scanned (λ before row. (row_after before row, reached before row)) (0, 0) found

-- the rows that the lines of a text are, or the first line that is wrong
abbrev pub rows_of : List ℕ → Result (List Row) BadRow
rows_of text = collected (rows_in (items (map row_of (lines text))))

-- ---- bytes that are no text

-- whether a byte ends a line
abbrev pub is_newline : ℕ → Bool
is_newline b = b == 10

-- how many lines end within bytes
abbrev pub ended_lines : List ℕ → ℕ
ended_lines bytes = length (filter is_newline bytes)

-- the first fault of bytes that are no UTF-8 at a place, by how many lines end before it and what these come to: a line that is wrong and ends before the place, or otherwise that place
abbrev pub first_fault : ℕ → ℕ → Result (List Row) BadRow → GroupsFault
first_fault place ended (Ok rows) = Is.NotText place
first_fault place ended (Err bad) = if nat_le bad.place ended then Is.Row bad else Is.NotText place

-- the first fault of bytes that are no UTF-8 at a place
abbrev pub fault_before : List ℕ → ℕ → GroupsFault
fault_before bytes place = first_fault place (ended_lines (take place bytes)) (rows_of (take place bytes))

-- ---- lines

-- the sum of the amounts, where it is below 2 ^ 64
abbrev pub sum_of : {E : Type 0} → List Row → Result (Option ℕ) E
sum_of rows = totalled (sum_below (2 ^ 64)) 0 (mapped (λ r. Ok r.amount) (items rows))

-- the line of so many rows of this sum, under a name
abbrev pub line_with : {E : Type 0} → ℕ → ℕ → Result (Option ℕ) E → List ℕ
line_with name many (Ok (Some sum)) = decimal name ++ codes ": " ++ decimal many ++ codes " rows, " ++ decimal sum ++ 10 ∷ []
line_with name many (Ok None) = decimal name ++ codes ": " ++ decimal many ++ codes " rows, too large" ++ 10 ∷ []
line_with name many (Err e) = []

-- the line of some rows under a name: the name, how many they are, and their sum
abbrev pub line_of : ℕ → List Row → List ℕ
line_of name rows = line_with {E = Infallible} name (length rows) (sum_of rows)

-- the lines of a list's items, one after another
abbrev pub text_of : {A E : Type 0} → (A → List ℕ) → List (Result A E) → List ℕ
text_of line [] = []
text_of line (Ok x ∷ l) = line x ++ text_of line l
text_of line (Err e ∷ l) = text_of line l

-- the line of a group, under its key
abbrev pub group_line : ℕ × List Row → List ℕ
group_line g = line_of g.0 g.1

-- one line a group of adjacent rows of one key
abbrev pub groups_text : List Row → List ℕ
groups_text rows = text_of group_line (chunked_by {E = AllocError} nat_eq (λ r. Ok r.key) (items rows))

-- the key of the first row
abbrev pub first_key : List Row → ℕ
first_key [] = 0
first_key (r ∷ rows) = r.key

-- the line of a batch, under the key of its first row
abbrev pub batch_line : List Row → List ℕ
batch_line rows = line_of (first_key rows) rows

-- one line a batch of three rows
abbrev pub batches_text : List Row → List ℕ
batches_text rows = text_of batch_line (chunked {E = AllocError} 3 (items rows))

-- the groups, and then the batches, each under a heading
abbrev pub report_of : List Row → List ℕ
report_of rows = codes "groups\n" ++ groups_text rows ++ codes "batches\n" ++ batches_text rows

-- What a fault says of a text whose report could not be made: that this line is the first that is wrong, or that its lines are rows, and the memory for them or their report was refused.
abbrev pub IsFaultOf : (List ℕ → Type 0) → List ℕ → RunFault GroupsFault → Type 0
IsFaultOf refused text (Input (Is.NotText place)) = ⊥
IsFaultOf refused text (Input (Is.Row bad)) = rows_of text ≡ Err bad
IsFaultOf refused text Read = ⊥
IsFaultOf refused text Memory = ((rows : List Row) × (rows_of text ≡ Ok rows)) × refused text
IsFaultOf refused text Write = ⊥
