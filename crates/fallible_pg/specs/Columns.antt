-- The columns that a message describes.
use Rattle.std.specs.Prelude.{◌≡◌, ℕ, zero, suc, ◌+◌, if◌then◌else◌, nat_le, List, [], ◌∷◌, length, drop, Option, Some, None, Result, Ok, Err}
use Rattle.std.specs.Borrow.{Bor}
use Rattle.fallible_iterator.specs.Traces.{Answered, end}
use Rattle.fallible_pg.specs.Numbers.{u16_at, u32_at}
use Rattle.fallible_pg.specs.Strings.{before_zero}
use Rattle.fallible_pg.specs.declared.columns.Column.{Column}
use Rattle.fallible_pg.specs.declared.columns.Columns.{Columns}
use Rattle.fallible_pg.specs.declared.fault.Damage.{Damage}
use Rattle.fallible_pg.specs.declared.fault.Damage.TheVariants as What

-- what a message says of a column: its name; the table that it is of and its number there, or 0; its type, the type's size and its modifier; and the format of its cells
pub record Described : Type 0 where
  pub name : List ℕ
  pub table_oid : ℕ
  pub attribute : ℕ
  pub type_oid : ℕ
  pub type_size : ℕ
  pub type_modifier : ℕ
  pub format : ℕ

-- what the bytes after the 0 of its name say
abbrev pub described : List ℕ → List ℕ → Described
described name bytes = record { name = name; table_oid = u32_at bytes 0; attribute = u16_at bytes 4; type_oid = u32_at bytes 6; type_size = u16_at bytes 10; type_modifier = u32_at bytes 12; format = u16_at bytes 16 }

-- the first column, and the bytes after it: its name with a 0 after it, and 18 bytes more; none where there are too few
unfoldable pub first_column : List ℕ → Option (Described × List ℕ)
first_column bytes = if nat_le (length (before_zero bytes) + 19) (length bytes) then Some (described (before_zero bytes) (drop (length (before_zero bytes) + 1) bytes), drop 18 (drop (length (before_zero bytes) + 1) bytes)) else None

-- a column and then those of the bytes after it; the damage where there is none
abbrev pub column_then : Option (Described × List ℕ) → (List ℕ → List (Result Described Damage)) → List (Result Described Damage)
column_then (Some (column, rest)) columns = Ok column ∷ columns rest
column_then None columns = Err What.Columns ∷ []

-- so many columns, up to the first damage; bytes after the last column are damage
unfoldable pub columns_from : ℕ → List ℕ → List (Result Described Damage)
columns_from zero [] = []
columns_from zero (b ∷ bs) = Err What.Columns ∷ []
columns_from (suc k) bytes = column_then (first_column bytes) (columns_from k)

-- The columns that a message describes, up to the first damage: as many as the two bytes after its length say.
unfoldable pub columns_of : List ℕ → List (Result Described Damage)
columns_of message = if nat_le 7 (length message) then columns_from (u16_at message 5) (drop 7 message) else Err What.Columns ∷ []

-- ---- one draw

-- the columns that are left
abbrev pub shows_columns : Columns → List (Result Described Damage)
shows_columns s = columns_from s.left s.bytes.now

-- what is said of a column that was drawn
abbrev pub said_of : Column → Described
said_of column = record { name = column.name.now; table_oid = column.table_oid; attribute = column.attribute; type_oid = column.type_oid; type_size = column.type_size; type_modifier = column.type_modifier; format = column.format }

-- the answer is the column
abbrev pub AnswersColumn : Described → Answered Column Damage → Type 0
AnswersColumn column (Ok (Some found)) = said_of found ≡ column
AnswersColumn column (Ok None) = ⊥
AnswersColumn column (Err damage) = ⊥

-- one draw: the first of the columns, or the damage, and the rest is left; of no columns an end
abbrev pub TakesColumn : List (Result Described Damage) → Answered Column Damage → List (Result Described Damage) → Type 0
TakesColumn [] r rest = (r ≡ end) × (rest ≡ [])
TakesColumn (Ok column ∷ columns) r rest = AnswersColumn column r × (rest ≡ columns)
TakesColumn (Err damage ∷ columns) r rest = (r ≡ Err damage) × (rest ≡ columns)

-- what is found of the first column
abbrev pub FindsColumn : Option (Described × List ℕ) → Option (Column × Bor (List ℕ)) → Type 0
FindsColumn None None = Unit {0}
FindsColumn (Some (column, rest)) (Some (found, slice)) = (said_of found ≡ column) × (slice.now ≡ rest)
FindsColumn None (Some found) = ⊥
FindsColumn (Some column) None = ⊥

-- these are the columns of the description that came last, where one came
abbrev pub AreColumns : Option (List ℕ) → Option Columns → Type 0
AreColumns None None = Unit {0}
AreColumns (Some message) (Some columns) = shows_columns columns ≡ columns_of message
AreColumns None (Some columns) = ⊥
AreColumns (Some message) None = ⊥
