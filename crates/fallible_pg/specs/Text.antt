-- Rows as text.
use Rattle.std.specs.Prelude.{ℕ, Bool, if◌then◌else◌, List, [], ◌∷◌, ◌++◌, Option, Some, None, Result, Ok, Err}
use Rattle.std.specs.Borrow.{Bor}
use Rattle.fallible_pg.specs.Cells.{cells_of}
use Rattle.fallible_pg.specs.Csv.{csv_text}
use Rattle.fallible_pg.specs.declared.fault.Damage.{Damage}
use Rattle.fallible_pg.specs.declared.text.Format.{Format}

-- in which form rows are printed: what a NULL is printed as, and whether as CSV
pub record Form : Type 0 where
  pub null : List ℕ
  pub csv : Bool

-- the form that a format asks for
abbrev pub form_of : Format → Form
form_of format = record { null = format.null.now; csv = format.csv }

-- what a cell has: its bytes, and what a NULL is printed as
abbrev pub shown_cell : Form → Option (List ℕ) → List ℕ
shown_cell form (Some bytes) = bytes
shown_cell form None = form.null

-- the text of what a cell has
abbrev pub field_text : Form → List ℕ → List ℕ
field_text form field = if form.csv then csv_text field else field

-- the text of a cell
abbrev pub cell_text : Form → Option (List ℕ) → List ℕ
cell_text form cell = field_text form (shown_cell form cell)

-- what stands between two cells: a comma, or a bar
abbrev pub separator : Form → ℕ
separator form = if form.csv then 44 else 124

-- the text after the first cell: a separator before each further one, and a newline after the last
abbrev pub further_text : Form → List (Result (Option (List ℕ)) Damage) → List ℕ
further_text form [] = 10 ∷ []
further_text form (Ok cell ∷ cells) = separator form ∷ cell_text form cell ++ further_text form cells
further_text form (Err damage ∷ cells) = 10 ∷ []

-- the text of cells, and nothing where there is none
abbrev pub cells_text : Form → List (Result (Option (List ℕ)) Damage) → List ℕ
cells_text form [] = []
cells_text form (Ok cell ∷ cells) = cell_text form cell ++ further_text form cells
cells_text form (Err damage ∷ cells) = []

-- the text of a row, by its message: its cells with a separator between each two, and a newline; nothing where it has no cells
abbrev pub row_text : Form → List ℕ → List ℕ
row_text form message = cells_text form (cells_of message)

-- what a cell has that was drawn
abbrev pub drawn_shown : Form → Option (Bor (List ℕ)) → List ℕ
drawn_shown form (Some slice) = slice.now
drawn_shown form None = form.null

-- its text
abbrev pub drawn_text : Form → Option (Bor (List ℕ)) → List ℕ
drawn_text form cell = field_text form (drawn_shown form cell)
