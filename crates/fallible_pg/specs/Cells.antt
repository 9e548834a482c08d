-- The cells of a row.
use Rattle.std.specs.Prelude.{◌≡◌, ℕ, zero, suc, ◌==◌, Bool, true, false, if◌then◌else◌, nat_le, List, [], ◌∷◌, length, take, drop, Option, Some, None, Result, Ok, Err}
use Rattle.std.specs.Borrow.{Bor}
use Rattle.fallible_iterator.specs.Traces.{Answered, end}
use Rattle.fallible_pg.specs.Numbers.{u16_at, u32_at}
use Rattle.fallible_pg.specs.declared.cells.Cells.{Cells}
use Rattle.fallible_pg.specs.declared.fault.Damage.{Damage}
use Rattle.fallible_pg.specs.declared.fault.Damage.TheVariants.{Row}

-- a cell that has so many bytes, the first of these, and those after it: a NULL where the number is 2 ^ 32 - 1; none where there are too few
abbrev pub cell_by : ℕ → List ℕ → Option (Option (List ℕ) × List ℕ)
cell_by n rest = if n == 4294967295 then Some (None, rest) else if nat_le n (length rest) then Some (Some (take n rest), drop n rest) else None

-- the first cell, and the bytes after it: it comes after four bytes that say how many it has
unfoldable pub first_cell : List ℕ → Option (Option (List ℕ) × List ℕ)
first_cell bytes = if nat_le 4 (length bytes) then cell_by (u32_at bytes 0) (drop 4 bytes) else None

-- a cell and then those of the bytes after it; the damage where there is none
abbrev pub cell_then : Option (Option (List ℕ) × List ℕ) → (List ℕ → List (Result (Option (List ℕ)) Damage)) → List (Result (Option (List ℕ)) Damage)
cell_then (Some (cell, rest)) cells = Ok cell ∷ cells rest
cell_then None cells = Err Row ∷ []

-- so many cells, up to the first damage; bytes after the last cell are damage
unfoldable pub cells_from : ℕ → List ℕ → List (Result (Option (List ℕ)) Damage)
cells_from zero [] = []
cells_from zero (b ∷ bs) = Err Row ∷ []
cells_from (suc k) bytes = cell_then (first_cell bytes) (cells_from k)

-- The cells of the message of a row, up to the first damage: as many as the two bytes after its length say.
unfoldable pub cells_of : List ℕ → List (Result (Option (List ℕ)) Damage)
cells_of message = if nat_le 7 (length message) then cells_from (u16_at message 5) (drop 7 message) else Err Row ∷ []

-- whether no cell is damaged
abbrev pub are_whole : List (Result (Option (List ℕ)) Damage) → Bool
are_whole [] = true
are_whole (Ok cell ∷ cells) = are_whole cells
are_whole (Err damage ∷ cells) = false

-- whether the cells of a message fill it
abbrev pub is_row : List ℕ → Bool
is_row message = are_whole (cells_of message)

-- ---- one draw

-- the cells that are left
abbrev pub shows_cells : Cells → List (Result (Option (List ℕ)) Damage)
shows_cells s = cells_from s.left s.bytes.now

-- this is the cell: none at a NULL, and else its bytes
abbrev pub IsCell : Option (List ℕ) → Option (Bor (List ℕ)) → Type 0
IsCell None None = Unit {0}
IsCell (Some bytes) (Some slice) = slice.now ≡ bytes
IsCell None (Some slice) = ⊥
IsCell (Some bytes) None = ⊥

-- the answer is the cell
abbrev pub AnswersCell : Option (List ℕ) → Answered (Option (Bor (List ℕ))) Damage → Type 0
AnswersCell cell (Ok (Some o)) = IsCell cell o
AnswersCell cell (Ok None) = ⊥
AnswersCell cell (Err damage) = ⊥

-- one draw: the first of the cells, or the damage, and the rest is left; of no cells an end
abbrev pub TakesCell : List (Result (Option (List ℕ)) Damage) → Answered (Option (Bor (List ℕ))) Damage → List (Result (Option (List ℕ)) Damage) → Type 0
TakesCell [] r rest = (r ≡ end) × (rest ≡ [])
TakesCell (Ok cell ∷ cells) r rest = AnswersCell cell r × (rest ≡ cells)
TakesCell (Err damage ∷ cells) r rest = (r ≡ Err damage) × (rest ≡ cells)

-- what is found of the first cell
abbrev pub FindsCell : Option (Option (List ℕ) × List ℕ) → Option (Option (Bor (List ℕ)) × Bor (List ℕ)) → Type 0
FindsCell None None = Unit {0}
FindsCell (Some (cell, rest)) (Some (o, slice)) = IsCell cell o × (slice.now ≡ rest)
FindsCell None (Some found) = ⊥
FindsCell (Some cell) None = ⊥
