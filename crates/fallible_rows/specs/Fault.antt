-- What is told of a row that is not a number.
use Rattle.std.specs.Prelude.{ℕ, List, codes}
use Rattle.program_io.specs.Faults.{placed_text}
use Rattle.fallible_rows.specs.declared.fault.BadRow.{BadRow}

-- the status that a program ends with
abbrev pub status_of : BadRow → ℕ
status_of row = 1

-- the text of the line that tells of it, without its newline
abbrev pub text_of : BadRow → List ℕ
text_of row = placed_text (codes "row") row.place (codes "not a number")
