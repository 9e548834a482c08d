-- What is told of a fault of the input.
use Rattle.std.specs.Prelude.{ℕ, List, codes}
use Rattle.program_io.specs.Faults.{placed_text}
use Rattle.sum_groups.specs.declared.fault.GroupsFault.{GroupsFault}
use Rattle.sum_groups.specs.declared.fault.GroupsFault.TheVariants.{NotText, Row}
use Rattle.sum_groups.specs.declared.fault.Wrong.{Wrong}
use Rattle.sum_groups.specs.declared.fault.Wrong.TheVariants.{NoRow, Unsorted}

-- the status that the program ends with
abbrev pub status_of : GroupsFault → ℕ
status_of fault = 1

-- what is told of a line that is wrong
abbrev pub wrong_text : Wrong → List ℕ
wrong_text NoRow = codes "not a key and an amount"
wrong_text Unsorted = codes "the key is below the one before"

-- the text of the line that tells the fault, without its newline
abbrev pub text_of : GroupsFault → List ℕ
text_of (NotText place) = placed_text (codes "byte") place (codes "not UTF-8")
text_of (Row bad) = placed_text (codes "row") bad.place (wrong_text bad.wrong)
