-- What the program's words ask for.
use Rattle.std.specs.Prelude.{ℕ, Bool, true, false, if◌then◌else◌, List, [], ◌∷◌, Option, Some, None, codes, bytes_eq, string_bytes}
use Rattle.std.specs.declared.string.String.{String}
use Rattle.std.specs.declared.alloc.Global.{Global}
use Rattle.program_io.specs.Arguments.{asked_from}
use Rattle.program_io.specs.declared.arguments.Asked.TheVariants.{Standard, Unexpected}
use Rattle.pg_rows.specs.declared.words.Wanted.{Wanted}

-- what a NULL is printed as: nothing, where no word says it
abbrev pub null_text : Option (String Global) → List ℕ
null_text None = []
null_text (Some text) = string_bytes text

-- what is asked for where no word is left: standard input; a word that asks for a text has none, and is refused
abbrev pub wanted_at_end : Option (String Global) → Option (String Global) → Bool → Wanted
wanted_at_end None null csv = record { null = null; csv = csv; asked = Standard }
wanted_at_end (Some word) null csv = record { null = null; csv = csv; asked = Unexpected word }

-- What words ask for, after a word that asks for a text, where one stands before them, and after those that said what a NULL is printed as, and whether as CSV: `--csv` for CSV, `--null` and a word for what a NULL is printed as, and the words after these for what is read.
unfoldable pub wanted_from : Option (String Global) → Option (String Global) → Bool → List (String Global) → Wanted
wanted_from asking null csv [] = wanted_at_end asking null csv
wanted_from (Some asks) null csv (word ∷ words) = wanted_from None (Some word) csv words
wanted_from None null csv (word ∷ words) = if bytes_eq (string_bytes word) (codes "--csv") then wanted_from None null true words
    else if bytes_eq (string_bytes word) (codes "--null") then wanted_from (Some word) null csv words
    else record { null = null; csv = csv; asked = asked_from word words }

-- what the program's words ask for, of which the first is its name
abbrev pub wanted_by : List (String Global) → Wanted
wanted_by [] = wanted_from None None false []
wanted_by (name ∷ words) = wanted_from None None false words
