-- What the program's words ask for.
use Rattle.std.specs.Prelude.{if◌then◌else◌, List, [], ◌∷◌, codes, bytes_eq, string_bytes}
use Rattle.std.specs.declared.string.String.{String}
use Rattle.std.specs.declared.alloc.Global.{Global}
use Rattle.program_io.specs.Arguments.{asked_from}
use Rattle.program_io.specs.declared.arguments.Asked.TheVariants.{Standard}
use Rattle.fallible_json.specs.declared.report.Prints.{Prints}
use Rattle.fallible_json.specs.declared.report.Prints.TheVariants.{Texts, Tokens}
use Rattle.json_tokens.specs.declared.words.Wanted.{Wanted}

-- what words ask for that may name an input
abbrev pub wanted_of_input : Prints → List (String Global) → Wanted
wanted_of_input prints [] = record { prints = prints; asked = Standard }
wanted_of_input prints (word ∷ words) = record { prints = prints; asked = asked_from word words }

-- what the words ask for, of which the first may be `--tokens`
abbrev pub wanted_from : List (String Global) → Wanted
wanted_from [] = wanted_of_input Texts []
wanted_from (word ∷ words) = if bytes_eq (string_bytes word) (codes "--tokens") then wanted_of_input Tokens words else wanted_of_input Texts (word ∷ words)

-- what the program's words ask for, of which the first is its name
abbrev pub wanted_by : List (String Global) → Wanted
wanted_by [] = wanted_from []
wanted_by (name ∷ words) = wanted_from words
