-- Lines that may be bad, and their numbers.
use Rattle.std.specs.Prelude.{ℕ, ◌+◌, ◌-◌, ◌^◌, min, List, Result}
use Rattle.std.specs.Option.{ok_or}
use Rattle.program_io.specs.Numbers.{number_of}
use Rattle.example_itertools.specs.declared.lines.BadLine.{BadLine}
use Rattle.example_itertools.specs.declared.lines.WhyBad.{WhyBad}
use Rattle.example_itertools.specs.declared.lines.WhyBad.TheVariants.{NoNumber}

-- the number that a line is, if it is one
abbrev pub number_in : List ℕ → Result ℕ WhyBad
number_in text = ok_or (number_of text) NoNumber

-- why a line is bad, beside its number, which is 1 at the index 0
abbrev pub bad_line : ℕ → WhyBad → BadLine
bad_line index why = record { line = min (index + 1) (2 ^ 64 - 1); why = why }
