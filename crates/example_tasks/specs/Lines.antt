-- Numbers of lines, and their sum.
use Rattle.std.specs.Prelude.{ℕ, ◌+◌, ◌%◌, ◌^◌, List, Result, Ok, Some, string_bytes}
use Rattle.std.specs.Option.{ok_or}
use Rattle.fallible_iterator.specs.Lists.{folded, scanned, on_value}
use Rattle.program_io.specs.Numbers.{number_of}
use Rattle.std.specs.declared.string.String.{String}
use Rattle.std.specs.declared.alloc.Global.{Global}
use Rattle.example_tasks.specs.declared.lines.LineFault.{LineFault}
use Rattle.example_tasks.specs.declared.lines.LineFault.TheVariants.{Line}

-- the number that a line is, or the fault that tells its place
abbrev pub number_at : ℕ → List ℕ → Result ℕ LineFault
number_at place text = ok_or (number_of text) (Line place)

-- the numbers of the lines, up to the first fault; places count from 1 on, modulo 2 ^ 64
abbrev pub numbers_of : List (Result (String Global) LineFault) → List (Result ℕ LineFault)
numbers_of lines = scanned (λ before line. let place = (before + 1) % 2 ^ 64 in (on_value (number_at place (string_bytes line)) (λ n. Ok (Some n)), place)) 0 lines

-- their sum, modulo 2 ^ 64, or the first fault
abbrev pub sum_of : List (Result (String Global) LineFault) → Result ℕ LineFault
sum_of lines = folded (λ e. e) (λ s n. Ok ((s + n) % 2 ^ 64)) 0 (numbers_of lines)
