-- Rows that may be bad.
use Rattle.std.specs.Prelude.{ℕ, ◌+◌, ◌%◌, ◌^◌, Option, Some, None, Result, Ok, Err, if◌then◌else◌, nat_lt}
use Rattle.example_itertools.specs.declared.failing.TooManyBad.{TooManyBad}

-- A sum and a number of bad rows, with one row more, both modulo a power of 2.
abbrev pub row_more : ℕ × ℕ → Option ℕ → ℕ × ℕ
row_more tally (Some good) = ((tally.0 + good) % 2 ^ 64, tally.1)
row_more tally None = (tally.0, (tally.1 + 1) % 2 ^ 32)

-- the tally, if it has less than a hundred bad rows
abbrev pub below_hundred : ℕ × ℕ → Result (ℕ × ℕ) TooManyBad
below_hundred tally = if nat_lt tally.1 100 then Ok tally else Err (record {})

-- A sum and a number of bad rows, with one row more: a good one is added, modulo 2 ^ 64, and a bad one counted; the hundredth bad one is one too many.
abbrev pub with_row : ℕ × ℕ → Option ℕ → Result (ℕ × ℕ) TooManyBad
with_row tally (Some good) = Ok ((tally.0 + good) % 2 ^ 64, tally.1)
with_row tally None = if nat_lt tally.1 99 then Ok (tally.0, tally.1 + 1) else Err (record {})
