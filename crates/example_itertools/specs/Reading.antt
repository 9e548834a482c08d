-- What the rows of a reader come to.
use Rattle.std.specs.Prelude.{ℕ, List, Option, Some, None, Result, Ok, Err, if◌then◌else◌, nat_lt}
use Rattle.fallible_iterator.specs.Lists.{folded, mapped}
use Rattle.fallible_itertools.specs.Failing.{recovered, stopped_after}
use Rattle.fallible_rows.specs.declared.fault.RowFault.{RowFault}
use Rattle.fallible_rows.specs.declared.fault.RowFault.TheVariants.{Row, Read}
use Rattle.program_io.specs.declared.reading.ReadFailed.{ReadFailed}
use Rattle.example_itertools.specs.Rows.{row_more}
use Rattle.example_itertools.specs.declared.reading.NoTally.{NoTally}
use Rattle.example_itertools.specs.declared.reading.NoTally.TheVariants.{TooManyBad, NotRead}

-- what comes in the place of a row's fault: no number for a bad row, and a failure for a failed read
abbrev pub instead_of_row : RowFault → Result (Option (Option ℕ)) ReadFailed
instead_of_row (Row place) = Ok (Some None)
instead_of_row Read = Err (record {})

-- the tally, if no read failed and less than a hundred rows are bad
abbrev pub few_bad : Result (ℕ × ℕ) ReadFailed → Result (ℕ × ℕ) NoTally
few_bad (Ok tally) = if nat_lt tally.1 100 then Ok tally else Err TooManyBad
few_bad (Err e) = Err NotRead

-- the sum of the numbers and the number of bad rows, if less than a hundred are bad
abbrev pub tally_of : List (Result ℕ RowFault) → Result (ℕ × ℕ) NoTally
tally_of l = few_bad (folded (λ e. e) (λ tally row. Ok (row_more tally row)) (0, 0) (recovered instead_of_row (stopped_after 100 (mapped (λ x. Ok (Some x)) l))))
