-- What counting returns and leaves.
use Rattle.std.specs.Prelude.{◌≡◌, ℕ, List, Option, Result, Ok, Err}
use Rattle.fallible_rows.specs.Report.{tally}
use Rattle.fallible_rows.specs.Run.{ReadsPrefix, IsRefusedAt, NoneRefusedYet}
use Rattle.fallible_rows.specs.declared.fault.RowFault.{RowFault}
use Rattle.fallible_rows.specs.declared.fault.RowFault.TheVariants.{Row, Read}

-- the prefix was read, and so many of its rows are above 100; or one of them is refused; or a read failed before
abbrev pub CountsPrefix : Option (List ℕ) → Option (List ℕ) → Result ℕ RowFault → Type 0
CountsPrefix unread unread' (Ok count) = (bytes : List ℕ) × ReadsPrefix unread unread' bytes × (tally bytes ≡ Ok count)
CountsPrefix unread unread' (Err (Row place)) = IsRefusedAt place unread unread'
CountsPrefix unread unread' (Err Read) = NoneRefusedYet unread unread'
