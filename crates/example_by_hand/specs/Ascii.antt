-- Bytes in memory, each below 128.
use Rattle.std.specs.Prelude.{ℕ, List, map, drop, Result, Ok, Err, nat_lt, if◌then◌else◌}
use Rattle.example_by_hand.specs.declared.ascii.Ascii.{Ascii}

-- a byte below 128 is an item, and another one a failure
abbrev pub ascii : ℕ → Result ℕ ℕ
ascii byte = if nat_lt byte 128 then Ok byte else Err byte

-- what is shown: the bytes that are left
abbrev pub shows_ascii : Ascii → List (Result ℕ ℕ)
shows_ascii s = map ascii (drop s.place s.bytes.now)
