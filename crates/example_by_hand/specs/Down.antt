-- A countdown.
use Rattle.std.specs.Prelude.{ℕ, zero, suc, Result, Ok, List, [], ◌∷◌}
use Rattle.example_by_hand.specs.declared.own.Countdown.{Countdown}

-- the numbers from n down to 1, each an item
unfoldable pub down_from : ℕ → List (Result ℕ ℕ)
down_from zero = []
down_from (suc n) = Ok (suc n) ∷ down_from n

-- what a countdown shows: the numbers that are left
abbrev pub counts_down : Countdown → List (Result ℕ ℕ)
counts_down s = down_from s.left

-- the countdown from n
abbrev pub counting_from : ℕ → Countdown
counting_from n = record { left = n }
