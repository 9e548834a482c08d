-- Numbers between two.
use Rattle.std.specs.Prelude.{ℕ, ◌-◌, List, Result}
use Rattle.std.specs.List.{range_with_len}
use Rattle.fallible_iterator.specs.Lists.{items}
use Rattle.example_by_hand.specs.declared.own.Between.{Between}

-- the numbers from low to below high, each an item
abbrev pub numbers_between : ℕ → ℕ → List (Result ℕ ℕ)
numbers_between low high = items (range_with_len low (high - low))

-- what is shown: the numbers that are left
abbrev pub shows_between : Between → List (Result ℕ ℕ)
shows_between s = numbers_between s.low s.high
