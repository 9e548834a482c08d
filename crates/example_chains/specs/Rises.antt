-- How often a number is above the one before it.
use Rattle.std.specs.Prelude.{ℕ, ◌+◌, ◌%◌, ◌^◌, List, Result, Ok, length, drop, filter, nat_lt}
use Rattle.std.specs.List.{zip}
use Rattle.fallible_iterator.specs.Lists.{collected, on_value}

-- how many numbers are greater than the one just before: of each number beside the next, how often the next is greater
abbrev pub rises_among : List ℕ → ℕ
rises_among xs = length (filter (λ p. nat_lt p.0 p.1) (zip xs (drop 1 xs)))

-- n and how often an item is greater than the one before it, modulo 2 ^ 64; or the first failure
abbrev pub risen_from : {E : Type 0} → ℕ → List (Result ℕ E) → Result ℕ E
risen_from n l = on_value (collected l) (λ xs. Ok ((n + rises_among xs) % 2 ^ 64))

-- how often an item is greater than the one before it, modulo 2 ^ 64; or the first failure
abbrev pub risen : {E : Type 0} → List (Result ℕ E) → Result ℕ E
risen l = risen_from 0 l
