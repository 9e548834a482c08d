-- Runs of numbers.
use Rattle.std.specs.Prelude.{ℕ, ◌-◌, List, Result}
use Rattle.std.specs.List.{range_with_len}
use Rattle.fallible_iterator.specs.Sources.IntoFallible.{into_fallible_parts}
use Rattle.fallible_iterator.specs.Lists.{items}
use Rattle.std.specs.declared.ops.Range.{Range}
use Rattle.std.specs.declared.convert.Infallible.{Infallible}
use Rattle.fallible_iterator.specs.declared.sources.into_fallible.IntoFallible.{IntoFallible}

-- the range from 0 to n
abbrev pub below : ℕ → IntoFallible (Range ℕ)
below n = record { it = record { start = 0; end = n } }

-- the numbers that a range has left, each an item
abbrev pub numbers : IntoFallible (Range ℕ) → List (Result ℕ Infallible)
numbers s = items (range_with_len (into_fallible_parts s).start ((into_fallible_parts s).end - (into_fallible_parts s).start))
