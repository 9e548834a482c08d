-- Countdowns, one after the other.
use Rattle.std.specs.Prelude.{ℕ, List, Result}
use Rattle.fallible_iterator.specs.Lists.{repeated}
use Rattle.example_by_hand.specs.Down.{counting_from}
use Rattle.example_by_hand.specs.declared.own.Countdown.{Countdown}
use Rattle.example_by_hand.specs.declared.own.Rounds.{Rounds}

-- what is shown: the countdowns that are left
abbrev pub shows_rounds : Rounds → List (Result Countdown ℕ)
shows_rounds s = repeated s.left (counting_from s.from)
