-- Types of one's own with two ends whose values show what they list.
use Rattle.std.specs.Prelude.{Result, List, reverse}
use Rattle.fallible_contract.specs.Ends.{Ends, counted_ends}
use Rattle.fallible_contract.specs.Showing.{TakesShown, TakesAllShown}

-- The second end of a type whose value shows, by `shows`, the answers that it lists: each draw from the back takes the last of them.
abbrev pub listing_ends : {S A E : Type 0} → (S → List (Result A E)) → Ends S A E
listing_ends shows = record (counted_ends (λ s r t. TakesShown (reverse (shows s)) r (reverse (shows t)))) { traces = TakesAllShown (λ s. reverse (shows s)) }
