-- What makes a hint sound.
use Rattle.std.specs.Prelude.{◌≡◌, ℕ, ◌≤◌, List, [], length, Option, Result, IfSome}
use Rattle.fallible_contract.specs.Contract.{Contract}
use Rattle.fallible_contract.specs.BothEnds.{items_listed, failures_listed}
pub use Rattle.fallible_contract.specs.Sound.{BoundsAbove, BoundsBelow, Brackets}

module _ {S A E : Type 0} (m : Contract S A E) (s : S) where
  -- Each hint that s may return brackets what comes from s.
  abbrev pub SoundHints : Type 0
  SoundHints = (h : ℕ × Option ℕ) → m.hints s h → Brackets m.steps s h

-- The hint bounds the list: its upper bound is at least the number of items in the list, and where the list has no failure its lower bound is at most that number.
pub record Bounds {A E : Type 0} (hint : ℕ × Option ℕ) (l : List (Result A E)) : Type 0 where
  pub above : IfSome hint.1 (λ n. length (items_listed l) ≤ n)
  pub below : failures_listed l ≡ [] → hint.0 ≤ length l
