-- The number that is left is the first of what is shown.
use Rattle.std.specs.Prelude.{◌≡◌, ℕ, suc, Some, None, Ok}
use Rattle.std.proofs.Common.{refl, arith}
use Rattle.fallible_iterator.specs.Showing.{TakesShown}
use Rattle.example_by_hand.specs.Down.{down_from}
use Rattle.example_by_hand.proofs.own.CountdownFallibleIterator.next.Goals as goal

-- an end of a countdown from 0, and otherwise its number
ends_at : (n : ℕ) → n ≡ 0 → TakesShown (down_from n) (Ok None) (down_from n)
unfolding down_from
ends_at n e = rw e (refl, refl)

goes_down : (n k : ℕ) → n ≡ suc k → TakesShown (down_from n) (Ok (Some n)) (down_from k)
unfolding down_from
goes_down n k e = rw e (refl, refl)

pub returns-then-self-eq0 : goal.returns-then-self-eq0
returns-then-self-eq0 c = ends_at _ (omega arith)

pub returns : goal.returns
returns c = goes_down _ _ (omega arith)
