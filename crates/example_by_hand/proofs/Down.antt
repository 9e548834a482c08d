-- How many numbers a countdown yields.
use Rattle.std.specs.Prelude.{◌≡◌, ℕ, zero, suc, length}
use Rattle.std.proofs.Common.{refl, ap}
use Rattle.example_by_hand.specs.Down.{down_from}

pub length_down : (n : ℕ) → length (down_from n) ≡ n
unfolding down_from
length_down zero = refl
length_down (suc n) = ap suc (length_down n)
