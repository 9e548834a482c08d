-- The countdown is the first of what is shown.
use Rattle.std.specs.Prelude.{◌≡◌, ℕ, suc, Some, None, Ok}
use Rattle.std.proofs.Common.{rules, refl, ap, arith}
use Rattle.fallible_iterator.specs.Lists.{repeated}
use Rattle.fallible_iterator.specs.Showing.{TakesShown}
use Rattle.example_by_hand.specs.Down.{counting_from}
use Rattle.example_by_hand.proofs.own.RoundsFallibleIterator.next.Goals as goal

module _ {A : Type 0} (E : Type 0) (x : A) where
  ends_at : (n : ℕ) → n ≡ 0 → TakesShown {E = E} (repeated n x) (Ok None) (repeated n x)
  unfolding repeated
  ends_at n e = rw e (refl, refl)

  goes_down : (n k : ℕ) (y : A) → n ≡ suc k → y ≡ x → TakesShown {E = E} (repeated n x) (Ok (Some y)) (repeated k x)
  unfolding repeated
  goes_down n k y e same = rw (e, same) (refl, refl)

pub returns-then-self-eq0 : goal.returns-then-self-eq0
returns-then-self-eq0 c = (ends_at _ _ _ (omega arith), tt)

pub returns : goal.returns
returns c = (goes_down _ _ _ _ _ (omega arith) (ap counting_from c.from-left.ensures), search rules)
