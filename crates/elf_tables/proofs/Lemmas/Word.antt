-- The number that digits write, and the words.
use Rattle.std.specs.Prelude.{◌≡◌, ℕ, suc, ◌+◌, ◌*◌, ◌^◌, ◌<◌, ◌≤◌, List, ◌∷◌, length, drop, Some, None}
use Rattle.std.proofs.Common.{refl, ap, ◌∙◌, get_or, drop-cons, arith}
use Rattle.std.proofs.lemmas.Bool.{lt-ltb, le-ltb}
use Rattle.std.proofs.lemmas.List.{drop_all}
use Rattle.elf_tables.specs.Words.{hex_digit, number_after}

module _ (digits : List ℕ) (k n d : ℕ) where
  first_left : k < length digits → drop k digits ≡ get_or digits k d ∷ drop (k + 1) digits
  first_left below = let next : suc k ≡ k + 1 = omega arith in drop-cons digits k d below ∙ ap (λ j. get_or digits k d ∷ drop j digits) next

  -- a digit more
  pub number_after_digit : (digit : ℕ) → k < length digits → hex_digit (get_or digits k d) ≡ Some digit → n < 2 ^ 60 → number_after n (drop k digits) ≡ number_after (n * 16 + digit) (drop (k + 1) digits)
  unfolding number_after
  number_after_digit digit below is room = rw (first_left below, is, lt-ltb _ _ room) refl

  -- no room for one more
  pub number_without_room : (digit : ℕ) → k < length digits → hex_digit (get_or digits k d) ≡ Some digit → 2 ^ 60 ≤ n → number_after n (drop k digits) ≡ None
  unfolding number_after
  number_without_room digit below is large = rw (first_left below, is, le-ltb _ _ large) refl

  -- a byte that is no digit
  pub number_at_other : k < length digits → hex_digit (get_or digits k d) ≡ None → number_after n (drop k digits) ≡ None
  unfolding number_after
  number_at_other below is = rw (first_left below, is) refl

-- after the last one
pub number_at_end : (digits : List ℕ) (k n : ℕ) → length digits ≤ k → number_after n (drop k digits) ≡ Some n
unfolding number_after
number_at_end digits k n past = rw (drop_all k digits past) refl
