-- What a count says of the list that was counted.
use Rattle.std.specs.Prelude.{◌≡◌, ℕ, ◌+◌, ◌-◌, ◌^◌, ◌≤◌, min, List, [], ◌∷◌, length, Result, Ok, Err}
use Rattle.std.proofs.Common.{refl, sym, ap, arith}
use Rattle.fallible_iterator.specs.Lists.{before, collected, counted, folded, one_more_than}
use Rattle.fallible_elf.specs.declared.fault.ElfFault.{ElfFault}

one_less : (r : Result ℕ ElfFault) (n : ℕ) → one_more_than r ≡ Ok n → (m : ℕ) × (r ≡ Ok m) × (n ≡ m + 1)
one_less (Ok m) n e = (m, refl, (let same : m + 1 ≡ n = cc in sym same))
one_less (Err f) n e = absurd (cc)

failure_of_one_more : (r : Result ℕ ElfFault) (f : ElfFault) → one_more_than r ≡ Err f → r ≡ Err f
failure_of_one_more (Ok m) f e = absurd (cc)
failure_of_one_more (Err g) f e = cc

module _ {A : Type 0} where
  -- a list whose first item was put before the others
  pub collected_after : (x : A) (r : Result (List A) ElfFault) (xs : List A) → before x r ≡ Ok xs → (ys : List A) × (r ≡ Ok ys) × (xs ≡ x ∷ ys)
  collected_after x (Ok ys) xs e = let same : x ∷ ys ≡ xs = cc in (ys, refl, sym same)
  collected_after x (Err f) xs e = absurd (cc)

  -- ---- a count

  pub collected_where_counted : (l : List (Result A ElfFault)) (n : ℕ) → counted l ≡ Ok n → (xs : List A) × (collected l ≡ Ok xs) × (n ≡ length xs)
  unfolding counted collected
  collected_where_counted [] n e = ([], refl, (let same : 0 ≡ n = cc in sym same))
  collected_where_counted (Ok x ∷ l) n e =
      let less = one_less (counted l) n e in
      let rest = collected_where_counted l less.0 less.1 in
      (x ∷ rest.0, ap (before x) rest.1, omega (arith, less.2, rest.2))
  collected_where_counted (Err f ∷ l) n e = absurd (cc)

  pub collected_failure_where_counted : (l : List (Result A ElfFault)) (f : ElfFault) → counted l ≡ Err f → collected l ≡ Err f
  unfolding counted collected
  collected_failure_where_counted [] f e = absurd (cc)
  collected_failure_where_counted (Ok x ∷ l) f e = ap (before x) (collected_failure_where_counted l f (failure_of_one_more (counted l) f e))
  collected_failure_where_counted (Err g ∷ l) f e = cc

  -- ---- a count up to a most

  pub collected_where_saturating_count_from : (b : ℕ) (l : List (Result A ElfFault)) (n : ℕ) → b ≤ 2 ^ 64 - 1 → folded (λ e. e) (λ n _. Ok (min (n + 1) (2 ^ 64 - 1))) b l ≡ Ok n → (xs : List A) × (collected l ≡ Ok xs) × (n ≡ min (b + length xs) (2 ^ 64 - 1))
  unfolding folded collected
  collected_where_saturating_count_from b [] n small e = let same : b ≡ n = cc in ([], refl, omega (arith, small, same))
  collected_where_saturating_count_from b (Ok x ∷ l) n small e =
      let rest = collected_where_saturating_count_from (min (b + 1) (2 ^ 64 - 1)) l n (omega arith) e in
      (x ∷ rest.0, ap (before x) rest.1, omega (arith, small, rest.2))
  collected_where_saturating_count_from b (Err f ∷ l) n small e = absurd (cc)

  pub collected_where_saturating_count : (l : List (Result A ElfFault)) (n : ℕ) → folded (λ e. e) (λ n _. Ok (min (n + 1) (2 ^ 64 - 1))) 0 l ≡ Ok n → (xs : List A) × (collected l ≡ Ok xs)
  collected_where_saturating_count l n e = let all = collected_where_saturating_count_from 0 l n (omega arith) e in (all.0, all.1)

  -- where it is below the most
  pub collected_below_saturation : (l : List (Result A ElfFault)) (n : ℕ) → folded (λ e. e) (λ n _. Ok (min (n + 1) (2 ^ 64 - 1))) 0 l ≡ Ok n → (n ≡ 2 ^ 64 - 1 → ⊥) → (xs : List A) × (collected l ≡ Ok xs) × (n ≡ length xs)
  collected_below_saturation l n e below = let all = collected_where_saturating_count_from 0 l n (omega arith) e in (all.0, all.1, omega (arith, all.2, below))

  pub collected_failure_of_saturating_count : (b : ℕ) (l : List (Result A ElfFault)) (f : ElfFault) → folded (λ e. e) (λ n _. Ok (min (n + 1) (2 ^ 64 - 1))) b l ≡ Err f → collected l ≡ Err f
  unfolding folded collected
  collected_failure_of_saturating_count b [] f e = absurd (cc)
  collected_failure_of_saturating_count b (Ok x ∷ l) f e = ap (before x) (collected_failure_of_saturating_count (min (b + 1) (2 ^ 64 - 1)) l f e)
  collected_failure_of_saturating_count b (Err g ∷ l) f e = cc
