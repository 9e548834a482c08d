-- What one number more, and the one after it, make of how often a number is above the one before it.
use Rattle.std.specs.Prelude.{◌≡◌, ℕ, ◌+◌, ◌%◌, ◌^◌, List, ◌∷◌, Result, Ok, Err, true, false, nat_lt, length, filter, cond}
use Rattle.std.specs.List.{zip}
use Rattle.std.proofs.Common.{refl, ap, arith, ◌∙◌}
use Rattle.std.proofs.Math.Nat.{mod-add-mod}
use Rattle.fallible_iterator.specs.Lists.{collected, before, on_value}
use Rattle.example_chains.specs.Rises.{rises_among, risen_from}

module _ (x y : ℕ) where
  rises_among_above : (xs : List ℕ) → nat_lt x y ≡ true → rises_among (x ∷ y ∷ xs) ≡ 1 + rises_among (y ∷ xs)
  rises_among_above xs h = ap (λ b. length (cond b ((x, y) ∷ filter (λ p. nat_lt p.0 p.1) (zip (y ∷ xs) xs)) (filter (λ p. nat_lt p.0 p.1) (zip (y ∷ xs) xs)))) h ∙ omega arith

  rises_among_not_above : (xs : List ℕ) → nat_lt x y ≡ false → rises_among (x ∷ y ∷ xs) ≡ rises_among (y ∷ xs)
  rises_among_not_above xs h = ap (λ b. length (cond b ((x, y) ∷ filter (λ p. nat_lt p.0 p.1) (zip (y ∷ xs) xs)) (filter (λ p. nat_lt p.0 p.1) (zip (y ∷ xs) xs)))) h

module _ {E : Type 0} (n x y : ℕ) where
  on_value_where_above : (r : Result (List ℕ) E) → nat_lt x y ≡ true → on_value (before x (before y r)) (λ xs. Ok ((n + rises_among xs) % 2 ^ 64)) ≡ on_value (before y r) (λ xs. Ok (((n + 1) % 2 ^ 64 + rises_among xs) % 2 ^ 64))
  on_value_where_above (Err e) h = refl
  on_value_where_above (Ok xs) h = ap (λ k. Ok k) (let e = rises_among_above x y xs h in let m = mod-add-mod (n + 1) (2 ^ 64) (rises_among (y ∷ xs)) in grind arith)

  on_value_where_not_above : (r : Result (List ℕ) E) → nat_lt x y ≡ false → on_value (before x (before y r)) (λ xs. Ok ((n + rises_among xs) % 2 ^ 64)) ≡ on_value (before y r) (λ xs. Ok ((n + rises_among xs) % 2 ^ 64))
  on_value_where_not_above (Err e) h = refl
  on_value_where_not_above (Ok xs) h = ap (λ k. Ok ((n + k) % 2 ^ 64)) (rises_among_not_above x y xs h)

-- the item y after x, where it is greater, and where it isn't
pub risen_from_above : {E : Type 0} (n x y : ℕ) (l : List (Result ℕ E)) → nat_lt x y ≡ true → risen_from n (Ok x ∷ Ok y ∷ l) ≡ risen_from ((n + 1) % 2 ^ 64) (Ok y ∷ l)
unfolding collected
risen_from_above n x y l h = on_value_where_above n x y (collected l) h

pub risen_from_not_above : {E : Type 0} (n x y : ℕ) (l : List (Result ℕ E)) → nat_lt x y ≡ false → risen_from n (Ok x ∷ Ok y ∷ l) ≡ risen_from n (Ok y ∷ l)
unfolding collected
risen_from_not_above n x y l h = on_value_where_not_above n x y (collected l) h
