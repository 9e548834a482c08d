-- Lists that read the same from both ends.
use Rattle.std.specs.Prelude.{ℕ, ◌+◌, ◌/◌, zero, suc, eqb, cond, length, reverse, List, [], ◌∷◌, Result, Ok, Err, Bool, true, false}

-- whether the first n of both lists are equal, one by one, up to the first two that aren't; or the failure that comes first, of the first list before one of the second at the same place
unfoldable pub first_alike : {E : Type 0} → ℕ → List (Result ℕ E) → List (Result ℕ E) → Result Bool E
first_alike zero a b = Ok true
first_alike (suc n) [] b = Ok true
first_alike (suc n) (Err e ∷ a) b = Err e
first_alike (suc n) (Ok x ∷ a) [] = Ok true
first_alike (suc n) (Ok x ∷ a) (Err e ∷ b) = Err e
first_alike (suc n) (Ok x ∷ a) (Ok y ∷ b) = cond (eqb x y) (first_alike n a b) (Ok false)

-- whether the list reads the same from both ends: its first half, with what stands in the middle, and the first half of the list reversed are alike
unfoldable pub alike : {E : Type 0} → List (Result ℕ E) → Result Bool E
alike l = first_alike ((length l + 1) / 2) l (reverse l)
