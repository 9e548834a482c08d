-- What `take` lists of a `Cycle`.
use Rattle.std.specs.Prelude.{ℕ, zero, suc, Result, Ok, List, [], ◌∷◌}

-- the first n of the items that are left of a round, and then of whole rounds of xs, one after another
unfoldable pub cycled_from : {A E : Type 0} → ℕ → List A → List A → List (Result A E)
cycled_from zero left xs = []
cycled_from (suc n) (x ∷ left) xs = Ok x ∷ cycled_from n left xs
cycled_from (suc n) [] [] = []
cycled_from (suc n) [] (x ∷ xs) = Ok x ∷ cycled_from n xs (x ∷ xs)

-- the first n of xs, xs, xs, ..: nothing where xs is empty
unfoldable pub cycled : {A E : Type 0} → ℕ → List A → List (Result A E)
cycled n xs = cycled_from n xs xs
