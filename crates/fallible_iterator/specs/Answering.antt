-- What draws from the ends that sides name tell of a list, and what they leave of it.
use Rattle.std.specs.Prelude.{ℕ, zero, suc, ◌-◌, Result, List, [], ◌∷◌, ◌++◌, length, map, reverse, take, drop}
use Rattle.fallible_contract.specs.ShownTraces.{answer_of}
use Rattle.fallible_contract.specs.Lists.{result_answer}
use Rattle.fallible_contract.specs.declared.answers.Answer.{Answer}
use Rattle.fallible_contract.specs.declared.answers.Answer.TheVariants.{End}
use Rattle.fallible_contract.specs.declared.answers.Side.{Side}
use Rattle.fallible_contract.specs.declared.answers.Side.TheVariants.{Front, Back}

-- how many of the sides are the front
abbrev pub fronts : List Side → ℕ
fronts [] = zero
fronts (Front ∷ sides) = suc (fronts sides)
fronts (Back ∷ sides) = fronts sides

-- how many of them are the back
abbrev pub backs : List Side → ℕ
backs [] = zero
backs (Front ∷ sides) = backs sides
backs (Back ∷ sides) = suc (backs sides)

-- each result of a list, told as an answer
unfoldable pub told : {A E : Type 0} → List (Result A E) → List (Answer A E)
told [] = []
told (y ∷ l) = answer_of (result_answer y) ∷ told l

-- In the order of the sides: the next of the first list for a front, the next of the second for a back, and an end where that list has no more.
unfoldable pub by_sides : {A E : Type 0} → List Side → List (Answer A E) → List (Answer A E) → List (Answer A E)
by_sides [] a b = []
by_sides (Front ∷ sides) [] b = End ∷ by_sides sides [] b
by_sides (Front ∷ sides) (x ∷ a) b = x ∷ by_sides sides a b
by_sides (Back ∷ sides) a [] = End ∷ by_sides sides a []
by_sides (Back ∷ sides) a (x ∷ b) = x ∷ by_sides sides a b

-- What is returned: for as many sides as the list has results, those of the list in order at the front, and those of the list reversed at the back; then ends.
unfoldable pub answers_at_ends : {A E : Type 0} → List Side → List (Result A E) → List (Answer A E)
answers_at_ends sides l = by_sides (take (length l) sides) (told l) (told (reverse l)) ++ map (λ _. End) (drop (length l) sides)

-- What is left: the list without as many at its front as sides are the front, and without as many at its back as sides are the back.
unfoldable pub rest_ends : {A E : Type 0} → List Side → List (Result A E) → List (Result A E)
rest_ends sides l = drop (fronts sides) (take (length l - backs sides) l)
