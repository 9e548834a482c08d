-- What is listed where a clone may fail to allocate.
use Rattle.std.specs.Prelude.{◌≡◌, Some, None, Result, Ok, Err, List, [], ◌∷◌, ◌⊎◌}
use Rattle.fallible_contract.specs.Traces.{Answered, end}
use Rattle.std.specs.declared.alloc.AllocError.{AllocError}

-- the failure is converted from an `AllocError`
abbrev pub IsRefusal : {E : Type 0} → (AllocError → E → Type 0) → E → Type 0
IsRefusal from e = (a : AllocError) × from a e

-- the answer is a failure that is converted from an `AllocError`
abbrev pub AnswersRefusal : {B E : Type 0} → (AllocError → E → Type 0) → Answered B E → Type 0
AnswersRefusal {E = E} from r = (e : E) × (r ≡ Err e) × IsRefusal from e

module _ {X B E : Type 0} (made : X → B → Type 0) where
  -- the answer is the list's: a value that is made of the item, or the same failure
  abbrev pub IsMadeOf : Result X E → Answered B E → Type 0
  IsMadeOf (Ok x) (Ok (Some y)) = made x y
  IsMadeOf (Ok x) (Ok None) = ⊥
  IsMadeOf (Ok x) (Err e) = ⊥
  IsMadeOf (Err d) r = r ≡ Err d

  module _ {S : Type 0} (steps : S → Answered B E → S → Type 0) (from : AllocError → E → Type 0) where
    -- Whatever is drawn from s, the answers are those of the list, in order, with values made of its items, and then an end. In the place of one of the list's an allocation failure may stand; what comes after it isn't stated.
    abbrev pub GivesUntilRefused : S → List (Result X E) → Type 0
    GivesUntilRefused s [] = (r : Answered B E) (t : S) → steps s r t → r ≡ end
    GivesUntilRefused s (y ∷ l) = (r : Answered B E) (t : S) → steps s r t → AnswersRefusal from r ⊎ (IsMadeOf y r × GivesUntilRefused t l)

    -- The answers of s, up to its first end or allocation failure, list l, with values made of its items; or its beginning where they end with that failure, which stands in the place of one of the list's.
    pub record ListsUntilRefused (s : S) (l : List (Result X E)) : Type 0 where
      pub runs : GivesUntilRefused s l
