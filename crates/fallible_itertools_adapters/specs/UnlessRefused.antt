-- What is listed where an allocation failure may stand in the place of an answer, and of the end.
use Rattle.std.specs.Prelude.{◌≡◌, Result, List, [], ◌∷◌, ◌⊎◌}
use Rattle.fallible_iterator.specs.Traces.{Answered, end}
use Rattle.fallible_iterator.specs.Lists.{result_answer}
use Rattle.fallible_iterator.specs.Making.{AnswersRefusal}
use Rattle.std.specs.declared.alloc.AllocError.{AllocError}

module _ {S A E : Type 0} (steps : S → Answered A E → S → Type 0) (from : AllocError → E → Type 0) where
  -- Whatever is drawn from s, the answers are those of the list, in order, and then an end. An allocation failure may be in the place of any of these, and of the end; what comes after it isn't stated.
  abbrev pub GivesUnlessRefused : S → List (Result A E) → Type 0
  GivesUnlessRefused s [] = (r : Answered A E) (t : S) → steps s r t → AnswersRefusal from r ⊎ (r ≡ end)
  GivesUnlessRefused s (y ∷ l) = (r : Answered A E) (t : S) → steps s r t → AnswersRefusal from r ⊎ ((r ≡ result_answer y) × GivesUnlessRefused t l)

  -- The answers of s, up to its first end or allocation failure, list l, or its beginning where they end with that failure.
  pub record ListsUnlessRefused (s : S) (l : List (Result A E)) : Type 0 where
    pub runs : GivesUnlessRefused s l
