-- Traces as values.
use Rattle.std.specs.Prelude.{◌≡◌, ℕ, List, [], ◌∷◌, map, length, Result, Some, None, Ok, Err}
use Rattle.fallible_contract.specs.Traces.{Answered, Run}
use Rattle.fallible_contract.specs.Lists.{result_answer}
use Rattle.fallible_contract.specs.BothEnds.{RunAtEnds}
use Rattle.fallible_contract.specs.declared.answers.Answer.{Answer}
use Rattle.fallible_contract.specs.declared.answers.Answer.TheVariants.{Item, Failure, End}
use Rattle.fallible_contract.specs.declared.answers.Side.{Side}

-- the answer that a value tells
abbrev pub answer_of : {A E : Type 0} → Answered A E → Answer A E
answer_of (Ok (Some x)) = Item x
answer_of (Ok None) = End
answer_of (Err e) = Failure e

-- The values are the answers of n draws from s, which left t.
pub record IsAnswers {S A E : Type 0} (steps : S → Answered A E → S → Type 0) (s : S) (n : ℕ) (values : List (Answer A E)) (t : S) : Type 0 where
  pub trace : List (Answered A E)
  pub ran : Run steps s trace t
  pub values_are : values ≡ map answer_of trace
  pub count : length trace ≡ n

-- The values are the answers of draws from s, one for each of the sides, from the end that it names, which left t.
pub record IsAnswersAt {S A E : Type 0} (front back : S → Answered A E → S → Type 0) (s : S) (sides : List Side) (values : List (Answer A E)) (t : S) : Type 0 where
  pub pairs : List (Side × Answered A E)
  pub ran : RunAtEnds front back s pairs t
  pub sides_are : map (λ p. p.0) pairs ≡ sides
  pub values_are : values ≡ map (λ p. answer_of p.1) pairs

-- the values that tell the answers of a list, and then one end
unfoldable pub answers_of : {A E : Type 0} → List (Result A E) → List (Answer A E)
answers_of [] = End ∷ []
answers_of (y ∷ l) = answer_of (result_answer y) ∷ answers_of l
