-- Draws from both ends, and lists of what has two ends.
use Rattle.std.specs.Prelude.{◌≡◌, ℕ, zero, suc, ⊤, List, [], ◌∷◌, ◌++◌, map, reverse, Option, Result, Some, None, Ok, Err}
use Rattle.std.specs.List.{FoldsTo, filter_map}
use Rattle.fallible_contract.specs.Traces.{Answered, end}
use Rattle.fallible_contract.specs.Lists.{result_answer}
use Rattle.fallible_contract.specs.declared.answers.Side.{Side}
use Rattle.fallible_contract.specs.declared.answers.Side.TheVariants.{Front, Back}
use Rattle.fallible_contract.specs.declared.passing.Outcome.{Outcome}
use Rattle.fallible_contract.specs.declared.passing.Outcome.TheVariants.{Kept, LeftOut, Failure, End}

-- The answer r takes the first of the list, and P holds of the rest; where the list is empty it is an end, and P holds of the empty list.
abbrev pub TakesFirst : {A E : Type 0} → (List (Result A E) → Type 0) → Answered A E → List (Result A E) → Type 0
TakesFirst P r [] = (r ≡ end) × P []
TakesFirst P r (y ∷ l) = (r ≡ result_answer y) × P l

module _ {S A E : Type 0} (front back : S → Answered A E → S → Type 0) where
  -- one draw from the end that is named
  abbrev pub step_at : Side → S → Answered A E → S → Type 0
  step_at Front = front
  step_at Back = back

  -- From s, draws from the ends named, one after another, can return the answers beside them, and leave t.
  abbrev pub RunAtEnds : S → List (Side × Answered A E) → S → Type 0
  RunAtEnds s drawn t = FoldsTo (λ u d v. step_at d.0 u d.1 v) s drawn t

  -- For n draws: each draw from the front takes the first of the list, each draw from the back the first of the list reversed, and what is left lists the rest for n - 1 draws.
  abbrev pub ListsBothEndsFor : ℕ → S → List (Result A E) → Type 0
  ListsBothEndsFor zero s l = ⊤
  ListsBothEndsFor (suc n) s l = ((r : Answered A E) (t : S) → front s r t → TakesFirst (λ k. ListsBothEndsFor n t k) r l) × ((r : Answered A E) (t : S) → back s r t → TakesFirst (λ k. ListsBothEndsFor n t (reverse k)) r (reverse l))

  -- s lists l from both ends: for any number of draws.
  pub record ListsBothEnds (s : S) (l : List (Result A E)) : Type 0 where
    pub for : (n : ℕ) → ListsBothEndsFor n s l

-- draws from one side with these answers
abbrev pub from_side : {A E : Type 0} → Side → List (Answered A E) → List (Side × Answered A E)
from_side side trace = map (λ r. (side, r)) trace

-- the answers of draws from both sides, without the sides
abbrev pub answers_drawn : {A E : Type 0} → List (Side × Answered A E) → List (Answered A E)
answers_drawn drawn = map (λ d. d.1) drawn

-- an answer before those that came later from the same side; one that is an end is left out
abbrev pub answer_came : {A E : Type 0} → Answered A E → List (Result A E) → List (Result A E)
answer_came (Ok (Some x)) l = Ok x ∷ l
answer_came (Ok None) l = l
answer_came (Err e) l = Err e ∷ l

-- what came from the front, in its order, and what came from the back, in its order
abbrev pub came_from_front : {A E : Type 0} → List (Side × Answered A E) → List (Result A E)
came_from_front [] = []
came_from_front ((Front, r) ∷ drawn) = answer_came r (came_from_front drawn)
came_from_front ((Back, r) ∷ drawn) = came_from_front drawn

abbrev pub came_from_back : {A E : Type 0} → List (Side × Answered A E) → List (Result A E)
came_from_back [] = []
came_from_back ((Front, r) ∷ drawn) = came_from_back drawn
came_from_back ((Back, r) ∷ drawn) = answer_came r (came_from_back drawn)

-- What came from the front, what is left, and what came from the back, reversed, make the list; and `Ok(None)` was returned only where nothing was left.
pub record Interleaves {S A E : Type 0} (front back : S → Answered A E → S → Type 0) (l : List (Result A E)) (drawn : List (Side × Answered A E)) (t : S) : Type 0 where
  pub after : List (Result A E)
  pub lists_after : ListsBothEnds front back t after
  pub makes : l ≡ came_from_front drawn ++ after ++ reverse (came_from_back drawn)
  pub lists_before_end : (before after : List (Side × Answered A E)) (side : Side) → drawn ≡ before ++ (side, end) ∷ after → l ≡ came_from_front before ++ reverse (came_from_back before)

-- ---- what an adapter lists whose closure is called on each item

-- the items of a list, in order, and its failures
abbrev pub item_listed : {A E : Type 0} → Result A E → Option A
item_listed (Ok x) = Some x
item_listed (Err e) = None

abbrev pub items_listed : {A E : Type 0} → List (Result A E) → List A
items_listed l = filter_map item_listed l

abbrev pub failure_listed : {A E : Type 0} → Result A E → Option E
failure_listed (Ok x) = None
failure_listed (Err e) = Some e

abbrev pub failures_listed : {A E : Type 0} → List (Result A E) → List E
failures_listed l = filter_map failure_listed l

-- A list whose items stand each beside what a closure returns for it says both what a source lists and what an adapter makes of that. What the source lists: the items themselves, and the failures.
abbrev pub source_result : {X R E : Type 0} → Result (X × R) E → Result X E
source_result (Ok c) = Ok c.0
source_result (Err e) = Err e

abbrev pub source_list : {X R E : Type 0} → List (Result (X × R) E) → List (Result X E)
source_list asked = map source_result asked

-- what an outcome lists: the value that is kept, or the failure; nothing of an item that is left out, nor of an end
abbrev pub outcome_listed : {B E : Type 0} → Outcome B E → Option (Result B E)
outcome_listed (Kept y) = Some (Ok y)
outcome_listed LeftOut = None
outcome_listed (Failure e) = Some (Err e)
outcome_listed End = None

-- What the adapter lists: what becomes of each item by the closure's answer; failures pass.
abbrev pub passed_result : {X R B E : Type 0} → (X → R → Outcome B E) → Result (X × R) E → Option (Result B E)
passed_result outcome (Ok c) = outcome_listed (outcome c.0 c.1)
passed_result outcome (Err e) = Some (Err e)

abbrev pub passed_list : {X R B E : Type 0} → (X → R → Outcome B E) → List (Result (X × R) E) → List (Result B E)
passed_list outcome asked = filter_map (passed_result outcome) asked
