-- Values that are made of items, each of which may fail to allocate.
use Rattle.std.specs.Prelude.{◌≡◌, ℕ, Option, Some, None, Result, Ok, Err, List, [], ◌∷◌, ⊤, ◌⊎◌}
use Rattle.fallible_contract.specs.Traces.{Answered, end}
use Rattle.fallible_contract.specs.Lists.{collected}
pub use Rattle.fallible_core.specs.Refusing.{AnswersRefusal, IsMadeOf, IsRefusal}
use Rattle.std.specs.declared.alloc.AllocError.{AllocError}
use Rattle.fallible_contract.specs.declared.collecting.Fault.{Fault}
use Rattle.fallible_contract.specs.declared.collecting.Fault.TheVariants.{Source, Memory}

-- ---- what is listed up to an allocation failure

-- whatever is drawn from s next, it is such a failure
abbrev pub RefusesNext : {S B E : Type 0} → (S → Answered B E → S → Type 0) → (AllocError → E → Type 0) → S → Type 0
RefusesNext {S} {B} {E} steps from s = (r : Answered B E) (t : S) → steps s r t → AnswersRefusal from r

module _ {X B E : Type 0} (made : X → B → Type 0) where
  module _ {S : Type 0} (steps : S → Answered B E → S → Type 0) (from : AllocError → E → Type 0) where
    -- The answer is an allocation failure. Or it is a buffered value, made of some x of which nothing else is said, and the next answer is an allocation failure.
    abbrev pub AtRefusal : Answered B E → S → Type 0
    AtRefusal r t = AnswersRefusal from r ⊎ ((x : X) × (y : B) × made x y × (r ≡ Ok (Some y)) × RefusesNext steps from t)

    -- Whatever is drawn from s, the answers are those of the list, in order, with values made of its items, and then an end. That holds up to an allocation failure and what was buffered before it, which may also stand in the place of the end. What comes after an allocation failure isn't stated.
    abbrev pub GivesMade : S → List (Result X E) → Type 0
    GivesMade s [] = (r : Answered B E) (t : S) → steps s r t → AtRefusal r t ⊎ (r ≡ end)
    GivesMade s (y ∷ l) = (r : Answered B E) (t : S) → steps s r t → AtRefusal r t ⊎ (IsMadeOf made y r × GivesMade t l)

    -- The answers of s, up to its first end, list l, with values made of its items; up to an allocation failure and what was buffered before it.
    pub record ListsMade (s : S) (l : List (Result X E)) : Type 0 where
      pub runs : GivesMade s l

-- ---- a closure that makes values

module _ {V B E : Type 0} (made : V → B → Type 0) (from : AllocError → E → Type 0) where
  -- The answer is the given one: a value made of the given one, or that failure; or it is an allocation failure.
  abbrev pub IsToldOrRefused : Result V E → Result B E → Type 0
  IsToldOrRefused (Ok v) (Ok y) = made v y
  IsToldOrRefused (Err d) (Ok y) = ⊥
  IsToldOrRefused (Ok v) (Err e) = IsRefusal from e
  IsToldOrRefused (Err d) (Err e) = (e ≡ d) ⊎ IsRefusal from e

  -- The closure f acts as the function h up to an allocation failure: called on x it returns a value made of the one that h x is, or the failure that h x is, or an allocation failure; and it stays as it is.
  abbrev pub Makes : {F X : Type 0} → (F → X → Result B E → F → Type 0) → F → (X → Result V E) → Type 0
  Makes {F} {X} call f h = (x : X) (r : Result B E) (g : F) → call f x r g → (g ≡ f) × IsToldOrRefused (h x) r

-- The closure f acts as the function h on values: called on one that is made of x it returns a value made of h x, or an allocation failure; and it stays as it is.
abbrev pub MakesOf : {X B Y C E F : Type 0} → (X → B → Type 0) → (Y → C → Type 0) → (AllocError → E → Type 0) → (F → B → Result C E → F → Type 0) → F → (X → Y) → Type 0
MakesOf {X} {B} {Y} {C} {E} {F} of made from call f h = (x : X) (y : B) (r : Result C E) (g : F) → of x y → call f y r g → (g ≡ f) × IsToldOrRefused made from (Ok (h x)) r

-- The value is made of the given one, or there is neither.
abbrev pub OptionMade : {Y C : Type 0} → (Y → C → Type 0) → Option Y → Option C → Type 0
OptionMade made (Some y) (Some c) = made y c
OptionMade made (Some y) None = ⊥
OptionMade made None (Some c) = ⊥
OptionMade made None None = ⊤

-- The number is the given one, and the value beside it is made of the given one.
abbrev pub NumberedMade : {X B : Type 0} → (X → B → Type 0) → ℕ × X → ℕ × B → Type 0
NumberedMade made p q = (q.0 ≡ p.0) × made p.1 q.1

-- The same of a closure on the value so far and an item: where they are made of d and x it returns a value made of h d x, or an allocation failure.
abbrev pub MakesWith : {X B D C E F : Type 0} → (X → B → Type 0) → (D → C → Type 0) → (AllocError → E → Type 0) → (F → C → B → Result C E → F → Type 0) → F → (D → X → D) → Type 0
MakesWith {X} {B} {D} {C} {E} {F} of made from call f h = (d : D) (c : C) (x : X) (y : B) (r : Result C E) (g : F) → made d c → of x y → call f c y r g → (g ≡ f) × IsToldOrRefused made from (Ok (h d x)) r

-- Each value is made of the item at its place.
abbrev pub EachMade : {V B : Type 0} → (V → B → Type 0) → List V → List B → Type 0
EachMade made [] [] = ⊤
EachMade made [] (y ∷ ys) = ⊥
EachMade made (v ∷ vs) [] = ⊥
EachMade made (v ∷ vs) (y ∷ ys) = made v y × EachMade made vs ys

-- What `collect` returns over what lists made values: the collection of values that are made of the list's items; the list's first failure, or an allocation failure of the source; or one of the collection, which says nothing of the list.
abbrev pub CollectedMade : {V B E C : Type 0} → (V → B → Type 0) → (AllocError → E → Type 0) → (List B → C → Type 0) → List (Result V E) → Result C (Fault E) → Type 0
CollectedMade {V} {B} made from into l (Ok c) = (vs : List V) × (ys : List B) × (collected l ≡ Ok vs) × EachMade made vs ys × into ys c
CollectedMade made from into l (Err (Source e)) = (collected l ≡ Err e) ⊎ IsRefusal from e
CollectedMade made from into l (Err (Memory a)) = ⊤

-- What a consumer returns over what lists made values, if its result over the list is given and says nothing of the values: that result, or an allocation failure.
abbrev pub SameOrRefused : {R E : Type 0} → (AllocError → E → Type 0) → Result R E → Result R E → Type 0
SameOrRefused from told r = IsToldOrRefused (λ v y. y ≡ v) from told r
