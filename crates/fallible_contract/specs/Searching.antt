-- Searches: a closure is called on the items in order, until it decides.
use Rattle.std.specs.Prelude.{◌≡◌, ℕ, ◌+◌, length, List, Bool, true, false, Option, Some, None, Result, Ok, Err}
use Rattle.std.specs.List.{FoldsTo}
use Rattle.fallible_contract.specs.Traces.{Answered}
use Rattle.fallible_contract.specs.Folds.{Drained, HoldsAtEachTurn, stopped_answer}
use Rattle.std.specs.declared.ops.ControlFlow.{ControlFlow}
use Rattle.std.specs.declared.ops.ControlFlow.TheVariants.{Continue, Break}

-- ---- what each search picks: `pick n x v` is its result if the closure returns v for x, the item with n items before it, and none if it goes on

-- `all` goes on if the predicate is true, and returns false if it isn't
abbrev pub all_pick : {A : Type 0} → ℕ → A → Bool → Option Bool
all_pick n x true = None
all_pick n x false = Some false

-- `any` goes on if the predicate is false, and returns true if it isn't
abbrev pub any_pick : {A : Type 0} → ℕ → A → Bool → Option Bool
any_pick n x true = Some true
any_pick n x false = None

-- `find_map` returns the first value that the closure returns
abbrev pub find_map_pick : {A B : Type 0} → ℕ → A → Option B → Option (Option B)
find_map_pick n x (Some y) = Some (Some y)
find_map_pick n x None = None

-- `find` returns the first item for which the predicate is true
abbrev pub find_pick : {A : Type 0} → ℕ → A → Bool → Option (Option A)
find_pick n x true = Some (Some x)
find_pick n x false = None

-- `position` returns how many items stand before the first for which the predicate is true
abbrev pub position_pick : {A : Type 0} → ℕ → A → Bool → Option (Option ℕ)
position_pick n x true = Some (Some n)
position_pick n x false = None

-- `for_each` goes on at each item
abbrev pub for_each_pick : {A : Type 0} → ℕ → A → Unit {0} → Option (Unit {0})
for_each_pick n x u = None

module _ {A E F V R : Type 0} (call : F → A → Result V E → F → Type 0) (pick : ℕ → A → V → Option R) where
  -- One call of the closure, after which the search goes on, whatever number of items came before.
  abbrev pub WentOn : F → A → F → Type 0
  WentOn f x g = (v : V) × call f x (Ok v) g × ((n : ℕ) → pick n x v ≡ None)

  -- One call of the closure, which decides with n items before: the answer is what is picked, or the closure's failure.
  abbrev pub SearchDecides : ℕ → F → A → Result R E → F → Type 0
  SearchDecides n f x (Ok z) g = (v : V) × call f x (Ok v) g × (pick n x v ≡ Some z)
  SearchDecides n f x (Err e) g = call f x (Err e) g

  -- one call, as the turn of a fold whose state is the closure
  abbrev pub IsSearchTurn : F → A → ControlFlow (Result R E) (Unit {0}) → F → Type 0
  IsSearchTurn f x (Continue u) g = WentOn f x g
  IsSearchTurn f x (Break r) g = (n : ℕ) → SearchDecides n f x r g

  -- one call, as the turn of a fold whose state is the number of items before, and the closure
  abbrev pub IsPositionTurn : ℕ × F → A → ControlFlow (Result R E) (Unit {0}) → ℕ × F → Type 0
  IsPositionTurn p x (Continue u) q = (q.0 ≡ p.0 + 1) × WentOn p.1 x q.1
  IsPositionTurn p x (Break r) q = SearchDecides p.0 p.1 x r q.1

  -- The answer r by the last draw, with n items before it: `none` at an end; the failure; what the closure decided on the item. It leaves the closure as g.
  abbrev pub SearchExit : R → ℕ → F → Answered A E → Result R E → F → Type 0
  SearchExit none n f (Ok None) r g = (r ≡ Ok none) × (g ≡ f)
  SearchExit none n f (Err e) r g = (r ≡ Err e) × (g ≡ f)
  SearchExit none n f (Ok (Some x)) r g = SearchDecides n f x r g

  -- The closure was called on the items in order, and the search went on. Then came the last answer: an end, a failure, or an item on which the closure decided or failed. The calls left g.
  pub record SearchedBy (none : R) (f : F) (r : Result R E) (g : F) (items : List A) (last : Answered A E) : Type 0 where
    pub closure : F
    pub went : FoldsTo WentOn f items closure
    pub exit : SearchExit none (length items) closure last r g

  module _ {S : Type 0} (steps : S → Answered A E → S → Type 0) where
    -- the closure may be called on each item that may come after items on which the search goes on
    abbrev pub CallableInSearch : (F → A → Type 0) → S → F → Type 0
    CallableInSearch takes s f = HoldsAtEachTurn steps WentOn takes s f

    -- The draws from s returned items and a last answer, and left t, by which the search with f returns r and leaves it as g.
    abbrev pub SearchDrains : R → S → F → Result R E → S → F → Type 0
    SearchDrains none s f r t g = Drained steps (SearchedBy none f r g) s t

-- what a search returns, from what its fold returned, which stops with the search's result
abbrev pub search_answer : {E R : Type 0} → R → Answered (Result R E) E → Result R E
search_answer none (Ok None) = Ok none
search_answer none (Err e) = Err e
search_answer none (Ok (Some r)) = r

-- what `find` returns, from what its fold returned, which stops with the item or the failure of the test
abbrev pub find_answer : {A E : Type 0} → Answered (Result A E) E → Answered A E
find_answer (Ok None) = Ok None
find_answer (Err e) = Err e
find_answer (Ok (Some stop)) = stopped_answer stop

-- One test, as the turn of the fold that `find` is: the test goes on, or it stops the fold with the item, or with its failure.
abbrev pub IsFindTurn : {A E C : Type 0} → (C → A → Result Bool E → C → Type 0) → C → A → ControlFlow (Result A E) (Unit {0}) → C → Type 0
IsFindTurn tests c x (Continue u) d = WentOn tests find_pick c x d
IsFindTurn tests c x (Break stop) d = (n : ℕ) → SearchDecides tests find_pick n c x (stopped_answer stop) d
