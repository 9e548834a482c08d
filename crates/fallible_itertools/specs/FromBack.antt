-- What searches from the back return and leave.
use Rattle.std.specs.Prelude.{◌≡◌, ℕ, List, reverse, Bool, true, false, cond, Option, Some, None, Result, Ok, Err}
use Rattle.fallible_iterator.specs.Traces.{Answered}
use Rattle.fallible_iterator.specs.Folds.{CountedBy, Drained}
use Rattle.fallible_iterator.specs.Searching.{SearchDrains, any_pick}
use Rattle.fallible_iterator.specs.Comparing.{read_as}
use Rattle.fallible_iterator.specs.Lists.{on_value, any_of, counted, rest_true}
use Rattle.fallible_itertools.specs.Partition.{rest_failure}

-- If the search was true of an item, what is left is counted: the result is the number, or the failure. Otherwise nothing more is drawn.
abbrev pub CountedWhere : {S A E : Type 0} → (S → Answered A E → S → Type 0) → Result Bool E → S → Result (Option ℕ) E → S → Type 0
CountedWhere {E = E} steps (Ok true) s r t = (n : Result ℕ E) × Drained steps (CountedBy n) s t × (r ≡ read_as (λ k. Some k) n)
CountedWhere steps (Ok false) s r t = (r ≡ Ok None) × (t ≡ s)
CountedWhere steps (Err e) s r t = (r ≡ Err e) × (t ≡ s)

-- The predicate was called on the items from the back, up to the first for which it is true. Then what was left was counted from the front.
pub record PlacedFromBack {S A E F : Type 0} (front back : S → Answered A E → S → Type 0) (call : F → A → Result Bool E → F → Type 0) (s : S) (f : F) (r : Result (Option ℕ) E) (t : S) : Type 0 where
  pub found : Result Bool E
  pub closure : F
  pub before : S
  pub searched : SearchDrains call any_pick back false s f found before closure
  pub counts : CountedWhere front found before r t

-- what stands before the last item x for which h x is true, or before the failure of the list or of h that comes first from the back
unfoldable pub before_last_true : {A E : Type 0} → (A → Result Bool E) → List (Result A E) → List (Result A E)
before_last_true h l = reverse (rest_true h (reverse l))

-- how many items stand before the last item x for which h x is true, if there is one; or the failure that comes first: from the back up to that item, and then from the front
unfoldable pub last_position_in : {A E : Type 0} → (A → Result Bool E) → List (Result A E) → Result (Option ℕ) E
last_position_in h l = on_value (any_of h (reverse l)) (λ is. cond is (read_as (λ n. Some n) (counted (before_last_true h l))) (Ok None))

-- what a count leaves of what stands before, where it was counted
abbrev pub rest_where : {A E : Type 0} → Result Bool E → List (Result A E) → List (Result A E)
rest_where (Ok true) l = rest_failure l
rest_where (Ok false) l = l
rest_where (Err e) l = l

-- what `rposition` leaves: what stands before the failure that comes first from the back; or, if h x is true of an item x, what stands before the last such item and after the first failure there
unfoldable pub rest_position : {A E : Type 0} → (A → Result Bool E) → List (Result A E) → List (Result A E)
rest_position h l = rest_where (any_of h (reverse l)) (before_last_true h l)
