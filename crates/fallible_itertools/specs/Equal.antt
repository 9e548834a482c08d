-- Items that equal one item, and comparisons of two iterators by a closure on two items.
use Rattle.std.specs.Prelude.{Bool, true, false, not, Option, Some, None, Result, Ok, Err, List, ◌≡◌, [], ◌∷◌, ◌++◌, map}
use Rattle.std.specs.List.{FoldsTo}
use Rattle.std.specs.declared.cmp.Ordering.{Ordering}
use Rattle.std.specs.declared.cmp.Ordering.TheVariants.{Less, Equal, Greater}
use Rattle.std.specs.declared.ops.ControlFlow.{ControlFlow}
use Rattle.std.specs.declared.ops.ControlFlow.TheVariants.{Continue, Break}
use Rattle.fallible_iterator.specs.Comparing.{equal_where, read_as, reads_eq, where_drawn}
use Rattle.fallible_iterator.specs.Folds.{goes_on}
use Rattle.fallible_iterator.specs.Lists.{on_value, unless_equal}
use Rattle.fallible_iterator.specs.Traces.{Answered, Run, Yields, item}
use Rattle.fallible_itertools.specs.Stepping.{KeptAndControlFlow, consumed, rest_stepped, stops_where, whether_stopped}

-- ---- Items that equal one item

-- ---- `contains`

-- Nothing is kept. An item that equals the wanted one stops the fold.
abbrev pub wanted_flow : {A : Type 0} → (A → A → Bool) → A → Unit {0} → A → KeptAndControlFlow (Unit {0}) (Unit {0})
wanted_flow eq wanted u x = stops_where (eq x wanted) tt tt

-- whether an item equals the wanted one; or the failure that comes before such an item
unfoldable pub contained : {A E : Type 0} → (A → A → Bool) → A → List (Result A E) → Result Bool E
contained eq wanted l = consumed (wanted_flow eq wanted) (λ answer u. whether_stopped true answer) tt l

-- what stands after the first item that equals the wanted one, or after the failure that comes first
unfoldable pub rest_contained : {A E : Type 0} → (A → A → Bool) → A → List (Result A E) → List (Result A E)
rest_contained eq wanted l = rest_stepped (wanted_flow eq wanted) tt l

-- ---- `all_equal` and `all_equal_value`

-- The first item is kept. An item that it doesn't equal stops the fold.
abbrev pub equal_flow : {A : Type 0} → (A → A → Bool) → Option A → A → KeptAndControlFlow A (Option A)
equal_flow eq None x = (Continue tt, Some x)
equal_flow eq (Some first) x = stops_where (not (eq first x)) x (Some first)

-- the first item alone, or beside the one that it doesn't equal, or nothing where no item came; or the failure
abbrev pub first_or_both : {A E : Type 0} → Answered A E → Option A → Result (Result A (Option (A × A))) E
first_or_both (Err e) first = Err e
first_or_both (Ok other) None = Ok (Err None)
first_or_both (Ok None) (Some x) = Ok (Ok x)
first_or_both (Ok (Some y)) (Some x) = Ok (Err (Some (x, y)))

module _ {A E : Type 0} (eq : A → A → Bool) where
  -- whether the first item equals each later one; or the failure that comes before one that it doesn't equal
  unfoldable pub equal_to_first : List (Result A E) → Result Bool E
  equal_to_first l = consumed (equal_flow eq) (λ answer first. whether_stopped false answer) None l

  -- the first item, if it equals each later one; or it and the first one that it doesn't equal; or nothing of no items; or the failure that comes before
  unfoldable pub equal_value : List (Result A E) → Result (Result A (Option (A × A))) E
  equal_value l = consumed (equal_flow eq) first_or_both None l

  -- what stands after the first item that the first of all doesn't equal, or after the failure that comes first
  unfoldable pub rest_unequal : List (Result A E) → List (Result A E)
  rest_unequal l = rest_stepped (equal_flow eq) None l

-- ---- Comparisons of two iterators by a closure on two items

-- One call on two items, as a turn: it goes on where they are equal, and stops with their order, or the closure's failure.
abbrev pub IsCmpTurn : {F A B E : Type 0} → (F → A → B → Result Ordering E → F → Type 0) → F → A × B → ControlFlow (Result (Option Ordering) E) (Unit {0}) → F → Type 0
IsCmpTurn call f p (Continue u) g = call f p.0 p.1 (Ok Equal) g
IsCmpTurn call f p (Break (Ok None)) g = ⊥
IsCmpTurn call f p (Break (Ok (Some o))) g = call f p.0 p.1 (Ok o) g × ¬ (o ≡ Equal)
IsCmpTurn call f p (Break (Err e)) g = call f p.0 p.1 (Err e) g

-- One call on two items, as a turn: it goes on where they are equal, and stops with no order, or the closure's failure.
abbrev pub IsEqTurn : {F A B E : Type 0} → (F → A → B → Result Bool E → F → Type 0) → F → A × B → ControlFlow (Result (Option Ordering) E) (Unit {0}) → F → Type 0
IsEqTurn call f p (Continue u) g = call f p.0 p.1 (Ok true) g
IsEqTurn call f p (Break (Ok None)) g = call f p.0 p.1 (Ok false) g
IsEqTurn call f p (Break (Ok (Some o))) g = ⊥
IsEqTurn call f p (Break (Err e)) g = call f p.0 p.1 (Err e) g

-- P holds of each two items that may come in one round, after rounds whose turns went on, with what they made by then
pub record CallableInRounds {S T A B E C : Type 0} (left-steps : S → Answered A E → S → Type 0) (right-steps : T → Answered B E → T → Type 0) (goes : C → A × B → C → Type 0) (P : C → A × B → Type 0) (s : S) (t : T) (c : C) : Type 0 where
  pub at : (pairs : List (A × B)) (u v : S) (w z : T) (d : C) (p : A × B) → Yields left-steps s (map (λ q. q.0) pairs) u → Yields right-steps t (map (λ q. q.1) pairs) w → FoldsTo goes c pairs d → left-steps u (item p.0) v → right-steps w (item p.1) z → P d p

module _ {A B E C : Type 0} (turns : C → A × B → ControlFlow (Result (Option Ordering) E) (Unit {0}) → C → Type 0) where
  -- The last round by the answer of the left and that of the right, which isn't drawn after a left failure. A failure is the result; two ends are equal; the side that ended alone is less; and two items decide by a turn that stops.
  abbrev pub LastTurnRound : C → Answered A E → Option (Answered B E) → Result (Option Ordering) E → Type 0
  LastTurnRound c (Err e) None r = r ≡ Err e
  LastTurnRound c (Err e) (Some y) r = ⊥
  LastTurnRound c (Ok x) None r = ⊥
  LastTurnRound c (Ok None) (Some (Err e)) r = r ≡ Err e
  LastTurnRound c (Ok None) (Some (Ok None)) r = r ≡ Ok (Some Equal)
  LastTurnRound c (Ok None) (Some (Ok (Some y))) r = r ≡ Ok (Some Less)
  LastTurnRound c (Ok (Some x)) (Some (Err e)) r = r ≡ Err e
  LastTurnRound c (Ok (Some x)) (Some (Ok None)) r = r ≡ Ok (Some Greater)
  LastTurnRound c (Ok (Some x)) (Some (Ok (Some y))) r = (d : C) × turns c (x, y) (Break r) d

  -- Both sides yielded pairs of items, on which the turns went on, one by one; then came the last round, which decided.
  pub record CompareByDraws {S T : Type 0} (left-steps : S → Answered A E → S → Type 0) (right-steps : T → Answered B E → T → Type 0) (s : S) (t : T) (c : C) (r : Result (Option Ordering) E) : Type 0 where
    pub pairs : List (A × B)
    pub state : C
    pub went : FoldsTo (goes_on turns) c pairs state
    pub last_left : Answered A E
    pub last_right : Option (Answered B E)
    pub left : S
    pub right : T
    pub left_ran : Run left-steps s (map item (map (λ p. p.0) pairs) ++ last_left ∷ []) left
    pub right_ran : Run right-steps t (map item (map (λ p. p.1) pairs) ++ where_drawn last_right) right
    pub exit : LastTurnRound state last_left last_right r

  -- The other value became an iterator, as `into` allows, and the comparison with it had this result.
  pub record ComparedByWith {S O T : Type 0} (into : O → T → Type 0) (left-steps : S → Answered A E → S → Type 0) (right-steps : T → Answered B E → T → Type 0) (s : S) (other : O) (c : C) (r : Result (Option Ordering) E) : Type 0 where
    pub right : T
    pub made : into other right
    pub compared : CompareByDraws left-steps right-steps s right c r

-- how two lists compare by h, pair by pair: the first two items that h doesn't find equal decide, and a list that ends before the other is less; or the failure that comes first, of the first list before that of the second before that of h
unfoldable pub compared_by : {A B E : Type 0} → (A → B → Result (Option Ordering) E) → List (Result A E) → List (Result B E) → Result (Option Ordering) E
compared_by h (Err e ∷ a) b = Err e
compared_by h [] [] = Ok (Some Equal)
compared_by h [] (Ok y ∷ b) = Ok (Some Less)
compared_by h [] (Err e ∷ b) = Err e
compared_by h (Ok x ∷ a) [] = Ok (Some Greater)
compared_by h (Ok x ∷ a) (Ok y ∷ b) = on_value (h x y) (λ o. unless_equal o (compared_by h a b))
compared_by h (Ok x ∷ a) (Err e ∷ b) = Err e

-- how two lists compare by the orders that h returns for two items; there is always one
unfoldable pub ordered_by : {A B E : Type 0} → (A → B → Result Ordering E) → List (Result A E) → List (Result B E) → Result (Option Ordering) E
ordered_by h a b = compared_by (λ x y. read_as (λ o. Some o) (h x y)) a b

-- whether two lists are as long and h is true of each two items; or the failure that comes first
unfoldable pub equal_by : {A B E : Type 0} → (A → B → Result Bool E) → List (Result A E) → List (Result B E) → Result Bool E
equal_by h a b = read_as reads_eq (compared_by (λ x y. read_as equal_where (h x y)) a b)
