-- Sums and products that may overflow.
use Rattle.std.specs.Prelude.{◌≡◌, ℕ, ◌+◌, ◌*◌, cond, ◌&&◌, nat_lt, ℤ, pos, neg_ℤ, ◌+ℤ◌, ◌*ℤ◌, int_le, int_lt, Option, Some, None, Result, Ok, Err, List, [], ◌∷◌}
use Rattle.std.specs.List.{FoldsTo}
use Rattle.fallible_iterator.specs.Traces.{Answered}
use Rattle.fallible_iterator.specs.Folds.{Drained}
use Rattle.std.specs.declared.ops.ControlFlow.{ControlFlow}
use Rattle.std.specs.declared.ops.ControlFlow.TheVariants.{Continue, Break}

-- ---- numbers that fit

-- the number, if it is below the limit
abbrev pub below : ℕ → ℕ → Option ℕ
below limit n = cond (nat_lt n limit) (Some n) None

-- the sum of two numbers, if it is below the limit
abbrev pub sum_below : ℕ → ℕ → ℕ → Option ℕ
sum_below limit a b = below limit (a + b)

-- the product of two numbers, if it is below the limit
abbrev pub product_below : ℕ → ℕ → ℕ → Option ℕ
product_below limit a b = below limit (a * b)

-- the signed number, if it is at least the limit's negative and below the limit
abbrev pub between : ℕ → ℤ → Option ℤ
between limit z = cond (int_le (neg_ℤ (pos limit)) z && int_lt z (pos limit)) (Some z) None

-- the sum of two signed numbers, if it is at least the limit's negative and below the limit
abbrev pub sum_within : ℕ → ℤ → ℤ → Option ℤ
sum_within limit a b = between limit (a +ℤ b)

-- the product of two signed numbers, if it is at least the limit's negative and below the limit
abbrev pub product_within : ℕ → ℤ → ℤ → Option ℤ
product_within limit a b = between limit (a *ℤ b)

-- ---- totals: `op t x` is the total t with the item x, unless it overflows

module _ {N : Type 0} (op : N → N → Option N) where
  -- the total with the item is u, which fits
  abbrev pub Grows : N → N → N → Type 0
  Grows t x u = op t x ≡ Some u

  -- One item, as the turn of a fold whose state is the total: it stops if the total overflows.
  abbrev pub IsTotalTurn : N → N → ControlFlow (Unit {0}) (Unit {0}) → N → Type 0
  IsTotalTurn t x (Continue u) v = Grows t x v
  IsTotalTurn t x (Break u) v = op t x ≡ None

  -- the result r by the last draw: the total at an end; the failure; none if the total with the item overflows
  abbrev pub TotalExit : {E : Type 0} → N → Answered N E → Result (Option N) E → Type 0
  TotalExit t (Ok None) r = r ≡ Ok (Some t)
  TotalExit t (Err e) r = r ≡ Err e
  TotalExit t (Ok (Some x)) r = (op t x ≡ None) × (r ≡ Ok None)

  -- The total grew by the items in order, from `start` on, and fitted each time. Then came the last answer: an end, a failure, or an item with which it overflows.
  pub record TotalledBy {E : Type 0} (start : N) (r : Result (Option N) E) (items : List N) (last : Answered N E) : Type 0 where
    pub total : N
    pub went : FoldsTo Grows start items total
    pub exit : TotalExit total last r

  -- The draws from s returned items and a last answer, by which the total from `start` on is r.
  abbrev pub TotalDrains : {S E : Type 0} → (S → Answered N E → S → Type 0) → N → S → Result (Option N) E → Type 0
  TotalDrains {S = S} steps start s r = (after : S) × Drained steps (TotalledBy start r) s after

-- what a checked total returns, from what its fold returned and the total that it left
abbrev pub total_by : {N E : Type 0} → N → Answered (Unit {0}) E → Result (Option N) E
total_by t (Ok None) = Ok (Some t)
total_by t (Ok (Some u)) = Ok None
total_by t (Err e) = Err e

-- ---- what it makes of a list

-- what comes of the total if there is one, and none if there is none
abbrev pub on_total : {N E : Type 0} → Option N → (N → Result (Option N) E) → Result (Option N) E
on_total (Some t) rest = rest t
on_total None rest = Ok None

-- The total of the items from t on, if it fits with each of them; none if it overflows with an item that comes before any failure; or the first failure.
unfoldable pub totalled : {N E : Type 0} → (N → N → Option N) → N → List (Result N E) → Result (Option N) E
totalled op t [] = Ok (Some t)
totalled op t (Ok x ∷ l) = on_total (op t x) (λ u. totalled op u l)
totalled op t (Err e ∷ l) = Err e
