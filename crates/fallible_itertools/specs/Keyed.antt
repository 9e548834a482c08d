-- Items by their keys: beside them, how often each comes, each key beside its values, and folds of these.
use Rattle.std.specs.Prelude.{Result, Ok, Err, List, [], ◌∷◌, ◌≡◌, ℕ, zero, suc, ◌+◌, ◌%◌, ◌^◌, Bool, cond, map, Option, Some, None, ◌≤◌, vec_items, vec_len, vec_capacity, ⊤, ◌++◌, unwrap_or, ◌⊎◌}
use Rattle.std.specs.Borrow.{Bor}
use Rattle.std.specs.Fn.{Mut}
use Rattle.std.specs.HashMap.{HashMap, get, get_key, spare}
use Rattle.std.specs.List.{FoldsTo}
use Rattle.std.specs.Map.{update_all}
use Rattle.std.specs.Option.{MatchOption, option_map}
use Rattle.std.specs.declared.alloc.Global.{Global}
use Rattle.std.specs.declared.ops.ControlFlow.{ControlFlow}
use Rattle.std.specs.declared.ops.ControlFlow.TheVariants.{Continue, Break}
use Rattle.std.specs.declared.vec.Vec.{Vec}
use Rattle.std.proofs.Common.{refl}
use Rattle.fallible_iterator.specs.Closures.{call_by_reference, takes_by_reference, IsCallable}
use Rattle.fallible_iterator.specs.Collecting.{CollectsAll, FailsWith, RefusesItem}
use Rattle.fallible_iterator.specs.Collecting.Keyed.{FirstStays, IsHashedMapOf}
use Rattle.fallible_iterator.specs.Contract.{Contract, Inverse}
use Rattle.fallible_iterator.specs.Fault.{Fault}
use Rattle.fallible_iterator.specs.Fault.TheVariants.{Source, Memory}
use Rattle.fallible_iterator.specs.Lists.{folded, CollectedAs}
use Rattle.fallible_iterator.specs.Outcome.{Outcome}
use Rattle.fallible_iterator.specs.Outcome.TheVariants.{Kept, Failure}
use Rattle.fallible_iterator.specs.Passing.{passes_all, passing_contract}
use Rattle.fallible_iterator.specs.Sound.{as_source}
use Rattle.fallible_iterator.specs.Traces.{Answered}
use Rattle.fallible_itertools.specs.declared.keyed.Keyed.{Keyed}

-- ---- Items beside the keys that a closure makes of them

-- An item stands beside its key, or becomes the closure's failure.
abbrev pub keyed_outcome : {X K E : Type 0} → X → Result K E → Outcome (K × X) E
keyed_outcome x (Ok k) = Kept (k, x)
keyed_outcome x (Err e) = Failure e

-- `Keyed`: the source's trace, where each item is replaced by itself beside its key, or by the closure's failure.
abbrev pub KeyedTrace : {S F X K E : Type 0} → (S → List (Answered X E) → S → Type 0) → Mut F (Bor X × Unit {0}) (Result K E) → S × F → List (Answered (K × X) E) → S × F → Type 0
KeyedTrace traces g p trace q = passes_all traces (call_by_reference g) keyed_outcome p trace q

-- `Keyed`'s contract. It has the source's hint.
abbrev pub keyed_contract : {S F X K E : Type 0} → Contract S X E → Mut F (Bor X × Unit {0}) (Result K E) → Contract (S × F) (K × X) E
keyed_contract m g = record (passing_contract m (call_by_reference g) (λ P f. IsCallable (call_by_reference g) (takes_by_reference g) P f) keyed_outcome (λ p h. m.hints p.0 h)) { traces = KeyedTrace m.traces g; sound = as_source (λ p. p.0) m.sound }

-- the source, and the closure
abbrev pub keyed_parts : {I F : Type 0} → Keyed I F → I × F
keyed_parts s = (s.it, s.f)

-- and back
pub keyed_made : {I F : Type 0} → Inverse (keyed_parts {I = I} {F = F})
keyed_made = record { make = λ p. record { it = p.0; f = p.1 }; made = λ s. refl; has = λ p. refl }

-- ---- what it lists

-- an item beside its key, or the closure's failure
abbrev pub with_key : {X K E : Type 0} → X → Result K E → Result (K × X) E
with_key x (Ok k) = Ok (k, x)
with_key x (Err e) = Err e

-- each item x beside the key that h makes of it, or the failure of h in its place
unfoldable pub keyed : {X K E : Type 0} → (X → Result K E) → List (Result X E) → List (Result (K × X) E)
keyed h [] = []
keyed h (Ok x ∷ l) = with_key x (h x) ∷ keyed h l
keyed h (Err e ∷ l) = Err e ∷ keyed h l

-- ---- How often each item comes

-- how many of the items pass the test
abbrev pub how_many : {A : Type 0} → (A → Bool) → List A → ℕ
how_many test [] = 0
how_many test (x ∷ items) = cond (test x) (how_many test items + 1) (how_many test items)

-- the number, unless it is 0
abbrev pub unless_zero : ℕ → Option ℕ
unless_zero zero = None
unless_zero (suc n) = Some (suc n)

-- how many of the items equal k, if any does
abbrev pub times : {K : Type 0} → (K → K → Bool) → List K → K → Option ℕ
times eq items k = unless_zero (how_many (eq k) items)

-- The map has the items, of equal ones the first, each beside the number of times that it comes.
pub record IsCountsOf {K S : Type 0} (eq : K → K → Bool) (items : List K) (m : HashMap K ℕ S) : Type 0 where
  pub counted : (k : K) → get eq m k ≡ times eq items k
  pub first : FirstStays eq items (get_key eq m)

-- The map holds how often each item was pushed, where the numbers wrap; and the map is made of pairs with these items.
pub record IsTally {K S : Type 0} (eq : K → K → Bool) (items : List K) (m : HashMap K ℕ S) : Type 0 where
  pub pairs : List (K × ℕ)
  pub are : map (λ p. p.0) pairs ≡ items
  pub made : IsHashedMapOf eq pairs m
  pub counted : (k : K) → get eq m k ≡ option_map (λ n. n % 2 ^ 64) (times eq items k)

-- ---- Each key beside its values

-- the values of the pairs whose key passes the test, in order
abbrev pub values_where : {K V : Type 0} → (K → Bool) → List (K × V) → List V
values_where test [] = []
values_where test (p ∷ pairs) = cond (test p.0) (p.1 ∷ values_where test pairs) (values_where test pairs)

-- the list, unless it is empty
abbrev pub unless_empty : {A : Type 0} → List A → Option (List A)
unless_empty [] = None
unless_empty (x ∷ items) = Some (x ∷ items)

-- the values of the pairs whose key equals k, in order, if there is such a pair
abbrev pub values_of_key : {K V : Type 0} → (K → K → Bool) → List (K × V) → K → Option (List V)
values_of_key eq pairs k = unless_empty (values_where (eq k) pairs)

module _ {K V S : Type 0} (eq : K → K → Bool) where
  -- The map has the pairs' keys, of equal ones the first, each beside a `Vec` of its values in order.
  pub record IsGroupMapOf (pairs : List (K × V)) (m : HashMap K (Vec V Global) S) : Type 0 where
    pub grouped : (k : K) → option_map vec_items (get eq m k) ≡ values_of_key eq pairs k
    pub first : FirstStays eq (map (λ p. p.0) pairs) (get_key eq m)

  -- The map groups the pairs' values by their keys; and it is made of entries with these keys.
  pub record IsGrouping (pairs : List (K × V)) (m : HashMap K (Vec V Global) S) : Type 0 where
    pub entries : List (K × Vec V Global)
    pub are : map (λ e. e.0) entries ≡ map (λ p. p.0) pairs
    pub made : IsHashedMapOf eq entries m
    pub grouped : (k : K) → option_map vec_items (get eq m k) ≡ values_of_key eq pairs k

  -- No key equals the pair's, or the `Vec` of that key has no capacity left.
  abbrev pub GroupRefuses : HashMap K (Vec V Global) S → K × V → Type 0
  GroupRefuses m p = MatchOption (get eq m p.0) ⊤ (λ v. vec_capacity v ≤ vec_len v)

-- ---- Folds of the values of each key

-- ---- one item

module _ {K B : Type 0} (eq : K → K → Bool) (init : B) where
  -- the value of the key in the map, `init` if it has none
  abbrev pub value_at : {S : Type 0} → HashMap K B S → K → B
  value_at m k = unwrap_or (get eq m k) init

  -- the last value that stands beside an equal key, `init` if there is none
  abbrev pub last_value : List (K × B) → K → B
  last_value made k = unwrap_or (update_all eq (λ _. None) made k) init

module _ {K B X E F : Type 0} (call : F → B → X → Result B E → F → Type 0) (eq : K → K → Bool) (init : B) where
  -- The closure is called on the last value of the pair's key and the pair's item, and what it returns comes last, beside that key.
  abbrev pub AddsValue : List (K × B) × F → K × X → List (K × B) × F → Type 0
  AddsValue p x q = (b : B) × call p.1 (last_value eq init p.0 x.0) x.1 (Ok b) q.1 × (q.0 ≡ p.0 ++ (x.0, b) ∷ [])

  module _ {S : Type 0} where
    -- The closure fails with e on the value of the pair's key and the pair's item.
    abbrev pub FoldFails : E → HashMap K B S × F → K × X → Type 0
    FoldFails e c x = (g : F) × call c.1 (value_at eq init c.0 x.0) x.1 (Err e) g

    -- The closure returned, no key of the map equals the pair's, and no room is spare.
    abbrev pub FoldRefused : HashMap K B S × F → K × X → Type 0
    FoldRefused c x = (get eq c.0 x.0 ≡ None) × (spare c.0 ≡ 0) × (b : B) × (g : F) × call c.1 init x.1 (Ok b) g

    -- One turn: the closure is called on the value of the pair's key and the pair's item, and what it returns is the value of that key from then on; or it fails, or the map rejects a new key.
    abbrev pub IsKeyFoldTurn : HashMap K B S × F → K × X → ControlFlow (Fault E) (Unit {0}) → HashMap K B S × F → Type 0
    IsKeyFoldTurn c x (Continue u) d = (b : B) × call c.1 (value_at eq init c.0 x.0) x.1 (Ok b) d.1 × ((made : List (K × B)) → IsHashedMapOf eq made c.0 → IsHashedMapOf eq (made ++ (x.0, b) ∷ []) d.0)
    IsKeyFoldTurn c x (Break (Source e)) d = FoldFails e c x
    IsKeyFoldTurn c x (Break (Memory a)) d = FoldRefused c x

    -- ---- a drain

    -- The closure f, called in order on the pairs, once each, on the last value of the pair's key and the pair's item, returned what stands beside the keys; and the map is made of these.
    pub record KeyFolds (f : F) (pairs : List (K × X)) (c : HashMap K B S × F) : Type 0 where
      pub made : List (K × B)
      pub called : FoldsTo {P = List (K × B) × F} AddsValue ([], f) pairs (made, c.1)
      pub map_of : IsHashedMapOf eq made c.0

    -- What `fold_by_key` returns: the map after all pairs up to an end; the first failure of the source or of the closure; or an allocation failure, where the map rejected a new key.
    abbrev pub FoldsByKey : {T : Type 0} → (T → Answered (K × X) E → T → Type 0) → T → F → Result (HashMap K B S) (Fault E) → Type 0
    FoldsByKey steps s f (Ok m) = (g : F) × CollectsAll steps (KeyFolds f) s (m, g)
    FoldsByKey steps s f (Err (Source e)) = FailsWith steps (KeyFolds f) s e ⊎ RefusesItem steps (KeyFolds f) (FoldFails e) s
    FoldsByKey steps s f (Err (Memory a)) = RefusesItem steps (KeyFolds f) FoldRefused s

-- ---- what it makes of a list

-- the fold of the values by h from `init` on, or the first failure of h
abbrev pub fold_of : {B X E : Type 0} → (B → X → Result B E) → B → List X → Result B E
fold_of h init values = folded (λ e. e) h init (map (λ x. Ok x) values)

-- the pair, or the failure in its place
abbrev pub unless_failed : {P B E : Type 0} → P → Result B E → Result P E
unless_failed p (Ok b) = Ok p
unless_failed p (Err e) = Err e

module _ {K B X E : Type 0} (eq : K → K → Bool) (h : B → X → Result B E) (init : B) where
  -- The map has the pairs' keys, of equal ones the first, each beside the fold of its values in order.
  pub record IsKeyFoldOf {S : Type 0} (pairs : List (K × X)) (m : HashMap K B S) : Type 0 where
    pub folds : (k : K) → option_map (λ b. Ok b) (get eq m k) ≡ option_map (fold_of h init) (values_of_key eq pairs k)
    pub first : FirstStays eq (map (λ p. p.0) pairs) (get_key eq m)

  -- each pair, or in its place the failure with which the fold of its key's values, those of the pairs before and its own, fails
  unfoldable pub checked_folds : List (K × X) → List (Result (K × X) E) → List (Result (K × X) E)
  checked_folds before [] = []
  checked_folds before (Ok p ∷ l) = unless_failed p (fold_of h init (values_where (eq p.0) (before ++ p ∷ []))) ∷ checked_folds (before ++ p ∷ []) l
  checked_folds before (Err e ∷ l) = Err e ∷ checked_folds before l

  -- What `fold_by_key` returns over the list: the map of the folds, or the first failure of the list or of a fold; an allocation failure says nothing of the list.
  abbrev pub FoldedByKeyAs : {S : Type 0} → List (Result (K × X) E) → Result (HashMap K B S) (Fault E) → Type 0
  FoldedByKeyAs l r = CollectedAs IsKeyFoldOf (checked_folds [] l) r
