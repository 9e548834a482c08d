-- Collections made of items.
pub mod Keyed
use Rattle.std.specs.Prelude.{◌≡◌, Bool, cond, List, [], ◌∷◌, ◌++◌, map, Result, Ok, Err, ◌⊎◌}
use Rattle.std.specs.List.{FoldsTo}
use Rattle.fallible_contract.specs.Traces.{Answered, Run, item, end, failure}
use Rattle.std.specs.declared.ops.ControlFlow.{ControlFlow}
use Rattle.std.specs.declared.ops.ControlFlow.TheVariants.{Continue, Break}
use Rattle.std.specs.declared.alloc.AllocError.{AllocError}
use Rattle.fallible_contract.specs.declared.collecting.Fault.{Fault}
use Rattle.fallible_contract.specs.declared.collecting.Fault.TheVariants.{Source, Memory}

-- The collection has the items that came, up to an end.
pub record CollectsAll {S A E C : Type 0} (steps : S → Answered A E → S → Type 0) (made : List A → C → Type 0) (s : S) (c : C) : Type 0 where
  pub items : List A
  pub after : S
  pub ran : Run steps s (map item items ++ end ∷ []) after
  pub is_made : made items c

-- The first failure came after items of which a collection was made.
pub record FailsWith {S A E C : Type 0} (steps : S → Answered A E → S → Type 0) (made : List A → C → Type 0) (s : S) (e : E) : Type 0 where
  pub items : List A
  pub collection : C
  pub after : S
  pub ran : Run steps s (map item items ++ failure e ∷ []) after
  pub is_made : made items collection

-- A collection of the items that came rejected the last item that was drawn.
pub record RefusesItem {S A E C : Type 0} (steps : S → Answered A E → S → Type 0) (made : List A → C → Type 0) (refuses : C → A → Type 0) (s : S) : Type 0 where
  pub items : List A
  pub refused : A
  pub collection : C
  pub after : S
  pub ran : Run steps s (map item items ++ item refused ∷ []) after
  pub is_made : made items collection
  pub refuses_it : refuses collection refused

-- What `collect` returns: the collection of all items up to an end; the first failure; or an allocation failure, if creating an empty collection may fail, or an item was rejected.
abbrev pub Collects : {S A E C : Type 0} → (S → Answered A E → S → Type 0) → (List A → C → Type 0) → Type 0 → (C → A → Type 0) → S → Result C (Fault E) → Type 0
Collects steps made empty_refuses refuses s (Ok c) = CollectsAll steps made s c
Collects steps made empty_refuses refuses s (Err (Source e)) = FailsWith steps made s e
Collects steps made empty_refuses refuses s (Err (Memory a)) = empty_refuses ⊎ RefusesItem steps made refuses s

-- one push: the collection of the items becomes one of the items and one more, or rejects it
abbrev pub IsCollectTurn : {A C : Type 0} → (List A → C → Type 0) → (C → A → Type 0) → C → A → ControlFlow AllocError (Unit {0}) → C → Type 0
IsCollectTurn {A} made refuses c x (Continue u) d = (items : List A) → made items c → made (items ++ x ∷ []) d
IsCollectTurn made refuses c x (Break a) d = refuses c x

-- ---- partition

-- the items beside which the answer is true, in order
abbrev pub answered_true : {A : Type 0} → List (A × Bool) → List A
answered_true [] = []
answered_true (p ∷ ps) = cond p.1 (p.0 ∷ answered_true ps) (answered_true ps)

-- the items beside which the answer is false, in order
abbrev pub answered_false : {A : Type 0} → List (A × Bool) → List A
answered_false [] = []
answered_false (p ∷ ps) = cond p.1 (answered_false ps) (p.0 ∷ answered_false ps)

-- The closure f, called in order on the items, once each, returned what stands beside them, and is what stands beside the collections: the first is made of the items for which it returned true, and the second of those for which it returned false.
pub record Sides {A E F B : Type 0} (call : F → A → Result Bool E → F → Type 0) (made : List A → B → Type 0) (f : F) (items : List A) (c : F × (B × B)) : Type 0 where
  pub answered : List (A × Bool)
  pub beside : map (λ p. p.0) answered ≡ items
  pub called : FoldsTo {P = F} (λ g p h. call g p.0 (Ok p.1) h) f answered c.0
  pub made_of_true : made (answered_true answered) c.1.0
  pub made_of_false : made (answered_false answered) c.1.1

-- The closure is called on the item, and returns.
abbrev pub Asks : {A E F : Type 0} → (F → A → Result Bool E → F → Type 0) → F → A → F → Type 0
Asks call g x h = (v : Bool) × call g x (Ok v) h

module _ {A E F B : Type 0} (call : F → A → Result Bool E → F → Type 0) where
  -- The closure fails with e on the item.
  abbrev pub ClosureFails : E → F × (B × B) → A → Type 0
  ClosureFails e c x = (g : F) × call c.0 x (Err e) g

  -- The collection rejects the item to whose side the closure's result sends it.
  abbrev pub SideRefuses : (B → A → Type 0) → F × (B × B) → A → Type 0
  SideRefuses refuses c x = (v : Bool) × (g : F) × call c.0 x (Ok v) g × refuses (cond v c.1.0 c.1.1) x

  -- One turn: the closure is called on the item, which is pushed to the side that it returned; or the closure fails, or the item is rejected.
  abbrev pub IsPartitionTurn : (List A → B → Type 0) → (B → A → Type 0) → F × (B × B) → A → ControlFlow (Fault E) (Unit {0}) → F × (B × B) → Type 0
  IsPartitionTurn made refuses c x (Continue u) d = (v : Bool) × call c.0 x (Ok v) d.0 × ((xs ys : List A) → made xs c.1.0 → made ys c.1.1 → made (cond v (xs ++ x ∷ []) xs) d.1.0 × made (cond v ys (ys ++ x ∷ [])) d.1.1)
  IsPartitionTurn made refuses c x (Break (Source e)) d = ClosureFails e c x
  IsPartitionTurn made refuses c x (Break (Memory a)) d = SideRefuses refuses c x

-- What `partition` returns: both collections, made of all items up to an end; the first failure of the source or the closure, before which both were made of the items; or an allocation failure, if creating an empty collection may fail, or an item was rejected.
abbrev pub Partitions : {S A E F B : Type 0} → (S → Answered A E → S → Type 0) → (F → A → Result Bool E → F → Type 0) → (List A → B → Type 0) → Type 0 → (B → A → Type 0) → S → F → Result (B × B) (Fault E) → Type 0
Partitions {F = F} steps call made empty_refuses refuses s f (Ok p) = (g : F) × CollectsAll steps (Sides call made f) s (g, p)
Partitions {B = B} steps call made empty_refuses refuses s f (Err (Source e)) = FailsWith steps (Sides call made f) s e ⊎ RefusesItem steps (Sides call made f) (ClosureFails {B = B} call e) s
Partitions steps call made empty_refuses refuses s f (Err (Memory a)) = empty_refuses ⊎ RefusesItem steps (Sides call made f) (SideRefuses call refuses) s

-- ---- unzip

module _ {A B C D : Type 0} (made_first : List A → C → Type 0) (made_second : List B → D → Type 0) where
  -- The first collection is made of the pairs' first halves, and the second of their second halves.
  abbrev pub MadeOfPairs : List (A × B) → C × D → Type 0
  MadeOfPairs pairs c = made_first (map (λ p. p.0) pairs) c.0 × made_second (map (λ p. p.1) pairs) c.1

  module _ (first_refuses : C → A → Type 0) (second_refuses : D → B → Type 0) where
    -- The first collection rejects the first half; or it takes it, and the second collection rejects the second half.
    abbrev pub PairRefused : C × D → A × B → Type 0
    PairRefused c x = first_refuses c.0 x.0 ⊎ ((d : C) × IsCollectTurn made_first first_refuses c.0 x.0 (Continue tt) d × second_refuses c.1 x.1)

    -- One turn: the first half is pushed to the first collection, and then the second half to the second; or the pair is rejected.
    abbrev pub IsUnzipTurn : C × D → A × B → ControlFlow AllocError (Unit {0}) → C × D → Type 0
    IsUnzipTurn c x (Continue u) d = IsCollectTurn made_first first_refuses c.0 x.0 (Continue tt) d.0 × IsCollectTurn made_second second_refuses c.1 x.1 (Continue tt) d.1
    IsUnzipTurn c x (Break a) d = PairRefused c x
