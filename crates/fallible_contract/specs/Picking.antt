-- The best of the items, by an order of the items, by a closure that compares two, or by a key.
use Rattle.std.specs.Prelude.{◌≡◌, List, [], ◌∷◌, ◌++◌, map, drop, Bool, true, false, cond, Option, Some, None, IsSomeAnd, Result, Ok, Err, ⊤}
use Rattle.std.specs.List.{FoldsTo, last_or, zip}
use Rattle.std.specs.Fn.{CalledAtTwo, TakesAtTwo, Mut}
use Rattle.std.specs.Borrow.{Bor}
use Rattle.fallible_contract.specs.Traces.{Answered, Run, item}
use Rattle.fallible_contract.specs.Closures.{Calls}
use Rattle.fallible_contract.specs.Folds.{Drained, FoldDrains}
use Rattle.std.specs.declared.cmp.Ordering.{Ordering}
use Rattle.std.specs.declared.cmp.Ordering.TheVariants.{Less, Equal, Greater}

-- whether two orderings are the same
abbrev pub same_order : Ordering → Ordering → Bool
same_order Less Less = true
same_order Less Equal = false
same_order Less Greater = false
same_order Equal Less = false
same_order Equal Equal = true
same_order Equal Greater = false
same_order Greater Less = false
same_order Greater Equal = false
same_order Greater Greater = true

-- The best so far stays if it compares with the next item as `keeps`, which is `Greater` for `max` and its kin and `Less` for `min` and its kin; otherwise the next item is the best. So of equal items the last is the best.
abbrev pub better : {A : Type 0} → Ordering → Ordering → A → A → A
better keeps o best x = cond (same_order keeps o) best x

-- ---- by a closure that compares two

-- one call on references to two items, which may return so and leave the closure so
abbrev pub call_at_two : {F A R : Type 0} → Mut F (Bor A × (Bor A × Unit {0})) R → F → A → A → R → F → Type 0
call_at_two g f x y r f' = CalledAtTwo g f x y r f'

-- the closure may be called on references to these two
abbrev pub takes_at_two : {F A R : Type 0} → Mut F (Bor A × (Bor A × Unit {0})) R → F → A → A → Type 0
takes_at_two g f x y = TakesAtTwo g f x y

module _ {A E F : Type 0} (keeps : Ordering) (call : F → A → A → Result Ordering E → F → Type 0) where
  -- The first item is the best so far, without a call. From then on the closure is called on the best so far and the next item.
  abbrev pub PickCall : F → Option A → A → Result (Option A) E → F → Type 0
  PickCall f None x r g = (r ≡ Ok (Some x)) × (g ≡ f)
  PickCall f (Some best) x (Ok b) g = (o : Ordering) × call f best x (Ok o) g × (b ≡ Some (better keeps o best x))
  PickCall f (Some best) x (Err e) g = call f best x (Err e) g

-- The result is that of a fold that carries the best so far, from none on.
pub record PickedByFold {S A E F : Type 0} (keeps : Ordering) (call : F → A → A → Result Ordering E → F → Type 0) (steps : S → Answered A E → S → Type 0) (s : S) (f : F) (r : Result (Option A) E) : Type 0 where
  pub after : S
  pub folded : FoldDrains steps (PickCall keeps call) (λ e d. d ≡ e) s None f r after

module _ {A : Type 0} (keeps : Ordering) where
  -- From a best on, there is an order for each of these items, and each next best is the one before it, if the order beside the next item is `keeps`, and otherwise that item.
  abbrev pub NextBests : A → List A → List Ordering → List A → Type 0
  NextBests best [] [] bests = bests ≡ []
  NextBests best (x ∷ items) (o ∷ orders) (next ∷ bests) = (next ≡ better keeps o best x) × NextBests next items orders bests
  NextBests best items orders bests = ⊥

  -- The first best is the first item, and there is a best for each item.
  abbrev pub Bests : List A → List Ordering → List A → Type 0
  Bests [] orders bests = (orders ≡ []) × (bests ≡ [])
  Bests (x ∷ items) orders [] = ⊥
  Bests (x ∷ items) orders (best ∷ bests) = (best ≡ x) × NextBests best items orders bests

module _ {A E F : Type 0} (call : F → A → A → Result Ordering E → F → Type 0) where
  -- At an end the result is the last best, and none of no items; at a failure it is that failure, and at an item that of the closure on the last best and the item.
  abbrev pub PickExit : List A → F → Answered A E → Result (Option A) E → Type 0
  PickExit bests f (Ok None) r = r ≡ Ok (last_or None bests)
  PickExit bests f (Err e) r = r ≡ Err e
  PickExit bests f (Ok (Some x)) r = IsSomeAnd (last_or None bests) (λ best. (e : E) × (g : F) × call f best x (Err e) g × (r ≡ Err e))

-- The draws returned items and a last answer. The closure was called in order on the best up to each item and the item after that one, and returned the orders, by which the bests go on. The last answer decides the result.
pub record PickDrains {S A E F : Type 0} (keeps : Ordering) (call : F → A → A → Result Ordering E → F → Type 0) (steps : S → Answered A E → S → Type 0) (s : S) (f : F) (r : Result (Option A) E) : Type 0 where
  pub items : List A
  pub orders : List Ordering
  pub bests : List A
  pub last : Answered A E
  pub closure : F
  pub after : S
  pub ran : Run steps s (map item items ++ last ∷ []) after
  pub are : Bests keeps items orders bests
  pub called : Calls (λ g p o h. call g p.0 p.1 (Ok o) h) f (zip (zip bests (drop 1 items)) orders) closure
  pub exit : PickExit call bests closure last r

-- the closure may be called on the best so far, where there is one, and the next item
abbrev pub takes_in_pick : {A F : Type 0} → (F → A → A → Type 0) → F → Option A → A → Type 0
takes_in_pick takes f None x = ⊤
takes_in_pick takes f (Some best) x = takes f best x

-- ---- by a key

-- the better of the best so far, if there is one, and an item, by the keys beside them
abbrev pub better_key : {A K : Type 0} → Ordering → (K → K → Ordering) → Option (K × A) → K × A → K × A
better_key keeps cmp None p = p
better_key keeps cmp (Some best) p = better keeps (cmp best.0 p.0) best p

module _ {A E F K : Type 0} (keeps : Ordering) (cmp : K → K → Ordering) (call : F → A → Result K E → F → Type 0) where
  -- The closure makes the key of the item, and the keys compare.
  abbrev pub KeyCall : F → Option (K × A) → A → Result (Option (K × A)) E → F → Type 0
  KeyCall f best x (Ok b) g = (k : K) × call f x (Ok k) g × (b ≡ Some (better_key keeps cmp best (k, x)))
  KeyCall f best x (Err e) g = call f x (Err e) g

-- the item beside its key, where there is one
abbrev pub item_of : {A E K : Type 0} → Result (Option (K × A)) E → Result (Option A) E
item_of (Ok (Some p)) = Ok (Some p.1)
item_of (Ok None) = Ok None
item_of (Err e) = Err e

-- ---- by an order

-- P holds of each of the items
abbrev pub OfEach : {A : Type 0} → (A → Type 0) → List A → Type 0
OfEach P [] = ⊤
OfEach P (x ∷ xs) = P x × OfEach P xs

module _ {A : Type 0} (keeps : Ordering) (cmp : A → A → Ordering) where
  -- y is one of the items; none is better, and no later one as good
  pub record IsLastBest (items : List A) (y : A) : Type 0 where
    pub before : List A
    pub after : List A
    pub is : items ≡ before ++ y ∷ after
    pub none_better : OfEach (λ x. same_order keeps (cmp x y) ≡ false) before
    pub later_worse : OfEach (λ x. same_order keeps (cmp y x) ≡ true) after

  -- the best of the items, and none of no items
  abbrev pub IsBestOf : List A → Option A → Type 0
  IsBestOf items None = items ≡ []
  IsBestOf items (Some y) = IsLastBest items y

  -- the best item at an end, or the failure
  abbrev pub BestExit : {E : Type 0} → List A → Answered A E → Result (Option A) E → Type 0
  BestExit items (Ok None) r = (b : Option A) × (r ≡ Ok b) × IsBestOf items b
  BestExit items (Err e) r = r ≡ Err e
  BestExit items (Ok (Some x)) r = ⊥

  pub record BestOfDrained {E : Type 0} (r : Result (Option A) E) (items : List A) (last : Answered A E) : Type 0 where
    pub exit : BestExit items last r

  -- The draws returned items and then an end or a failure; the result is the best of them, or the failure.
  abbrev pub BestDrains : {S E : Type 0} → (S → Answered A E → S → Type 0) → S → Result (Option A) E → Type 0
  BestDrains {S = S} steps s r = (after : S) × Drained steps (BestOfDrained r) s after

-- ---- by an order of keys

module _ {A E F K : Type 0} (keeps : Ordering) (cmp : K → K → Ordering) (call : F → A → Result K E → F → Type 0) where
  -- the item of the best key at an end; the failure, or that of the closure on the item
  abbrev pub KeyExit : List (K × A) → F → Answered A E → Result (Option A) E → Type 0
  KeyExit keyed f (Ok None) r = (b : Option (K × A)) × (r ≡ item_of (Ok b)) × IsBestOf keeps (λ p q. cmp p.0 q.0) keyed b
  KeyExit keyed f (Err e) r = r ≡ Err e
  KeyExit keyed f (Ok (Some x)) r = (e : E) × (g : F) × call f x (Err e) g × (r ≡ Err e)

  -- The closure was called once on each item in order, and returned the keys beside them. Then came the last answer: at an end the result is the item at the last place of a best key; otherwise it is the failure, or that of the closure on the item.
  pub record BestByKeyDrains {S : Type 0} (steps : S → Answered A E → S → Type 0) (s : S) (f : F) (r : Result (Option A) E) : Type 0 where
    pub keyed : List (K × A)
    pub last : Answered A E
    pub closure : F
    pub after : S
    pub ran : Run steps s (map item (map (λ p. p.1) keyed) ++ last ∷ []) after
    pub called : FoldsTo {P = F} (λ g p h. call g p.1 (Ok p.0) h) f keyed closure
    pub exit : KeyExit keyed closure last r
