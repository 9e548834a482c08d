-- Folds.
use Rattle.std.specs.Prelude.{◌≡◌, ℕ, ◌+◌, ◌≤◌, length, List, [], ◌∷◌, ◌++◌, map, Option, Result, Some, None, Ok, Err, ⊤, IsSomeAnd}
use Rattle.std.specs.List.{FoldsTo, last_or}
use Rattle.std.specs.Fn.{Called, Takes, Mut}
use Rattle.fallible_contract.specs.Traces.{Answered, Run, Yields, item}
use Rattle.std.specs.declared.ops.ControlFlow.{ControlFlow}
use Rattle.std.specs.declared.ops.ControlFlow.TheVariants.{Continue, Break}
use Rattle.std.specs.Borrow.{GName}
use Rattle.fallible_contract.specs.declared.folds.Beside.{Beside}

-- Draws returned items and then a last answer, and left t. `came` holds of the items and that answer.
pub record Drained {S A E : Type 0} (steps : S → Answered A E → S → Type 0) (came : List A → Answered A E → Type 0) (s t : S) : Type 0 where
  pub items : List A
  pub last : Answered A E
  pub ran : Run steps s (map item items ++ last ∷ []) t
  pub at : came items last

-- P holds of each item that may come after items on which the turns went on, with what they made by then
pub record HoldsAtEachTurn {S A E C : Type 0} (steps : S → Answered A E → S → Type 0) (goes_on : C → A → C → Type 0) (P : C → A → Type 0) (s : S) (c : C) : Type 0 where
  pub at : (items : List A) (t u : S) (d : C) (x : A) → Yields steps s items t → FoldsTo goes_on c items d → steps t (item x) u → P d x

-- A closure is called on the value so far and an item.
module _ {A F B R : Type 0} (g : Mut F (B × (A × Unit {0})) R) where
  -- one call on the value so far and an item, which may return r and leave the closure as f'
  abbrev pub call_with : F → B → A → R → F → Type 0
  call_with f b x r f' = Called g f (b, (x, tt)) r f'

  -- the closure may be called on the value so far and an item
  abbrev pub takes_with : F → B → A → Type 0
  takes_with f b x = Takes g f (b, (x, tt))

module _ {A F B E' : Type 0} (call : F → B → A → Result B E' → F → Type 0) where
  -- one call of the closure on the value so far and an item, which went on
  abbrev pub went_on_with : B × F → A → B × F → Type 0
  went_on_with p x q = call p.1 p.0 x (Ok q.0) q.1

  -- One call, as the turn of a fold whose state is the value and the closure. Where the closure fails, the value is lost.
  abbrev pub IsFoldTurn : B × F → A → ControlFlow E' (Unit {0}) → B × F → Type 0
  IsFoldTurn p x (Continue u) q = went_on_with p x q
  IsFoldTurn p x (Break e') q = call p.1 p.0 x (Err e') q.1

  -- One call, as the turn of a fold whose state is the value, in a slot that is full before each turn, and the closure.
  abbrev pub IsFoldTurnInSlot : Option B × F → A → ControlFlow E' (Unit {0}) → Option B × F → Type 0
  IsFoldTurnInSlot (None, f) x r q = ⊥
  IsFoldTurnInSlot (Some b, f) x (Continue u) q = IsSomeAnd q.0 (λ d. call f b x (Ok d) q.1)
  IsFoldTurnInSlot (Some b, f) x (Break e') q = call f b x (Err e') q.1

-- a turn with the value in its slot may be taken where the closure may be called on it
abbrev pub takes_in_slot : {A F B : Type 0} → (F → B → A → Type 0) → Option B × F → A → Type 0
takes_in_slot takes (None, f) x = ⊥
takes_in_slot takes (Some b, f) x = takes f b x

-- One call of a fold from the first item on: that item is the value so far, without a call, and from then on the closure is called on the value so far and the next item.
abbrev pub ReduceCall : {A F E : Type 0} → (F → A → A → Result A E → F → Type 0) → F → Option A → A → Result (Option A) E → F → Type 0
ReduceCall call f None x r g = (r ≡ Ok (Some x)) × (g ≡ f)
ReduceCall call f (Some v) x (Ok None) g = ⊥
ReduceCall call f (Some v) x (Ok (Some y)) g = call f v x (Ok y) g
ReduceCall call f (Some v) x (Err e) g = call f v x (Err e) g

-- the call of a fold from the first item on may be made
abbrev pub reduce_takes : {A F : Type 0} → (F → A → A → Type 0) → F → Option A → A → Type 0
reduce_takes takes f None x = ⊤
reduce_takes takes f (Some v) x = takes f v x

module _ {A E F B E' : Type 0} (call : F → B → A → Result B E' → F → Type 0) (from : E → E' → Type 0) where
  -- the fold's result r by the last answer: the last value at an end; the failure, converted, at a failure; the closure's error where it stopped at an item
  abbrev pub FoldExit : B → F → Answered A E → Result B E' → Type 0
  FoldExit b f (Ok None) r = r ≡ Ok b
  FoldExit b f (Err e) r = (e' : E') × from e e' × (r ≡ Err e')
  FoldExit b f (Ok (Some x)) r = (f' : F) × (e' : E') × call f b x (Err e') f' × (r ≡ Err e')

-- The closure was called on the items in order, each call with the value so far, b at first, and went on. Then came the last answer: an end, a failure, or an item on which the closure failed.
pub record FoldedBy {A E F B E' : Type 0} (call : F → B → A → Result B E' → F → Type 0) (from : E → E' → Type 0) (b : B) (f : F) (r : Result B E') (items : List A) (last : Answered A E) : Type 0 where
  pub value : B
  pub closure : F
  pub went : FoldsTo {P = B × F} (went_on_with call) (b, f) items (value, closure)
  pub exit : FoldExit call from value closure last r

module _ {S A E F B E' : Type 0} (steps : S → Answered A E → S → Type 0) (call : F → B → A → Result B E' → F → Type 0) where
  -- the closure may be called on the value so far and each item that may come
  abbrev pub CallableInFold : (F → B → A → Type 0) → S → F → B → Type 0
  CallableInFold takes s f b = HoldsAtEachTurn {C = B × F} steps (went_on_with call) (λ p x. takes p.1 p.0 x) s (b, f)

  -- The draws from s returned items and a last answer, and left t, by which the fold with f from b on returns r.
  abbrev pub FoldDrains : (E → E' → Type 0) → S → B → F → Result B E' → S → Type 0
  FoldDrains from s b f r t = Drained steps (FoldedBy call from b f r) s t

-- ---- the fold that every other one goes through

-- `turns c x r d` says that one turn on the state c and the item x may return r and leave d: `Continue`, or `Break` if the fold stops.
module _ {A C R : Type 0} (turns : C → A → ControlFlow R (Unit {0}) → C → Type 0) where
  -- one turn that went on
  abbrev pub goes_on : C → A → C → Type 0
  goes_on c x d = turns c x (Continue tt) d

  -- the fold's answer by the last draw: an end, the failure, or what the turn on the item stopped with
  abbrev pub DriveExit : {E : Type 0} → C → Answered A E → Answered R E → C → Type 0
  DriveExit c (Ok None) r d = (r ≡ Ok None) × (d ≡ c)
  DriveExit c (Err e) r d = (r ≡ Err e) × (d ≡ c)
  DriveExit c (Ok (Some x)) r d = (stop : R) × turns c x (Break stop) d × (r ≡ Ok (Some stop))

-- Turns on the items in order, from the state c on, went on. Then came the last answer, by which the fold returned r and left d of the state.
pub record DrivenBy {A E C R : Type 0} (turns : C → A → ControlFlow R (Unit {0}) → C → Type 0) (c : C) (r : Answered R E) (d : C) (items : List A) (last : Answered A E) : Type 0 where
  pub carried : C
  pub went : FoldsTo (goes_on turns) c items carried
  pub exit : DriveExit turns carried last r d

module _ {S A E C R : Type 0} (steps : S → Answered A E → S → Type 0) (turns : C → A → ControlFlow R (Unit {0}) → C → Type 0) where
  -- a turn may be taken on the state and each item that may come
  abbrev pub CallableDriving : (C → A → Type 0) → S → C → Type 0
  CallableDriving can s c = HoldsAtEachTurn steps (goes_on turns) can s c

  -- The draws from s returned items and a last answer, and left t, by which the fold from the state c on returns r and leaves d.
  abbrev pub Driven : S → C → Answered R E → S → C → Type 0
  Driven s c r t d = Drained steps (DrivenBy turns c r d) s t

-- One turn on a state that holds references: the values that they point to, `values`, go as in `turns`, and the references stay the same, which `names` tells.
abbrev pub TurnThrough : {X N A C R : Type 0} → (X → C) → (X → N) → (C → A → ControlFlow R (Unit {0}) → C → Type 0) → X → A → ControlFlow R (Unit {0}) → X → Type 0
TurnThrough values names turns b x r d = turns (values b) x r (values d) × (names d ≡ names b)

-- the caller's state beside the adapter's, and the names of the references to both
abbrev pub beside : {C P : Type 0} → Beside C P → C × P
beside b = (b.c.now, b.p.now)

abbrev pub beside_names : {C P : Type 0} → Beside C P → GName × GName
beside_names b = (b.c.ghost_name, b.p.ghost_name)

-- the answer at which a fold stopped
abbrev pub stopped_answer : {B E : Type 0} → Result B E → Answered B E
stopped_answer (Ok y) = Ok (Some y)
stopped_answer (Err e) = Err e

-- What a fold of the source returns whose turn stops with a result: that result, or the source's end or failure.
abbrev pub within : {R E : Type 0} → Answered (Answered R E) E → Answered R E
within (Ok (Some answer)) = answer
within (Ok None) = Ok None
within (Err e) = Err e

-- ---- count

-- an end, or the failure
abbrev pub OverExit : {A E : Type 0} → Answered A E → Result (Unit {0}) E → Type 0
OverExit (Ok None) r = r ≡ Ok tt
OverExit (Err e) r = r ≡ Err e
OverExit (Ok (Some x)) r = ⊥

-- A number went from n to k, one more for each item. An end or a failure came last.
pub record CountedUp {A E : Type 0} (n : ℕ) (r : Result (Unit {0}) E) (k : ℕ) (items : List A) (last : Answered A E) : Type 0 where
  pub number : k ≡ n + length items
  pub exit : OverExit last r

-- The draws from s returned items and then an end or a failure, and left t. The number went from n to k, one more for each item, also before a failure. The result is the failure, if one came.
abbrev pub CountDrainsOn : {S A E : Type 0} → (S → Answered A E → S → Type 0) → S → ℕ → Result (Unit {0}) E → S → ℕ → Type 0
CountDrainsOn steps s n r t k = Drained steps (CountedUp n r k) s t

-- the number of items n at an end, or the failure
abbrev pub CountExit : {A E : Type 0} → ℕ → Answered A E → Result ℕ E → Type 0
CountExit n (Ok None) r = r ≡ Ok n
CountExit n (Err e) r = r ≡ Err e
CountExit n (Ok (Some x)) r = ⊥

pub record CountedBy {A E : Type 0} (r : Result ℕ E) (items : List A) (last : Answered A E) : Type 0 where
  pub exit : CountExit (length items) last r

-- The draws from s returned items and then an end or a failure, and left t; the result is the number of the items, or the failure.
abbrev pub CountDrains : {S A E : Type 0} → (S → Answered A E → S → Type 0) → S → Result ℕ E → S → Type 0
CountDrains steps s r t = Drained steps (CountedBy r) s t

-- ---- last

-- the last of the items at an end, and none of no items; or the failure
abbrev pub LastExit : {A E : Type 0} → List A → Answered A E → Result (Option A) E → Type 0
LastExit items (Ok None) r = r ≡ Ok (last_or None items)
LastExit items (Err e) r = r ≡ Err e
LastExit items (Ok (Some x)) r = ⊥

pub record LastBy {A E : Type 0} (r : Result (Option A) E) (items : List A) (last : Answered A E) : Type 0 where
  pub exit : LastExit items last r

-- The draws from s returned items and then an end or a failure, and left t; the result is the last of the items, none if there are no items, or the failure.
abbrev pub LastDrains : {S A E : Type 0} → (S → Answered A E → S → Type 0) → S → Result (Option A) E → S → Type 0
LastDrains steps s r t = Drained steps (LastBy r) s t

-- ---- nth

-- n items were skipped before an item, and at most n before a failure or an end
abbrev pub NthExit : {A E : Type 0} → ℕ → ℕ → Answered A E → Type 0
NthExit n skipped (Ok (Some x)) = skipped ≡ n
NthExit n skipped (Ok None) = skipped ≤ n
NthExit n skipped (Err e) = skipped ≤ n

pub record NthBy {A E : Type 0} (n : ℕ) (r : Answered A E) (skipped : List A) (last : Answered A E) : Type 0 where
  pub is : last ≡ r
  pub exit : NthExit n (length skipped) r

-- The draws from s returned the skipped items and then r, the first answer that is the item with n items before it, a failure, or an end. They left t.
abbrev pub NthDrains : {S A E : Type 0} → (S → Answered A E → S → Type 0) → S → ℕ → Answered A E → S → Type 0
NthDrains steps s n r t = Drained steps (NthBy n r) s t

-- One turn of an `nth` that is one fold, where n items are still to be passed over: it passes over one of them, or stops with the item where there are none.
abbrev pub IsNthTurn : {A : Type 0} → ℕ → A → ControlFlow A (Unit {0}) → ℕ → Type 0
IsNthTurn n x (Continue u) k = n ≡ k + 1
IsNthTurn n x (Break y) k = (n ≡ 0) × (y ≡ x) × (k ≡ n)
