-- `PeekingTakeWhile`, which leaves the first rejected item in what it borrows, and what looks ahead so.
use Rattle.std.proofs.Common.{refl}
use Rattle.std.specs.Prelude.{◌≡◌, ⊤, List, [], ◌∷◌, map, Option, Result, Some, None, Ok, Err, Bool, true, false}
use Rattle.std.specs.List.{filter_map}
use Rattle.std.specs.Fn.{Mut}
use Rattle.std.specs.Borrow.{Bor, MutBor}
use Rattle.fallible_iterator.specs.Traces.{Answered, item, failure, end}
use Rattle.fallible_iterator.specs.Contract.{Contract, Inverse, KeptByDraw}
use Rattle.fallible_iterator.specs.Closures.{Calls, IsCallable, call_by_reference, takes_by_reference}
use Rattle.fallible_iterator.specs.Passing.{Place, asked, failure_at, end_at, call_of, passing_contract}
use Rattle.fallible_iterator.specs.Hints.{upper_alone}
use Rattle.fallible_iterator.specs.Cutting.TakeWhile.{taken_answer, take_while_outcome}
use Rattle.fallible_iterator.specs.Peeking.Peekable.{Peeks, peekable_parts}
use Rattle.fallible_iterator.specs.Sound.{above_as_source}
use Rattle.fallible_iterator.specs.Peekable.{Peekable}
use Rattle.fallible_itertools_adapters.specs.declared.peeking_take_while.PeekingTakeWhile.{PeekingTakeWhile}

-- ---- what looks ahead

-- A look at the next item: it comes next as it would have come, and nothing else is drawn. `looks s x t` says that the next item of s is x, and that a look at it leaves t.
pub record LooksAhead {S X E : Type 0} (m : Contract S X E) (looks : S → X → S → Type 0) : Type 0 where
  -- a look keeps what a draw keeps that yields no item
  pub kept : (s : S) (x : X) (t : S) → m.can_next s → looks s x t → KeptByDraw m s end t
  -- the item is one to come
  pub given : (s : S) (x : X) (t : S) → m.can_next s → looks s x t → m.may_give s x
  -- a draw would have yielded it
  pub comes : (s : S) (x : X) (t : S) → looks s x t → (u : S) × m.steps s (item x) u
  -- a draw yields it, and leaves what a draw before the look would have left
  pub next : (s : S) (x : X) (t : S) (r : Answered X E) (u : S) → looks s x t → m.steps t r u → (r ≡ item x) × m.steps s (item x) u
  -- another look is at the same item
  pub again : (s : S) (x : X) (t : S) (y : X) (u : S) → looks s x t → looks t y u → (y ≡ x) × looks s x u
  -- an item that a draw yields can be looked at before
  pub first : (s : S) (x : X) (u : S) → m.steps s (item x) u → (t : S) × looks s x t × m.steps t (item x) u
  -- a look at what was looked at changes nothing
  pub same : (s : S) (x : X) (t : S) → looks s x t → looks t x t

-- a `Peekable` looks ahead by a peek
abbrev pub peekable_looks : {S X E : Type 0} → (S → Answered X E → S → Type 0) → Peekable S X E → X → Peekable S X E → Type 0
peekable_looks steps s x t = Peeks steps (peekable_parts s) (item x) (peekable_parts t)

-- what the closure returns for the held item, and true if none is held
abbrev pub AcceptsHeld : {F X E : Type 0} → (F → X → Result Bool E → F → Type 0) → Option X → F → Result Bool E → F → Type 0
AcceptsHeld call (Some x) f v g = call f x v g
AcceptsHeld call None f v g = (v ≡ Ok true) × (g ≡ f)

-- what is borrowed looks as it does itself, and stays the same reference
abbrev pub borrowed_looks : {S X : Type 0} → (S → X → S → Type 0) → MutBor S → X → MutBor S → Type 0
borrowed_looks looks s x t = looks s.now x t.now × (t.ghost_name ≡ s.ghost_name)

-- ---- the adapter

-- the answer that was taken at a place: each but a rejected item
abbrev pub let_go : {X E : Type 0} → Place X (Result Bool E) E → Option (Answered X E)
let_go (asked x (Ok true)) = Some (item x)
let_go (asked x (Ok false)) = None
let_go (asked x (Err e)) = Some (item x)
let_go (failure_at e) = Some (failure e)
let_go end_at = Some end

-- after a place where the item was rejected stands one where the closure was called on the same item
abbrev pub LookedAgainAt : {X E : Type 0} → Place X (Result Bool E) E → Place X (Result Bool E) E → Type 0
LookedAgainAt (asked x (Ok true)) w = ⊤
LookedAgainAt {E = E} (asked x (Ok false)) w = (v : Result Bool E) × (w ≡ asked x v)
LookedAgainAt (asked x (Err e)) w = ⊤
LookedAgainAt (failure_at e) w = ⊤
LookedAgainAt end_at w = ⊤

abbrev pub AskedAgain : {X E : Type 0} → List (Place X (Result Bool E) E) → Type 0
AskedAgain [] = ⊤
AskedAgain (z ∷ []) = ⊤
AskedAgain (z ∷ w ∷ places) = LookedAgainAt z w × AskedAgain (w ∷ places)

module _ {S X E : Type 0} (looks : S → X → S → Type 0) where
  -- how the source is left at the last place: if the item was rejected it was looked at
  abbrev pub LeavesSource : Place X (Result Bool E) E → S → S → Type 0
  LeavesSource (asked x (Ok true)) u q = q ≡ u
  LeavesSource (asked x (Ok false)) u q = looks u x q
  LeavesSource (asked x (Err e)) u q = q ≡ u
  LeavesSource (failure_at e) u q = q ≡ u
  LeavesSource end_at u q = q ≡ u

  abbrev pub LeftAt : List (Place X (Result Bool E) E) → S → S → Type 0
  LeftAt [] u q = q ≡ u
  LeftAt (z ∷ []) u q = LeavesSource z u q
  LeftAt (z ∷ w ∷ places) u q = LeftAt (w ∷ places) u q

-- `PeekingTakeWhile`: the closure is called on the item of each place, and an item is replaced by the closure's failure on it, and a rejected one by an end. The answers that were taken are those of the source's draws; on a rejected item the closure is called again at the next place, and if that is the last it was looked at and stays next. The parts are the source and the closure, and `traces` says what draws of the source may return.
pub record PeekingTrace {S F X E : Type 0} (traces : S → List (Answered X E) → S → Type 0) (looks : S → X → S → Type 0) (call : F → X → Result Bool E → F → Type 0) (p : S × F) (trace : List (Answered X E)) (q : S × F) : Type 0 where
  pub places : List (Place X (Result Bool E) E)
  pub between : S
  pub drawn : traces p.0 (filter_map let_go places) between
  pub left : LeftAt looks places between q.0
  pub called : Calls call p.1 (filter_map call_of places) q.1
  pub answers : trace ≡ map taken_answer places
  pub again : AskedAgain places

-- the draw at a place, or the look at an item that was rejected
abbrev pub DrawsAtPlace : {S X E : Type 0} → (S → Answered X E → S → Type 0) → (S → X → S → Type 0) → Place X (Result Bool E) E → S → S → Type 0
DrawsAtPlace steps looks (asked x (Ok true)) s t = steps s (item x) t
DrawsAtPlace steps looks (asked x (Ok false)) s t = looks s x t
DrawsAtPlace steps looks (asked x (Err e)) s t = steps s (item x) t
DrawsAtPlace steps looks (failure_at e) s t = steps s (failure e) t
DrawsAtPlace steps looks end_at s t = steps s end t

-- One answer: that of one place, with the closure called on its item.
abbrev pub peeking_step : {S F X E : Type 0} → (S → Answered X E → S → Type 0) → (S → X → S → Type 0) → (F → X → Result Bool E → F → Type 0) → S × F → Answered X E → S × F → Type 0
peeking_step {X = X} {E = E} steps looks call p r q = (z : Place X (Result Bool E) E) × DrawsAtPlace steps looks z p.0 q.0 × Calls call p.1 (filter_map call_of (z ∷ [])) q.1 × (r ≡ taken_answer z)

-- The contract: the closure may be called on each item that may come, and the hint has the source's upper bound alone.
abbrev pub peeking_contract : {S F X E : Type 0} → Contract S X E → (S → X → S → Type 0) → Mut F (Bor X × Unit {0}) (Result Bool E) → Contract (S × F) X E
peeking_contract m looks g = record (passing_contract m (call_by_reference g) (λ P f. IsCallable (call_by_reference g) (takes_by_reference g) P f) take_while_outcome (λ p h. upper_alone m p.0 h)) { steps = peeking_step m.steps looks (call_by_reference g); traces = PeekingTrace m.traces looks (call_by_reference g); sound = above_as_source (λ p. p.0) m.sound }

-- the source
abbrev pub peeking_source : {P F : Type 0} → PeekingTakeWhile P F → P
peeking_source s = s.it

-- the closure
abbrev pub peeking_closure : {P F : Type 0} → PeekingTakeWhile P F → F
peeking_closure s = s.accept

-- the source and the closure
abbrev pub peeking_parts : {P F : Type 0} → PeekingTakeWhile P F → P × F
peeking_parts s = (peeking_source s, peeking_closure s)

-- and back
pub peeking_made : {P F : Type 0} → Inverse (peeking_parts {P = P} {F = F})
peeking_made = record { make = λ p. record { it = p.0; accept = p.1 }; made = λ s. refl; has = λ p. refl }

-- ---- what it leaves

-- what is left of the list at an item for which the closure returns so: that item and what comes after it, if it is rejected
abbrev pub rest_from_item : {X E : Type 0} → X → Result Bool E → List (Result X E) → Option (List (Result X E)) → Option (List (Result X E))
rest_from_item x (Ok true) l left = left
rest_from_item x (Ok false) l left = Some (Ok x ∷ l)
rest_from_item x (Err e) l left = left

-- the list from the first item x on for which h x is false; none if there is no such item
unfoldable pub rest_by_while : {X E : Type 0} → (X → Result Bool E) → List (Result X E) → Option (List (Result X E))
rest_by_while h [] = None
rest_by_while h (Ok x ∷ l) = rest_from_item x (h x) l (rest_by_while h l)
rest_by_while h (Err e ∷ l) = rest_by_while h l
