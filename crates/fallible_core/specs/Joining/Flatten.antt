-- `Flatten`: each item of an outer source becomes an inner iterator, and the answers of these are joined.
use Rattle.std.proofs.Common.{refl}
use Rattle.std.specs.Prelude.{◌≡◌, ◌≢◌, ℕ, ◌+◌, ◌*◌, IsSomeAnd, ◌≤◌, List, [], ◌∷◌, ◌++◌, map, Option, Result, Some, None, Ok, Err, IfSome, ⊤, ◌⊎◌}
use Rattle.std.specs.List.{flat_map}
use Rattle.std.specs.Iterator.{endless}
use Rattle.fallible_contract.specs.Lists.{Lists}
use Rattle.fallible_contract.specs.Traces.{Answered, Run, item, failure, end, NoEnd}
use Rattle.fallible_contract.specs.Sound.{sound_always}
use Rattle.fallible_contract.specs.Contract.{Inverse, Contract}
use Rattle.fallible_contract.specs.Folds.{CallableDriving, Driven}
use Rattle.fallible_core.specs.Joining.Chain.{chained}
use Rattle.std.specs.declared.ops.ControlFlow.{ControlFlow}
use Rattle.std.specs.declared.ops.ControlFlow.TheVariants.{Continue, Break}
use Rattle.fallible_core.specs.declared.joining.flatten.Flatten.{Flatten}

-- What one answer of the outer source puts into the trace: an item became an inner iterator, with the answers that came from it; or a failure or an end, which is the answer itself.
pub data Part (X C B E : Type 0) : Type 0 where
  of_inner : X → C → List (Answered B E) → Part X C B E
  of_failure : E → Part X C B E
  of_end : Part X C B E

-- the outer source's answer in a part
abbrev pub outer_answer : {X C B E : Type 0} → Part X C B E → Answered X E
outer_answer (of_inner x c answers) = item x
outer_answer (of_failure e) = failure e
outer_answer of_end = end

-- what a part has in the trace
abbrev pub part_answers : {X C B E : Type 0} → Part X C B E → List (Answered B E)
part_answers (of_inner x c answers) = answers
part_answers (of_failure e) = failure e ∷ []
part_answers of_end = end ∷ []

-- ---- below, `outer s l t` says that draws of the outer source at s may return the answers l and leave t, and `inner c l d` says so of an inner iterator

-- A finished inner iterator returned the answers, and then its end was drawn.
pub record Finished {C B E : Type 0} (inner : C → List (Answered B E) → C → Type 0) (c : C) (answers : List (Answered B E)) : Type 0 where
  pub after : C
  pub drawn : inner c (answers ++ end ∷ []) after
  pub no_end : NoEnd answers

-- An unfinished inner iterator returned the answers, at least one and no end, and is then d.
pub record Unfinished {C B E : Type 0} (inner : C → List (Answered B E) → C → Type 0) (c : C) (answers : List (Answered B E)) (d : C) : Type 0 where
  pub drawn : inner c answers d
  pub no_end : NoEnd answers
  pub not_empty : answers ≢ []

module _ {X C B E : Type 0} (into : X → C → Type 0) (inner : C → List (Answered B E) → C → Type 0) where
  -- a part before the last: its inner iterator is finished
  abbrev pub FinishedPart : Part X C B E → Type 0
  FinishedPart (of_inner x c answers) = into x c × Finished inner c answers
  FinishedPart (of_failure e) = ⊤
  FinishedPart of_end = ⊤

  -- each part before the last
  abbrev pub FinishedParts : List (Part X C B E) → Type 0
  FinishedParts [] = ⊤
  FinishedParts (p ∷ rest) = FinishedPart p × FinishedParts rest

  -- the last part: its inner iterator is unfinished, and it alone is in hand afterwards
  abbrev pub LastPart : Part X C B E → Option C → Type 0
  LastPart (of_inner x c answers) hand = into x c × ((d : C) × Unfinished inner c answers d × (hand ≡ Some d))
  LastPart (of_failure e) hand = hand ≡ None
  LastPart of_end hand = hand ≡ None

-- the current inner iterator, if there is one, returned the answers and is finished
abbrev pub FinishedInHand : {C B E : Type 0} → (C → List (Answered B E) → C → Type 0) → Option C → List (Answered B E) → Type 0
FinishedInHand inner (Some c) answers = Finished inner c answers
FinishedInHand inner None answers = answers ≡ []

-- The outer source was drawn. The trace joins the answers of the current inner iterator, if there was one, and a part for each answer of the outer source.
pub record JoinedTrace {S X C B E : Type 0} (outer : S → List (Answered X E) → S → Type 0) (into : X → C → Type 0) (inner : C → List (Answered B E) → C → Type 0) (s : S) (hand : Option C) (trace : List (Answered B E)) (t : S) (hand' : Option C) : Type 0 where
  pub in_hand : List (Answered B E)
  pub parts : List (Part X C B E)
  pub last : Part X C B E
  pub drawn : outer s (map outer_answer (parts ++ last ∷ [])) t
  pub hand_finished : FinishedInHand inner hand in_hand
  pub finished : FinishedParts into inner parts
  pub at_last : LastPart into inner last hand'
  pub answers : trace ≡ in_hand ++ flat_map part_answers (parts ++ last ∷ [])

-- The answers from an outer source at s: nothing was drawn; or the trace is that of the current inner iterator, which is unfinished; or the outer source was drawn.
pub data FlattenAnswers {S X C B E : Type 0} (outer : S → List (Answered X E) → S → Type 0) (into : X → C → Type 0) (inner : C → List (Answered B E) → C → Type 0) : S → Option C → List (Answered B E) → S → Option C → Type 0 where
  nothing_drawn : {s : S} {hand : Option C} → FlattenAnswers outer into inner s hand [] s hand
  still_in_hand : {s : S} {c d : C} {trace : List (Answered B E)} → Unfinished inner c trace d → FlattenAnswers outer into inner s (Some c) trace s (Some d)
  outer_drawn : {s t : S} {hand hand' : Option C} {trace : List (Answered B E)} → JoinedTrace outer into inner s hand trace t hand' → FlattenAnswers outer into inner s hand trace t hand'

-- its definition over all that the outer source and the inner iterators return
abbrev pub flattens_all : {S X C B E : Type 0} → (S → List (Answered X E) → S → Type 0) → (X → C → Type 0) → (C → List (Answered B E) → C → Type 0) → S × Option C → List (Answered B E) → S × Option C → Type 0
flattens_all traces into inner_traces p trace q = FlattenAnswers traces into inner_traces p.0 p.1 trace q.0 q.1

-- `Flatten`, by its parts: the outer source, and the current inner iterator.
abbrev pub FlattenTrace : {S X C B E : Type 0} → (S → Answered X E → S → Type 0) → (X → C → Type 0) → (C → Answered B E → C → Type 0) → S × Option C → List (Answered B E) → S × Option C → Type 0
FlattenTrace outer into inner p trace q = flattens_all (Run outer) into (Run inner) p trace q

-- ---- the contract

-- k is a bound of the current inner iterator; 0 where there is none
abbrev pub NumberInHand : {C : Type 0} → Option C → (C → ℕ → Type 0) → ℕ → Type 0
NumberInHand (Some c) to_come k = to_come c k
NumberInHand None to_come k = k ≡ 0

module _ {S X C B E : Type 0} (m : Contract S X E) (into : X → C → Type 0) (inner : Contract C B E) where
  -- an item that the outer source may still yield becomes an inner iterator of which P holds
  pub record SomeInner (P : C → Type 0) (s : S) : Type 0 where
    pub argument : X
    pub iterator : C
    pub given : m.may_give s argument
    pub becomes : into argument iterator
    pub holds : P iterator

  -- each item that the outer source may still yield becomes an inner iterator of which P holds
  pub record EachInner (P : C → Type 0) (s : S) : Type 0 where
    pub at : (x : X) (c : C) → m.may_give s x → into x c → P c

  -- no inner iterator that may come has more than b items
  abbrev pub EachAtMost : ℕ → S → Type 0
  EachAtMost b s = EachInner (λ c. (k : ℕ) × inner.bound c k × (k ≤ b)) s

  -- The outer source has at most so many items, each of which becomes at most so many, and the current inner iterator has at most so many.
  pub record FlattenNumber (s : S) (hand : Option C) (n : ℕ) : Type 0 where
    pub outer : ℕ
    pub each : ℕ
    pub in_hand : ℕ
    pub outer_is : m.bound s outer
    pub each_is : EachAtMost each s
    pub in_hand_is : NumberInHand hand inner.bound in_hand
    pub sum : each * outer + in_hand ≤ n

  -- The contract of `Flatten`. `next` may be called where it may be on the outer source, which has a bound, since many inner iterators may end at once, and on the inner iterator in hand and each that may come. There is a bound where the outer source and the inner iterator in hand have one, and one serves for all that may come.
  abbrev pub flatten_contract : Contract (S × Option C) B E
  flatten_contract = record {
    can_next = λ p. m.can_next p.0 × m.is_finite p.0 × IfSome p.1 inner.can_next × EachInner inner.can_next p.0;
    steps = λ p r q. FlattenTrace m.steps into inner.steps p (r ∷ []) q;
    bound = λ p n. FlattenNumber p.0 p.1 n;
    is_finite = λ p. m.is_finite p.0 × IfSome p.1 inner.is_finite × ((b : ℕ) × EachAtMost b p.0);
    remaining = λ p. endless;
    may_give = λ p y. IsSomeAnd p.1 (λ c. inner.may_give c y) ⊎ SomeInner (λ c. inner.may_give c y) p.0;
    may_fail = λ p e. m.may_fail p.0 e ⊎ (IsSomeAnd p.1 (λ c. inner.may_fail c e) ⊎ SomeInner (λ c. inner.may_fail c e) p.0);
    hints = λ p h. h ≡ (0, None);
    lenders = λ p. m.lenders p.0;
    traces = flattens_all m.traces into inner.traces;
    sound = sound_always;
  }

-- ---- a fold, as one of the outer source

module _ {X C B E V R : Type 0} (into : X → C → Type 0) (inner : Contract C B E) (turns : V → B → ControlFlow R (Unit {0}) → V → Type 0) where
  -- One turn, on the caller's state and the current inner iterator: the item became an inner iterator, and this was folded by the caller's turns. The fold goes on if that one ended. Otherwise it stops with what that one returned, and that inner iterator is the current one.
  abbrev pub IsFlattenTurn : V × Option C → X → ControlFlow (Answered R E) (Unit {0}) → V × Option C → Type 0
  IsFlattenTurn p x (Continue u) q = (c : C) × (d : C) × into x c × Driven inner.steps turns c p.0 (Ok None) d q.0 × (q.1 ≡ p.1)
  IsFlattenTurn p x (Break r) q = (c : C) × (d : C) × into x c × Driven inner.steps turns c p.0 r d q.0 × (r ≢ Ok None) × (q.1 ≡ Some d)

  -- The turn may be taken if what the item may become may be folded so.
  abbrev pub JoiningTakes : (V → B → Type 0) → V × Option C → X → Type 0
  JoiningTakes can p x = (c : C) → into x c → inner.can_next c × inner.is_finite c × CallableDriving inner.steps turns can c p.0

-- the source
abbrev pub flatten_source : {I J : Type 0} → Flatten I J → I
flatten_source s = s.it

-- the current inner iterator
abbrev pub flatten_inner : {I J : Type 0} → Flatten I J → Option J
flatten_inner s = s.in_hand

-- the outer source, and the current inner iterator
abbrev pub flatten_parts : {I J : Type 0} → Flatten I J → I × Option J
flatten_parts s = (flatten_source s, flatten_inner s)

-- and back
pub flatten_made : {I J : Type 0} → Inverse (flatten_parts {I = I} {J = J})
flatten_made = record { make = λ p. record { it = p.0; in_hand = p.1 }; made = λ s. refl; has = λ p. refl }

-- ---- what it lists

-- Whatever iterator `into` allows for an item x, its answers list `inner x`.
abbrev pub EachLists : {X C B E : Type 0} → (X → C → Type 0) → (C → Answered B E → C → Type 0) → (X → List (Result B E)) → Type 0
EachLists {X} {C} into steps inner = (x : X) (c : C) → into x c → Lists steps c (inner x)

-- the list `inner x` in the place of each item x; failures stay in their places
unfoldable pub flattened : {X B E : Type 0} → (X → List (Result B E)) → List (Result X E) → List (Result B E)
flattened inner [] = []
flattened inner (Ok x ∷ l) = chained (inner x) (flattened inner l)
flattened inner (Err e ∷ l) = Err e ∷ flattened inner l
