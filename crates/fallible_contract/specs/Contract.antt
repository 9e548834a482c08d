-- What the contract of a fallible iterator says of its values.
use Rattle.std.specs.Prelude.{◌≡◌, ℕ, ◌≤◌, ◌<◌, Option, Some, None, Ok, Err, ◌↔◌, ⊤, ◌⊎◌, List, []}
use Rattle.std.specs.Borrow.{GName}
use Rattle.std.specs.Iterator.{Count, IsFinite, size, endless}
use Rattle.fallible_contract.specs.Traces.{Answered, Run, items_in}
use Rattle.fallible_contract.specs.Sound.{SoundWhere, HintsHold, own_sound, as_source}

-- No run from s has more than n items. It is the bound of a type that states no other.
pub record BoundsRuns {S A E : Type 0} (steps : S → Answered A E → S → Type 0) (s : S) (n : ℕ) : Type 0 where
  pub at : (trace : List (Answered A E)) (t : S) → Run steps s trace t → items_in trace ≤ n

-- The ghost names of the references that a value draws through: of none, of one and of those that its value draws through, or of those of two parts.
pub data Lenders : Type 0 where
  no_lenders : Lenders
  lender_and : GName → Lenders → Lenders
  lenders_of_both : Lenders → Lenders → Lenders

-- All that the trait's contract says of a type S of fallible iterators over items A and failures E.
pub record Contract (S A E : Type 0) : Type 1 where
  -- the condition of every call that draws
  pub can_next : S → Type 0
  -- the step: a draw may return this and leave that
  pub steps : S → Answered A E → S → Type 0
  -- a bound: no run from the value has more items than this
  pub bound : S → ℕ → Type 0
  -- there is a bound
  pub is_finite : S → Type 0
  -- at most so many items and failures together are still to come
  pub remaining : S → Count
  -- the item may still come
  pub may_give : S → A → Type 0
  -- the failure may still come
  pub may_fail : S → E → Type 0
  -- `size_hint` may return this
  pub hints : S → ℕ × Option ℕ → Type 0
  -- the names of the references that it draws through, which every draw keeps; those of inner iterators, which come and go, are not among them
  pub lenders : S → Lenders
  -- the definition of what it returns: draws may return these answers and leave that
  pub traces : S → List (Answered A E) → S → Type 0
  -- of which values a bound that a hint may have is sound
  pub sound : SoundWhere S

module _ {S A E : Type 0} (m : Contract S A E) where
  -- at most k items are still to come of s: k is a bound of it, or one that is no greater is
  abbrev pub AtMost : S → ℕ → Type 0
  AtMost s k = m.bound s k ⊎ ((n : ℕ) × m.bound s n × (n ≤ k))

  -- each bound of s is one of t or more
  abbrev pub NoMore : S → S → Type 0
  NoMore s t = (n : ℕ) → m.bound s n → (k : ℕ) × m.bound t k × (k ≤ n)

  -- each bound of s is more than one of t
  abbrev pub Fewer : S → S → Type 0
  Fewer s t = (n : ℕ) → m.bound s n → (k : ℕ) × m.bound t k × (k < n)

  -- what remains of t has a bound where that of s has one, and no greater one
  abbrev pub NoMoreRemains : S → S → Type 0
  NoMoreRemains s t = IsFinite (m.remaining s) → IsFinite (m.remaining t) × (size (m.remaining t) ≤ size (m.remaining s))

  -- An item was one to come, and there are fewer then; a failure was one to come; neither a failure nor an end makes more to come.
  abbrev pub OnAnswer : S → Answered A E → S → Type 0
  OnAnswer s (Ok (Some x)) t = m.may_give s x × Fewer s t × (IsFinite (m.remaining s) → IsFinite (m.remaining t) × (size (m.remaining t) < size (m.remaining s)))
  OnAnswer s (Err e) t = m.may_fail s e × NoMore s t × (IsFinite (m.remaining s) → IsFinite (m.remaining t) × (size (m.remaining t) < size (m.remaining s)))
  OnAnswer s (Ok None) t = NoMore s t × (IsFinite (m.remaining s) → IsFinite (m.remaining t) × (size (m.remaining t) ≤ size (m.remaining s)))

  -- After a draw the value may be drawn from again, whatever the answer was; what is finite stays finite, and nothing comes that was not to come, and it draws through the same references.
  pub record KeptByDraw (s : S) (r : Answered A E) (t : S) : Type 0 where
    pub can_next : m.can_next t
    pub is_finite : m.is_finite s → m.is_finite t
    pub answer : OnAnswer s r t
    pub may_give : (x : A) → m.may_give t x → m.may_give s x
    pub may_fail : (e : E) → m.may_fail t e → m.may_fail s e
    pub lenders : m.lenders t ≡ m.lenders s

  -- What `KeptByDraw` says, after any number of draws, from whichever end they were made.
  pub record KeptByDraws (s t : S) : Type 0 where
    pub can_next : m.can_next t
    pub is_finite : m.is_finite s → m.is_finite t
    pub bound : NoMore s t
    pub remaining : NoMoreRemains s t
    pub may_give : (x : A) → m.may_give t x → m.may_give s x
    pub may_fail : (e : E) → m.may_fail t e → m.may_fail s e
    pub lenders : m.lenders t ≡ m.lenders s

  -- no failure can ever come again
  abbrev pub NeverFails : S → Type 0
  NeverFails s = (trace : List (Answered A E)) (t u : S) (e : E) → Run m.steps s trace t → m.steps t (Err e) u → ⊥

  -- What `KeptByDraws` says, after any number of draws from one end; and what can never fail can't fail afterwards.
  pub record Stays (s t : S) : Type 0 where
    pub can_next : m.can_next t
    pub is_finite : m.is_finite s → m.is_finite t
    pub bound : NoMore s t
    pub remaining : NoMoreRemains s t
    pub may_give : (x : A) → m.may_give t x → m.may_give s x
    pub may_fail : (e : E) → m.may_fail t e → m.may_fail s e
    pub lenders : m.lenders t ≡ m.lenders s
    pub sure : NeverFails s → NeverFails t

  -- What each impl proves: each draw keeps what `KeptByDraw` says, it is finite just where it has a bound, its runs are its definition's, and its hints are sound where it says so.
  pub record Lawful : Type 0 where
    pub kept_by_draw : (s : S) (r : Answered A E) (t : S) → m.can_next s → m.steps s r t → KeptByDraw s r t
    pub bounded : (s : S) → m.is_finite s ↔ ((n : ℕ) × m.bound s n)
    pub traced : (s : S) (trace : List (Answered A E)) (t : S) → Run m.steps s trace t ↔ m.traces s trace t
    pub hold : HintsHold m.steps m.hints m.sound

-- the contract of a type whose values are seen as those of another
abbrev pub seen_as : {S P A E : Type 0} → (S → P) → Contract P A E → Contract S A E
seen_as view m = record {
  can_next = λ s. m.can_next (view s);
  steps = λ s r t. m.steps (view s) r (view t);
  bound = λ s n. m.bound (view s) n;
  is_finite = λ s. m.is_finite (view s);
  remaining = λ s. m.remaining (view s);
  may_give = λ s x. m.may_give (view s) x;
  may_fail = λ s e. m.may_fail (view s) e;
  hints = λ s h. m.hints (view s) h;
  lenders = λ s. m.lenders (view s);
  traces = λ s trace t. Run (λ u r v. m.steps (view u) r (view v)) s trace t;
  sound = as_source view m.sound;
}

-- Each value of P is seen of just one value of S.
pub record Inverse {S P : Type 0} (view : S → P) : Type 0 where
  pub make : P → S
  pub made : (s : S) → make (view s) ≡ s
  pub has : (p : P) → view (make p) ≡ p

-- the contract of a struct by its parts: its definition is that of the parts
abbrev pub parts_as : {S P A E : Type 0} → (S → P) → Contract P A E → Contract S A E
parts_as parts m = record (seen_as parts m) { traces = λ s trace t. m.traces (parts s) trace (parts t) }

-- No draw leaves s itself, and any draws from s what the definition says of what is viewed.
abbrev pub traces_around : {S P A E : Type 0} → (S → P) → (P → List (Answered A E) → P → Type 0) → S → List (Answered A E) → S → Type 0
traces_around view traces s trace t = (trace ≡ [] → s ≡ t) × traces (view s) trace (view t)

-- In each value, any value of P can stand where the view is.
pub record Replaceable {S P : Type 0} (view : S → P) : Type 0 where
  pub put : S → P → S
  pub has : (s : S) (p : P) → view (put s p) ≡ p

-- the contract of a struct around a value, whatever becomes of its other parts: its definition is that of the value
abbrev pub around : {S P A E : Type 0} → (S → P) → Contract P A E → Contract S A E
around view m = record (seen_as view m) { traces = traces_around view m.traces }

-- The contract of a type that says how it steps and how many items are left at most, and nothing else.
abbrev pub counted_contract : {S A E : Type 0} → (S → Answered A E → S → Type 0) → (S → ℕ) → Contract S A E
counted_contract steps left = record {
  can_next = λ _. ⊤;
  steps = steps;
  bound = λ s n. left s ≤ n;
  is_finite = λ _. ⊤;
  remaining = λ _. endless;
  may_give = λ _ _. ⊤;
  may_fail = λ _ _. ⊤;
  hints = λ _ h. h ≡ (0, None);
  lenders = λ _. no_lenders;
  traces = λ s trace t. Run steps s trace t;
  sound = own_sound steps;
}

-- The contract of a type that says how it steps, and nothing else: it has a bound only where its runs do.
abbrev pub unbounded_contract : {S A E : Type 0} → (S → Answered A E → S → Type 0) → Contract S A E
unbounded_contract steps = record {
  can_next = λ _. ⊤;
  steps = steps;
  bound = BoundsRuns steps;
  is_finite = λ s. (n : ℕ) × BoundsRuns steps s n;
  remaining = λ _. endless;
  may_give = λ _ _. ⊤;
  may_fail = λ _ _. ⊤;
  hints = λ _ h. h ≡ (0, None);
  lenders = λ _. no_lenders;
  traces = λ s trace t. Run steps s trace t;
  sound = own_sound steps;
}
