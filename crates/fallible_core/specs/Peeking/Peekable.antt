-- `Peekable`, which looks one answer ahead and holds it.
use Rattle.std.proofs.Common.{refl}
use Rattle.std.specs.Prelude.{ℕ, Bool, Option, Some, ◌≡◌, ◌+◌, ◌≤◌, List, [], ◌∷◌, ◌++◌, replicate, Result, None, Ok, Err, true, false, ⊤, ◌⊎◌}
use Rattle.std.specs.Iterator.{count_map}
use Rattle.std.specs.Fn.{Shared, FnReturnsAt}
use Rattle.std.specs.Borrow.{Bor, MutBor}
use Rattle.fallible_contract.specs.Traces.{Answered, Run, first_of, item, failure, end, NoEnd}
use Rattle.fallible_contract.specs.Sound.{SoundWhere}
use Rattle.fallible_contract.specs.Contract.{Inverse, Contract}
use Rattle.fallible_contract.specs.Ends.{Ends}
use Rattle.fallible_contract.specs.Hints.{HintWithItem, UpperWithItem, lower_with_item}
use Rattle.fallible_core.specs.declared.peeking.peekable.Peekable.{Peekable}

-- the source
abbrev pub peekable_source : {I A E : Type 0} → Peekable I A E → I
peekable_source s = s.it

-- the answer that it holds, if it holds one
abbrev pub peekable_held : {I A E : Type 0} → Peekable I A E → Option (Option A)
peekable_held s = s.held

-- the source, and the answer that was looked at
abbrev pub peekable_parts : {I A E : Type 0} → Peekable I A E → I × Option (Option A)
peekable_parts s = (peekable_source s, peekable_held s)

-- and back
pub peekable_made : {I A E : Type 0} → Inverse (peekable_parts {I = I} {A = A} {E = E})
peekable_made = record { make = λ p. record { it = p.0; held = p.1 }; made = λ s. refl; has = λ p. refl }

-- the answer that is held, an item or an end, if there is one
abbrev pub held_answers : {A E : Type 0} → Option (Option A) → List (Answered A E)
held_answers (Some o) = Ok o ∷ []
held_answers None = []

-- what is listed where the source lists l: a held item and then l, nothing more after a held end, and l where nothing is held
abbrev pub held_then : {A E : Type 0} → Option (Option A) → List (Result A E) → List (Result A E)
held_then (Some (Some x)) l = Ok x ∷ l
held_then (Some None) l = []
held_then None l = l

-- the held answer, if there is one, and then the source's trace; nothing is held afterwards
pub record HeldAndDrawn {S A E : Type 0} (steps : S → Answered A E → S → Type 0) (p : S × Option (Option A)) (trace : List (Answered A E)) (q : S × Option (Option A)) : Type 0 where
  pub source_trace : List (Answered A E)
  pub drawn : Run steps p.0 source_trace q.0
  pub answers : trace ≡ held_answers p.1 ++ source_trace
  pub let_go : q.1 ≡ None

-- `Peekable`: the held answer, if there is one, and then the source's trace, and nothing is held then; if there are no answers, nothing changes. The parts are the source and what is held.
abbrev pub PeekableTrace : {S A E : Type 0} → (S → Answered A E → S → Type 0) → S × Option (Option A) → List (Answered A E) → S × Option (Option A) → Type 0
PeekableTrace steps p trace q = ((trace ≡ []) × (q ≡ p)) ⊎ HeldAndDrawn steps p trace q

-- its definition over all that its source returns
abbrev pub peeks_all : {S A E : Type 0} → (S → List (Answered A E) → S → Type 0) → S × Option (Option A) → List (Answered A E) → S × Option (Option A) → Type 0
peeks_all {A = A} {E = E} traces p trace q = ((trace ≡ []) × (q ≡ p)) ⊎ ((l : List (Answered A E)) × traces p.0 l q.0 × HeldAndDrawn first_of (l, p.1) trace ([], q.1))

-- One answer: the held one without a draw, and otherwise the source's.
abbrev pub peekable_step : {S A E : Type 0} → (S → Answered A E → S → Type 0) → S × Option (Option A) → Answered A E → S × Option (Option A) → Type 0
peekable_step steps (s, Some o) r (t, held) = (r ≡ Ok o) × (t ≡ s) × (held ≡ None)
peekable_step steps (s, None) r (t, held) = steps s r t × (held ≡ None)

-- The source's hint; with a held item one more on each bound, and with a held end no items.
abbrev pub peekable_hints : {S A E : Type 0} → Contract S A E → S × Option (Option A) → ℕ × Option ℕ → Type 0
peekable_hints m (s, None) h = m.hints s h
peekable_hints m (s, Some None) h = h ≡ (0, Some 0)
peekable_hints m (s, Some (Some x)) h = (k : ℕ × Option ℕ) × m.hints s k × HintWithItem k h

module _ {S A : Type 0} (hints : S → ℕ × Option ℕ → Type 0) (w : SoundWhere S) where
  -- of an upper bound: where nothing is held, wherever it is sound of the source; with a held end, always; with a held item, wherever that one is of which it is made
  abbrev pub peekable_above : S × Option (Option A) → Option ℕ → Type 0
  peekable_above (s, None) high = w.above s high
  peekable_above (s, Some None) high = ⊤
  peekable_above (s, Some (Some x)) high = (k : ℕ × Option ℕ) × hints s k × UpperWithItem k.1 high × w.above s k.1

  -- of a lower bound the same
  abbrev pub peekable_below : S × Option (Option A) → ℕ → Type 0
  peekable_below (s, None) low = w.below s low
  peekable_below (s, Some None) low = ⊤
  peekable_below (s, Some (Some x)) low = (k : ℕ × Option ℕ) × hints s k × (low ≡ lower_with_item k.0) × w.below s k.0

  -- of both
  abbrev pub peekable_sound : SoundWhere (S × Option (Option A))
  peekable_sound = record { above = peekable_above; below = peekable_below }

-- how many items are held
abbrev pub held_items : {A : Type 0} → Option (Option A) → ℕ
held_items (Some (Some x)) = 1
held_items (Some None) = 0
held_items None = 0

-- A held item is one more to come than the source's, and one more that remains.
abbrev pub peekable_contract : {S A E : Type 0} → Contract S A E → Contract (S × Option (Option A)) A E
peekable_contract m = record {
  can_next = λ p. m.can_next p.0;
  steps = peekable_step m.steps;
  bound = λ p n. (k : ℕ) × m.bound p.0 k × (k + held_items p.1 ≤ n);
  is_finite = λ p. m.is_finite p.0;
  remaining = λ p. count_map (λ n. n + held_items p.1) (m.remaining p.0);
  may_give = λ p x. (p.1 ≡ Some (Some x)) ⊎ m.may_give p.0 x;
  may_fail = λ p e. m.may_fail p.0 e;
  hints = peekable_hints m;
  lenders = λ p. m.lenders p.0;
  traces = peeks_all m.traces;
  sound = peekable_sound m.hints m.sound;
}

-- ---- the second end

-- The answer is an item or a failure.
abbrev pub IsNoEnd : {A E : Type 0} → Answered A E → Type 0
IsNoEnd (Ok (Some x)) = ⊤
IsNoEnd (Ok None) = ⊥
IsNoEnd (Err e) = ⊤

-- One answer from the back: the source's from the back. A held item stays held, up to the source's end there: it comes in the place of that, and an end is held then. A held end comes without a draw, and stays held.
abbrev pub peekable_step_back : {S A E : Type 0} → (S → Answered A E → S → Type 0) → S × Option (Option A) → Answered A E → S × Option (Option A) → Type 0
peekable_step_back back (s, Some (Some x)) r (t, held) = (back s end t × (r ≡ item x) × (held ≡ Some None)) ⊎ (back s r t × IsNoEnd r × (held ≡ Some (Some x)))
peekable_step_back back (s, Some None) r (t, held) = (r ≡ end) × (t ≡ s) × (held ≡ Some None)
peekable_step_back back (s, None) r (t, held) = back s r t × (held ≡ None)

-- The held item x came last, and then n ends: the source's trace from the back is a list without an end, and then an end, in whose place x stands.
pub record HeldLast {S A E : Type 0} (traces : S → List (Answered A E) → S → Type 0) (s : S) (x : A) (trace : List (Answered A E)) (t : S) : Type 0 where
  pub before_held : List (Answered A E)
  pub n : ℕ
  pub drawn : traces s (before_held ++ end ∷ []) t
  pub no_end : NoEnd before_held
  pub answers : trace ≡ before_held ++ item x ∷ replicate n end

-- Its definition from the back, over all that its source returns there. With an item held, the trace is the source's up to the first end, in whose place the item comes, and from then on an end is held. With an end held, the trace is ends, without a draw. With nothing held, it is the source's.
abbrev pub peeks_all_back : {S A E : Type 0} → (S → List (Answered A E) → S → Type 0) → S × Option (Option A) → List (Answered A E) → S × Option (Option A) → Type 0
peeks_all_back traces (s, Some (Some x)) trace (t, held) = (traces s trace t × NoEnd trace × (held ≡ Some (Some x))) ⊎ (HeldLast traces s x trace t × (held ≡ Some None))
peeks_all_back traces (s, Some None) trace (t, held) = ((n : ℕ) × (trace ≡ replicate n end)) × (t ≡ s) × (held ≡ Some None)
peeks_all_back traces (s, None) trace (t, held) = traces s trace t × (held ≡ None)

-- `Peekable`'s second end: a held item may come from either end.
abbrev pub peekable_ends : {S A E : Type 0} → Contract S A E → Ends S A E → Ends (S × Option (Option A)) A E
peekable_ends m e = record {
  can_next = λ p. e.can_next p.0;
  steps = peekable_step_back e.steps;
  may_give = λ p x. (p.1 ≡ Some (Some x)) ⊎ e.may_give p.0 x;
  may_fail = λ p d. e.may_fail p.0 d;
  traces = peeks_all_back e.traces;
  sound = peekable_sound m.hints e.sound;
}

-- ---- looking ahead

-- what the reference that is returned points to
abbrev pub seen : {A E : Type 0} → Result (Option (Bor A)) E → Answered A E
seen (Ok (Some x)) = item x.now
seen (Ok None) = end
seen (Err e) = failure e

-- what the mutable reference that is returned points to
abbrev pub seen_mut : {A E : Type 0} → Result (Option (MutBor A)) E → Answered A E
seen_mut (Ok (Some x)) = item x.now
seen_mut (Ok None) = end
seen_mut (Err e) = failure e

-- what is held once it was drawn: an item or an end, and no failure
abbrev pub held_of : {A E : Type 0} → Answered A E → Option (Option A)
held_of (Ok o) = Some o
held_of (Err e) = None

-- `peek`: if an answer is held it is that one, nothing is drawn and nothing changes; otherwise one answer is drawn, and an item or an end is held.
abbrev pub Peeks : {S A E : Type 0} → (S → Answered A E → S → Type 0) → S × Option (Option A) → Answered A E → S × Option (Option A) → Type 0
Peeks steps (s, Some o) r (t, held) = (r ≡ Ok o) × (t ≡ s) × (held ≡ Some o)
Peeks steps (s, None) r (t, held) = steps s r t × (held ≡ held_of r)

-- whether the answer was a failure, and which
abbrev pub failure_told : {A E : Type 0} → Answered A E → Result (Unit {0}) E
failure_told (Ok x) = Ok tt
failure_told (Err e) = Err e

-- where nothing is held, one answer is drawn, and an item or an end is held; a failure is told
abbrev pub Fills : {S A E : Type 0} → (S → Answered A E → S → Type 0) → S × Option (Option A) → Result (Unit {0}) E → S × Option (Option A) → Type 0
Fills {A = A} {E = E} steps p r q = (a : Answered A E) × Peeks steps p a q × (r ≡ failure_told a)

-- the held item, if it is one that is held
abbrev pub held_item : {A : Type 0} → Option (Option A) → Option A
held_item (Some o) = o
held_item None = None

-- s where the held item is changed to x
abbrev pub with_held : {I A E : Type 0} → Peekable I A E → A → Peekable I A E
with_held s x = record s { held = Some (Some x) }

-- what a closure returns for the item that was looked at; none at an end, and the failure if one came
abbrev pub LooksAt : {F A R E : Type 0} → Shared F (Bor A × Unit {0}) R → F → Answered A E → Result (Option R) E → Type 0
LooksAt {R = R} g f (Ok (Some x)) r = (v : R) × FnReturnsAt g f x v × (r ≡ Ok (Some v))
LooksAt g f (Ok None) r = r ≡ Ok None
LooksAt g f (Err e) r = r ≡ Err e

-- `look`: a peek, and what the closure returns for the item.
abbrev pub Looks : {S F A R E : Type 0} → (S → Answered A E → S → Type 0) → Shared F (Bor A × Unit {0}) R → F → S × Option (Option A) → Result (Option R) E → S × Option (Option A) → Type 0
Looks {A = A} {E = E} steps g f p r q = (a : Answered A E) × Peeks steps p a q × LooksAt g f a r

-- what is done with what a peek returned, and left as p: an item for which the test is true is taken, and one for which it is false stays held, as an end does
abbrev pub TakenIf : {S A E : Type 0} → (S → Answered A E → S → Type 0) → (A → Bool → Type 0) → S × Option (Option A) → Answered A E → Answered A E → S × Option (Option A) → Type 0
TakenIf steps test p (Ok (Some x)) r q = (test x true × (r ≡ item x) × peekable_step steps p r q) ⊎ (test x false × (r ≡ end) × (q ≡ p))
TakenIf steps test p (Ok None) r q = (r ≡ end) × (q ≡ p)
TakenIf steps test p (Err e) r q = (r ≡ failure e) × (q ≡ p)

-- `next_if`: a peek, and then a draw if the test is true of the item; otherwise what is held stays held, and the result is an end, or the failure.
pub record NextIf {S A E : Type 0} (steps : S → Answered A E → S → Type 0) (test : A → Bool → Type 0) (p : S × Option (Option A)) (r : Answered A E) (q : S × Option (Option A)) : Type 0 where
  pub peeked : Answered A E
  pub after : S × Option (Option A)
  pub peeks : Peeks steps p peeked after
  pub taken : TakenIf steps test after peeked r q

-- the test of an item by a closure, which may be called on a reference to it
abbrev pub TestedBy : {F A : Type 0} → Shared F (Bor A × Unit {0}) Bool → F → A → Bool → Type 0
TestedBy g f x b = FnReturnsAt g f x b

-- The closure may be called on a reference to each item of which P holds.
abbrev pub IsTestable : {F A R : Type 0} → Shared F (Bor A × Unit {0}) R → F → (A → Type 0) → Type 0
IsTestable {A = A} g f P = (x : Bor A) → P x.now → g.pre f (x, tt)

-- ---- what looking makes of what is listed

-- what `peek` and `look` leave: the list, without the failure that stands first
unfoldable pub rest_look : {A E : Type 0} → List (Result A E) → List (Result A E)
rest_look [] = []
rest_look (Ok x ∷ l) = Ok x ∷ l
rest_look (Err e ∷ l) = l

-- the list with w in the place of its first item
unfoldable pub changed_first : {A E : Type 0} → A → List (Result A E) → List (Result A E)
changed_first w [] = []
changed_first w (Ok x ∷ l) = Ok w ∷ l
changed_first w (Err e ∷ l) = Err e ∷ l

-- h of the item that stands first; none if the list is empty, and the failure that stands first
unfoldable pub look_of : {A E R : Type 0} → (A → R) → List (Result A E) → Result (Option R) E
look_of h [] = Ok None
look_of h (Ok x ∷ l) = Ok (Some (h x))
look_of h (Err e ∷ l) = Err e

-- the item x, or none, by a test's answer on it
abbrev pub taken_by : {A E : Type 0} → Bool → A → Answered A E
taken_by true x = item x
taken_by false x = end

-- the item x that stands first, if h x is true; none if it is false or the list is empty, and the failure that stands first
unfoldable pub first_if : {A E : Type 0} → (A → Bool) → List (Result A E) → Answered A E
first_if h [] = end
first_if h (Ok x ∷ l) = taken_by (h x) x
first_if h (Err e ∷ l) = Err e

-- what comes after an item, or the item too, by a test's result on it
abbrev pub left_by : {A E : Type 0} → Bool → A → List (Result A E) → List (Result A E)
left_by true x l = l
left_by false x l = Ok x ∷ l

-- what `next_if` leaves: the list without its first item x, where h x is true, or without the failure that stands first
unfoldable pub rest_if : {A E : Type 0} → (A → Bool) → List (Result A E) → List (Result A E)
rest_if h [] = []
rest_if h (Ok x ∷ l) = left_by (h x) x l
rest_if h (Err e ∷ l) = l

-- The closure f returns h x for each item x.
abbrev pub LooksAs : {F A R : Type 0} → Shared F (Bor A × Unit {0}) R → F → (A → R) → Type 0
LooksAs {A = A} {R = R} g f h = (x : A) (v : R) → FnReturnsAt g f x v → v ≡ h x
