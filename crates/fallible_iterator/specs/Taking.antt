-- A fold over the items of a `Peekable` that a test accepts.
use Rattle.std.specs.Prelude.{◌≡◌, Bool, true, false, Option, Some, None, List, [], ◌∷◌, Result, Ok, Err}
use Rattle.std.specs.List.{FoldsTo}
use Rattle.fallible_contract.specs.Folds.{FoldExit, went_on_with}
use Rattle.fallible_contract.specs.Lists.{on_value, rest_failed}
use Rattle.fallible_contract.specs.Traces.{Answered, Yields, item, end}
use Rattle.fallible_core.specs.Peeking.Peekable.{Peeks, peekable_step}

-- ---- one answer

-- what the test returns on the item that is held, and false if none is held
abbrev pub TestsHeld : {A P E : Type 0} → (P → A → Result Bool E → P → Type 0) → Option A → P → Result Bool E → P → Type 0
TestsHeld tests (Some x) p v q = tests p x v q
TestsHeld tests None p v q = (v ≡ Ok false) × (q ≡ p)

module _ {S A E : Type 0} (steps : S → Answered A E → S → Type 0) where
  -- What is made of the next item x, which was looked at, by what the test returned on it. An accepted item is drawn. A rejected one stays next, and the answer is an end. An item on which the test failed is drawn and lost, and the answer is that failure.
  abbrev pub TakenByTest : A → Result Bool E → S × Option (Option A) → Answered A E → S × Option (Option A) → Type 0
  TakenByTest x (Ok true) s r t = (r ≡ item x) × peekable_step steps s (item x) t
  TakenByTest x (Ok false) s r t = (r ≡ end) × (t ≡ s)
  TakenByTest x (Err e) s r t = (r ≡ Err e) × peekable_step steps s (item x) t

  module _ {P : Type 0} (tests : P → A → Result Bool E → P → Type 0) where
    -- What is made of the answer that a look returned, where it left s: one call of the test, if that is an item; an end and a failure are the answer, without a call.
    abbrev pub TakenAfterLook : Answered A E → S × Option (Option A) → P → Answered A E → S × Option (Option A) → P → Type 0
    TakenAfterLook (Ok (Some x)) s p r t q = (v : Result Bool E) × tests p x v q × TakenByTest x v s r t
    TakenAfterLook (Ok None) s p r t q = (r ≡ end) × (t ≡ s) × (q ≡ p)
    TakenAfterLook (Err e) s p r t q = (r ≡ Err e) × (t ≡ s) × (q ≡ p)

-- One look at the next answer, and one call of the test if that is an item, by which it returns r, and leaves t and the test as q.
pub record TakesIf {S A E P : Type 0} (steps : S → Answered A E → S → Type 0) (tests : P → A → Result Bool E → P → Type 0) (s : S × Option (Option A)) (p : P) (r : Answered A E) (t : S × Option (Option A)) (q : P) : Type 0 where
  pub seen : Answered A E
  pub looked : S × Option (Option A)
  pub peeks : Peeks steps s seen looked
  pub taken : TakenAfterLook steps tests seen looked p r t q

-- ---- the run of the fold

module _ {A E P F B : Type 0} (tests : P → A → Result Bool E → P → Type 0) (call : F → B → A → Result B E → F → Type 0) where
  -- The test, called once on the item, returns true, and then the closure, called once on the value so far and the item, returns r.
  abbrev pub AcceptedCall : P × F → B → A → Result B E → P × F → Type 0
  AcceptedCall f b x r g = tests f.0 x (Ok true) g.0 × call f.1 b x r g.1

  -- The test may be called on the item; and the closure on the value so far and the item, if the test may return true.
  abbrev pub accepted_takes : (P → A → Type 0) → (F → B → A → Type 0) → P × F → B → A → Type 0
  accepted_takes testable takes f b x = testable f.0 x × ((q : P) → tests f.0 x (Ok true) q → takes f.1 b x)

-- Draws yielded the items. On each of them in order the test returned true, and then the closure, called on the value so far, b at first, returned the next one. Then came a look at the next answer, with a call of the test if it is an item. By that the fold returns r and leaves t: at an end and a rejected item the last value; at a failure, of the source or of the test, that failure; at an accepted item the failure of the closure on it.
pub record FoldIfDrains {S A E P F B : Type 0} (steps : S → Answered A E → S → Type 0) (tests : P → A → Result Bool E → P → Type 0) (call : F → B → A → Result B E → F → Type 0) (s : S × Option (Option A)) (b : B) (p : P) (f : F) (r : Result B E) (t : S × Option (Option A)) : Type 0 where
  pub items : List A
  pub between : S × Option (Option A)
  pub value : B
  pub test : P
  pub closure : F
  pub drawn : Yields (peekable_step steps) s items between
  pub went : FoldsTo {P = B × (P × F)} (went_on_with (AcceptedCall tests call)) (b, (p, f)) items (value, (test, closure))
  pub last : Answered A E
  pub tested : P
  pub takes : TakesIf steps tests between test last t tested
  pub exit : FoldExit call (λ e d. d ≡ e) value closure last r

-- ---- what it makes of a list

-- The closure f acts as the function h on a value and each item on which p returns true: it returns h of them, and stays as it is.
abbrev pub FoldsAs : {A E F B R : Type 0} → (F → B → A → R → F → Type 0) → F → (A → Result Bool E) → (B → A → R) → Type 0
FoldsAs {A} {E} {F} {B} {R} call f p h = (b : B) (x : A) (r : R) (g : F) → p x ≡ Ok true → call f b x r g → (g ≡ f) × (r ≡ h b x)

-- what comes of the next item by the test's result on it: the first where it is true, the second where it is false, the third where it is a failure
abbrev pub by_test : {R E : Type 0} → Result Bool E → R → R → (E → R) → R
by_test (Ok true) taken refused lost = taken
by_test (Ok false) taken refused lost = refused
by_test (Err e) taken refused lost = lost e

-- the value that h makes of the value so far and each item x in order, as long as p x is true; or the failure of the list, of p or of h that comes first
unfoldable pub folded_if : {A B E : Type 0} → (A → Result Bool E) → (B → A → Result B E) → B → List (Result A E) → Result B E
folded_if p h b [] = Ok b
folded_if p h b (Ok x ∷ l) = by_test (p x) (on_value (h b x) (λ c. folded_if p h c l)) (Ok b) (λ e. Err e)
folded_if p h b (Err e ∷ l) = Err e

-- what `fold_if` leaves: the list from the first item x on for which p x is false; or what comes after the first item on which p fails, or on which h, called on the value so far and that item, fails, or after the failure of the list that comes first
unfoldable pub rest_fold_if : {A B E : Type 0} → (A → Result Bool E) → (B → A → Result B E) → B → List (Result A E) → List (Result A E)
rest_fold_if p h b [] = []
rest_fold_if p h b (Ok x ∷ l) = by_test (p x) (rest_failed (h b x) l (λ c. rest_fold_if p h c l)) (Ok x ∷ l) (λ e. l)
rest_fold_if p h b (Err e ∷ l) = l
