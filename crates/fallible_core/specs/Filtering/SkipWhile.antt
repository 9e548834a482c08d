-- `SkipWhile`, which skips items up to the first one that a predicate rejects.
use Rattle.std.proofs.Common.{refl}
use Rattle.std.specs.Prelude.{◌≡◌, List, Option, Some, None, ℕ, ⊤, Result, Ok, Err, [], ◌∷◌, ◌++◌, map, Bool, true, false, MatchBool}
use Rattle.std.specs.Fn.{Mut}
use Rattle.std.specs.Borrow.{Bor}
use Rattle.std.specs.List.{filter_map}
use Rattle.fallible_contract.specs.Traces.{Answered, LastKept}
use Rattle.fallible_contract.specs.Sound.{SoundWhere}
use Rattle.fallible_contract.specs.Contract.{Inverse, Contract}
use Rattle.fallible_contract.specs.Closures.{Calls, IsCallable, call_by_reference, takes_by_reference}
use Rattle.fallible_contract.specs.Passing.{Place, asked, failure_at, end_at, source_answer, call_of, answer_at, leaving_out_contract, has_answer}
use Rattle.fallible_contract.specs.Hints.{upper_alone}
use Rattle.fallible_contract.specs.declared.passing.Outcome.{Outcome}
use Rattle.fallible_contract.specs.declared.passing.Outcome.TheVariants.{Kept, LeftOut, Failure}
use Rattle.fallible_core.specs.declared.filtering.skip_while.SkipWhile.{SkipWhile}

-- the predicate returned false
abbrev pub answers_false : {E : Type 0} → Result Bool E → Bool
answers_false (Ok false) = true
answers_false (Ok true) = false
answers_false (Err e) = false

-- The predicate is called on an item until its first false, and the flag says whether that was; then it isn't called any more, and nothing changes.
abbrev pub skip_call : {F X E : Type 0} → (F → X → Result Bool E → F → Type 0) → Bool × F → X → Option (Result Bool E) → Bool × F → Type 0
skip_call call p x None q = (p.0 ≡ true) × (q ≡ p)
skip_call call p x (Some v) q = (p.0 ≡ false) × call p.1 x v q.1 × (q.0 ≡ answers_false v)

-- the predicate may be called on the item, if it is called
abbrev pub skip_takes : {F X : Type 0} → (F → X → Type 0) → Bool × F → X → Type 0
skip_takes takes p x = p.0 ≡ false → takes p.1 x

-- An item is kept if the predicate isn't called or returns false, left out if it returns true, and replaced by a failure of it.
abbrev pub skip_while_outcome : {X E : Type 0} → X → Option (Result Bool E) → Outcome X E
skip_while_outcome x None = Kept x
skip_while_outcome x (Some (Ok false)) = Kept x
skip_while_outcome x (Some (Ok true)) = LeftOut
skip_while_outcome x (Some (Err e)) = Failure e

-- the predicate was called at the place and returned false
abbrev pub false_at : {X E : Type 0} → Place X (Result Bool E) E → Bool
false_at (asked x v) = answers_false v
false_at (failure_at e) = false
false_at end_at = false

-- the predicate returns false at none of the places
abbrev pub NeverFalse : {X E : Type 0} → List (Place X (Result Bool E) E) → Type 0
NeverFalse [] = ⊤
NeverFalse (p ∷ rest) = (false_at p ≡ false) × NeverFalse rest

-- the predicate returns false at the last of the places, and at no other
abbrev pub EndsAtFalse : {X E : Type 0} → List (Place X (Result Bool E) E) → Type 0
EndsAtFalse [] = ⊥
EndsAtFalse (p ∷ []) = false_at p ≡ true
EndsAtFalse (p ∷ q ∷ rest) = (false_at p ≡ false) × EndsAtFalse (q ∷ rest)

-- an item that the predicate is called on: kept if it returns false, left out if it returns true, and replaced by a failure of it
abbrev pub asked_outcome : {X E : Type 0} → X → Result Bool E → Outcome X E
asked_outcome x v = skip_while_outcome x (Some v)

-- The places at which the predicate is called are those up to its first false, and that one: none if that came before them, and all if it doesn't come; these don't end in a left-out item.
abbrev pub AskedUntilFalse : {X E : Type 0} → Bool → List (Place X (Result Bool E) E) → List (Answered X E) → Bool → Type 0
AskedUntilFalse true met after found = (met ≡ []) × (found ≡ true)
AskedUntilFalse false met after true = EndsAtFalse met
AskedUntilFalse false met after false = NeverFalse met × (after ≡ []) × LastKept (has_answer asked_outcome) met

-- `SkipWhile`, with the flag beside the predicate: the source's trace is what came while the predicate was called, up to its first false, and what came after. Its own trace is the first part without the items for which the predicate returned true, an item on which it failed being replaced by that failure, and then the whole second part.
pub record SkipWhileTrace {S F X E : Type 0} (traces : S → List (Answered X E) → S → Type 0) (call : F → X → Result Bool E → F → Type 0) (p : S × (Bool × F)) (trace : List (Answered X E)) (q : S × (Bool × F)) : Type 0 where
  pub met : List (Place X (Result Bool E) E)
  pub after : List (Answered X E)
  pub drawn : traces p.0 (map source_answer met ++ after) q.0
  pub called : Calls call (p.1).1 (filter_map call_of met) (q.1).1
  pub answers : trace ≡ filter_map (answer_at asked_outcome) met ++ after
  pub until_false : AskedUntilFalse (p.1).0 met after (q.1).0

-- (0, u) until the first false, and then (l, u)
abbrev pub skip_while_hints : {S F X E : Type 0} → Contract S X E → S × (Bool × F) → ℕ × Option ℕ → Type 0
skip_while_hints m p h = MatchBool (p.1).0 (m.hints p.0 h) (upper_alone m p.0 h)

-- The bounds wherever they are sound of the source; the lower one, until the first false, always.
abbrev pub skip_while_sound : {S F : Type 0} → SoundWhere S → SoundWhere (S × (Bool × F))
skip_while_sound w = record { above = λ p high. w.above p.0 high; below = λ p low. (p.1).0 ≡ true → w.below p.0 low }

-- `SkipWhile`'s contract.
abbrev pub skip_while_contract : {S F X E : Type 0} → Contract S X E → Mut F (Bor X × Unit {0}) (Result Bool E) → Contract (S × (Bool × F)) X E
skip_while_contract m g = record (leaving_out_contract m (skip_call (call_by_reference g)) (λ P p. IsCallable (skip_call (call_by_reference g)) (skip_takes (takes_by_reference g)) P p) skip_while_outcome (skip_while_hints m)) { traces = SkipWhileTrace m.traces (call_by_reference g); sound = skip_while_sound m.sound }

-- the source
abbrev pub skip_while_source : {I P : Type 0} → SkipWhile I P → I
skip_while_source s = s.it

-- whether the first kept item was found
abbrev pub skip_while_found : {I P : Type 0} → SkipWhile I P → Bool
skip_while_found s = s.skipping.0

-- the predicate
abbrev pub skip_while_predicate : {I P : Type 0} → SkipWhile I P → P
skip_while_predicate s = s.skipping.1

-- the source, and whether the predicate returned false beside the predicate
abbrev pub skip_while_parts : {I P : Type 0} → SkipWhile I P → I × (Bool × P)
skip_while_parts s = (skip_while_source s, s.skipping)

-- and back
pub skip_while_made : {I P : Type 0} → Inverse (skip_while_parts {I = I} {P = P})
skip_while_made = record { make = λ p. record { it = p.0; skipping = p.1 }; made = λ s. refl; has = λ p. refl }

-- ---- what it lists

-- an item from where the predicate's first answer on it decides: false keeps it and what comes after it, true leaves it out, and a failure stands in its place
abbrev pub cons_from : {X E : Type 0} → X → Result Bool E → List (Result X E) → List (Result X E) → List (Result X E)
cons_from x (Ok false) l skipped = Ok x ∷ l
cons_from x (Ok true) l skipped = skipped
cons_from x (Err e) l skipped = Err e ∷ skipped

-- from the first item x on for which h x is false; before it failures stay, and where h x is a failure, that failure in the place of x
unfoldable pub skipped_while : {X E : Type 0} → (X → Result Bool E) → List (Result X E) → List (Result X E)
skipped_while h [] = []
skipped_while h (Ok x ∷ l) = cons_from x (h x) l (skipped_while h l)
skipped_while h (Err e ∷ l) = Err e ∷ skipped_while h l
