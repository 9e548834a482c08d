-- Adapters that let the items of one source pass: a closure is called on each item, and by its result the item is kept as another, left out, or replaced by a failure or an end.
use Rattle.std.specs.Prelude.{◌≡◌, ℕ, Option, Result, Some, Ok, Err, List, [], ◌∷◌, map, None, is_some, IsSome, Bool, true, false, ⊤, ◌⊎◌}
use Rattle.std.specs.List.{filter_map}
use Rattle.fallible_contract.specs.Traces.{first_of, LastKept, Answered, Run, item, failure, end}
use Rattle.fallible_contract.specs.Sound.{own_sound}
use Rattle.fallible_contract.specs.Contract.{Contract}
use Rattle.fallible_contract.specs.Closures.{Calls, MayAnswer}
use Rattle.fallible_contract.specs.declared.passing.Outcome.{Outcome}
use Rattle.fallible_contract.specs.declared.passing.Outcome.TheVariants.{Kept, LeftOut, Failure, End}

-- one answer of the source: an item on which the closure was called, with what it returned, a failure, or an end
pub data Place (X R E : Type 0) : Type 0 where
  asked : X → R → Place X R E
  failure_at : E → Place X R E
  end_at : Place X R E

-- the source's answer at a place
abbrev pub source_answer : {X R E : Type 0} → Place X R E → Answered X E
source_answer (asked x r) = item x
source_answer (failure_at e) = failure e
source_answer end_at = end

-- the call at a place, if there was one: its argument and its answer
abbrev pub call_of : {X R E : Type 0} → Place X R E → Option (X × R)
call_of (asked x r) = Some (x, r)
call_of (failure_at e) = None
call_of end_at = None

-- the answer that an outcome is; none if the item is left out
abbrev pub outcome_answer : {B E : Type 0} → Outcome B E → Option (Answered B E)
outcome_answer (Kept y) = Some (item y)
outcome_answer LeftOut = None
outcome_answer (Failure e) = Some (failure e)
outcome_answer End = Some end

module _ {X R B E : Type 0} (outcome : X → R → Outcome B E) where
  -- the adapter's answer at a place; none if the item is left out
  abbrev pub answer_at : Place X R E → Option (Answered B E)
  answer_at (asked x r) = outcome_answer (outcome x r)
  answer_at (failure_at e) = Some (failure e)
  answer_at end_at = Some end

  -- whether the adapter has an answer at a place
  abbrev pub has_answer : Place X R E → Bool
  has_answer p = is_some (answer_at p)

-- The adapter's trace is the source's trace without the left-out items, where an item that is kept as another, one whose closure failed and one that makes an end is replaced. The closure is called on each item in order, and the source's trace doesn't end in a left-out item. The parts are the source and what holds the closure.
pub record PassTrace {S F X R B E : Type 0} (steps : S → Answered X E → S → Type 0) (call : F → X → R → F → Type 0) (outcome : X → R → Outcome B E) (p : S × F) (trace : List (Answered B E)) (q : S × F) : Type 0 where
  pub places : List (Place X R E)
  pub drawn : Run steps p.0 (map source_answer places) q.0
  pub called : Calls call p.1 (filter_map call_of places) q.1
  pub answers : trace ≡ filter_map (answer_at outcome) places
  pub last_kept : LastKept (has_answer outcome) places

-- The adapter's definition over all that its source returns: there is a list that the source may return, of which the definition makes the trace.
abbrev pub passes_all : {S F X R B E : Type 0} → (S → List (Answered X E) → S → Type 0) → (F → X → R → F → Type 0) → (X → R → Outcome B E) → S × F → List (Answered B E) → S × F → Type 0
passes_all {X = X} {E = E} traces call outcome p trace q = (drawn : List (Answered X E)) × traces p.0 drawn q.0 × PassTrace first_of call outcome (drawn, p.1) trace ([], q.1)

-- The contract of an adapter that lets items pass. It steps as its trace of one answer says. An item of it is what the closure may make of one that the source may yield, and a failure of it one of the source's or the closure's.
abbrev pub passing_contract : {S F X R B E : Type 0} → Contract S X E → (F → X → R → F → Type 0) → ((X → Type 0) → F → Type 0) → (X → R → Outcome B E) → (S × F → ℕ × Option ℕ → Type 0) → Contract (S × F) B E
passing_contract m call callable outcome hints = record {
  can_next = λ p. m.can_next p.0 × callable (m.may_give p.0) p.1;
  steps = λ p r q. PassTrace m.steps call outcome p (r ∷ []) q;
  bound = λ p n. m.bound p.0 n;
  is_finite = λ p. m.is_finite p.0;
  remaining = λ p. m.remaining p.0;
  may_give = λ p y. MayAnswer call (m.may_give p.0) p.1 (λ x v. outcome x v ≡ Kept y);
  may_fail = λ p e. m.may_fail p.0 e ⊎ MayAnswer call (m.may_give p.0) p.1 (λ x v. outcome x v ≡ Failure e);
  hints = hints;
  lenders = λ p. m.lenders p.0;
  traces = passes_all m.traces call outcome;
  sound = own_sound (λ p r q. PassTrace m.steps call outcome p (r ∷ []) q);
}

-- The contract of one that leaves items out. Its condition: one of the source, and a bound of it, since one draw may leave many items out.
abbrev pub leaving_out_contract : {S F X R B E : Type 0} → Contract S X E → (F → X → R → F → Type 0) → ((X → Type 0) → F → Type 0) → (X → R → Outcome B E) → (S × F → ℕ × Option ℕ → Type 0) → Contract (S × F) B E
leaving_out_contract m call callable outcome hints = let p = passing_contract m call callable outcome hints in record p { can_next = λ s. m.is_finite s.0 × p.can_next s }

-- one draw of an adapter that lets items pass: its trace of one answer
abbrev pub passing_step : {S F X R B E : Type 0} → (S → Answered X E → S → Type 0) → (F → X → R → F → Type 0) → (X → R → Outcome B E) → S × F → Answered B E → S × F → Type 0
passing_step steps call outcome p r q = PassTrace steps call outcome p (r ∷ []) q

-- one item passed: one call on it, and what becomes of it by the closure's answer
abbrev pub ItemPassed : {F X R B E : Type 0} → (F → X → R → F → Type 0) → (X → R → Outcome B E) → F → X → Outcome B E → F → Type 0
ItemPassed {R = R} call outcome f x o g = (v : R) × call f x v g × (outcome x v ≡ o)

-- ---- one draw of such an adapter that keeps items as they are, as a search

-- what becomes of the item by a test on a reference to it: it is accepted and kept as it is, left out, or replaced by a failure
abbrev pub tested_outcome : {X E : Type 0} → X → Result Bool E → Outcome X E
tested_outcome x (Ok true) = Kept x
tested_outcome x (Ok false) = LeftOut
tested_outcome x (Err e) = Failure e

-- One call of the closure on an item, as the test of a search whose state is the closure.
abbrev pub PassTest : {F X R E : Type 0} → (F → X → R → F → Type 0) → (X → R → Outcome X E) → F → X → Result Bool E → F → Type 0
PassTest {R = R} call outcome f x v g = (w : R) × call f x w g × (outcome x w ≡ tested_outcome x v)

-- ---- one draw of such an adapter that leaves nothing out, as what it makes of one answer of its source

-- An item becomes what the closure's answer on it makes of it; a failure and an end pass, without a call.
abbrev pub PassAnswer : {F X R B E : Type 0} → (F → X → R → F → Type 0) → (X → R → Outcome B E) → F → Answered X E → Answered B E → F → Type 0
PassAnswer {R = R} call outcome f (Ok (Some x)) r g = (v : R) × call f x v g × (outcome_answer (outcome x v) ≡ Some r)
PassAnswer call outcome f (Ok None) r g = (r ≡ Ok None) × (g ≡ f)
PassAnswer call outcome f (Err e) r g = (r ≡ Err e) × (g ≡ f)

-- where the answer is an item, P holds of it
abbrev pub IfItem : {X E : Type 0} → (X → Type 0) → Answered X E → Type 0
IfItem P (Ok (Some x)) = P x
IfItem P (Ok None) = ⊤
IfItem P (Err e) = ⊤

-- each item on which the closure was called has an answer
abbrev pub LeavesNoneOut : {X R B E : Type 0} → (X → R → Outcome B E) → Type 0
LeavesNoneOut {X = X} {R = R} outcome = (x : X) (v : R) → IsSome (outcome_answer (outcome x v))
