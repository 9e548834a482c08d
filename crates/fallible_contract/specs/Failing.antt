-- Adapters whose closure is called on failures. They are those that call one on items, with items and failures exchanged.
use Rattle.std.specs.Prelude.{◌≡◌, ◌≤◌, List, [], ◌∷◌, map, Result, None, Ok, Err, ⊤}
use Rattle.std.specs.Iterator.{IsFinite, size}
use Rattle.fallible_contract.specs.Traces.{Answered}
use Rattle.fallible_contract.specs.Sound.{own_sound, sound_always, as_source}
use Rattle.fallible_contract.specs.Contract.{Contract}
use Rattle.fallible_contract.specs.Closures.{IsCallable, MayAnswer}
use Rattle.fallible_contract.specs.Exchange.{exchanged, steps_exchanged, traces_exchanged}
use Rattle.fallible_contract.specs.Passing.{PassTrace, passes_all, leaving_out_contract}
use Rattle.fallible_contract.specs.declared.passing.Outcome.{Outcome}
use Rattle.fallible_contract.specs.declared.passing.Outcome.TheVariants.{Kept, LeftOut, Failure, End}

-- ---- each failure has another in its place

-- what the closure returns for a failure stands in its place
abbrev pub failing_outcome : {X D E : Type 0} → D → E → Outcome E X
failing_outcome d e = Kept e

-- The source's trace, where what the closure returns for a failure stands in its place: items and failures exchanged, it is that of an adapter that keeps each item as another. So the closure is called on the failures in order, and on nothing else. The parts are the source and what holds the closure.
abbrev pub FailingTrace : {S F X D E : Type 0} → (S → Answered X D → S → Type 0) → (F → D → E → F → Type 0) → S × F → List (Answered X E) → S × F → Type 0
FailingTrace steps call p trace q = PassTrace (steps_exchanged steps) call failing_outcome p (map exchanged trace) q

-- one draw of an adapter that replaces failures: its trace of one answer
abbrev pub failing_step : {S F X D E : Type 0} → (S → Answered X D → S → Type 0) → (F → D → E → F → Type 0) → S × F → Answered X E → S × F → Type 0
failing_step steps call p r q = FailingTrace steps call p (r ∷ []) q

-- its definition over all that its source returns
abbrev pub replaces_all : {S F X D E : Type 0} → (S → List (Answered X D) → S → Type 0) → (F → D → E → F → Type 0) → S × F → List (Answered X E) → S × F → Type 0
replaces_all traces call p trace q = passes_all (traces_exchanged traces) call failing_outcome p (map exchanged trace) q

-- The contract of an adapter that replaces failures: the closure may be called on each failure that may come, in each state that such calls bring it to; all else is the source's.
abbrev pub failing_contract : {S F X D E : Type 0} → Contract S X D → (F → D → E → F → Type 0) → (F → D → Type 0) → Contract (S × F) X E
failing_contract m call takes = record {
  can_next = λ p. m.can_next p.0 × IsCallable call takes (m.may_fail p.0) p.1;
  steps = λ p r q. FailingTrace m.steps call p (r ∷ []) q;
  bound = λ p n. m.bound p.0 n;
  is_finite = λ p. m.is_finite p.0;
  remaining = λ p. m.remaining p.0;
  may_give = λ p x. m.may_give p.0 x;
  may_fail = λ p e. MayAnswer call (m.may_fail p.0) p.1 (λ d v. v ≡ e);
  hints = λ p h. m.hints p.0 h;
  lenders = λ p. m.lenders p.0;
  traces = replaces_all m.traces call;
  sound = as_source (λ p. p.0) m.sound;
}

-- What an adapter that replaces failures makes of one answer of its source, or of the result of a call on its source: a failure becomes what the closure returns for it; all else passes, without a call.
abbrev pub FailingAnswer : {F C D E : Type 0} → (F → D → E → F → Type 0) → F → Result C D → Result C E → F → Type 0
FailingAnswer call f (Ok v) r g = (r ≡ Ok v) × (g ≡ f)
FailingAnswer {E = E} call f (Err d) r g = (e : E) × call f d e g × (r ≡ Err e)

-- where that is a failure, the closure may be called on it
abbrev pub TakesFailure : {F C D : Type 0} → (F → D → Type 0) → F → Result C D → Type 0
TakesFailure pre f (Ok v) = ⊤
TakesFailure pre f (Err d) = pre f d

-- h e in the place of each failure e
unfoldable pub failures_mapped : {A D E : Type 0} → (D → E) → List (Result A D) → List (Result A E)
failures_mapped h [] = []
failures_mapped h (Ok x ∷ l) = Ok x ∷ failures_mapped h l
failures_mapped h (Err e ∷ l) = Err (h e) ∷ failures_mapped h l

-- ---- a failure may become an item, or nothing

-- A contract with items and failures exchanged. Its items are the source's failures, so what remains of the source bounds them; it is finite where the source is and what remains has a bound.
abbrev pub exchanged_contract : {S A E : Type 0} → Contract S A E → Contract S E A
exchanged_contract m = record {
  can_next = λ s. m.can_next s;
  steps = steps_exchanged m.steps;
  bound = λ s n. m.is_finite s × IsFinite (m.remaining s) × (size (m.remaining s) ≤ n);
  is_finite = λ s. m.is_finite s × IsFinite (m.remaining s);
  remaining = λ s. m.remaining s;
  may_give = λ s e. m.may_fail s e;
  may_fail = λ s x. m.may_give s x;
  hints = λ s h. m.hints s h;
  lenders = λ s. m.lenders s;
  traces = traces_exchanged m.traces;
  sound = own_sound (steps_exchanged m.steps);
}

-- an outcome with item and failure exchanged
abbrev pub outcome_exchanged : {B E : Type 0} → Outcome B E → Outcome E B
outcome_exchanged (Kept y) = Failure y
outcome_exchanged LeftOut = LeftOut
outcome_exchanged (Failure e) = Kept e
outcome_exchanged End = End

-- The source's trace, where what becomes of each failure by the closure's result stands in its place: an item, nothing, a failure or an end. Items and failures exchanged, it is that of an adapter that lets items pass; so it doesn't end in a failure that is left out.
abbrev pub RecoveringTrace : {S F X D V E : Type 0} → (S → Answered X D → S → Type 0) → (F → D → V → F → Type 0) → (D → V → Outcome X E) → S × F → List (Answered X E) → S × F → Type 0
RecoveringTrace steps call outcome p trace q = PassTrace (steps_exchanged steps) call (λ d v. outcome_exchanged (outcome d v)) p (map exchanged trace) q

-- one draw of an adapter that may leave failures out: its trace of one answer
abbrev pub recovering_step : {S F X D V E : Type 0} → (S → Answered X D → S → Type 0) → (F → D → V → F → Type 0) → (D → V → Outcome X E) → S × F → Answered X E → S × F → Type 0
recovering_step steps call outcome p r q = RecoveringTrace steps call outcome p (r ∷ []) q

-- its definition over all that its source returns
abbrev pub recovers_all : {S F X D V E : Type 0} → (S → List (Answered X D) → S → Type 0) → (F → D → V → F → Type 0) → (D → V → Outcome X E) → S × F → List (Answered X E) → S × F → Type 0
recovers_all traces call outcome p trace q = passes_all (traces_exchanged traces) call (λ d v. outcome_exchanged (outcome d v)) p (map exchanged trace) q

-- The contract of an adapter that may leave failures out is that of one that leaves items out, with items and failures exchanged. So it requires that the source is finite and what remains of it has a bound, which is its own bound too. Nothing is known of how many items come, so its hint says nothing.
abbrev pub recovering_contract : {S F X D V E : Type 0} → Contract S X D → (F → D → V → F → Type 0) → (F → D → Type 0) → (D → V → Outcome X E) → Contract (S × F) X E
recovering_contract m call takes outcome = record (exchanged_contract (leaving_out_contract (exchanged_contract m) call (λ P f. IsCallable call takes P f) (λ d v. outcome_exchanged (outcome d v)) (λ p h. h ≡ (0, None)))) { traces = recovers_all m.traces call outcome; sound = sound_always }
