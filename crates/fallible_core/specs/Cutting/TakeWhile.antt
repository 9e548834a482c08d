-- `TakeWhile`, which is exhausted at the first item that a predicate rejects.
use Rattle.std.proofs.Common.{refl}
use Rattle.std.specs.Prelude.{◌≡◌, List, [], ◌∷◌, map, Result, Ok, Err, Bool, true, false}
use Rattle.std.specs.List.{filter_map}
use Rattle.std.specs.Fn.{Mut}
use Rattle.std.specs.Borrow.{Bor}
use Rattle.fallible_contract.specs.Traces.{Answered, Run, first_of, item, failure, end}
use Rattle.fallible_contract.specs.Sound.{above_as_source, sound_once}
use Rattle.fallible_contract.specs.Contract.{Inverse, Contract}
use Rattle.fallible_contract.specs.Closures.{Calls, IsCallable, call_by_reference, takes_by_reference}
use Rattle.fallible_contract.specs.Passing.{Place, asked, failure_at, end_at, source_answer, call_of, passing_contract}
use Rattle.fallible_contract.specs.Hints.{upper_alone}
use Rattle.fallible_contract.specs.Closing.{ClosingTrace, closing_contract}
use Rattle.fallible_contract.specs.declared.passing.Outcome.{Outcome}
use Rattle.fallible_contract.specs.declared.passing.Outcome.TheVariants.{Kept, Failure, End}
use Rattle.fallible_core.specs.declared.cutting.take_while.TakeWhile.{TakeWhile}

-- An item that the predicate accepts is kept; one that it rejects makes an end; a failure of it is the answer.
abbrev pub take_while_outcome : {X E : Type 0} → X → Result Bool E → Outcome X E
take_while_outcome x (Ok true) = Kept x
take_while_outcome x (Ok false) = End
take_while_outcome x (Err e) = Failure e

-- the answer of `TakeWhile` at a place: an item that the predicate accepts, an end in place of one that it rejects, its failure; and the source's failures and ends
abbrev pub taken_answer : {X E : Type 0} → Place X (Result Bool E) E → Answered X E
taken_answer (asked x (Ok true)) = item x
taken_answer (asked x (Ok false)) = end
taken_answer (asked x (Err e)) = failure e
taken_answer (failure_at e) = failure e
taken_answer end_at = end

-- whether the predicate rejects the item at a place
abbrev pub is_refused : {X E : Type 0} → Place X (Result Bool E) E → Bool
is_refused (asked x (Ok true)) = false
is_refused (asked x (Ok false)) = true
is_refused (asked x (Err e)) = false
is_refused (failure_at e) = false
is_refused end_at = false

-- `TakeWhile`: the source's trace, with the predicate called on each item, in which an item is replaced by the predicate's failure on it, and the first rejected one by an end, which closes. The parts are the source and the predicate, and whether an item was rejected.
pub record TakeWhileTrace {S F X E : Type 0} (steps : S → Answered X E → S → Type 0) (call : F → X → Result Bool E → F → Type 0) (p : (S × F) × Bool) (trace : List (Answered X E)) (q : (S × F) × Bool) : Type 0 where
  pub places : List (Place X (Result Bool E) E)
  pub drawn : Run steps (p.0).0 (map source_answer places) (q.0).0
  pub called : Calls call (p.0).1 (filter_map call_of places) (q.0).1
  pub cut : ClosingTrace taken_answer is_refused p.1 places trace q.1

-- its definition over all that its source returns
abbrev pub takes_while_all : {S F X E : Type 0} → (S → List (Answered X E) → S → Type 0) → (F → X → Result Bool E → F → Type 0) → (S × F) × Bool → List (Answered X E) → (S × F) × Bool → Type 0
takes_while_all {X = X} {E = E} traces call p trace q = (l : List (Answered X E)) × traces (p.0).0 l (q.0).0 × TakeWhileTrace first_of call ((l, (p.0).1), p.1) trace (([], (q.0).1), q.1)

-- one draw, with a call of the predicate on an item
abbrev pub place_drawn : {S F X R E : Type 0} → (S → Answered X E → S → Type 0) → (F → X → R → F → Type 0) → S × F → Place X R E → S × F → Type 0
place_drawn steps call p x q = steps p.0 (source_answer x) q.0 × Calls call p.1 (filter_map call_of (x ∷ [])) q.1

-- `TakeWhile`'s contract: the predicate may be called on each item that may come. Until an item is rejected the hint has the source's upper bound alone, and is sound where that is; from then on always.
abbrev pub take_while_contract : {S F X E : Type 0} → Contract S X E → Mut F (Bor X × Unit {0}) (Result Bool E) → Contract ((S × F) × Bool) X E
take_while_contract m g = record (closing_contract (passing_contract m (call_by_reference g) (λ P f. IsCallable (call_by_reference g) (takes_by_reference g) P f) take_while_outcome (λ p h. upper_alone m p.0 h)) (place_drawn m.steps (call_by_reference g)) taken_answer is_refused) { traces = takes_while_all m.traces (call_by_reference g); sound = sound_once (λ p. p.1 ≡ true) (above_as_source (λ p. (p.0).0) m.sound) }

-- the source
abbrev pub take_while_source : {I P : Type 0} → TakeWhile I P → I
take_while_source s = s.it

-- the predicate
abbrev pub take_while_predicate : {I P : Type 0} → TakeWhile I P → P
take_while_predicate s = s.taking.1

-- whether an item was rejected
abbrev pub take_while_refused : {I P : Type 0} → TakeWhile I P → Bool
take_while_refused s = s.taking.0

-- the source and the predicate, and whether an item was rejected
abbrev pub take_while_parts : {I P : Type 0} → TakeWhile I P → (I × P) × Bool
take_while_parts s = ((take_while_source s, take_while_predicate s), take_while_refused s)

-- and back
pub take_while_made : {I P : Type 0} → Inverse (take_while_parts {I = I} {P = P})
take_while_made = record { make = λ p. record { it = p.0.0; taking = (p.1, p.0.1) }; made = λ s. refl; has = λ p. refl }

-- ---- its fold, through the source's own

-- whether an item was rejected, once the predicate returned on one more
abbrev pub refused_by : {E : Type 0} → Bool → Result Bool E → Bool
refused_by refused (Ok true) = refused
refused_by refused (Ok false) = true
refused_by refused (Err e) = refused

-- one call of the predicate, beside which stands whether an item was rejected
abbrev pub refusing_call : {F X E : Type 0} → (F → X → Result Bool E → F → Type 0) → Bool × F → X → Result Bool E → Bool × F → Type 0
refusing_call call p x v q = call p.1 x v q.1 × (q.0 ≡ refused_by p.0 v)

-- ---- what it lists

-- an item before a list if the predicate's result keeps it; if it rejects it, the list ends
abbrev pub cons_while : {X E : Type 0} → X → Result Bool E → List (Result X E) → List (Result X E)
cons_while x (Ok true) l = Ok x ∷ l
cons_while x (Ok false) l = []
cons_while x (Err e) l = Err e ∷ l

-- up to the first item x for which h x is false, without it; where h x is a failure, that failure in the place of x
unfoldable pub taken_while : {X E : Type 0} → (X → Result Bool E) → List (Result X E) → List (Result X E)
taken_while h [] = []
taken_while h (Ok x ∷ l) = cons_while x (h x) (taken_while h l)
taken_while h (Err e ∷ l) = Err e ∷ taken_while h l
