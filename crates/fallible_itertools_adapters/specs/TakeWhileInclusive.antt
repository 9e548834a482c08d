-- `TakeWhileInclusive`, which is exhausted after the first item that a predicate rejects.
use Rattle.std.specs.Prelude.{◌≡◌, ℕ, min, Bool, true, false, Option, Some, None, Result, Ok, Err, List, IsSome}
use Rattle.std.specs.Fn.{Mut}
use Rattle.std.specs.Borrow.{Bor}
use Rattle.fallible_iterator.specs.Traces.{Answered, item, failure}
use Rattle.fallible_iterator.specs.Contract.{Contract, Inverse}
use Rattle.fallible_iterator.specs.Closures.{call_by_reference, takes_by_reference}
use Rattle.fallible_itertools_adapters.specs.Staging.{Transition, Plan, calls, closure_rule, plan_rule, rule_contract, Rule, none_held, passes, rule_meets, as_function, plan_does, staged, StagedTrace, ends_come}
use Rattle.fallible_itertools_adapters.specs.declared.take_while_inclusive.TakeWhileInclusive.{TakeWhileInclusive}
use Rattle.std.proofs.Common.{refl}
use Rattle.fallible_iterator.specs.Sound.{sound_once, as_made}

-- The item, and after one that the predicate rejects ends come; or the predicate's failure on it.
abbrev pub inclusive_by : {A E : Type 0} → A → Result Bool E → Transition (Unit {0}) A (Unit {0}) E
inclusive_by x (Ok true) = (Some (item x, None), tt)
inclusive_by x (Ok false) = (Some (item x, Some tt), tt)
inclusive_by x (Err e) = (Some (failure e, None), tt)

-- Nothing is held. The predicate is called on each item.
abbrev pub inclusive_plan : {A E : Type 0} → Unit {0} → A → Plan A (Result Bool E) (Transition (Unit {0}) A (Unit {0}) E)
inclusive_plan u x = calls x (inclusive_by x)

-- the lower bound, at most 1, and the upper bound
abbrev pub hint_of_first : ℕ × Option ℕ → ℕ × Option ℕ
hint_of_first k = (min k.0 1, k.1)

-- Until an item was rejected the hint has the source's upper bound, and 1 below if the source has an item for certain: the first one comes, whatever the predicate says of it, or its failure. Then no item comes.
abbrev pub inclusive_hint : Unit {0} → Option (Unit {0}) → (ℕ × Option ℕ → Type 0) → ℕ × Option ℕ → Type 0
inclusive_hint u None hints h = (k : ℕ × Option ℕ) × hints k × (h ≡ hint_of_first k)
inclusive_hint u (Some over) hints h = h ≡ (0, Some 0)

-- its rule
abbrev pub inclusive_rule : {F A E : Type 0} → Mut F (Bor A × Unit {0}) (Result Bool E) → Rule (Unit {0} × F) A A (Unit {0}) E
inclusive_rule g = closure_rule (takes_by_reference g) inclusive_plan (plan_rule ends_come (call_by_reference g) inclusive_plan passes 1 none_held inclusive_hint (λ S m. sound_once (λ p. IsSome p.1.1) (as_made (λ p. p.0) m.hints m.sound (λ p. hint_of_first))))

-- `TakeWhileInclusive`: the source's trace with the predicate called on each item, in which an item is replaced by the predicate's failure on it, up to and with the first rejected item, and then ends without draws. The parts are the source, the predicate, and whether ends are due.
abbrev pub InclusiveTrace : {S F A E : Type 0} → Mut F (Bor A × Unit {0}) (Result Bool E) → (S → List (Answered A E) → S → Type 0) → S × ((Unit {0} × F) × Option (Unit {0})) → List (Answered A E) → S × ((Unit {0} × F) × Option (Unit {0})) → Type 0
InclusiveTrace g traces p trace q = StagedTrace traces ends_come (rule_meets (inclusive_rule g)) p trace q

-- `TakeWhileInclusive`'s contract: the predicate may be called on each item that may come.
abbrev pub inclusive_contract : {S F A E : Type 0} → Mut F (Bor A × Unit {0}) (Result Bool E) → Contract S A E → Contract (S × ((Unit {0} × F) × Option (Unit {0}))) A E
inclusive_contract g m = record (rule_contract m (inclusive_rule g)) { traces = InclusiveTrace g m.traces }

-- the source
abbrev pub inclusive_source : {I P : Type 0} → TakeWhileInclusive I P → I
inclusive_source s = s.it

-- the source, the predicate, and whether ends are due
abbrev pub inclusive_parts : {I P : Type 0} → TakeWhileInclusive I P → I × ((Unit {0} × P) × Option (Unit {0}))
inclusive_parts s = (inclusive_source s, s.stage)

-- and back
pub inclusive_made : {I P : Type 0} → Inverse (inclusive_parts {I = I} {P = P})
inclusive_made = record { make = λ p. record { it = p.0; stage = p.1 }; made = λ s. refl; has = λ p. refl }

-- up to and with the first item x for which h x is false; where h x is a failure, that failure in the place of x
unfoldable pub taken_while_inclusive : {A E : Type 0} → (A → Result Bool E) → List (Result A E) → List (Result A E)
taken_while_inclusive h l = staged ends_come (plan_does (as_function h) inclusive_plan passes) (tt, tt) l
