-- The contract of `TakeWhileInclusive` is lawful where the source's is.
use Rattle.std.specs.Prelude.{Bool, true, false, Result, Ok, Err, ◌≡◌, ◌+◌, ◌-◌, ◌≤◌, ℕ, None, Option, Some, min, suc, IsSome}
use Rattle.std.specs.Fn.{Mut}
use Rattle.std.specs.Borrow.{Bor}
use Rattle.std.proofs.Common.{arith, refl}
use Rattle.fallible_iterator.specs.Closures.{call_by_reference, takes_by_reference}
use Rattle.fallible_iterator.specs.Contract.{Contract, Lawful}
use Rattle.fallible_iterator.specs.Laws.Hints.Drawn.{if_some_at_least_of_smaller}
use Rattle.fallible_iterator.specs.Sound.{HintsHold, sound_once, as_made}
use Rattle.fallible_itertools_adapters.specs.Laws.Staging.{ItemWeighs, closure_stays, is_stage_plan, lawful_rule, passes_weighs, PlanMakes, makes_at_most_plan, makes_no_fewer_plan, passes_at_most, plan_hold, due_or_none, StopIsDue, DueFew, EmittedFew, plan_hint}
use Rattle.fallible_itertools_adapters.specs.Staging.{none_held, passes, plan_meets, IsStage, ends_come, due_total, emitted_total, stage_step}
use Rattle.fallible_itertools_adapters.specs.TakeWhileInclusive.{inclusive_by, inclusive_contract, inclusive_hint, inclusive_plan, inclusive_rule, hint_of_first}

inclusive_weighs : {A : Type 0} (E : Type 0) (x : A) (v : Result Bool E) → ItemWeighs ends_come 1 none_held tt (inclusive_by x v)
inclusive_weighs E x (Ok true) = (omega arith, omega arith)
inclusive_weighs E x (Ok false) = (omega arith, omega arith)
inclusive_weighs E x (Err e) = (omega arith, omega arith)

pub is_stage_inclusive : {F A E : Type 0} (call : F → A → Result Bool E → F → Type 0) → IsStage ends_come (plan_meets call inclusive_plan passes) 1 (λ p. none_held p.0)
is_stage_inclusive {E = E} call = is_stage_plan ends_come 1 none_held call inclusive_plan passes (λ u x v. inclusive_weighs E x v) (passes_weighs ends_come 1 (omega arith))

-- ---- where its hint is sound

module _ (X E : Type 0) where
  -- the first item comes, or its failure
  inclusive_few : (x : X) (low : ℕ) (v : Result Bool E) → EmittedFew ends_come (inclusive_by x v).0 (λ n. min (low - 1) 1 ≤ n) (λ n. min low 1 ≤ n)
  inclusive_few x low (Ok true) = λ n after. omega arith
  inclusive_few x low (Ok false) = omega arith
  inclusive_few x low (Err e) = tt

  inclusive_at_most : (x : X) (n : ℕ) (v : Result Bool E) → emitted_total ends_come 0 (inclusive_by x v).0 + n ≤ suc n
  inclusive_at_most x n (Ok true) = omega arith
  inclusive_at_most x n (Ok false) = omega arith
  inclusive_at_most x n (Err e) = omega arith

  module _ {F : Type 0} (call : F → X → Result Bool E → F → Type 0) where
    inclusive_makes : PlanMakes ends_come call inclusive_plan passes (λ u n. n) (λ u low n. min low 1 ≤ n)
    inclusive_makes = record {
      at_most = λ u x n v. inclusive_at_most x n v;
      at_most_at_stop = λ h stop. passes_at_most ends_come _ h stop;
      no_fewer = λ u x low v. inclusive_few x low v;
      no_fewer_at_end = λ u. omega arith;
      no_fewer_at_failure = λ u e low. tt;
    }

    due_total_is_zero : (due : Option (Unit {0})) → due_total {B = X} {E = E} ends_come 0 due ≡ 0
    due_total_is_zero None = refl
    due_total_is_zero (Some over) = refl

    stop_where_due : (due : Option (Unit {0})) → IsSome due → StopIsDue {B = X} {E = E} ends_come due
    stop_where_due None some = absurd cc
    stop_where_due (Some over) some = tt

    below_where_open : (u : Unit {0}) (due : Option (Unit {0})) → (IsSome due → ⊥) → (low : ℕ) → DueFew {B = X} {E = E} ends_come due (λ n. min low 1 ≤ n) (λ n. min low 1 ≤ n)
    below_where_open u None unstopped low = λ n after. after
    below_where_open u (Some over) unstopped low = absurd (unstopped refl)

    pub inclusive_hold : {S : Type 0} (m : Contract S X E) → HintsHold m.steps m.hints m.sound → HintsHold (λ p r q. stage_step ends_come (plan_meets call inclusive_plan passes) m.steps p r q) (plan_hint m inclusive_hint) (sound_once (λ p. IsSome p.1.1) (as_made (λ p. p.0) m.hints m.sound (λ p. hint_of_first)))
    inclusive_hold m holds = plan_hold ends_come call inclusive_plan passes (λ u n. n) (λ u low n. min low 1 ≤ n) (makes_at_most_plan ends_come call inclusive_plan passes (λ u n. n) (λ u low n. min low 1 ≤ n) inclusive_makes) (makes_no_fewer_plan ends_come call inclusive_plan passes (λ u n. n) (λ u low n. min low 1 ≤ n) inclusive_makes) inclusive_hint (λ u due n. min n 1) (λ u due o. o)
        (λ due. IsSome due) due_or_none stop_where_due (λ u over is hints k w. w) (λ u due unstopped o n le. let none = due_total_is_zero due in if_some_at_least_of_smaller o (due_total {B = X} {E = E} ends_come 0 due + n) n (omega (arith, none)) le) below_where_open m holds

pub lawful_inclusive : {S F A E : Type 0} (g : Mut F (Bor A × Unit {0}) (Result Bool E)) {m : Contract S A E} → Lawful m → Lawful (inclusive_contract g m)
lawful_inclusive {A = A} {E = E} g {m = m} l = lawful_rule l (inclusive_rule g) (is_stage_inclusive (call_by_reference g)) (closure_stays (takes_by_reference g) (inclusive_plan {E = E})) (inclusive_hold A E (call_by_reference g) m l.hold)
