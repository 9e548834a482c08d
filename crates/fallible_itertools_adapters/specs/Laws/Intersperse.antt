-- The contracts of `Intersperse` and `IntersperseWith` are lawful where the source's is.
use Rattle.std.specs.Prelude.{Bool, true, false, Result, Ok, Err, ◌+◌, ◌-◌, ◌≤◌, ◌^◌, ℕ, IfSome, None, Option, Some, cond, ltb, min, suc}
use Rattle.std.specs.Fn.{Mut}
use Rattle.std.proofs.Common.{arith, inr}
use Rattle.fallible_iterator.specs.Contract.{Contract, Lawful}
use Rattle.fallible_iterator.specs.Sources.FromFn.{call_of_none}
use Rattle.fallible_iterator.specs.Sound.{HintsHold, as_made}
use Rattle.fallible_itertools_adapters.specs.Intersperse.{intersperse_contract, intersperse_hint_by, intersperse_plan, intersperse_rule, intersperse_with_rule, separated_by, separator_cloned, fitting, interspersed_high, interspersed_items, unparted, intersperse_hint, intersperse_with_contract, takes_none}
use Rattle.fallible_itertools_adapters.specs.Laws.Staging.{Always, DueFew, EmittedFew, ItemWeighs, PlanMakes, closure_stays, is_stage_plan, lawful_rule, makes_at_most_plan, makes_no_fewer_plan, passes_at_most, passes_weighs, plan_hold, plan_hint}
use Rattle.fallible_itertools_adapters.specs.Staging.{none_held, passes, plan_meets, IsStage, item_comes, due_total, emitted_total, stage_step}
use Rattle.std.specs.declared.alloc.AllocError.{AllocError}

module _ {A : Type 0} (E : Type 0) where
  separated_weighs : (x : A) (v : Result A E) → ItemWeighs item_comes 2 none_held true (separated_by x v)
  separated_weighs x (Ok s) = (omega arith, omega arith)
  separated_weighs x (Err e) = (omega arith, omega arith)

  intersperse_weighs : (came : Bool) (x : A) → Always (λ t. ItemWeighs {E = E} item_comes 2 none_held came t) (intersperse_plan came x)
  intersperse_weighs false x = (omega arith, omega arith)
  intersperse_weighs true x = λ v. separated_weighs x v

pub is_stage_intersperse : {F A E : Type 0} (call : F → Unit {0} → Result A E → F → Type 0) → IsStage item_comes (plan_meets call intersperse_plan passes) 2 (λ p. none_held p.0)
is_stage_intersperse {E = E} call = is_stage_plan item_comes 2 none_held call intersperse_plan passes (intersperse_weighs E) (passes_weighs item_comes 2 (omega arith))

-- ---- where its hint is sound

-- more items come of more
interspersed_items_grow : {A : Type 0} (came : Bool) (due : Option A) (i j : ℕ) → i ≤ j → interspersed_items came due i ≤ interspersed_items came due j
interspersed_items_grow came due i j le = omega (arith, le)

-- what fits is itself
fitting_above : (n i : ℕ) → i ≤ n → IfSome (fitting n) (λ m. i ≤ m)
fitting_above n i le = above_where_some (ltb n (2 ^ 64))
  where
    above_where_some : (b : Bool) → IfSome (cond b (Some n) None) (λ m. i ≤ m)
    above_where_some true = le
    above_where_some false = tt

-- how many items come of n items of the source, where none is due
abbrev all_parted : Bool → ℕ → ℕ
all_parted came n = n + (n - unparted came)

module _ (A E : Type 0) where
  separated_few : (x : A) (v : Result A E) (low : ℕ) → EmittedFew item_comes (separated_by x v).0 (λ n. (low - 1) + ((low - 1) - 0) ≤ n) (λ n. low + (low - 0) ≤ n)
  separated_few x (Ok s) low = λ n after. omega (arith, after)
  separated_few x (Err e) low = tt

  separated_at_most : (x : A) (v : Result A E) (n : ℕ) → emitted_total item_comes 0 (separated_by x v).0 + (n + (n - 0)) ≤ suc n + (suc n - 0)
  separated_at_most x (Ok s) n = omega arith
  separated_at_most x (Err e) n = omega arith

  intersperse_at_most : (came : Bool) (x : A) (n : ℕ) → Always (λ t. emitted_total {E = E} item_comes 0 t.0 + all_parted t.1 n ≤ all_parted came (suc n)) (intersperse_plan came x)
  intersperse_at_most false x n = omega arith
  intersperse_at_most true x n = λ v. separated_at_most x v n

  intersperse_no_fewer : (came : Bool) (x : A) (low : ℕ) → Always (λ t. EmittedFew {E = E} item_comes t.0 (λ n. all_parted t.1 (low - 1) ≤ n) (λ n. all_parted came low ≤ n)) (intersperse_plan came x)
  intersperse_no_fewer false x low = λ n after. omega (arith, after)
  intersperse_no_fewer true x low = λ v. separated_few x v low

  module _ {F : Type 0} (call : F → Unit {0} → Result A E → F → Type 0) where
    intersperse_makes : PlanMakes item_comes call intersperse_plan passes all_parted (λ came low n. all_parted came low ≤ n)
    intersperse_makes = record {
      at_most = intersperse_at_most;
      at_most_at_stop = λ h stop. passes_at_most item_comes _ h stop;
      no_fewer = intersperse_no_fewer;
      no_fewer_at_end = λ came. omega arith;
      no_fewer_at_failure = λ came e low. tt;
    }

    due_total_above : (came : Bool) (due : Option A) (j : ℕ) → due_total {E = E} item_comes 0 due + all_parted came j ≤ interspersed_items came due j
    due_total_above came None j = omega arith
    due_total_above came (Some x) j = omega arith

    interspersed_high_above : (came : Bool) (due : Option A) (o : Option ℕ) (j : ℕ) → IfSome o (λ n. j ≤ n) → IfSome (interspersed_high came due o) (λ n. due_total {E = E} item_comes 0 due + all_parted came j ≤ n)
    interspersed_high_above came due None j h = tt
    interspersed_high_above came due (Some n) j h = fitting_above (interspersed_items came due n) _ (let more = interspersed_items_grow came due j n h in let le = due_total_above came due j in omega (arith, le, more))

    interspersed_low_below : (came : Bool) (due : Option A) (low : ℕ) → DueFew {E = E} item_comes due (λ n. all_parted came low ≤ n) (λ n. min (interspersed_items came due low) (2 ^ 64 - 1) ≤ n)
    interspersed_low_below came None low = λ n after. omega (arith, after)
    interspersed_low_below came (Some x) low = λ n after. omega (arith, after)

    pub intersperse_hold : {S : Type 0} (m : Contract S A E) → HintsHold m.steps m.hints m.sound → HintsHold (λ p r q. stage_step item_comes (plan_meets call intersperse_plan passes) m.steps p r q) (plan_hint m intersperse_hint_by) (as_made (λ p. p.0) m.hints m.sound (λ p. intersperse_hint p.1.0.0 p.1.1))
    intersperse_hold m holds = let made = plan_hold item_comes call intersperse_plan passes all_parted (λ came low n. all_parted came low ≤ n) (makes_at_most_plan item_comes call intersperse_plan passes all_parted (λ came low n. all_parted came low ≤ n) intersperse_makes) (makes_no_fewer_plan item_comes call intersperse_plan passes all_parted (λ came low n. all_parted came low ≤ n) intersperse_makes) intersperse_hint_by (λ came due n. min (interspersed_items came due n) (2 ^ 64 - 1)) interspersed_high
        (λ due. ⊥) (λ due. inr (λ n. n)) (λ due never. absurd never) (λ came x over hints k is. absurd cc) (λ came due unstopped o n le. interspersed_high_above came due o n le) (λ came due unstopped low. interspersed_low_below came due low) m holds in
        record { above = λ p h is a. made.above p h is (λ unstopped. a); below = λ p h is b. made.below p h is (λ unstopped. b) }

pub lawful_intersperse : {S A E : Type 0} (is_clone : A → A → Type 0) (is_infallible : A → Type 0) (from : AllocError → E → Type 0) {m : Contract S A E} → Lawful m → Lawful (intersperse_contract is_clone is_infallible from m)
lawful_intersperse {A = A} {E = E} is_clone is_infallible from {m = m} l = let call = separator_cloned is_clone is_infallible from in lawful_rule l (intersperse_rule call) (is_stage_intersperse call) (λ Q R p q weak reached c. tt) (intersperse_hold A E call m l.hold)

pub lawful_intersperse_with : {S F A E : Type 0} (g : Mut F (Unit {0}) (Result A E)) {m : Contract S A E} → Lawful m → Lawful (intersperse_with_contract g m)
lawful_intersperse_with {A = A} {E = E} g {m = m} l = lawful_rule l (intersperse_with_rule g) (is_stage_intersperse (call_of_none g)) (closure_stays (takes_none g) intersperse_plan) (intersperse_hold A E (call_of_none g) m l.hold)
