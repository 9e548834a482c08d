-- The contracts of `Positions` and `WithPosition` are lawful where the source's is.
use Rattle.std.specs.Prelude.{ℕ, Bool, Result, Option, Some, None, ◌+◌, ◌-◌, ◌≤◌, ◌^◌, min, suc}
use Rattle.std.specs.Fn.{Mut}
use Rattle.std.proofs.Common.{refl, arith}
use Rattle.fallible_iterator.specs.Closures.{IsCallable}
use Rattle.fallible_iterator.specs.Contract.{Contract, Lawful}
use Rattle.fallible_iterator.specs.Hints.{fitting_sum, upper_alone}
use Rattle.fallible_iterator.specs.Laws.Closures.{is_callable_after}
use Rattle.fallible_iterator.specs.Laws.Contract.{lawful_with_sound}
use Rattle.fallible_iterator.specs.Laws.Hints.Joining.{if_some_fitting_sum_at_least_both}
use Rattle.fallible_iterator.specs.Laws.Hints.Passing.{upper_alone_hold}
use Rattle.fallible_iterator.specs.Laws.Passing.{lawful_leaving_out}
use Rattle.fallible_itertools_adapters.specs.Positions.{item_call, item_takes, positions_contract, positions_outcome, position_plan, position_stops, positioned_last, with_position_contract, position_rule}
use Rattle.fallible_itertools_adapters.specs.Staging.{held_one, calls_nothing, plan_meets, IsStage, stop_comes, EndsInStop, emitted_total}
use Rattle.fallible_itertools_adapters.specs.Laws.Staging.{Always, EmittedFew, ItemBuffers, PlanMakes, StopWeighs, before_stop_weighs, held_hold, is_stage_buffering, HintHolds, lawful_rule}

-- ---- The contract of `Positions` is lawful where the source's is

pub lawful_positions : {S F X E : Type 0} {m : Contract S (ℕ × X) E} (g : Mut F (X × Unit {0}) (Result Bool E)) → Lawful m → Lawful (positions_contract m g)
lawful_positions {m = m} g l = lawful_with_sound (upper_alone_hold (item_call g) positions_outcome l.hold) (lawful_leaving_out (item_call g) (λ P f. IsCallable (item_call g) (item_takes g) P f) positions_outcome (λ p h. upper_alone m p.0 h) (λ P Q f h weak reached c. is_callable_after weak reached c) l)

-- ---- The contract of `WithPosition` is lawful where the source's is

module _ {A : Type 0} (E : Type 0) where
  pub position_buffers : (held : Option (Bool × A)) (x : A) → Always (λ t. ItemBuffers {E = E} held_one held t) (position_plan held x)
  position_buffers None x = ((omega arith, omega arith), tt, omega arith)
  position_buffers (Some p) x = ((omega arith, omega arith), tt, tt)

  position_stop_weighs : (held : Option (Bool × A)) (stop : Option E) → StopWeighs stop_comes 1 held_one held stop (position_stops held stop)
  position_stop_weighs None stop = before_stop_weighs (held_one {A = Bool × A}) None None (positioned_last {A = A} None) stop refl refl
  position_stop_weighs (Some p) stop = before_stop_weighs (held_one {A = Bool × A}) (Some p) None (positioned_last (Some p)) stop refl refl

pub is_stage_position : {A E : Type 0} → IsStage {E = E} stop_comes (plan_meets (calls_nothing {F = Unit {0}}) (position_plan {A = A}) position_stops) 1 (λ p. held_one p.0)
is_stage_position {E = E} = is_stage_buffering held_one calls_nothing position_plan position_stops (position_buffers E) (position_stop_weighs E)

-- ---- where its hint is sound

module _ (A E : Type 0) where
  position_at_most : (held : Option (Bool × A)) (x : A) (n : ℕ) → Always (λ t. emitted_total {E = E} stop_comes 0 t.0 + (n + held_one t.1) ≤ suc n + held_one held) (position_plan held x)
  position_at_most None x n = omega arith
  position_at_most (Some p) x n = omega arith

  position_at_most_at_stop : (held : Option (Bool × A)) (stop : Option E) → (emitted_total stop_comes 0 (position_stops held stop).0 ≤ 0 + held_one held) × EndsInStop stop_comes (position_stops held stop).0
  position_at_most_at_stop None None = (omega arith, tt)
  position_at_most_at_stop None (Some e) = (omega arith, tt)
  position_at_most_at_stop (Some p) None = (omega arith, tt)
  position_at_most_at_stop (Some p) (Some e) = (omega arith, tt)

  -- none is lost: what is held is one more
  position_no_fewer : (held : Option (Bool × A)) (x : A) (low : ℕ) → Always (λ t. EmittedFew {E = E} stop_comes t.0 (λ n. (low - 1) + held_one t.1 ≤ n) (λ n. low + held_one held ≤ n)) (position_plan held x)
  position_no_fewer None x low = λ n after. omega (arith, after)
  position_no_fewer (Some p) x low = λ n after. omega (arith, after)

  position_no_fewer_at_end : (held : Option (Bool × A)) → EmittedFew {E = E} stop_comes (position_stops held None).0 (λ n. 0 + 0 ≤ n) (λ n. 0 + held_one held ≤ n)
  position_no_fewer_at_end None = omega arith
  position_no_fewer_at_end (Some p) = omega arith

  position_no_fewer_at_failure : (held : Option (Bool × A)) (e : E) (low : ℕ) → EmittedFew stop_comes (position_stops held (Some e)).0 (λ n. 0 + 0 ≤ n) (λ n. low + held_one held ≤ n)
  position_no_fewer_at_failure None e low = tt
  position_no_fewer_at_failure (Some p) e low = tt

  position_makes : PlanMakes {X = A} stop_comes (calls_nothing {F = Unit {0}}) position_plan (position_stops {E = E}) (λ held n. n + held_one held) (λ held low n. low + held_one held ≤ n)
  position_makes = record {
    at_most = position_at_most;
    at_most_at_stop = position_at_most_at_stop;
    no_fewer = position_no_fewer;
    no_fewer_at_end = position_no_fewer_at_end;
    no_fewer_at_failure = position_no_fewer_at_failure;
  }

position_hold : {S A E : Type 0} {m : Contract S A E} → Lawful m → HintHolds m position_rule
position_hold {A = A} {E = E} {m = m} l = held_hold calls_nothing position_plan position_stops (λ held n. n + held_one held) (λ held low n. low + held_one held ≤ n) (λ held n. min (n + held_one held) (2 ^ 64 - 1)) (λ held o. fitting_sum o (Some (held_one held)))
    (λ held o n le. if_some_fitting_sum_at_least_both o (Some (held_one held)) n (held_one held) (n + held_one held) (omega arith) le (omega arith)) (λ held n k few. omega (arith, few)) (position_makes A E) m l.hold

pub lawful_with_position : {S A E : Type 0} {m : Contract S A E} → Lawful m → Lawful (with_position_contract m)
lawful_with_position {m = m} l = lawful_rule l position_rule is_stage_position (λ Q R p q weak reached c. tt) (position_hold l)
