-- The contracts of `Coalesce` and its kin are lawful where the source's is.
use Rattle.std.specs.Prelude.{Bool, true, false, Option, Some, None, Ok, Err, Result, ◌≡◌, ℕ}
use Rattle.std.specs.Borrow.{Bor}
use Rattle.std.specs.Fn.{Mut}
use Rattle.std.proofs.Common.{arith, refl}
use Rattle.fallible_iterator.specs.Closures.{call_by_reference, takes_by_reference}
use Rattle.fallible_iterator.specs.Contract.{Contract, Lawful}
use Rattle.fallible_itertools_adapters.specs.Coalesce.{OneOrBoth, are_equal, coalesce_call, coalesce_contract, coalesce_plan, coalesce_rule, coalesce_takes, coalesced_by, count_plan, count_stops, counted_by, dedup_by_contract, dedup_by_key_contract, dedup_by_key_rule, dedup_by_plan, dedup_by_rule, dedup_by_with_count_contract, dedup_by_with_count_rule, dedup_contract, dedup_key_plan, dedup_key_stops, dedup_plan, dedup_rule, dedup_stops, dedup_with_count_contract, dedup_with_count_rule, keyed_by, keyed_item, same_by, same_call, same_takes, unless_same, unless_same_key}
use Rattle.fallible_itertools_adapters.specs.Staging.{held_one, calls_nothing, plan_meets, IsStage, stop_comes, calls_function, buffering, held_hint}
use Rattle.fallible_itertools_adapters.specs.Laws.Staging.{Always, ItemBuffers, StopWeighs, before_stop_weighs, closure_stays, is_stage_buffering, lawful_bounded, lawful_rule, one_held_hold, HintHolds}

-- ---- The contract of `Dedup` is lawful where the source's is

module _ {A : Type 0} (E : Type 0) where
  pub unless_same_buffers : (y x : A) (b : Bool) → ItemBuffers {E = E} held_one (Some y) (unless_same y x b)
  unless_same_buffers y x true = ((omega arith, omega arith), tt, omega arith)
  unless_same_buffers y x false = ((omega arith, omega arith), tt, tt)

  pub dedup_stops_weighs : (held : Option A) (stop : Option E) → StopWeighs stop_comes 1 held_one held stop (dedup_stops held stop)
  dedup_stops_weighs held stop = before_stop_weighs held_one held None held stop refl refl

  pub dedup_plan_buffers : (eq : A → A → Bool) (held : Option A) (x : A) → Always (λ t. ItemBuffers {E = E} held_one held t) (dedup_plan eq held x)
  dedup_plan_buffers eq None x = ((omega arith, omega arith), tt, omega arith)
  dedup_plan_buffers eq (Some y) x = unless_same_buffers y x (eq y x)

pub is_stage_dedup : {A E : Type 0} (eq : A → A → Bool) → IsStage stop_comes (plan_meets (calls_nothing {F = Unit {0}}) (dedup_plan eq {E = E}) dedup_stops) 1 (λ p. held_one p.0)
is_stage_dedup {E = E} eq = is_stage_buffering held_one calls_nothing (dedup_plan eq) dedup_stops (dedup_plan_buffers E eq) (dedup_stops_weighs E)

pub lawful_dedup : {S A E : Type 0} {m : Contract S A E} (eq : A → A → Bool) → Lawful m → Lawful (dedup_contract eq m)
lawful_dedup {E = E} {m = m} eq l = lawful_rule (lawful_bounded l) (dedup_rule eq) (is_stage_dedup eq) (λ Q R p q weak reached c. tt) (one_held_hold E (λ held. held) (λ held. None) held_one (λ held. refl) calls_nothing (dedup_plan eq) (dedup_plan_buffers E eq) m l.hold)

-- ---- The contract of `Coalesce` is lawful where the source's is

module _ {A : Type 0} (E : Type 0) where
  coalesced_buffers : (y : A) (v : OneOrBoth A E) → ItemBuffers held_one (Some y) (coalesced_by v)
  coalesced_buffers y (Ok (Ok z)) = ((omega arith, omega arith), tt, omega arith)
  coalesced_buffers y (Ok (Err both)) = ((omega arith, omega arith), tt, tt)
  coalesced_buffers y (Err e) = ((omega arith, omega arith), tt, tt)

  pub coalesce_plan_buffers : (held : Option A) (x : A) → Always (λ t. ItemBuffers {E = E} held_one held t) (coalesce_plan held x)
  coalesce_plan_buffers None x = ((omega arith, omega arith), tt, omega arith)
  coalesce_plan_buffers (Some y) x = λ v. coalesced_buffers y v

pub is_stage_coalesce : {F A E : Type 0} (call : F → A × A → OneOrBoth A E → F → Type 0) → IsStage stop_comes (plan_meets call coalesce_plan dedup_stops) 1 (λ p. held_one p.0)
is_stage_coalesce {E = E} call = is_stage_buffering held_one call coalesce_plan dedup_stops (coalesce_plan_buffers E) (dedup_stops_weighs E)

pub lawful_coalesce : {S A F E : Type 0} {m : Contract S A E} (g : Mut F (A × (A × Unit {0})) (OneOrBoth A E)) → Lawful m → Lawful (coalesce_contract g m)
lawful_coalesce {E = E} {m = m} g l = lawful_rule (lawful_bounded l) (coalesce_rule g) (is_stage_coalesce (coalesce_call g)) (closure_stays (coalesce_takes g) coalesce_plan) (one_held_hold E (λ held. held) (λ held. None) held_one (λ held. refl) (coalesce_call g) coalesce_plan (coalesce_plan_buffers E) m l.hold)

-- ---- The contract of `DedupBy` is lawful where the source's is

module _ {A : Type 0} (E : Type 0) where
  same_by_buffers : (y x : A) (v : Result Bool E) → ItemBuffers held_one (Some y) (same_by y x v)
  same_by_buffers y x (Ok same) = unless_same_buffers E y x same
  same_by_buffers y x (Err e) = ((omega arith, omega arith), tt, tt)

  pub dedup_by_plan_buffers : (held : Option A) (x : A) → Always (λ t. ItemBuffers {E = E} held_one held t) (dedup_by_plan held x)
  dedup_by_plan_buffers None x = ((omega arith, omega arith), tt, omega arith)
  dedup_by_plan_buffers (Some y) x = λ v. same_by_buffers y x v

pub is_stage_dedup_by : {F A E : Type 0} (call : F → A × A → Result Bool E → F → Type 0) → IsStage stop_comes (plan_meets call dedup_by_plan dedup_stops) 1 (λ p. held_one p.0)
is_stage_dedup_by {E = E} call = is_stage_buffering held_one call dedup_by_plan dedup_stops (dedup_by_plan_buffers E) (dedup_stops_weighs E)

pub lawful_dedup_by : {S A F E : Type 0} {m : Contract S A E} (g : Mut F (Bor A × (Bor A × Unit {0})) (Result Bool E)) → Lawful m → Lawful (dedup_by_contract g m)
lawful_dedup_by {E = E} {m = m} g l = lawful_rule (lawful_bounded l) (dedup_by_rule g) (is_stage_dedup_by (same_call g)) (closure_stays (same_takes g) dedup_by_plan) (one_held_hold E (λ held. held) (λ held. None) held_one (λ held. refl) (same_call g) dedup_by_plan (dedup_by_plan_buffers E) m l.hold)

-- ---- The contract of `DedupByKey` is lawful where the source's is

-- as many are held with their key
pub held_one_of_keyed : {A K : Type 0} (held : Option (K × A)) → held_one held ≡ held_one (keyed_item held)
held_one_of_keyed None = refl
held_one_of_keyed (Some p) = refl

module _ {A K : Type 0} (E : Type 0) where
  dedup_key_stops_weighs : (held : Option (K × A)) (stop : Option E) → StopWeighs stop_comes 1 held_one held stop (dedup_key_stops held stop)
  dedup_key_stops_weighs held stop = before_stop_weighs held_one held None (keyed_item held) stop (held_one_of_keyed held) refl

  module _ (eq : K → K → Bool) where
    unless_same_key_buffers : (held next : K × A) (b : Bool) → ItemBuffers {E = E} held_one (Some held) (unless_same_key eq held next b)
    unless_same_key_buffers held next true = ((omega arith, omega arith), tt, omega arith)
    unless_same_key_buffers held next false = ((omega arith, omega arith), tt, tt)

    keyed_buffers : (held : Option (K × A)) (x : A) (v : Result K E) → ItemBuffers held_one held (keyed_by eq held x v)
    keyed_buffers None x (Err e) = ((omega arith, omega arith), tt, tt)
    keyed_buffers (Some p) x (Err e) = ((omega arith, omega arith), tt, tt)
    keyed_buffers None x (Ok k) = ((omega arith, omega arith), tt, omega arith)
    keyed_buffers (Some p) x (Ok k) = unless_same_key_buffers p (k, x) (eq p.0 k)

    pub dedup_key_plan_buffers : (held : Option (K × A)) (x : A) → Always (λ t. ItemBuffers {E = E} held_one held t) (dedup_key_plan eq held x)
    dedup_key_plan_buffers held x = λ v. keyed_buffers held x v

pub is_stage_dedup_key : {F A K E : Type 0} (eq : K → K → Bool) (call : F → A → Result K E → F → Type 0) → IsStage stop_comes (plan_meets call (dedup_key_plan eq) dedup_key_stops) 1 (λ p. held_one p.0)
is_stage_dedup_key {E = E} eq call = is_stage_buffering held_one call (dedup_key_plan eq) dedup_key_stops (dedup_key_plan_buffers E eq) (dedup_key_stops_weighs E)

pub lawful_dedup_by_key : {S A K F E : Type 0} {m : Contract S A E} (eq : K → K → Bool) (g : Mut F (Bor A × Unit {0}) (Result K E)) → Lawful m → Lawful (dedup_by_key_contract eq g m)
lawful_dedup_by_key {E = E} {m = m} eq g l = lawful_rule (lawful_bounded l) (dedup_by_key_rule eq g) (is_stage_dedup_key eq (call_by_reference g)) (closure_stays (takes_by_reference g) (dedup_key_plan eq {E = E})) (one_held_hold E keyed_item (λ held. None) held_one held_one_of_keyed (call_by_reference g) (dedup_key_plan eq) (dedup_key_plan_buffers E eq) m l.hold)

-- ---- The contracts of `DedupWithCount` and `DedupByWithCount` are lawful where the source's is

module _ {A : Type 0} (E : Type 0) where
  counted_buffers : (p : ℕ × A) (x : A) (v : Result Bool E) → ItemBuffers held_one (Some p) (counted_by p x v)
  counted_buffers p x (Ok true) = ((omega arith, omega arith), tt, omega arith)
  counted_buffers p x (Ok false) = ((omega arith, omega arith), tt, tt)
  counted_buffers p x (Err e) = ((omega arith, omega arith), tt, tt)

  pub count_buffers : (held : Option (ℕ × A)) (x : A) → Always (λ t. ItemBuffers {E = E} held_one held t) (count_plan held x)
  count_buffers None x = ((omega arith, omega arith), tt, omega arith)
  count_buffers (Some p) x = λ v. counted_buffers p x v

  count_stop_weighs : (held : Option (ℕ × A)) (stop : Option E) → StopWeighs stop_comes 1 held_one held stop (count_stops held stop)
  count_stop_weighs held stop = before_stop_weighs held_one held None held stop refl refl

pub is_stage_count : {F A E : Type 0} (call : F → A × A → Result Bool E → F → Type 0) → IsStage stop_comes (plan_meets call count_plan count_stops) 1 (λ p. held_one p.0)
is_stage_count {E = E} call = is_stage_buffering held_one call count_plan count_stops (count_buffers E) (count_stop_weighs E)

counted_hold : {S F A E : Type 0} {m : Contract S A E} (call : F → A × A → Result Bool E → F → Type 0) → Lawful m → HintHolds m (buffering {F = F} {E = E} call (count_plan {A = A}) count_stops held_one held_hint)
counted_hold {E = E} {m = m} call l = one_held_hold E (λ held. held) (λ held. None) held_one (λ held. refl) call count_plan (count_buffers E) m l.hold

pub lawful_dedup_with_count : {S A E : Type 0} {m : Contract S A E} (eq : A → A → Bool) → Lawful m → Lawful (dedup_with_count_contract eq m)
lawful_dedup_with_count {m = m} eq l = lawful_rule (lawful_bounded l) (dedup_with_count_rule eq) (is_stage_count (calls_function (are_equal eq))) (λ Q R p q weak reached c. tt) (counted_hold (calls_function (are_equal eq)) l)

pub lawful_dedup_by_with_count : {S A F E : Type 0} {m : Contract S A E} (g : Mut F (Bor A × (Bor A × Unit {0})) (Result Bool E)) → Lawful m → Lawful (dedup_by_with_count_contract g m)
lawful_dedup_by_with_count {m = m} g l = lawful_rule (lawful_bounded l) (dedup_by_with_count_rule g) (is_stage_count (same_call g)) (closure_stays (same_takes g) count_plan) (counted_hold (same_call g) l)
