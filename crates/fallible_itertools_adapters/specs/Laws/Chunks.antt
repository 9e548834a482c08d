-- The contracts of `Chunks` and `ChunkBy` are lawful where the source's is, and why their hints are sound.
use Rattle.std.specs.Prelude.{◌≡◌, ℕ, ◌+◌, ◌-◌, ◌*◌, ◌≤◌, ◌<◌, suc, max, ltb, Bool, true, false, Option, Some, None, Ok, Err, [], ◌∷◌, length, vec_items, Result}
use Rattle.std.specs.Borrow.{Bor}
use Rattle.std.specs.Fn.{Mut}
use Rattle.std.specs.Int.{div_ceil}
use Rattle.std.specs.declared.alloc.AllocError.{AllocError}
use Rattle.std.specs.declared.alloc.Global.{Global}
use Rattle.std.specs.declared.vec.Vec.{Vec}
use Rattle.std.proofs.Common.{refl, sym, ap, subst, arith, length-append, ◌∙◌}
use Rattle.std.proofs.Math.Nat.{lt_of_mul-lt-mul_right, suc-mul}
use Rattle.std.proofs.lemmas.Bool.{ltb-true, ltb-false}
use Rattle.std.proofs.lemmas.Grind.{div_ceil_times}
use Rattle.fallible_iterator.specs.Contract.{Contract, Lawful}
use Rattle.fallible_iterator.specs.Hints.{fitting_sum}
use Rattle.fallible_iterator.specs.Laws.Hints.Joining.{if_some_fitting_sum_at_least_both}
use Rattle.fallible_itertools_adapters.specs.Chunks.{Grown, Put, PutsLastOrRefused, batch_at, batch_by, chunks_plan, chunks_stops, held_without_item, puts, vec_count, batch_held, chunks_contract, KeyedPut, chunk_by_contract, chunk_by_plan, chunk_by_stops, group_at, group_by, group_kept, puts_by_key, takes_key, chunk_by_rule, chunks_rule}
use Rattle.fallible_itertools_adapters.specs.Staging.{Emitted, IsTransition, Transition, before_stop, held_one, plan_meets, stop_comes, IsStage}
use Rattle.fallible_itertools_adapters.specs.Laws.Staging.{EmittedFew, ItemBuffers, ItemWeighs, MakesNoFewer, before_stop_weighs, failure_buffers, held_hold_by_makes, is_stage_buffering, is_stage_plan, lawful_bounded, makes_at_most_items_and_held, one_held_hold, HintHolds, closure_stays, lawful_rule}

-- ---- The hint of `Chunks`: how many batches come at least, and at most

-- ---- numbers

-- as many items as m batches of n have make at most m batches
div_ceil_at_most : (n k m : ℕ) → k ≤ m * max n 1 → div_ceil k (max n 1) ≤ m
div_ceil_at_most n k m few = let some : 0 < max n 1 = omega arith in let below : div_ceil k (max n 1) * max n 1 < k + max n 1 = (div_ceil_times k (max n 1) some).1 in let more : suc m * max n 1 ≡ m * max n 1 + max n 1 = suc-mul m (max n 1) in
    let fewer : div_ceil k (max n 1) < suc m = lt_of_mul-lt-mul_right (max n 1) (omega (arith, below, more, few)) in omega (arith, fewer)

-- how many items the batch that is held takes yet, of which the next one is in any case one
abbrev room_left : {A : Type 0} → ℕ → Vec A Global → ℕ
room_left n v = max 1 (n - vec_count v)

module _ {A E : Type 0} (from : AllocError → E → Type 0) where
  -- so many items are enough for m batches and no more, with the one that is held
  abbrev pub EnoughBegun : ℕ → Option (Vec A Global) → ℕ → ℕ → Type 0
  EnoughBegun n None low m = low ≤ m * max n 1
  EnoughBegun n (Some v) low m = (k : ℕ) × (m ≡ suc k) × (low ≤ room_left n v + k * max n 1)

  -- a batch that is yielded with the item, and one that is held with it
  enough_begun_where_kept : (n low m : ℕ) (held : Option (Vec A Global)) (x : A) (w : Vec A Global) → Grown held x w → n ≤ length (vec_items w) → low - 1 ≤ m * max n 1 → EnoughBegun n held low (suc m)
  enough_begun_where_kept n low m None x w is full few = let k : suc m * max n 1 ≡ m * max n 1 + max n 1 = suc-mul m (max n 1) in omega (arith, k, few)
  enough_begun_where_kept n low m (Some v) x w is full few = (m, refl, omega (arith, few))

  enough_begun_where_left_out : (n low m : ℕ) (held : Option (Vec A Global)) (x : A) (w : Vec A Global) → Grown held x w → length (vec_items w) < n → EnoughBegun n (Some w) (low - 1) m → EnoughBegun n held low m
  enough_begun_where_left_out n low m None x w is fewer (k, at, few) = let one : length (vec_items w) ≡ 1 = ap length is in let more : suc k * max n 1 ≡ k * max n 1 + max n 1 = suc-mul k (max n 1) in
      subst (λ (j : ℕ). low ≤ j * max n 1) (sym at) (omega (arith, one, more, fewer, few))
  enough_begun_where_left_out n low m (Some v) x w is fewer (k, at, few) = let one : length (vec_items w) ≡ length (vec_items v) + 1 = ap length is ∙ length-append (vec_items v) (x ∷ []) in (k, at, omega (arith, one, fewer, few))

  few_of_batch_at : (h : ℕ × Option (Vec A Global)) (x : A) (w : Vec A Global) (few : Bool) (low : ℕ) → ltb (vec_count w) h.0 ≡ few → Grown h.1 x w → EmittedFew stop_comes (batch_at {E = E} h.0 w few).0 (λ n. EnoughBegun h.0 (batch_at {E = E} h.0 w few).1.1 (low - 1) n) (λ n. EnoughBegun h.0 h.1 low n)
  few_of_batch_at h x w true low is grown = λ n after. enough_begun_where_left_out h.0 low n h.1 x w grown (ltb-true (vec_count w) h.0 is) after
  few_of_batch_at h x w false low is grown = λ n after. enough_begun_where_kept h.0 low n h.1 x w grown (ltb-false (vec_count w) h.0 is) after

  few_before_failure : (held : Option (Vec A Global)) (e : E) (after before : ℕ → Type 0) → EmittedFew stop_comes (before_stop held (Some e)) after before
  few_before_failure None e after before = tt
  few_before_failure (Some v) e after before = tt

  few_of_put : (h : ℕ × Option (Vec A Global)) (x : A) (put : Put (Vec A Global) E) (low : ℕ) → PutsLastOrRefused from h.1 x put → EmittedFew stop_comes (batch_by vec_count h put).0 (λ n. EnoughBegun h.0 (batch_by vec_count h put).1.1 (low - 1) n) (λ n. EnoughBegun h.0 h.1 low n)
  few_of_put h x (Ok w) low grown = few_of_batch_at h x w (ltb (vec_count w) h.0) low refl grown
  few_of_put h x (Err (kept, e)) low w = few_before_failure (held_without_item h.1 kept) e _ _

  size_of_put : (h : ℕ × Option (Vec A Global)) (put : Put (Vec A Global) E) → (batch_by vec_count h put).1.0 ≡ h.0
  size_of_put h (Err r) = refl
  size_of_put h (Ok w) = size_at h w (ltb (vec_count w) h.0)
    where
      size_at : (h : ℕ × Option (Vec A Global)) (w : Vec A Global) (few : Bool) → (batch_at {E = E} h.0 w few).1.0 ≡ h.0
      size_at h w true = refl
      size_at h w false = refl

  few_at_end : (n : ℕ) (held : Option (Vec A Global)) (after : ℕ → Type 0) → EmittedFew {E = E} stop_comes (before_stop held None) after (λ m. EnoughBegun n held 0 m)
  few_at_end n None after = omega arith
  few_at_end n (Some v) after = (0, refl, omega arith)

  abbrev Few : (ℕ × Option (Vec A Global)) × Bool → ℕ → ℕ → Type 0
  Few p low m = EnoughBegun p.0.0 p.0.1 low m

  few_of_transition : (h : ℕ × Option (Vec A Global)) (t : Transition (ℕ × Option (Vec A Global)) (Vec A Global) (Option E) E) (emitted : Emitted (Vec A Global) (Option E) E) (k : ℕ × Option (Vec A Global)) (low i : ℕ) → IsTransition t emitted k → t.1.0 ≡ h.0 → EmittedFew stop_comes t.0 (λ n. EnoughBegun h.0 t.1.1 i n) (λ n. EnoughBegun h.0 h.1 low n) → EmittedFew stop_comes emitted (λ n. EnoughBegun k.0 k.1 i n) (λ n. EnoughBegun h.0 h.1 low n)
  few_of_transition h t emitted k low i w same few = subst (λ m. EmittedFew stop_comes m (λ n. EnoughBegun k.0 k.1 i n) (λ n. EnoughBegun h.0 h.1 low n)) (sym w.0) (subst (λ (j : ℕ × Option (Vec A Global)). EmittedFew stop_comes t.0 (λ n. EnoughBegun j.0 j.1 i n) (λ n. EnoughBegun h.0 h.1 low n)) (sym w.1) (subst (λ (j : ℕ). EmittedFew stop_comes t.0 (λ n. EnoughBegun j t.1.1 i n) (λ n. EnoughBegun h.0 h.1 low n)) (sym same) few))

  pub chunks_make_no_fewer : MakesNoFewer stop_comes (plan_meets (puts from) (chunks_plan vec_count) chunks_stops) Few
  chunks_make_no_fewer = record {
    at_item = λ p x emitted q low w. few_of_transition p.0 (batch_by vec_count p.0 w.0) emitted q.0 low (low - 1) w.2 (size_of_put p.0 w.0) (few_of_put p.0 x w.0 low w.1);
    at_end = λ p emitted q w. few_of_transition p.0 (chunks_stops p.0 None) emitted q.0 0 0 w.0 refl (few_at_end p.0.0 p.0.1 _);
    at_failure = λ p e emitted q low w. few_of_transition p.0 (chunks_stops p.0 (Some e)) emitted q.0 low 0 w.0 refl (few_before_failure p.0.1 e _ _);
  }

  pub batches_at_most : (n low m : ℕ) (held : Option (Vec A Global)) → EnoughBegun n held low m → div_ceil low (max n 1) ≤ m
  batches_at_most n low m None few = div_ceil_at_most n low m few
  batches_at_most n low m (Some v) (k, at, few) = let more : suc k * max n 1 ≡ k * max n 1 + max n 1 = suc-mul k (max n 1) in let room : room_left n v ≤ max n 1 = omega arith in
      subst (λ (j : ℕ). div_ceil low (max n 1) ≤ j) (sym at) (div_ceil_at_most n low (suc k) (omega (arith, room, more, few)))

-- ---- The contract of `Chunks` is lawful where the source's is

module _ {V : Type 0} (E : Type 0) (count : V → ℕ) where
  batch_at_weighs : (h : ℕ × Option V) (v : V) (few : Bool) → ItemWeighs {E = E} stop_comes 1 batch_held h (batch_at h.0 v few)
  batch_at_weighs h v true = (omega arith, omega arith)
  batch_at_weighs h v false = (omega arith, omega arith)

  refused_weighs : (n : ℕ) (held kept : Option V) (e : E) → ItemWeighs stop_comes 1 batch_held (n, held) (before_stop (held_without_item held kept) (Some e), (n, None))
  refused_weighs n None kept e = (omega arith, omega arith)
  refused_weighs n (Some v) None e = (omega arith, omega arith)
  refused_weighs n (Some v) (Some w) e = (omega arith, omega arith)

  batch_by_weighs : (h : ℕ × Option V) (put : Put V E) → ItemWeighs stop_comes 1 batch_held h (batch_by count h put)
  batch_by_weighs h (Ok v) = batch_at_weighs h v (ltb (count v) h.0)
  batch_by_weighs h (Err (kept, e)) = refused_weighs h.0 h.1 kept e

module _ {A E : Type 0} (from : AllocError → E → Type 0) where
  pub is_stage_chunks : IsStage stop_comes (plan_meets (puts {A = A} from) (chunks_plan vec_count) chunks_stops) 1 (λ p. batch_held p.0)
  is_stage_chunks = is_stage_plan stop_comes 1 batch_held (puts from) (chunks_plan vec_count) chunks_stops (λ h x put. batch_by_weighs E vec_count h put) (λ h stop. before_stop_weighs batch_held h (h.0, None) h.1 stop refl refl)

  chunks_hold : {S : Type 0} {m : Contract S A E} → Lawful m → HintHolds m (chunks_rule from)
  chunks_hold {m = m} l = held_hold_by_makes (puts from) (chunks_plan vec_count) chunks_stops (λ h n. n + batch_held h) (λ h low n. EnoughBegun from h.0 h.1 low n) (λ h k. div_ceil k (max h.0 1)) (λ h o. fitting_sum o (Some (held_one h.1))) (λ h o n le. if_some_fitting_sum_at_least_both o (Some (held_one h.1)) n (held_one h.1) (n + held_one h.1) (omega arith) le (omega arith)) (λ h low n few. batches_at_most from h.0 low n h.1 few)
      (makes_at_most_items_and_held stop_comes (plan_meets (puts from) (chunks_plan vec_count) chunks_stops) (λ p. batch_held p.0) is_stage_chunks) (chunks_make_no_fewer from) m l.hold

  pub lawful_chunks : {S : Type 0} {m : Contract S A E} → Lawful m → Lawful (chunks_contract from m)
  lawful_chunks {m = m} l = lawful_rule l (chunks_rule from) is_stage_chunks (λ Q R p q weak reached c. tt) (chunks_hold l)

-- ---- The contract of `ChunkBy` is lawful where the source's is

module _ {K V : Type 0} (E : Type 0) where
  group_at_buffers : (g : K × V) (k : K) (v : V) (same : Bool) → ItemBuffers {E = E} held_one (Some g) (group_at g k v same)
  group_at_buffers g k v true = ((omega arith, omega arith), tt, omega arith)
  group_at_buffers g k v false = ((omega arith, omega arith), tt, tt)

  group_kept_is_held : (held : Option (K × V)) (kept : Option V) → held_one (group_kept held kept) ≤ held_one held
  group_kept_is_held None kept = omega arith
  group_kept_is_held (Some g) None = omega arith
  group_kept_is_held (Some g) (Some v) = omega arith

  pub group_by_buffers : (eq : K → K → Bool) (held : Option (K × V)) (v : KeyedPut K V E) → ItemBuffers held_one held (group_by eq held v)
  group_by_buffers eq None (Ok (k, Ok v)) = ((omega arith, omega arith), tt, omega arith)
  group_by_buffers eq (Some g) (Ok (k, Ok v)) = group_at_buffers g k v (eq g.0 k)
  group_by_buffers eq held (Ok (k, Err (kept, e))) = failure_buffers held_one held None (group_kept held kept) e (group_kept_is_held held kept) refl
  group_by_buffers eq held (Err e) = failure_buffers held_one held None held e (omega arith) refl

module _ {F A K E : Type 0} (from : AllocError → E → Type 0) (eq : K → K → Bool) (g : Mut F (Bor A × Unit {0}) (Result K E)) where
  pub is_stage_chunk_by : IsStage stop_comes (plan_meets (puts_by_key from eq g) (chunk_by_plan eq) chunk_by_stops) 1 (λ p. held_one p.0)
  is_stage_chunk_by = is_stage_buffering held_one (puts_by_key from eq g) (chunk_by_plan eq) chunk_by_stops (λ held x v. group_by_buffers E eq held v) (λ held stop. before_stop_weighs held_one held None held stop refl refl)

  pub lawful_chunk_by : {S : Type 0} {m : Contract S A E} → Lawful m → Lawful (chunk_by_contract from eq g m)
  lawful_chunk_by {m = m} l = lawful_rule (lawful_bounded l) (chunk_by_rule from eq g) is_stage_chunk_by (closure_stays (takes_key g) (chunk_by_plan {E = E} eq)) (one_held_hold E (λ held. held) (λ held. None) held_one (λ held. refl) (puts_by_key from eq g) (chunk_by_plan eq) (λ held x v. group_by_buffers E eq held v) m l.hold)
