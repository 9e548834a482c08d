-- A fold whose state is a goal is the fold of the call that the goal asks for.
use Rattle.std.specs.Prelude.{◌≡◌, ℕ, ◌+◌, ◌≤◌, length, List, [], ◌∷◌, Option, Some, None, Ok, Err}
use Rattle.std.specs.List.{FoldsTo}
use Rattle.std.proofs.Common.{refl, sym, ap, subst, arith}
use Rattle.fallible_contract.specs.Traces.{Answered}
use Rattle.fallible_contract.specs.Folds.{OverExit, CountDrainsOn, LastDrains, NthDrains, IsNthTurn, DriveExit, Driven, goes_on}
use Rattle.fallible_contract.specs.Goals.{goal_turns, IsCountTurn, IsLastTurn}
use Rattle.fallible_contract.proofs.Lemmas.Folds.{drained_by_implication, driven_end, driven_failure, driven_of_first_break, count_drains_on_ended, count_drains_on_failed, last_drains_ended, last_drains_failed}
use Rattle.fallible_contract.proofs.Lemmas.Nth.{nth_drains_of_driven}
use Rattle.std.specs.declared.ops.ControlFlow.{ControlFlow}
use Rattle.std.specs.declared.ops.ControlFlow.TheVariants.{Continue, Break}
use Rattle.fallible_contract.specs.declared.goals.Goal.{Goal}
use Rattle.fallible_contract.specs.declared.goals.Goal.TheVariants.{Count, Last, Nth}

-- ---- a fold whose state is made of another one's

-- the turns on what is made are those on what it is made of
module _ {A R P C : Type 0} (mk : P → C) (turns : C → A → ControlFlow R (Unit {0}) → C → Type 0) (own : P → A → ControlFlow R (Unit {0}) → P → Type 0)
    (each : (p : P) (x : A) (r : ControlFlow R (Unit {0})) (d : C) → turns (mk p) x r d → (q : P) × own p x r q × (d ≡ mk q)) where
  folds_own : (items : List A) (p : P) (d : C) → FoldsTo (goes_on turns) (mk p) items d → (q : P) × FoldsTo (goes_on own) p items q × (d ≡ mk q)
  folds_own [] p d w = (p, refl, sym w)
  folds_own (x ∷ items) p d w = let one = each p x (Continue tt) w.0 w.1 in
      let rest = folds_own items one.0 d (subst (λ (c : C). FoldsTo (goes_on turns) c items d) one.2 w.2) in
      (rest.0, (one.0, one.1, rest.1), rest.2)

  exit_own : {E : Type 0} (last : Answered A E) (r : Answered R E) (p : P) (d : C) → DriveExit turns (mk p) last r d → (q : P) × DriveExit own p last r q × (d ≡ mk q)
  exit_own (Ok None) r p d at = (p, (at.0, refl), at.1)
  exit_own (Err e) r p d at = (p, (at.0, refl), at.1)
  exit_own (Ok (Some x)) r p d at = let one = each p x (Break at.0) d at.1 in (one.0, (at.0, one.1, at.2), one.2)

  pub driven_own : {S E : Type 0} {steps : S → Answered A E → S → Type 0} {s t : S} {p : P} {r : Answered R E} {d : C} → Driven steps turns s (mk p) r t d → (q : P) × Driven steps own s p r t q × (d ≡ mk q)
  driven_own {p = p} {r = r} {d = d} w =
      let went = folds_own w.items p w.at.carried w.at.went in
      let out = exit_own w.last r went.0 d (subst (λ (c : C). DriveExit turns c w.last r d) went.2 w.at.exit) in
      (out.0, record { items = w.items; last = w.last; ran = w.ran; at = record { carried = went.0; went = went.1; exit = out.1 } }, out.2)

-- and the other way round
module _ {A R P C : Type 0} (mk : P → C) (turns : C → A → ControlFlow R (Unit {0}) → C → Type 0) (own : P → A → ControlFlow R (Unit {0}) → P → Type 0)
    (each : (p : P) (x : A) (r : ControlFlow R (Unit {0})) (q : P) → own p x r q → turns (mk p) x r (mk q)) where
  folds_of_own : (items : List A) (p q : P) → FoldsTo (goes_on own) p items q → FoldsTo (goes_on turns) (mk p) items (mk q)
  folds_of_own [] p q w = ap mk w
  folds_of_own (x ∷ items) p q w = (mk w.0, each p x (Continue tt) w.0 w.1, folds_of_own items w.0 q w.2)

  exit_of_own : {E : Type 0} (last : Answered A E) (r : Answered R E) (p q : P) → DriveExit own p last r q → DriveExit turns (mk p) last r (mk q)
  exit_of_own (Ok None) r p q at = (at.0, ap mk at.1)
  exit_of_own (Err e) r p q at = (at.0, ap mk at.1)
  exit_of_own (Ok (Some x)) r p q at = (at.0, each p x (Break at.0) q at.1, at.2)

  pub driven_of_own : {S E : Type 0} {steps : S → Answered A E → S → Type 0} {s t : S} {p q : P} {r : Answered R E} → Driven steps own s p r t q → Driven steps turns s (mk p) r t (mk q)
  driven_of_own {p = p} {q = q} {r = r} w = record { items = w.items; last = w.last; ran = w.ran; at = record { carried = mk w.at.carried; went = folds_of_own w.items p w.at.carried w.at.went; exit = exit_of_own w.last r w.at.carried q w.at.exit } }

-- a fold that stops with nothing, by an end or a failure
module _ {A R Q P C : Type 0} (mk : P → C) (turns : C → A → ControlFlow R (Unit {0}) → C → Type 0) (own : P → A → ControlFlow Q (Unit {0}) → P → Type 0)
    (each : (p : P) (x : A) (q : P) → own p x (Continue tt) q → turns (mk p) x (Continue tt) (mk q)) where
  folds_over : (items : List A) (p q : P) → FoldsTo (goes_on own) p items q → FoldsTo (goes_on turns) (mk p) items (mk q)
  folds_over [] p q w = ap mk w
  folds_over (x ∷ items) p q w = (mk w.0, each p x w.0 w.1, folds_over items w.0 q w.2)

  end_over : {E : Type 0} (last : Answered A E) (p q : P) → DriveExit own p last (Ok None) q → DriveExit turns (mk p) last (Ok None) (mk q)
  end_over (Ok None) p q at = (refl, ap mk at.1)
  end_over (Err e) p q at = absurd (let f = at.0 in cc)
  end_over (Ok (Some x)) p q at = absurd (let f = at.2 in cc)

  failure_over : {E : Type 0} (last : Answered A E) (e : E) (p q : P) → DriveExit own p last (Err e) q → DriveExit turns (mk p) last (Err e) (mk q)
  failure_over (Ok None) e p q at = absurd (let f = at.0 in cc)
  failure_over (Err d) e p q at = ((let f = at.0 in cc), ap mk at.1)
  failure_over (Ok (Some x)) e p q at = absurd (let f = at.2 in cc)

  pub ended_over : {S E : Type 0} {steps : S → Answered A E → S → Type 0} {s t : S} {p q : P} → Driven steps own s p (Ok None) t q → Driven steps turns s (mk p) (Ok None) t (mk q)
  ended_over {p = p} {q = q} w = record { items = w.items; last = w.last; ran = w.ran; at = record { carried = mk w.at.carried; went = folds_over w.items p w.at.carried w.at.went; exit = end_over w.last w.at.carried q w.at.exit } }

  pub failed_over : {S E : Type 0} {steps : S → Answered A E → S → Type 0} {s t : S} {p q : P} {e : E} → Driven steps own s p (Err e) t q → Driven steps turns s (mk p) (Err e) t (mk q)
  failed_over {p = p} {q = q} {e = e} w = record { items = w.items; last = w.last; ran = w.ran; at = record { carried = mk w.at.carried; went = folds_over w.items p w.at.carried w.at.went; exit = failure_over w.last e w.at.carried q w.at.exit } }

-- ---- what the goal of each call stays, and what it is then

-- a count and a last item stop at no item
count_never_stops : {A E : Type 0} (n k : ℕ) (x : A) (last : Answered A E) → DriveExit (IsCountTurn {R = A}) n last (Ok (Some x)) k → ⊥
count_never_stops n k x (Ok None) h = absurd (let f = h.0 in cc)
count_never_stops n k x (Ok (Some y)) h = absurd (let f = h.1.0 in cc)
count_never_stops n k x (Err e) h = absurd (let f = h.0 in cc)

last_never_stops : {A E : Type 0} (p q : Option A) (x : A) (last : Answered A E) → DriveExit (IsLastTurn {R = A}) p last (Ok (Some x)) q → ⊥
last_never_stops p q x (Ok None) h = absurd (let f = h.0 in cc)
last_never_stops p q x (Ok (Some y)) h = absurd (let f = h.1.0 in cc)
last_never_stops p q x (Err e) h = absurd (let f = h.0 in cc)

module _ {S A E : Type 0} {steps : S → Answered A E → S → Type 0} {s t : S} where
  -- `count`
  pub stays_count : {n : ℕ} {r : Answered A E} {h : Goal A} → Driven steps goal_turns s (Count n) r t h → (k : ℕ) × (h ≡ Count k)
  stays_count w = let d = driven_own Count goal_turns IsCountTurn (λ p x r e w. w) w in (d.0, d.2)

  driven_of_count : {n k : ℕ} {r : Answered A E} → Driven steps goal_turns s (Count n) r t (Count k) → Driven steps IsCountTurn s n r t k
  driven_of_count {n = n} {k = k} {r = r} w = let d = driven_own Count goal_turns IsCountTurn (λ p x r e w. w) w in let over = d.2 in let same : d.0 ≡ k = cc in subst (λ (j : ℕ). Driven steps IsCountTurn s n r t j) same d.1

  count_ends : {n k : ℕ} (v : Option A) → Driven steps (IsCountTurn {R = A}) s n (Ok v) t k → Driven steps (IsCountTurn {R = A}) s n (Ok None) t k
  count_ends None w = w
  count_ends {k = k} (Some x) w = absurd (count_never_stops w.at.carried k x w.last w.at.exit)

  pub count_of_ended : {n k : ℕ} {v : Option A} → Driven steps goal_turns s (Count n) (Ok v) t (Count k) → CountDrainsOn steps s n (Ok tt) t k
  count_of_ended {v = v} w = count_drains_on_ended (count_ends v (driven_of_count w))

  pub count_of_failed : {n k : ℕ} {e : E} → Driven steps goal_turns s (Count n) (Err e) t (Count k) → CountDrainsOn steps s n (Err e) t k
  count_of_failed w = count_drains_on_failed (driven_of_count w)

  -- `last`
  pub stays_last : {p : Option A} {r : Answered A E} {h : Goal A} → Driven steps goal_turns s (Last p) r t h → (q : Option A) × (h ≡ Last q)
  stays_last w = let d = driven_own Last goal_turns IsLastTurn (λ p x r e w. w) w in (d.0, d.2)

  driven_of_last : {p q : Option A} {r : Answered A E} → Driven steps goal_turns s (Last p) r t (Last q) → Driven steps IsLastTurn s p r t q
  driven_of_last {p = p} {q = q} {r = r} w = let d = driven_own Last goal_turns IsLastTurn (λ p x r e w. w) w in let over = d.2 in let same : d.0 ≡ q = cc in subst (λ (j : Option A). Driven steps IsLastTurn s p r t j) same d.1

  last_ends : {p q : Option A} (v : Option A) → Driven steps (IsLastTurn {R = A}) s p (Ok v) t q → Driven steps (IsLastTurn {R = A}) s p (Ok None) t q
  last_ends None w = w
  last_ends {q = q} (Some x) w = absurd (last_never_stops w.at.carried q x w.last w.at.exit)

  pub last_of_ended : {q : Option A} {v : Option A} → Driven steps goal_turns s (Last None) (Ok v) t (Last q) → LastDrains steps s (Ok q) t
  last_of_ended {v = v} w = last_drains_ended (last_ends v (driven_of_last w))

  pub last_of_failed : {e : E} {h : Goal A} → Driven steps goal_turns s (Last None) (Err e) t h → LastDrains steps s (Err e) t
  last_of_failed w = last_drains_failed (driven_own Last goal_turns IsLastTurn (λ p x r e w. w) w).1

  -- `nth`
  pub stays_nth : {n : ℕ} {r : Answered A E} {h : Goal A} → Driven steps goal_turns s (Nth n) r t h → (k : ℕ) × (h ≡ Nth k)
  stays_nth w = let d = driven_own Nth goal_turns IsNthTurn (λ p x r e w. w) w in (d.0, d.2)

  pub nth_drains_of_goal : {n : ℕ} {r : Answered A E} {h : Goal A} → Driven steps goal_turns s (Nth n) r t h → NthDrains steps s n r t
  nth_drains_of_goal w = nth_drains_of_driven (driven_own Nth goal_turns IsNthTurn (λ p x r e w. w) w).1

  -- the draw where nothing is left to skip
  pub nth_driven_where_none_left : (n : ℕ) (r : Answered A E) → n ≤ 0 → steps s r t → Driven steps IsNthTurn s n r t n
  nth_driven_where_none_left n (Ok None) none step = driven_end step
  nth_driven_where_none_left n (Err e) none step = driven_failure step
  nth_driven_where_none_left n (Ok (Some x)) none step = driven_of_first_break x step (omega (arith, none), refl, refl)

-- ---- what is said of each call says it of the goal

count_goes_up : {A : Type 0} (items : List A) (n k : ℕ) → k ≡ n + length items → FoldsTo (goes_on goal_turns) (Count n) items (Count k)
count_goes_up [] n k e = let same : n ≡ k = omega (arith, e) in ap Count same
count_goes_up (x ∷ items) n k e = (Count (n + 1), (n + 1, (refl, refl), refl), count_goes_up items (n + 1) k (omega (arith, e)))

goal_exit_at_end : {A E : Type 0} (h : Goal A) (last : Answered A E) → OverExit last (Ok tt) → DriveExit goal_turns h last (Ok None) h
goal_exit_at_end h (Ok None) over = (refl, refl)
goal_exit_at_end h (Err e) over = absurd cc
goal_exit_at_end h (Ok (Some x)) over = absurd over

goal_exit_at_failure : {A E : Type 0} (h : Goal A) (last : Answered A E) (e : E) → OverExit last (Err e) → DriveExit goal_turns h last (Err e) h
goal_exit_at_failure h (Ok None) e over = absurd cc
goal_exit_at_failure h (Err d) e over = let same : e ≡ d = (let f = over in cc) in (ap Err same, refl)
goal_exit_at_failure h (Ok (Some x)) e over = absurd over

module _ {S A E : Type 0} {steps : S → Answered A E → S → Type 0} {s t : S} {n k : ℕ} where
  pub driven_of_count_ended : CountDrainsOn steps s n (Ok tt) t k → Driven steps goal_turns s (Count n) (Ok None) t (Count k)
  driven_of_count_ended w = drained_by_implication (λ items last h. record { carried = Count k; went = count_goes_up items n k h.number; exit = goal_exit_at_end (Count k) last h.exit }) w

  pub driven_of_count_failed : {e : E} → CountDrainsOn steps s n (Err e) t k → Driven steps goal_turns s (Count n) (Err e) t (Count k)
  driven_of_count_failed {e} w = drained_by_implication (λ items last h. record { carried = Count k; went = count_goes_up items n k h.number; exit = goal_exit_at_failure (Count k) last e h.exit }) w
