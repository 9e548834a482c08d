-- Folds of an adapter that may make items of failures: the source's folds, one after another, and what becomes of the failure that each of them met.
use Rattle.std.specs.Prelude.{◌≡◌, ◌<◌, List, [], ◌∷◌, ◌++◌, map, Option, Some, None, Ok, Err}
use Rattle.std.specs.Iterator.{IsFinite, size}
use Rattle.std.specs.List.{FoldsTo}
use Rattle.std.proofs.Common.{refl, sym, ap, subst, arith}
use Rattle.fallible_contract.specs.Traces.{Answered, Run, Yields, item}
use Rattle.fallible_contract.specs.Contract.{Contract, Lawful}
use Rattle.fallible_contract.specs.Closures.{IsCallable}
use Rattle.fallible_contract.specs.Failing.{outcome_exchanged, recovering_step}
use Rattle.fallible_contract.specs.Folds.{HoldsAtEachTurn, goes_on, DriveExit, Driven}
use Rattle.fallible_contract.specs.Folding.{TurnedBy, FoldingTurn, FoldingTakes}
use Rattle.fallible_contract.specs.Laws.Closures.{reaches_reflexive, reaches_by_call_first, is_callable_after}
use Rattle.fallible_contract.specs.Laws.Passing.{done, end_passes, failure_passes, keeps, refuses, closes, leaves_out, passes_of_pass_trace, pass_trace_of_passes}
use Rattle.fallible_contract.proofs.Lemmas.Contract.{stays_by_yields}
use Rattle.fallible_contract.proofs.Lemmas.Folding.{drained_by_same_steps, holds_each_turn_by_same_steps, holds_at_each_turn_of_held}
use Rattle.fallible_contract.proofs.Lemmas.Folds.{holds_at_first_turn, holds_each_turn_after_item, holds_each_turn_after_items, driven_by_item_first, driven_end, driven_failure, driven_of_first_break, driven_by_items_first}
use Rattle.std.specs.declared.ops.ControlFlow.{ControlFlow}
use Rattle.std.specs.declared.ops.ControlFlow.TheVariants.{Continue, Break}
use Rattle.fallible_contract.specs.declared.passing.Outcome.{Outcome}
use Rattle.fallible_contract.specs.declared.passing.Outcome.TheVariants.{Kept, LeftOut, Failure, End}

-- ---- one draw

module _ {S F X D V E : Type 0} (steps : S → Answered X D → S → Type 0) (call : F → D → V → F → Type 0) (outcome : D → V → Outcome X E) {s t : S} {f : F} where
  -- what is no failure passes
  item_recovered : {x : X} → steps s (item x) t → recovering_step steps call outcome (s, f) (item x) (t, f)
  item_recovered {x = x} step = pass_trace_of_passes (failure_passes x step done)

  recovering_step_ends_at_end : steps s (Ok None) t → recovering_step steps call outcome (s, f) (Ok None) (t, f)
  recovering_step_ends_at_end step = pass_trace_of_passes (end_passes step done)

  -- a failure, by what becomes of it
  module _ {g : F} (d : D) (v : V) (step : steps s (Err d) t) (called : call f d v g) where
    pub recovering_step_gives_item_where_kept : (x : X) → outcome d v ≡ Kept x → recovering_step steps call outcome (s, f) (item x) (t, g)
    recovering_step_gives_item_where_kept x is = pass_trace_of_passes (refuses d v x step called (ap outcome_exchanged is) done)

    pub recovering_step_fails_where_failure : (e : E) → outcome d v ≡ Failure e → recovering_step steps call outcome (s, f) (Err e) (t, g)
    recovering_step_fails_where_failure e is = pass_trace_of_passes (keeps d v e step called (ap outcome_exchanged is) done)

    pub recovering_step_ends_where_outcome_end : outcome d v ≡ End → recovering_step steps call outcome (s, f) (Ok None) (t, g)
    recovering_step_ends_where_outcome_end is = pass_trace_of_passes (closes d v step called (ap outcome_exchanged is) done)

    pub recovering_step_after_left_out : outcome d v ≡ LeftOut → (r : Answered X E) (q : S × F) → recovering_step steps call outcome (t, g) r q → recovering_step steps call outcome (s, f) r q
    recovering_step_after_left_out is r q p = pass_trace_of_passes (leaves_out d v step called (ap outcome_exchanged is) (passes_of_pass_trace p))

-- ---- a fold of the source, up to its last answer

module _ {S X D : Type 0} (steps : S → Answered X D → S → Type 0) (last : Answered X D) where
  yields_and_last_step_of_run : (items : List X) (s t : S) → Run steps s (map item items ++ last ∷ []) t → (u : S) × Yields steps s items u × steps u last t
  yields_and_last_step_of_run [] s t ran = (s, refl, subst (λ (u : S). steps s last u) ran.2 ran.1)
  yields_and_last_step_of_run (x ∷ items) s t ran = let rest = yields_and_last_step_of_run items ran.0 t ran.2 in (rest.0, (ran.0, ran.1, rest.1), rest.2)

-- It met the failure d: the items before, on which the turns went on, and the state at which the failure was drawn.
pub record MetFailure {S X D C R : Type 0} (steps : S → Answered X D → S → Type 0) (turns : C → X → ControlFlow R (Unit {0}) → C → Type 0) (s : S) (c : C) (d : D) (t : S) (b : C) : Type 0 where
  pub items : List X
  pub at : S
  pub ran : Yields steps s items at
  pub went : FoldsTo (goes_on turns) c items b
  pub fails : steps at (Err d) t

module _ {S X D C R : Type 0} (steps : S → Answered X D → S → Type 0) (turns : C → X → ControlFlow R (Unit {0}) → C → Type 0) where
  met_failure_by_turns : (items : List X) (last : Answered X D) (s t : S) (c k b : C) (d : D) → Run steps s (map item items ++ last ∷ []) t → FoldsTo (goes_on turns) c items k → DriveExit turns k last (Err d) b → MetFailure steps turns s c d t b
  met_failure_by_turns items (Ok None) s t c k b d ran went at = absurd (let e = at.0 in cc)
  met_failure_by_turns items (Ok (Some x)) s t c k b d ran went at = absurd (let e = at.2 in cc)
  met_failure_by_turns items (Err e) s t c k b d ran went at = let same : d ≡ e = (let z = at.0 in cc) in let last = yields_and_last_step_of_run steps (Err e) items s t ran in record {
    items = items;
    at = last.0;
    ran = last.1;
    went = subst (λ (z : C). FoldsTo (goes_on turns) c items z) (sym at.1) went;
    fails = subst (λ (z : D). steps last.0 (Err z) t) (sym same) last.2;
  }

  pub met_failure_of_driven : {s t : S} {c b : C} {d : D} → Driven steps turns s c (Err d) t b → MetFailure steps turns s c d t b
  met_failure_of_driven {s} {t} {c} {b} {d} w = met_failure_by_turns w.items w.last s t c w.at.carried b d w.ran w.at.went w.at.exit

-- ---- folds of the adapter

module _ {S F X D V E C R : Type 0} (steps : S → Answered X D → S → Type 0) (call : F → D → V → F → Type 0) (outcome : D → V → Outcome X E) (turns : C → X → ControlFlow R (Unit {0}) → C → Type 0) where
  abbrev StepOfRecovering : S × F → Answered X E → S × F → Type 0
  StepOfRecovering = recovering_step steps call outcome

  abbrev DrivesOfRecovering : S × F → C → Answered R E → S × F → C → Type 0
  DrivesOfRecovering = Driven StepOfRecovering turns

  yields_recovered : (f : F) (items : List X) (s t : S) → Yields steps s items t → Yields StepOfRecovering (s, f) items (t, f)
  yields_recovered f [] s t e = ap (λ u. (u, f)) e
  yields_recovered f (x ∷ items) s t ran = ((ran.0, f), item_recovered steps call outcome ran.1, yields_recovered f items ran.0 t ran.2)

  drives_to_value_of_run : (f : F) (items : List X) (last : Answered X D) (s t : S) (c k b : C) (v : Option R) → Run steps s (map item items ++ last ∷ []) t → FoldsTo (goes_on turns) c items k → DriveExit turns k last (Ok v) b → DrivesOfRecovering (s, f) c (Ok v) (t, f) b
  drives_to_value_of_run f items (Ok None) s t c k b v ran went at = let same : v ≡ None = (let z = at.0 in cc) in let last = yields_and_last_step_of_run steps (Ok None) items s t ran in
      driven_by_items_first items (s, f) (last.0, f) c k (yields_recovered f items s last.0 last.1) went
      (subst (λ (z : Option R). DrivesOfRecovering (last.0, f) k (Ok z) (t, f) b) (sym same) (subst (λ (z : C). DrivesOfRecovering (last.0, f) k (Ok None) (t, f) z) (sym at.1) (driven_end (recovering_step_ends_at_end steps call outcome last.2))))
  drives_to_value_of_run f items (Ok (Some x)) s t c k b v ran went at = let same : v ≡ Some at.0 = (let z = at.2 in cc) in let last = yields_and_last_step_of_run steps (Ok (Some x)) items s t ran in
      driven_by_items_first items (s, f) (last.0, f) c k (yields_recovered f items s last.0 last.1) went
      (subst (λ (z : Option R). DrivesOfRecovering (last.0, f) k (Ok z) (t, f) b) (sym same) (driven_of_first_break x (item_recovered steps call outcome last.2) at.1))
  drives_to_value_of_run f items (Err e) s t c k b v ran went at = absurd (let z = at.0 in cc)

  -- a fold of the source that ended, or that a turn stopped, is one of the adapter
  pub drives_to_value_of_driven : {s t : S} {c b : C} {v : Option R} (f : F) → Driven steps turns s c (Ok v) t b → DrivesOfRecovering (s, f) c (Ok v) (t, f) b
  drives_to_value_of_driven {s} {t} {c} {b} {v} f w = drives_to_value_of_run f w.items w.last s t c w.at.carried b v w.ran w.at.went w.at.exit

  -- a turn of the source's fold may be taken where one of the adapter's may
  pub holds_each_turn_source : {P : C → X → Type 0} {s : S} {f : F} {c : C} → HoldsAtEachTurn StepOfRecovering (goes_on turns) P (s, f) c → HoldsAtEachTurn steps (goes_on turns) P s c
  holds_each_turn_source {f = f} h = holds_at_each_turn_of_held {held = StepOfRecovering} (λ u. (u, f)) (λ u x v step. item_recovered steps call outcome step) h

  -- what becomes of a failure that was met, by a turn on it
  module _ {s t : S} {c b : C} {d : D} (f : F) (met : MetFailure steps turns s c d t b) where
    drives_of_drives_at_met_failure : {r : Answered R E} {q : S × F} {z : C} → DrivesOfRecovering (met.at, f) b r q z → DrivesOfRecovering (s, f) c r q z
    drives_of_drives_at_met_failure rest = driven_by_items_first met.items (s, f) (met.at, f) c b (yields_recovered f met.items s met.at met.ran) met.went rest

    holds_each_turn_at_met_failure : {P : C → X → Type 0} → HoldsAtEachTurn StepOfRecovering (goes_on turns) P (s, f) c → HoldsAtEachTurn StepOfRecovering (goes_on turns) P (met.at, f) b
    holds_each_turn_at_met_failure h = holds_each_turn_after_items met.items (s, f) (met.at, f) c b (yields_recovered f met.items s met.at met.ran) met.went h

    -- the caller's turn may be taken on the item that it becomes
    pub folding_takes_of_holds : (pre : F → D → Type 0) {P : C → X → Type 0} → pre f d → HoldsAtEachTurn StepOfRecovering (goes_on turns) P (s, f) c → FoldingTakes call outcome pre P (b, f) d
    folding_takes_of_holds pre can h = (can, (λ v g y called is. holds_at_first_turn (holds_each_turn_at_met_failure h) (recovering_step_gives_item_where_kept steps call outcome d v met.fails called y is)))

    drives_to_stop_after_outcome : (v : V) (g : F) (o : Outcome X E) (z : C) (r : Answered R E) → call f d v g → outcome d v ≡ o → TurnedBy turns b o (Break r) z → DrivesOfRecovering (met.at, f) b r (t, g) z
    drives_to_stop_after_outcome v g (Kept y) z r called is (Continue u, w, e) = absurd cc
    drives_to_stop_after_outcome v g (Kept y) z r called is (Break why, w, e) = let same : r ≡ Ok (Some why) = cc in subst (λ a. DrivesOfRecovering (met.at, f) b a (t, g) z) (sym same) (driven_of_first_break y (recovering_step_gives_item_where_kept steps call outcome d v met.fails called y is) w)
    drives_to_stop_after_outcome v g LeftOut z r called is w = absurd (let e = w.0 in cc)
    drives_to_stop_after_outcome v g (Failure x) z r called is w = let same : r ≡ Err x = (let e = w.0 in cc) in subst (λ a. DrivesOfRecovering (met.at, f) b a (t, g) z) (sym same) (subst (λ k. DrivesOfRecovering (met.at, f) b (Err x) (t, g) k) (sym w.1) (driven_failure (recovering_step_fails_where_failure steps call outcome d v met.fails called x is)))
    drives_to_stop_after_outcome v g End z r called is w = let same : r ≡ Ok None = (let e = w.0 in cc) in subst (λ a. DrivesOfRecovering (met.at, f) b a (t, g) z) (sym same) (subst (λ k. DrivesOfRecovering (met.at, f) b (Ok None) (t, g) k) (sym w.1) (driven_end (recovering_step_ends_where_outcome_end steps call outcome d v met.fails called is)))

    drives_on_after_outcome : (v : V) (g : F) (o : Outcome X E) (y z : C) (r : Answered R E) (q : S × F) → call f d v g → outcome d v ≡ o → TurnedBy {E = E} turns b o (Continue tt) y → DrivesOfRecovering (t, g) y r q z → DrivesOfRecovering (met.at, f) b r q z
    drives_on_after_outcome v g (Kept x) y z r q called is (Continue u, w, e) rest = driven_by_item_first x (recovering_step_gives_item_where_kept steps call outcome d v met.fails called x is) w rest
    drives_on_after_outcome v g (Kept x) y z r q called is (Break why, w, e) rest = absurd cc
    drives_on_after_outcome v g LeftOut y z r q called is w rest = drained_by_same_steps (recovering_step_after_left_out steps call outcome d v met.fails called is) (subst (λ k. DrivesOfRecovering (t, g) k r q z) w.1 rest)
    drives_on_after_outcome v g (Failure x) y z r q called is w rest = absurd (let e = w.0 in cc)
    drives_on_after_outcome v g End y z r q called is w rest = absurd (let e = w.0 in cc)

    holds_each_turn_after_outcome : (P : C → X → Type 0) (v : V) (g : F) (o : Outcome X E) (y : C) → call f d v g → outcome d v ≡ o → TurnedBy {E = E} turns b o (Continue tt) y → HoldsAtEachTurn StepOfRecovering (goes_on turns) P (met.at, f) b → HoldsAtEachTurn StepOfRecovering (goes_on turns) P (t, g) y
    holds_each_turn_after_outcome P v g (Kept x) y called is (Continue u, w, e) h = holds_each_turn_after_item h (recovering_step_gives_item_where_kept steps call outcome d v met.fails called x is) w
    holds_each_turn_after_outcome P v g (Kept x) y called is (Break why, w, e) h = absurd cc
    holds_each_turn_after_outcome P v g LeftOut y called is w h = subst (λ k. HoldsAtEachTurn StepOfRecovering (goes_on turns) P (t, g) k) (sym w.1) (holds_each_turn_by_same_steps (recovering_step_after_left_out steps call outcome d v met.fails called is) h)
    holds_each_turn_after_outcome P v g (Failure x) y called is w h = absurd (let e = w.0 in cc)
    holds_each_turn_after_outcome P v g End y called is w h = absurd (let e = w.0 in cc)

    -- the turn stops the fold
    pub drives_to_stop : {g : F} {z : C} {r : Answered R E} → FoldingTurn call outcome turns (b, f) d (Break r) (z, g) → DrivesOfRecovering (s, f) c r (t, g) z
    drives_to_stop {g} {z} {r} w = drives_of_drives_at_met_failure (drives_to_stop_after_outcome w.0 g (outcome d w.0) z r w.1 refl w.2)

    -- the turn goes on
    pub drives_on_after_failure : {g : F} {y z : C} {r : Answered R E} {q : S × F} → FoldingTurn call outcome turns (b, f) d (Continue tt) (y, g) → DrivesOfRecovering (t, g) y r q z → DrivesOfRecovering (s, f) c r q z
    drives_on_after_failure {g} {y} {z} {r} {q} w rest = drives_of_drives_at_met_failure (drives_on_after_outcome w.0 g (outcome d w.0) y z r q w.1 refl w.2 rest)

    pub holds_each_turn_past_turn : {P : C → X → Type 0} {g : F} {y : C} → FoldingTurn call outcome turns (b, f) d (Continue tt) (y, g) → HoldsAtEachTurn StepOfRecovering (goes_on turns) P (s, f) c → HoldsAtEachTurn StepOfRecovering (goes_on turns) P (t, g) y
    holds_each_turn_past_turn {P} {g} {y} w h = holds_each_turn_after_outcome P w.0 g (outcome d w.0) y w.1 refl w.2 (holds_each_turn_at_met_failure h)

-- ---- what a failure that was met leaves of the source

-- what a draw requires of the source and of the closure
abbrev CanRecover : {S F X D V : Type 0} → Contract S X D → (F → D → V → F → Type 0) → (F → D → Type 0) → S → F → Type 0
CanRecover m call takes s f = (m.is_finite s × IsFinite (m.remaining s)) × (m.can_next s × IsCallable call takes (m.may_fail s) f)

module _ {S F X D V C R : Type 0} {m : Contract S X D} (l : Lawful m) (call : F → D → V → F → Type 0) (takes : F → D → Type 0) {turns : C → X → ControlFlow R (Unit {0}) → C → Type 0} {s t : S} {c b : C} {d : D} {f : F} (can : CanRecover m call takes s f) (met : MetFailure m.steps turns s c d t b) where
  -- the closure may be called on it
  pub takes_met_failure : takes f d
  takes_met_failure = let h = stays_by_yields l s met.items met.at can.1.0 met.ran in can.1.1.at f d reaches_reflexive (h.may_fail d ((l.kept_by_draw met.at (Err d) t h.can_next met.fails).answer.0))

  -- and the next fold may be made, over fewer answers
  pub can_recover_after : {v : V} {g : F} → call f d v g → CanRecover m call takes t g
  can_recover_after {v} {g} called = let h = stays_by_yields l s met.items met.at can.1.0 met.ran in let a = l.kept_by_draw met.at (Err d) t h.can_next met.fails in
      let finite = h.remaining can.0.1 in
      ((a.is_finite (h.is_finite can.0.0), (a.answer.2 finite.0).0), (a.can_next, is_callable_after (λ e given. h.may_fail e (a.may_fail e given)) (reaches_by_call_first d v (h.may_fail d a.answer.0) called reaches_reflexive) can.1.1))

  pub size_remaining_fewer : size (m.remaining t) < size (m.remaining s)
  size_remaining_fewer = let h = stays_by_yields l s met.items met.at can.1.0 met.ran in let a = l.kept_by_draw met.at (Err d) t h.can_next met.fails in
      let finite = h.remaining can.0.1 in let less = a.answer.2 finite.0 in omega (arith, finite.1, less.1)
