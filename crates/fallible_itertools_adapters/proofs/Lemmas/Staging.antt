-- The fold of a stage, and what it lists, over a source that lists a list: by what it emits, by functions, and at whose stop what is held comes first.
use Rattle.std.specs.Prelude.{◌≡◌, ◌<◌, ℕ, List, [], ◌∷◌, ◌++◌, map, ⊤, Option, Some, None, Ok, Err, ◌⊎◌, Result}
use Rattle.std.specs.List.{FoldsTo}
use Rattle.std.specs.declared.alloc.AllocError.{AllocError}
use Rattle.std.specs.declared.ops.ControlFlow.{ControlFlow}
use Rattle.std.specs.declared.ops.ControlFlow.TheVariants.{Continue, Break}
use Rattle.std.proofs.Common.{refl, sym, ap, subst, inl, inr, ◌∙◌, arith}
use Rattle.fallible_iterator.specs.Beside.{Beside}
use Rattle.fallible_iterator.specs.Closures.{IsCallable, Reaches}
use Rattle.fallible_iterator.specs.Contract.{Contract, KeptByDraws, Lawful}
use Rattle.fallible_iterator.specs.Folds.{HoldsAtEachTurn, goes_on, DriveExit, Driven, TurnThrough, beside, beside_names}
use Rattle.fallible_iterator.specs.Lists.{AlwaysGives, EndsForGood, result_answer}
use Rattle.fallible_iterator.specs.Making.{AtRefusal, GivesMade, IsMadeOf, IsRefusal}
use Rattle.fallible_iterator.specs.Passing.{IfItem}
use Rattle.fallible_iterator.specs.Refusing.{AnswersRefusal, GivesUntilRefused}
use Rattle.fallible_iterator.specs.Traces.{Answered, Run, Yields, end, item}
use Rattle.fallible_iterator.specs.Laws.Closures.{reaches_reflexive, reaches_weaken, reaches_by_call_first, is_callable_after}
use Rattle.fallible_iterator.specs.Laws.Contract.{kept_by_draws_of_one_draw, kept_by_draws_of_no_draw, kept_by_draws_transitive}
use Rattle.fallible_iterator.proofs.Lemmas.Folding.{drained_by_same_steps, holds_each_turn_by_same_steps}
use Rattle.fallible_iterator.proofs.Lemmas.Folds.{holds_at_first_turn, holds_each_turn_after_item, driven_by_item_first, driven_end, driven_failure, driven_of_first_break, fold_of_references_drives_values, names_kept}
use Rattle.fallible_iterator.proofs.Lemmas.UntilRefused.{always_of_until_refused}
use Rattle.fallible_itertools_adapters.specs.Adjacent.{AdjacentItems}
use Rattle.fallible_itertools_adapters.specs.Staging.{DrawsUpTo, Emitted, yields, passes_over, due_gives, stage_meets, stage_step, stop_answer, MayMeet, TakesAll, IsStage, IsStop, EndsInStop, Told, TurnsOnDue, EmittedTold, DueTakes, EmittedTakes, Met, MetTakes, StageTurns, before_rest, due_first, emitted_first, staged, Follows, Transition, Plan, calls, makes, plan_meets, followed, plan_does, ends_come, before_stop, IsTransition, as_function, stop_comes, CanFollow, plan_can, plan_item, plan_takes, held_one, HintsPastFailure, hint_unless_end}
use Rattle.fallible_itertools_adapters.specs.Laws.Staging.{may_meet_of_answer, may_meet_before_draws, kept_where_reached, Always, ItemBuffers, NoEnd, always_weaken, failure_buffers, plan_hint}
use Rattle.fallible_itertools_adapters.proofs.Lemmas.Adjacent.{EachNext, HoldsOfNext, adjacent_items_of_each_next}

-- ---- The fold of a stage: turns on what is due and on what is emitted are turns on the adapter's own answers

-- ---- a turn on one answer, of any iterator

module _ {S A E C R : Type 0} (steps : S → Answered A E → S → Type 0) (turns : C → A → ControlFlow R (Unit {0}) → C → Type 0) where
  pub driven_of_told_break : (s t : S) (a : Answered A E) (why : Answered R E) (c d : C) → steps s a t → Told turns c a (Break why) d → Driven steps turns s c why t d
  driven_of_told_break s t (Ok (Some y)) why c d step w = rw w.2 (driven_of_first_break y step w.1)
  driven_of_told_break s t (Ok None) why c d step w = rw (w.0, w.1) (driven_end step)
  driven_of_told_break s t (Err e) why c d step w = rw (w.0, w.1) (driven_failure step)

  pub drives_on_after_told : (s t u : S) (a : Answered A E) (why : Answered R E) (c d z : C) → steps s a t → Told turns c a (Continue tt) d → Driven steps turns t d why u z → Driven steps turns s c why u z
  drives_on_after_told s t u (Ok (Some y)) why c d z step w rest = driven_by_item_first y step w rest
  drives_on_after_told s t u (Ok None) why c d z step w rest = absurd w
  drives_on_after_told s t u (Err e) why c d z step w rest = absurd w

  module _ (Q : C → A → Type 0) where
    abbrev Holds : S → C → Type 0
    Holds s c = HoldsAtEachTurn steps (goes_on turns) Q s c

    pub holds_after_told : (s t : S) (a : Answered A E) (c d : C) → steps s a t → Told turns c a (Continue tt) d → Holds s c → Holds t d
    holds_after_told s t (Ok (Some y)) c d step w h = holds_each_turn_after_item h step w
    holds_after_told s t (Ok None) c d step w h = absurd w
    holds_after_told s t (Err e) c d step w h = absurd w

    pub told_item_is_taken : (s t : S) (a : Answered A E) (c : C) → steps s a t → Holds s c → IfItem (Q c) a
    told_item_is_taken s t (Ok (Some y)) c step h = holds_at_first_turn h step
    told_item_is_taken s t (Ok None) c step h = tt
    told_item_is_taken s t (Err e) c step h = tt

-- ---- turns on what is due, and on what is emitted

module _ {S P X D B L E C R : Type 0} (comes : L → Option (Answered B E)) (meets : P → Answered X D → Emitted B L E → P → Type 0) (steps : S → Answered X D → S → Type 0) (turns : C → B → ControlFlow R (Unit {0}) → C → Type 0) where
  abbrev State : Type 0
  State = S × (P × Option L)

  abbrev Steps : State → Answered B E → State → Type 0
  Steps = stage_step comes meets steps

  driven_of_due_told_break : (s : S) (p : P) (due : Option L) (c : C) (told : Answered R E × Option L) (d : C) → TurnsOnDue turns comes c due (Break told) d → Driven Steps turns (s, (p, due)) c told.0 (s, (p, told.1)) d
  driven_of_due_told_break s p None c told d w = absurd (let e = w.0 in cc)
  driven_of_due_told_break s p (Some later) c (why, left) d w = rw w.1 (driven_of_told_break Steps turns (s, (p, Some later)) (s, (p, (due_gives later (comes later)).1)) (due_gives later (comes later)).0 why c d (refl, refl, refl) w.0)

  -- a fold that went on after what was due: nothing is due then
  none_due_left_where_told_continue : (later : L) (came : Option (Answered B E)) (c d : C) → Told {R = R} turns c (due_gives later came).0 (Continue tt) d → (due_gives later came).1 ≡ None
  none_due_left_where_told_continue later (Some a) c d w = refl
  none_due_left_where_told_continue later None c d w = absurd w

  drives_on_after_due : (s : S) (p : P) (due : Option L) (c : C) (why : Answered R E) (k : C) (u : State) (z : C) → TurnsOnDue {R = R} turns comes c due (Continue tt) k → Driven Steps turns (s, (p, None)) k why u z → Driven Steps turns (s, (p, due)) c why u z
  drives_on_after_due s p None c why k u z w rest = (rw w.1 at rest)
  drives_on_after_due s p (Some later) c why k u z w rest = drives_on_after_told Steps turns (s, (p, Some later)) (s, (p, None)) u (due_gives later (comes later)).0 why c k z (refl, refl, ap (λ (l : Option L). (p, l)) (sym (none_due_left_where_told_continue later (comes later) c k w))) w rest

  driven_of_emitted_told_break : (s t : S) (p h : P) (a : Answered X D) (emitted : Emitted B L E) (c : C) (told : Answered R E × Option L) (d : C) → steps s a t → meets p a emitted h → EmittedTold turns comes c emitted (Break told) d → Driven Steps turns (s, (p, None)) c told.0 (t, (h, told.1)) d
  driven_of_emitted_told_break s t p h a None c told d step called w = absurd (let e = w.0 in cc)
  driven_of_emitted_told_break s t p h a (Some (b, due)) c told d step called (inl w) = drives_on_after_told Steps turns (s, (p, None)) (t, (h, due)) (t, (h, told.1)) b told.0 c w.0 d (yields a step called) w.1 (driven_of_due_told_break t h due w.0 told d w.2)
  driven_of_emitted_told_break s t p h a (Some (b, due)) c told d step called (inr w) = let same : told ≡ (w.0, due) = (let e = w.2 in cc) in rw same (driven_of_told_break Steps turns (s, (p, None)) (t, (h, due)) b w.0 c d (yields a step called) w.1)

  drives_on_after_emitted : (s t : S) (p h : P) (a : Answered X D) (emitted : Emitted B L E) (c : C) (why : Answered R E) (k : C) (u : State) (z : C) → steps s a t → meets p a emitted h → EmittedTold {R = R} turns comes c emitted (Continue tt) k → Driven Steps turns (t, (h, None)) k why u z → Driven Steps turns (s, (p, None)) c why u z
  drives_on_after_emitted s t p h a None c why k u z step called w rest = drained_by_same_steps (λ r v more. passes_over a step called more) (rw w.1 at rest)
  drives_on_after_emitted s t p h a (Some (b, due)) c why k u z step called (inl w) rest = drives_on_after_told Steps turns (s, (p, None)) (t, (h, due)) u b why c w.0 z (yields a step called) w.1 (drives_on_after_due t h due w.0 why k u z w.2 rest)
  drives_on_after_emitted s t p h a (Some (b, due)) c why k u z step called (inr w) rest = absurd (let e = w.2 in cc)

  module _ (Q : C → B → Type 0) where
    abbrev HoldsHere : State → C → Type 0
    HoldsHere s c = HoldsAtEachTurn Steps (goes_on turns) Q s c

    holds_after_due : (s : S) (p : P) (due : Option L) (c k : C) → TurnsOnDue {R = R} turns comes c due (Continue tt) k → HoldsHere (s, (p, due)) c → HoldsHere (s, (p, None)) k
    holds_after_due s p None c k w h = rw w.1 h
    holds_after_due s p (Some later) c k w h = holds_after_told Steps turns Q (s, (p, Some later)) (s, (p, None)) (due_gives later (comes later)).0 c k (refl, refl, ap (λ (l : Option L). (p, l)) (sym (none_due_left_where_told_continue later (comes later) c k w))) w h

    due_is_taken : (s : S) (p : P) (due : Option L) (c : C) → HoldsHere (s, (p, due)) c → DueTakes {R = R} turns comes Q c due
    due_is_taken s p None c h = tt
    due_is_taken s p (Some later) c h = told_item_is_taken Steps turns Q (s, (p, Some later)) (s, (p, (due_gives later (comes later)).1)) (due_gives later (comes later)).0 c (refl, refl, refl) h

    holds_after_emitted : (s t : S) (p h : P) (a : Answered X D) (emitted : Emitted B L E) (c k : C) → steps s a t → meets p a emitted h → EmittedTold {R = R} turns comes c emitted (Continue tt) k → HoldsHere (s, (p, None)) c → HoldsHere (t, (h, None)) k
    holds_after_emitted s t p h a None c k step called w holds = rw w.1 (holds_each_turn_by_same_steps (λ r v more. passes_over a step called more) holds)
    holds_after_emitted s t p h a (Some (b, due)) c k step called (inl w) holds = holds_after_due t h due w.0 k w.2 (holds_after_told Steps turns Q (s, (p, None)) (t, (h, due)) b c w.0 (yields a step called) w.1 holds)
    holds_after_emitted s t p h a (Some (b, due)) c k step called (inr w) holds = absurd (let e = w.2 in cc)

    emitted_is_taken : (s t : S) (p h : P) (a : Answered X D) (emitted : Emitted B L E) (c : C) → steps s a t → meets p a emitted h → HoldsHere (s, (p, None)) c → EmittedTakes turns comes Q c emitted
    emitted_is_taken s t p h a None c step called holds = tt
    emitted_is_taken s t p h a (Some (b, due)) c step called holds = (told_item_is_taken Steps turns Q (s, (p, None)) (t, (h, due)) b c (yields a step called) holds, (λ d w. due_is_taken t h due d (holds_after_told Steps turns Q (s, (p, None)) (t, (h, due)) b c d (yields a step called) w holds)))

  -- ---- the source's fold

  abbrev Turns : C × P → X → ControlFlow (Answered R E × Option L) (Unit {0}) → C × P → Type 0
  Turns = StageTurns comes meets turns

  -- what turns on items of the source leave
  pub record FoldedOn (Q : C → B → Type 0) (s : S) (p : C × P) (t : S) (q : C × P) : Type 0 where
    pub holds : HoldsAtEachTurn Steps (goes_on turns) Q (s, (p.1, None)) p.0 → HoldsAtEachTurn Steps (goes_on turns) Q (t, (q.1, None)) q.0
    pub driven : (why : Answered R E) (u : State) (z : C) → Driven Steps turns (t, (q.1, None)) q.0 why u z → Driven Steps turns (s, (p.1, None)) p.0 why u z

  onward_of_yields_and_folds : (Q : C → B → Type 0) (items : List X) (s t : S) (p q : C × P) → Yields steps s items t → FoldsTo (goes_on Turns) p items q → FoldedOn Q s p t q
  onward_of_yields_and_folds Q [] s t p q ran went = rw (sym ran, sym went) (record { holds = λ h. h; driven = λ why u z h. h })
  onward_of_yields_and_folds Q (x ∷ items) s t p q ran went = let k = went.0 in let met = went.1 in let rest = onward_of_yields_and_folds Q items ran.0 t k q ran.2 went.2 in record {
    holds = λ h. rest.holds (holds_after_emitted Q s ran.0 p.1 k.1 (item x) met.0 p.0 k.0 ran.1 met.1 met.2 h);
    driven = λ why u z h. drives_on_after_emitted s ran.0 p.1 k.1 (item x) met.0 p.0 why k.0 u z ran.1 met.1 met.2 (rest.driven why u z h);
  }

  -- the draws before the last one
  split_last : (items : List X) (last : Answered X D) (s t : S) → Run steps s (map item items ++ last ∷ []) t → (u : S) × Yields steps s items u × steps u last t
  split_last [] last s t ran = (s, refl, (rw ran.2 at ran.1))
  split_last (x ∷ items) last s t ran = let k = split_last items last ran.0 t ran.2 in (k.0, (ran.0, ran.1, k.1), k.2)

  -- the fold up to the answer a of the source, on which the adapter's turn is taken next
  pub record UpTo (Q : C → B → Type 0) (s : S) (p : C × P) (a : Answered X D) (t : S) (k : C × P) : Type 0 where
    pub items : List X
    pub before : S
    pub ran : Yields steps s items before
    pub went : FoldsTo (goes_on Turns) p items k
    pub step : steps before a t
    pub on : FoldedOn Q s p before k

  -- what is emitted at that answer stops the fold
  driven_where_met_breaks : (Q : C → B → Type 0) (s t : S) (p k : C × P) (a : Answered X D) (told : Answered R E × Option L) (q : C × P) → UpTo Q s p a t k → Met comes meets turns k a (Break told) q → Driven Steps turns (s, (p.1, None)) p.0 told.0 (t, (q.1, told.1)) q.0
  driven_where_met_breaks Q s t p k a told q up met = up.on.driven told.0 (t, (q.1, told.1)) q.0 (driven_of_emitted_told_break up.before t k.1 q.1 a met.0 k.0 told q.0 up.step met.1 met.2)

  module _ (Q : C → B → Type 0) (s t : S) (p q : C × P) where
    up_to : (r : Answered (Answered R E × Option L) D) (w : Driven steps Turns s p r t q) → UpTo Q s p w.last t w.at.carried
    up_to r w = let k = split_last w.items w.last s t w.ran in record { items = w.items; before = k.0; ran = k.1; went = w.at.went; step = k.2; on = onward_of_yields_and_folds Q w.items s k.0 p w.at.carried k.1 w.at.went }

    -- the source ended
    ended : (last : Answered X D) (k : C × P) → DriveExit Turns k last (Ok None) q → UpTo Q s p last t k → UpTo Q s p (Ok None) t q
    ended (Ok None) k e up = rw e.1 up
    ended (Ok (Some x)) k e up = absurd (let f = e.2 in cc)
    ended (Err d) k e up = absurd (let f = e.0 in cc)

    up_to_end : Driven steps Turns s p (Ok None) t q → UpTo Q s p (Ok None) t q
    up_to_end w = ended w.last w.at.carried w.at.exit (up_to (Ok None) w)

    failed : (e : D) (last : Answered X D) (k : C × P) → DriveExit Turns k last (Err e) q → UpTo Q s p last t k → UpTo Q s p (Err e) t q
    failed e (Ok None) k at up = absurd (let f = at.0 in cc)
    failed e (Ok (Some x)) k at up = absurd (let f = at.2 in cc)
    failed e (Err d) k at up = let same : e ≡ d = (let f = at.0 in cc) in rw (same, at.1) up

    up_to_failure : (e : D) → Driven steps Turns s p (Err e) t q → UpTo Q s p (Err e) t q
    up_to_failure e w = failed e w.last w.at.carried w.at.exit (up_to (Err e) w)

    -- an item stopped it
    stopped : (told : Answered R E × Option L) (last : Answered X D) (k : C × P) → DriveExit Turns k last (Ok (Some told)) q → UpTo Q s p last t k → Driven Steps turns (s, (p.1, None)) p.0 told.0 (t, (q.1, told.1)) q.0
    stopped told (Ok None) k e up = absurd (let f = e.0 in cc)
    stopped told (Err d) k e up = absurd (let f = e.0 in cc)
    stopped told (Ok (Some x)) k e up = let same : told ≡ e.0 = (let f = e.2 in cc) in rw same (driven_where_met_breaks Q s t p k (item x) e.0 q up e.1)

    driven_where_stage_turns_stop : (told : Answered R E × Option L) → Driven steps Turns s p (Ok (Some told)) t q → Driven Steps turns (s, (p.1, None)) p.0 told.0 (t, (q.1, told.1)) q.0
    driven_where_stage_turns_stop told w = stopped told w.last w.at.carried w.at.exit (up_to (Ok (Some told)) w)

module _ {S P X D B L E : Type 0} (comes : L → Option (Answered B E)) (meets : P → Answered X D → Emitted B L E → P → Type 0) (steps : S → Answered X D → S → Type 0) where
  -- where nothing is due, what is emitted at draws is one answer
  pub step_of_draws : {s t : S} {p q : P × Option L} {r : Answered B E} → p.1 ≡ None → DrawsUpTo comes meets steps s p.0 r t q → stage_step comes meets steps (s, p) r (t, q)
  step_of_draws {s = s} {t = t} {p = p} {q = q} {r = r} is drawn = subst (λ (d : Option L). stage_step comes meets steps (s, (p.0, d)) r (t, q)) (sym is) drawn

  pub stage_step_of_meeting : {s t : S} {p : P × Option L} {h : P} {a : Answered X D} {r : Answered B E} {due : Option L} → p.1 ≡ None → steps s a t → meets p.0 a (Some (r, due)) h → stage_step comes meets steps (s, p) r (t, (h, due))
  stage_step_of_meeting is step called = step_of_draws is (yields _ step called)

-- ---- the whole fold

module _ {S P X D B L E C R : Type 0} (comes : L → Option (Answered B E)) (meets : P → Answered X D → Emitted B L E → P → Type 0) (steps : S → Answered X D → S → Type 0) (turns : C → B → ControlFlow R (Unit {0}) → C → Type 0) where
  module _ {s : S} {p : P × Option L} {c : C} where
    -- what is due stopped it
    pub fold_stops_where_due_breaks : {told : Answered R E × Option L} {d : C} → TurnsOnDue turns comes c p.1 (Break told) d → Driven (stage_step comes meets steps) turns (s, p) c told.0 (s, (p.0, told.1)) d
    fold_stops_where_due_breaks {told = told} {d = d} w = driven_of_due_told_break comes meets steps turns s p.0 p.1 c told d w

    -- it went on after that
    pub fold_drives_on_after_due : {k : C} {why : Answered R E} {u : S × (P × Option L)} {z : C} → TurnsOnDue {R = R} turns comes c p.1 (Continue tt) k → Driven (stage_step comes meets steps) turns (s, (p.0, None)) k why u z → Driven (stage_step comes meets steps) turns (s, p) c why u z
    fold_drives_on_after_due {k = k} {why = why} {u = u} {z = z} w rest = drives_on_after_due comes meets steps turns s p.0 p.1 c why k u z w rest

  -- where nothing is due
  module _ {s t : S} {p q : C × P} where
    pub fold_stops_where_stage_turns_stop : {told : Answered R E × Option L} → Driven steps (StageTurns comes meets turns) s p (Ok (Some told)) t q → Driven (stage_step comes meets steps) turns (s, (p.1, None)) p.0 told.0 (t, (q.1, told.1)) q.0
    fold_stops_where_stage_turns_stop {told = told} w = driven_where_stage_turns_stop comes meets steps turns (λ c y. ⊤) s t p q told w

    module _ {k : C × P} {told : Answered R E × Option L} where
      pub fold_ended : Driven steps (StageTurns comes meets turns) s p (Ok None) t k → Met comes meets turns k (Ok None) (Break told) q → Driven (stage_step comes meets steps) turns (s, (p.1, None)) p.0 told.0 (t, (q.1, told.1)) q.0
      fold_ended w met = driven_where_met_breaks comes meets steps turns (λ c y. ⊤) s t p k (Ok None) told q (up_to_end comes meets steps turns (λ c y. ⊤) s t p k w) met

      pub fold_failed : {e : D} → Driven steps (StageTurns comes meets turns) s p (Err e) t k → Met comes meets turns k (Err e) (Break told) q → Driven (stage_step comes meets steps) turns (s, (p.1, None)) p.0 told.0 (t, (q.1, told.1)) q.0
      fold_failed {e = e} w met = driven_where_met_breaks comes meets steps turns (λ c y. ⊤) s t p k (Err e) told q (up_to_failure comes meets steps turns (λ c y. ⊤) s t p k e w) met

-- a fold on what references point to, which come back
pub driven_beside : {S A E C P R : Type 0} {steps : S → Answered A E → S → Type 0} {turns : C × P → A → ControlFlow R (Unit {0}) → C × P → Type 0} {s t : S} {b d : Beside C P} {r : Answered R E} (f : P) (c : C) → Driven steps (TurnThrough beside beside_names turns) s b r t d → (d.p.ghost_name ≡ b.p.ghost_name → f ≡ d.p.now) → (d.c.ghost_name ≡ b.c.ghost_name → c ≡ d.c.now) → Driven steps turns s (b.c.now, b.p.now) r t (c, f)
driven_beside {turns = turns} f c w is_f is_c = let same = names_kept beside beside_names turns w in rw (is_f (ap (λ z. z.1) same), is_c (ap (λ z. z.0) same)) (fold_of_references_drives_values beside beside_names turns w)

-- ---- where the turn may be taken

module _ {S P X D B L E C R : Type 0} {m : Contract S X D} (l : Lawful m) (comes : L → Option (Answered B E)) (meets : P → Answered X D → Emitted B L E → P → Type 0) (turns : C → B → ControlFlow R (Unit {0}) → C → Type 0) (takes : P → X → Type 0) (Q : C → B → Type 0) where
  abbrev HoldsThere : S × (P × Option L) → C → Type 0
  HoldsThere s c = HoldsAtEachTurn (stage_step comes meets m.steps) (goes_on turns) Q s c

  kept_and_reached_by_items : (items : List X) (s t : S) (p q : C × P) → m.can_next s → Yields m.steps s items t → FoldsTo (goes_on (StageTurns comes meets turns)) p items q → KeptByDraws m s t × Reaches meets (MayMeet m s) p.1 q.1
  kept_and_reached_by_items [] s t p q c ran went = rw (sym ran, sym went) (kept_by_draws_of_no_draw c, reaches_reflexive)
  kept_and_reached_by_items (x ∷ items) s t p q c ran went = let g = l.kept_by_draw s (item x) ran.0 c ran.1 in let k = kept_by_draws_of_one_draw g in let met = went.1 in let rest = kept_and_reached_by_items items ran.0 t went.0 q g.can_next ran.2 went.2 in
      (kept_by_draws_transitive k rest.0, reaches_by_call_first (item x) met.0 (may_meet_of_answer m s ran.0 (item x) g.answer) met.1 (reaches_weaken (may_meet_before_draws m s ran.0 k) rest.1))

  met_takes : (s t : S) (p k : C × P) (a : Answered X D) → m.can_next s → TakesAll m meets takes s p.1 → HoldsThere (s, (p.1, None)) p.0 → UpTo comes meets m.steps turns Q s p a t k → MetTakes comes meets turns takes Q k a
  met_takes s t p k a c callable holds up = let r = kept_and_reached_by_items up.items s up.before p k c up.ran up.went in (
    callable.at k.1 a r.1 (may_meet_before_draws m s up.before r.0 a (may_meet_of_answer m up.before t a (l.kept_by_draw up.before a t r.0.can_next up.step).answer)),
    (λ emitted h called. emitted_is_taken comes meets m.steps turns Q up.before t k.1 h a emitted k.0 up.step called (up.on.holds holds)),
  )

  -- where nothing is due
  module _ {s : S} {p : C × P} (can : m.can_next s) (callable : TakesAll m meets takes s p.1) (holds : HoldsThere (s, (p.1, None)) p.0) where
    pub takes_at_items : HoldsAtEachTurn m.steps (goes_on (StageTurns comes meets turns)) (λ b x. MetTakes comes meets turns takes Q b (item x)) s p
    takes_at_items = record {
      at = λ items t u k x ran went step. met_takes s u p k (item x) can callable holds (record { items = items; before = t; ran = ran; went = went; step = step; on = onward_of_yields_and_folds comes meets m.steps turns Q items s t p k ran went });
    }

    module _ {t : S} {k : C × P} where
      pub takes_at_end : Driven m.steps (StageTurns comes meets turns) s p (Ok None) t k → MetTakes comes meets turns takes Q k (Ok None)
      takes_at_end w = met_takes s t p k (Ok None) can callable holds (up_to_end comes meets m.steps turns Q s t p k w)

      pub takes_at_failure : {e : D} → Driven m.steps (StageTurns comes meets turns) s p (Err e) t k → MetTakes comes meets turns takes Q k (Err e)
      takes_at_failure {e = e} w = met_takes s t p k (Err e) can callable holds (up_to_failure comes meets m.steps turns Q s t p k e w)

  module _ {s : S} {p : P × Option L} {c : C} (holds : HoldsThere (s, p) c) where
    pub takes_due : DueTakes {R = R} turns comes Q c p.1
    takes_due = due_is_taken comes meets m.steps turns Q s p.0 p.1 c holds

    pub takes_after_due : {k : C} → TurnsOnDue {R = R} turns comes c p.1 (Continue tt) k → HoldsThere (s, (p.0, None)) k
    takes_after_due {k = k} told = holds_after_due comes meets m.steps turns Q s p.0 p.1 c k told holds

-- ---- a stop of the source

module _ {B L E C R : Type 0} (comes : L → Option (Answered B E)) (turns : C → B → ControlFlow R (Unit {0}) → C → Type 0) where
  -- the fold doesn't go on after a stop
  stop_never_told_to_continue : (a : Answered B E) (c d : C) → IsStop a → Told {R = R} turns c a (Continue tt) d → ⊥
  stop_never_told_to_continue (Ok (Some y)) c d stop w = stop
  stop_never_told_to_continue (Ok None) c d stop w = w
  stop_never_told_to_continue (Err e) c d stop w = w

  emitted_stop_never_told_to_continue : (emitted : Emitted B L E) (c d : C) → EndsInStop comes emitted → EmittedTold {R = R} turns comes c emitted (Continue tt) d → ⊥
  emitted_stop_never_told_to_continue None c d stop w = stop
  emitted_stop_never_told_to_continue (Some (a, None)) c d stop (inl w) = stop_never_told_to_continue a c w.0 stop w.1
  emitted_stop_never_told_to_continue (Some (a, Some later)) c d stop (inl w) = stop_never_told_to_continue (due_gives later (comes later)).0 w.0 d stop w.2
  emitted_stop_never_told_to_continue (Some (a, due)) c d stop (inr w) = let e = w.2 in absurd cc

  stop_answer_is_stop : (X : Type 0) {D : Type 0} (stop : Option D) → IsStop {B = X} (stop_answer stop)
  stop_answer_is_stop X None = tt
  stop_answer_is_stop X (Some e) = tt

  module _ {P X D : Type 0} (items : P → X → Emitted B L E → P → Type 0) (stops : P → Option D → Emitted B L E → P → Type 0) where
    pub met_of_stop : {p q : P} (stop : Option D) {emitted : Emitted B L E} → stops p stop emitted q → stage_meets items stops p (stop_answer stop) emitted q
    met_of_stop None w = w
    met_of_stop (Some e) w = w

    pub breaks_at_stop : (most : ℕ) (held : P → ℕ) → IsStage comes (stage_meets items stops) most held → {p q : P} (stop : Option D) (emitted : Emitted B L E) (c d : C) → stops p stop emitted q → EmittedTold {R = R} turns comes c emitted (Continue tt) d → ⊥
    breaks_at_stop most held is {p = p} {q = q} stop emitted c d called told = emitted_stop_never_told_to_continue emitted c d ((is p (stop_answer stop) emitted q (met_of_stop stop called)).2 (stop_answer_is_stop X stop)) told

-- ---- draws at which nothing is emitted

module _ {S P X D B L E : Type 0} {m : Contract S X D} (l : Lawful m) (comes : L → Option (Answered B E)) (meets : P → Answered X D → Emitted B L E → P → Type 0) where
  -- where nothing was emitted, the answer was an item
  pub one_fewer_where_none_emitted : (most : ℕ) (held : P → ℕ) → IsStage comes meets most held → {s t : S} {p q : P} (a : Answered X D) → m.can_next s → m.steps s a t → meets p a None q → (n : ℕ) → m.bound s n → (k : ℕ) × m.bound t k × (k < n)
  one_fewer_where_none_emitted most held is {s = s} {t = t} (Ok (Some x)) c step called n b = (l.kept_by_draw s (Ok (Some x)) t c step).answer.1 n b
  one_fewer_where_none_emitted most held is {p = p} {q = q} (Ok None) c step called n b = absurd ((is p (Ok None) None q called).2 tt)
  one_fewer_where_none_emitted most held is {p = p} {q = q} (Err e) c step called n b = absurd ((is p (Err e) None q called).2 tt)

  pub takes_at_draw : (takes : P → X → Type 0) {s t : S} {p : P} (a : Answered X D) → m.can_next s → m.steps s a t → TakesAll m meets takes s p → IfItem (takes p) a
  takes_at_draw takes {s = s} {t = t} {p = p} a c step callable = callable.at p a reaches_reflexive (may_meet_of_answer m s t a (l.kept_by_draw s a t c step).answer)

  pub takes_all_after_draw : (takes : P → X → Type 0) {s t : S} {p q : P} (a : Answered X D) (emitted : Emitted B L E) → m.can_next s → m.steps s a t → meets p a emitted q → TakesAll m meets takes s p → TakesAll m meets takes t q
  takes_all_after_draw takes {s = s} {t = t} {p = p} {q = q} a emitted c step called callable = let g = l.kept_by_draw s a t c step in is_callable_after {pre = λ h b. IfItem (takes h) b} (may_meet_before_draws m s t (kept_by_draws_of_one_draw g)) (reaches_by_call_first a emitted (may_meet_of_answer m s t a g.answer) called reaches_reflexive) callable

-- ---- What a stage lists, over a source that lists a list, by what it emits at each answer; up to an allocation failure, where one may come

module _ {L Y E : Type 0} (comes : L → Option (Answered Y E)) where
  -- an end is due; one is emitted
  abbrev EndDue : Option L → Type 0
  EndDue None = ⊥
  EndDue (Some later) = (due_gives later (comes later)).0 ≡ end

  abbrev pub EndEmitted : Emitted Y L E → Type 0
  EndEmitted None = ⊥
  EndEmitted (Some (a, due)) = (a ≡ end) ⊎ EndDue due

module _ {Y B E : Type 0} (made : Y → B → Type 0) where
  -- the answer is the given one, with a value that is made of the given one; and the same of what is emitted
  abbrev pub IsAnswerMade : Answered Y E → Answered B E → Type 0
  IsAnswerMade (Ok (Some z)) r = IsMadeOf made (Ok z) r
  IsAnswerMade (Ok None) r = r ≡ end
  IsAnswerMade (Err e) r = r ≡ Err e

  abbrev pub IsMadeAs : {L : Type 0} → Emitted Y L E → Emitted B L E → Type 0
  IsMadeAs None None = ⊤
  IsMadeAs (Some (a, due)) (Some (r, later)) = IsAnswerMade a r × (later ≡ due)
  IsMadeAs m n = ⊥

module _ {S P X Y B L E : Type 0} (steps : S → Answered X E → S → Type 0) (comes : L → Option (Answered B E)) (meets : P → Answered X E → Emitted B L E → P → Type 0) (made : Y → B → Type 0) (Refuses : Answered B E → S × (P × Option L) → Type 0) where
  abbrev ListState : Type 0
  ListState = S × (P × Option L)

  -- r is the first of the list, or `Refuses` holds of it; and so on from t
  abbrev IsFirst : List (Result Y E) → Answered B E → ListState → Type 0
  IsFirst [] r t = r ≡ end
  IsFirst (y ∷ l) r t = Refuses r t ⊎ (IsMadeOf made y r × ((z : Answered B E) (u : ListState) → stage_step comes meets steps t z u → IsFirst l z u))

  abbrev pub GivesUpTo : ListState → List (Result Y E) → Type 0
  GivesUpTo s l = (r : Answered B E) (t : ListState) → stage_step comes meets steps s r t → IsFirst l r t

  -- `Refuses` holds of what is emitted
  abbrev pub RefusedAt : P → Emitted B L E → Type 0
  RefusedAt q None = ⊥
  RefusedAt q (Some (r, due)) = (t : S) → Refuses r (t, (q, due))

  -- `At p a` says that the stage holds p as a says; `listed` says what is due, in the list.
  module _ {Q : Type 0} (listed : L → Option (Answered Y E)) (At : P → Q → Type 0) (does : Q → Answered X E → Emitted Y L E × Q)
      (due_made : (later : L) → IsAnswerMade made (due_gives later (listed later)).0 (due_gives later (comes later)).0)
      (acts : (p q : P) (a : Q) (y : Result X E) (m : Emitted B L E) → At p a → meets p (result_answer y) m q → RefusedAt q m ⊎ (At q (does a (result_answer y)).1 × IsMadeAs made (does a (result_answer y)).0 m))
      (ends : (p q : P) (a : Q) (m : Emitted B L E) → At p a → meets p end m q → EndEmitted listed (does a end).0 × IsMadeAs made (does a end).0 m)
      (never_nil : (p q : P) (a : Q) (y : Result X E) (l : List (Result X E)) (r : Answered B E) (due : Option L) (t : S) → At p a → meets p (result_answer y) (Some (r, due)) q → Refuses r (t, (q, due)) → staged listed does a (y ∷ l) ≡ [] → ⊥) where
    first_before : (a : Answered Y E) (r : Answered B E) (t : ListState) (rest : List (Result Y E)) → IsAnswerMade made a r → ((a ≡ end → ⊥) → GivesUpTo t rest) → IsFirst (before_rest a rest) r t
    first_before (Ok (Some z)) r t rest w g = inr (w, g (λ e. cc))
    first_before (Ok None) r t rest w g = w
    first_before (Err e) r t rest w g = inr (w, g (λ is. cc))

    none_left : (later : L) (c : Option (Answered B E)) (a : Answered Y E) → IsAnswerMade made a (due_gives later c).0 → (a ≡ end → ⊥) → (due_gives later c).1 ≡ None
    none_left later (Some r) a w on = refl
    none_left later None (Ok (Some z)) w on = absurd w
    none_left later None (Ok None) w on = absurd (on refl)
    none_left later None (Err e) w on = absurd cc

    gives_up_to_due_first : (due : Option L) (t : S) (q : P) (rest : List (Result Y E)) → ((EndDue listed due → ⊥) → GivesUpTo (t, (q, None)) rest) → GivesUpTo (t, (q, due)) (due_first listed due rest)
    gives_up_to_due_first None t q rest g = g (λ e. e)
    gives_up_to_due_first (Some later) t q rest g = λ r u w. first_before (due_gives later (listed later)).0 r u rest (subst (λ (z : Answered B E). IsAnswerMade made (due_gives later (listed later)).0 z) (sym w.0) (due_made later)) (λ on. subst (λ (s : S). GivesUpTo (s, u.1) rest) (sym w.1) (subst (λ (k : P × Option L). GivesUpTo (t, k) rest) (sym (w.2 ∙ ap (λ (d : Option L). (q, d)) (none_left later (comes later) (due_gives later (listed later)).0 (due_made later) on))) (g on)))

    first_of_emitted : (m : Emitted Y L E) (r : Answered B E) (due : Option L) (t : S) (q : P) (rest : List (Result Y E)) → IsMadeAs made m (Some (r, due)) → ((EndEmitted listed m → ⊥) → GivesUpTo (t, (q, None)) rest) → IsFirst (emitted_first listed m rest) r (t, (q, due))
    first_of_emitted None r due t q rest w g = absurd w
    first_of_emitted (Some (a, later)) r due t q rest w g = first_before a r (t, (q, due)) (due_first listed later rest) w.0 (λ on. subst (λ (d : Option L). GivesUpTo (t, (q, d)) (due_first listed later rest)) (sym w.1) (gives_up_to_due_first later t q rest (λ undue. g (λ over. elim over [ inl e ↦ on e | inr e ↦ undue e ]))))

    first_of_rest_where_none_emitted : (m : Emitted Y L E) (rest : List (Result Y E)) (r : Answered B E) (t : ListState) → IsMadeAs made m None → IsFirst rest r t → IsFirst (emitted_first listed m rest) r t
    first_of_rest_where_none_emitted None rest r t w f = f
    first_of_rest_where_none_emitted (Some (a, due)) rest r t w f = absurd w

    first_refused : (l : List (Result Y E)) (r : Answered B E) (t : ListState) → Refuses r t → (l ≡ [] → ⊥) → IsFirst l r t
    first_refused [] r t w some = absurd (some refl)
    first_refused (y ∷ l) r t w some = inl w

    emitted_at_end_is_not_none : (m : Emitted Y L E) → EndEmitted listed m → IsMadeAs made m None → ⊥
    emitted_at_end_is_not_none None e w = e
    emitted_at_end_is_not_none (Some (a, due)) e w = w

    first_of_staged_at_end : (s t : S) (p : P) (a : Q) (r : Answered B E) (q : P × Option L) → At p a → AlwaysGives steps s [] → DrawsUpTo comes meets steps s p r t q → IsFirst (staged listed does a []) r (t, q)
    first_of_staged_at_end s t p a r _ at i (yields {q = q} {due = due} x step called) = let k = ends p q a (Some (r, due)) at (rw (i x t step) at called) in first_of_emitted (does a end).0 r due t q [] k.1 (λ on. absurd (on k.0))
    first_of_staged_at_end s t p a r q at i (passes_over {u = u} {h = h} x step called rest) = let k = ends p h a None at (rw (i x u step) at called) in absurd (emitted_at_end_is_not_none (does a end).0 k.0 k.1)

    first_of_staged_at_item : (y : Result X E) (l : List (Result X E)) (s t : S) (p : P) (a : Q) (r : Answered B E) (q : P × Option L) → At p a → AlwaysGives steps s (y ∷ l) → ((u : S) (h : P) → At h (does a (result_answer y)).1 → AlwaysGives steps u l → GivesUpTo (u, (h, None)) (staged listed does (does a (result_answer y)).1 l)) → DrawsUpTo comes meets steps s p r t q → IsFirst (staged listed does a (y ∷ l)) r (t, q)
    first_of_staged_at_item y l s t p a r _ at i then (yields {q = q} {due = due} x step called) = let k = i x t step in elim (acts p q a y (Some (r, due)) at (rw k.0 at called)) [
      | inl w ↦ first_refused (staged listed does a (y ∷ l)) r (t, (q, due)) (w t) (never_nil p q a y l r due t at (rw k.0 at called) (w t))
      | inr w ↦ first_of_emitted (does a (result_answer y)).0 r due t q _ w.1 (λ on. then t q w.0 k.1)
    ]
    first_of_staged_at_item y l s t p a r q at i then (passes_over {u = u} {h = h} x step called rest) = let k = i x u step in elim (acts p h a y None at (rw k.0 at called)) [
      | inl w ↦ absurd w
      | inr w ↦ first_of_rest_where_none_emitted (does a (result_answer y)).0 _ r (t, q) w.1 (then u h w.0 k.1 r (t, q) rest)
    ]

    pub gives_staged_up_to_refusal : (l : List (Result X E)) (s : S) (p : P) (a : Q) → At p a → AlwaysGives steps s l → GivesUpTo (s, (p, None)) (staged listed does a l)
    gives_staged_up_to_refusal [] s p a at i = λ r t w. first_of_staged_at_end s t.0 p a r t.1 at i w
    gives_staged_up_to_refusal (y ∷ l) s p a at i = λ r t w. first_of_staged_at_item y l s t.0 p a r t.1 at i (λ u h b j. gives_staged_up_to_refusal l u h (does a (result_answer y)).1 b j) w

-- ---- a type each step of which is one of a stage

module _ {V S P X B L E : Type 0} (view : V → S × (P × Option L)) (steps : S → Answered X E → S → Type 0) (comes : L → Option (Answered B E)) (meets : P → Answered X E → Emitted B L E → P → Type 0) (taken : V → Answered B E → V → Type 0) (each : (u : V) (r : Answered B E) (v : V) → taken u r v → stage_step comes meets steps (view u) r (view v)) where
  module _ {Y : Type 0} (made : Y → B → Type 0) (from : AllocError → E → Type 0) where
    pub until_refused_within : (l : List (Result Y E)) (v : V) → GivesUpTo steps comes meets made (λ r t. AnswersRefusal from r) (view v) l → GivesUntilRefused made taken from v l
    until_refused_within [] v g = λ r t w. g r (view t) (each v r t w)
    until_refused_within (y ∷ l) v g = λ r t w. elim (g r (view t) (each v r t w)) [ inl k ↦ inl k | inr k ↦ inr (k.0, until_refused_within l t k.1) ]

    at_refusal_within : (r : Answered B E) (t : V) → AtRefusal made (stage_step comes meets steps) from r (view t) → AtRefusal made taken from r t
    at_refusal_within r t (inl w) = inl w
    at_refusal_within r t (inr w) = inr (w.0, w.1, w.2, w.3, λ z u step. w.4 z (view u) (each t z u step))

    pub gives_made_within : (l : List (Result Y E)) (v : V) → GivesUpTo steps comes meets made (AtRefusal made (stage_step comes meets steps) from) (view v) l → GivesMade made taken from v l
    gives_made_within [] v g = λ r t w. inr (g r (view t) (each v r t w))
    gives_made_within (y ∷ l) v g = λ r t w. elim (g r (view t) (each v r t w)) [ inl k ↦ inl (at_refusal_within r t k) | inr k ↦ inr (k.0, gives_made_within l t k.1) ]

-- ---- What an adapter by functions lists, where what it calls acts as a function says; up to an allocation failure, where one may come

module _ {B E : Type 0} (of : B → B → Type 0) (itself : (y : B) → of y y) where
  pub answer_made_of_itself : (a : Answered B E) → IsAnswerMade of a a
  answer_made_of_itself (Ok (Some y)) = itself y
  answer_made_of_itself (Ok None) = refl
  answer_made_of_itself (Err e) = refl

  pub made_as_itself : {L : Type 0} (m : Emitted B L E) → IsMadeAs of m m
  made_as_itself None = tt
  made_as_itself (Some (a, due)) = (answer_made_of_itself a, refl)

-- ---- where ends are due

module _ {S P X D B E : Type 0} (meets : P → Answered X D → Emitted B (Unit {0}) E → P → Type 0) (steps : S → Answered X D → S → Type 0) where
  abbrev EndsSteps : S × (P × Option (Unit {0})) → Answered B E → S × (P × Option (Unit {0})) → Type 0
  EndsSteps = stage_step ends_come meets steps

  same_after_run : (trace : List (Answered B E)) (s : S) (p : P) (t : S × (P × Option (Unit {0}))) → Run EndsSteps (s, (p, Some tt)) trace t → t ≡ (s, (p, Some tt))
  same_after_run [] s p t ran = sym ran
  same_after_run (r ∷ rest) s p t ran = same_after_run rest s p t (subst (λ (z : S). Run EndsSteps (z, (p, Some tt)) rest t) ran.1.1 (subst (λ (k : P × Option (Unit {0})). Run EndsSteps (ran.0.0, k) rest t) ran.1.2 ran.2))

  pub ends_for_good_where_ends_due : (s : S) (p : P) (over : Unit {0}) → EndsForGood EndsSteps (s, (p, Some over))
  ends_for_good_where_ends_due s p over = record { each = λ trace t u r ran w. (subst (λ z. EndsSteps z r u) (same_after_run trace s p t ran) w).0 }

-- ---- by plans

-- `At f z` says that what is called is f where it acts by z. A call then returns what `Same` says of (acts z q).0, or what `Refused` holds of.
module _ {S F Z H Q R X B L E : Type 0} (steps : S → Answered X E → S → Type 0) (comes : L → Option (Answered B E)) (call : F → Q → R → F → Type 0) (plan : H → X → Plan Q R (Transition H B L E)) (stops : H → Option E → Transition H B L E) (acts : Z → Q → R × Z) where
  abbrev PlanState : Type 0
  PlanState = S × ((H × F) × Option L)

  abbrev PlanSteps : PlanState → Answered B E → PlanState → Type 0
  PlanSteps = stage_step comes (plan_meets call plan stops) steps

  abbrev list_of : H → Z → List (Result X E) → List (Result B E)
  list_of h z l = staged comes (plan_does acts plan stops) (h, z) l

  module _ (of : B → B → Type 0) (from : AllocError → E → Type 0) (At : F → Z → Type 0) (Same : R → R → Type 0) (Refused : R → Type 0) (does : (f : F) (z : Z) (q : Q) (v : R) (g : F) → At f z → call f q v g → Refused v ⊎ (Same (acts z q).0 v × At g (acts z q).1)) where
    -- an allocation failure is what is emitted
    abbrev pub RefusalEmitted : Emitted B L E → Type 0
    RefusalEmitted None = ⊥
    RefusalEmitted (Some (r, due)) = AnswersRefusal from r

    -- what a plan emits by such results is the same
    abbrev pub MakesSame : Plan Q R (Transition H B L E) → Type 0
    MakesSame (makes t) = IsMadeAs of t.0 t.0
    MakesSame (calls q by) = ((v : R) → Refused v → RefusalEmitted (by v).0) × ((w v : R) → Same w v → IsMadeAs of (by w).0 (by v).0 × ((by v).1 ≡ (by w).1))

    abbrev AtState : H × F → H × Z → Type 0
    AtState p a = (p.0 ≡ a.0) × At p.1 a.1

    abbrev Refuses : Answered B E → PlanState → Type 0
    Refuses r t = AnswersRefusal from r

    abbrev ActsOrRefused : Transition (H × Z) B L E → Emitted B L E → H × F → Type 0
    ActsOrRefused t m q = RefusalEmitted m ⊎ (AtState q t.1 × IsMadeAs of t.0 m)

    follows_acts : (t : Plan Q R (Transition H B L E)) (f : F) (z : Z) (m : Emitted B L E) (q : H × F) → MakesSame t → At f z → Follows call t f m q.0 q.1 → ActsOrRefused (followed acts t z) m q
    follows_acts (makes t) f z m q same at w = inr ((w.0.1, subst (λ g. At g z) (sym w.1) at), rw w.0.0 same)
    follows_acts (calls q by) f z m p same at w = elim (does f z q w.0 p.1 at w.1) [
      | inl k ↦ inl (rw w.2.0 (same.0 w.0 k))
      | inr k ↦ (let s = same.1 (acts z q).0 w.0 k.0 in inr ((rw w.2.1 s.1, k.1), rw w.2.0 s.0))
    ]

    module _ (agree : (h : H) (x : X) → MakesSame (plan h x)) (stop_agrees : (h : H) (stop : Option E) → IsMadeAs of (stops h stop).0 (stops h stop).0) (due_agrees : (later : L) → IsAnswerMade of (due_gives later (comes later)).0 (due_gives later (comes later)).0) (ends : (h : H) → EndEmitted comes (stops h None).0)
        (never_nil : (h : H) (f : F) (z : Z) (y : Result X E) (l : List (Result X E)) (r : Answered B E) (due : Option L) (q : H × F) → plan_meets call plan stops (h, f) (result_answer y) (Some (r, due)) q → AnswersRefusal from r → list_of h z (y ∷ l) ≡ [] → ⊥) where
      acts_at : (h : H) (f : F) (z : Z) (a : Answered X E) (m : Emitted B L E) (q : H × F) → At f z → plan_meets call plan stops (h, f) a m q → ActsOrRefused (plan_does acts plan stops (h, z) a) m q
      acts_at h f z (Ok (Some x)) m q at w = follows_acts (plan h x) f z m q (agree h x) at w
      acts_at h f z (Ok None) m q at w = inr ((w.0.1, subst (λ g. At g z) (sym w.1) at), rw w.0.0 (stop_agrees h None))
      acts_at h f z (Err e) m q at w = inr ((w.0.1, subst (λ g. At g z) (sym w.1) at), rw w.0.0 (stop_agrees h (Some e)))

      acts_where_at : (p q : H × F) (a : H × Z) (x : Answered X E) (m : Emitted B L E) → AtState p a → plan_meets call plan stops p x m q → ActsOrRefused (plan_does acts plan stops a x) m q
      acts_where_at p q a x m at w = acts_at a.0 p.1 a.1 x m q at.1 (subst (λ h. plan_meets call plan stops (h, p.1) x m q) at.0 w)

      refused_at : (q : H × F) (m : Emitted B L E) → RefusalEmitted m → RefusedAt steps comes (plan_meets call plan stops) of Refuses q m
      refused_at q None w = w
      refused_at q (Some (r, due)) w = λ t. w

      acts_on_result : (p q : H × F) (a : H × Z) (y : Result X E) (m : Emitted B L E) → AtState p a → plan_meets call plan stops p (result_answer y) m q → RefusedAt steps comes (plan_meets call plan stops) of Refuses q m ⊎ (AtState q (plan_does acts plan stops a (result_answer y)).1 × IsMadeAs of (plan_does acts plan stops a (result_answer y)).0 m)
      acts_on_result p q a y m at w = elim (acts_where_at p q a (result_answer y) m at w) [
        | inl k ↦ inl (refused_at q m k)
        | inr k ↦ inr k
      ]

      acts_at_end : (p q : H × F) (a : H × Z) (m : Emitted B L E) → AtState p a → plan_meets call plan stops p end m q → EndEmitted comes (plan_does acts plan stops a end).0 × IsMadeAs of (plan_does acts plan stops a end).0 m
      acts_at_end p q a m at w = (ends a.0, rw (w.0.0, at.0) (stop_agrees a.0 None))

      pub gives_plan_until_refused : (l : List (Result X E)) (s : S) (h : H) (f : F) (z : Z) → At f z → AlwaysGives steps s l → GivesUntilRefused of PlanSteps from (s, ((h, f), None)) (list_of h z l)
      gives_plan_until_refused l s h f z at g = until_refused_within (λ p. p) steps comes (plan_meets call plan stops) PlanSteps (λ u r v w. w) of from (list_of h z l) (s, ((h, f), None))
          (gives_staged_up_to_refusal steps comes (plan_meets call plan stops) of Refuses comes AtState (plan_does acts plan stops) due_agrees acts_on_result acts_at_end (λ p q a y l r due t at w k. never_nil a.0 p.1 a.1 y l r due q (subst (λ h. plan_meets call plan stops (h, p.1) (result_answer y) (Some (r, due)) q) at.0 w) k) l s (h, f) (h, z) (refl, at) g)

  -- where each call returns just what `acts` says
  module _ (At : F → Z → Type 0) (does : (f : F) (z : Z) (q : Q) (v : R) (g : F) → At f z → call f q v g → (v ≡ (acts z q).0) × At g (acts z q).1) (ends : (h : H) → EndEmitted comes (stops h None).0) where
    makes_same : (t : Plan Q R (Transition H B L E)) → MakesSame (λ z y. y ≡ z) (λ a e. ⊥) At (λ w v. v ≡ w) (λ v. ⊥) (λ f z q v g at w. inr (does f z q v g at w)) t
    makes_same (makes t) = made_as_itself (λ z y. y ≡ z) (λ y. refl) t.0
    makes_same (calls q by) = ((λ v no. absurd no), (λ w v is. rw is (made_as_itself (λ z y. y ≡ z) (λ y. refl) (by w).0, refl)))

    pub gives_plan : (l : List (Result X E)) (s : S) (h : H) (f : F) (z : Z) → At f z → AlwaysGives steps s l → AlwaysGives PlanSteps (s, ((h, f), None)) (list_of h z l)
    gives_plan l s h f z at g = always_of_until_refused PlanSteps (λ a e. ⊥) (λ e r. r.1) (list_of h z l) (s, ((h, f), None))
        (gives_plan_until_refused (λ z y. y ≡ z) (λ a e. ⊥) At (λ w v. v ≡ w) (λ v. ⊥) (λ f z q v g at w. inr (does f z q v g at w)) (λ h x. makes_same (plan h x)) (λ h stop. made_as_itself (λ z y. y ≡ z) (λ y. refl) (stops h stop).0) (λ later. answer_made_of_itself (λ z y. y ≡ z) (λ y. refl) (due_gives later (comes later)).0) ends (λ h f z y l r due q w no. absurd no.2.1) l s h f z at g)

-- ---- What an adapter by functions lists where its answers are made of a list's, up to an allocation failure, at which what is held comes first

module _ {Y B : Type 0} (made : Y → B → Type 0) where
  -- what is held is made of what is held in the list, and none where none is
  abbrev pub HeldMade : Option B → Option Y → Type 0
  HeldMade None None = ⊤
  HeldMade None (Some y) = ⊥
  HeldMade (Some b) None = ⊥
  HeldMade (Some b) (Some y) = made y b

  pub before_stop_made : {E : Type 0} (b : Option B) (y : Option Y) (stop : Option E) → HeldMade b y → IsMadeAs made (before_stop y stop) (before_stop b stop)
  before_stop_made None None None w = (refl, refl)
  before_stop_made None None (Some e) w = (refl, refl)
  before_stop_made None (Some y) stop w = absurd w
  before_stop_made (Some b) None stop w = absurd w
  before_stop_made (Some b) (Some y) stop w = (w, refl)

  due_stop_made : {E : Type 0} (stop : Option E) → IsAnswerMade {E = E} made (due_gives stop (stop_comes stop)).0 (due_gives stop (stop_comes stop)).0
  due_stop_made None = refl
  due_stop_made (Some e) = refl

-- `At h k` says that h is held where the list holds k, and `Acts f` that a call by f is one of the list's. The list's plan is `list_plan`, and `acts` its call.
module _ {F H K Q R V W X Y B E : Type 0} (call : F → Q → R → F → Type 0) (plan : H → X → Plan Q R (Transition H B (Option E) E)) (stops : H → Option E → Transition H B (Option E) E) (acts : V → W) (list_plan : K → X → Plan V W (Transition K Y (Option E) E)) (list_stops : K → Option E → Transition K Y (Option E) E) (made : Y → B → Type 0) (from : AllocError → E → Type 0) (Acts : F → Type 0) (At : H → K → Type 0) where
  -- an allocation failed: what is held, and the failure then
  abbrev pub RefusalAfterHeld : Emitted B (Option E) E → Type 0
  RefusalAfterHeld m = (held : Option B) × (e : E) × (m ≡ before_stop held (Some e)) × IsRefusal from e

  abbrev pub MadeAlike : Transition H B (Option E) E → Transition K Y (Option E) E → Type 0
  MadeAlike t u = At t.1 u.1 × IsMadeAs made u.0 t.0

  -- what comes of both is alike, and so does the next call; up to an allocation failure
  abbrev pub PlansAlike : Plan Q R (Transition H B (Option E) E) → Plan V W (Transition K Y (Option E) E) → Type 0
  PlansAlike (makes t) (makes u) = MadeAlike t u
  PlansAlike (calls q by) (calls v to) = (f : F) (r : R) (g : F) → Acts f → call f q r g → RefusalAfterHeld (by r).0 ⊎ (Acts g × MadeAlike (by r) (to (acts v)))
  PlansAlike t u = ⊥

  abbrev does : K × Unit {0} → Answered X E → Transition (K × Unit {0}) Y (Option E) E
  does = plan_does (as_function acts) list_plan list_stops

  abbrev AtMadeState : H × F → K × Unit {0} → Type 0
  AtMadeState p a = Acts p.1 × At p.0 a.0

  abbrev RefusedOrAlike : Transition (K × Unit {0}) Y (Option E) E → Emitted B (Option E) E → H × F → Type 0
  RefusedOrAlike u m q = RefusalAfterHeld m ⊎ (AtMadeState q u.1 × IsMadeAs made u.0 m)

  alike_of_makes : (t : Transition H B (Option E) E) (u : Transition K Y (Option E) E) (z : Unit {0}) (m : Emitted B (Option E) E) (q : H × F) → MadeAlike t u → IsTransition t m q.0 → Acts q.1 → AtMadeState q (u.1, z) × IsMadeAs made u.0 m
  alike_of_makes t u z m q same w acting = ((acting, rw w.1 same.0), rw w.0 same.1)

  followed_alike : (t : Plan Q R (Transition H B (Option E) E)) (u : Plan V W (Transition K Y (Option E) E)) (z : Unit {0}) (m : Emitted B (Option E) E) (f : F) (q : H × F) → PlansAlike t u → Acts f → Follows call t f m q.0 q.1 → RefusedOrAlike (followed (as_function acts) u z) m q
  followed_alike (makes t) (makes u) z m f q same acting w = inr (alike_of_makes t u z m q same w.0 (subst Acts (sym w.1) acting))
  followed_alike (makes t) (calls v to) z m f q same acting w = absurd same
  followed_alike (calls q by) (makes u) z m f p same acting w = absurd same
  followed_alike (calls q by) (calls v to) z m f p same acting w = elim (same f w.0 p.1 acting w.1) [
    | inl k ↦ inl (rw w.2.0 k)
    | inr k ↦ inr (alike_of_makes (by w.0) (to (acts v)) z m p k.1 w.2 k.0)
  ]

  module _ (plans : (h : H) (k : K) (x : X) → At h k → PlansAlike (plan h x) (list_plan k x)) (stops_alike : (h : H) (k : K) (stop : Option E) → At h k → MadeAlike (stops h stop) (list_stops k stop)) where
    result_alike : (p q : H × F) (a : K × Unit {0}) (y : Result X E) (m : Emitted B (Option E) E) → AtMadeState p a → plan_meets call plan stops p (result_answer y) m q → RefusedOrAlike (does a (result_answer y)) m q
    result_alike p q a (Ok x) m at w = followed_alike (plan p.0 x) (list_plan a.0 x) a.1 m p.1 q (plans p.0 a.0 x at.1) at.0 w
    result_alike p q a (Err e) m at w = inr (alike_of_makes (stops p.0 (Some e)) (list_stops a.0 (Some e)) a.1 m q (stops_alike p.0 a.0 (Some e) at.1) w.0 (subst Acts (sym w.1) at.0))

    module _ {S : Type 0} (steps : S → Answered X E → S → Type 0) (each : (b : B) → (y : Y) × made y b) (ends : (k : K) → EndEmitted stop_comes (list_stops k None).0) (never_nil : (k : K) (y : Result X E) (l : List (Result X E)) → staged stop_comes does (k, tt) (y ∷ l) ≡ [] → ⊥) where
      abbrev RefusesMade : Answered B E → S × ((H × F) × Option (Option E)) → Type 0
      RefusesMade = AtRefusal made (stage_step stop_comes (plan_meets call plan stops) steps) from

      -- what is held comes, and the failure is due; or it comes
      made_refused_at : (held : Option B) (e : E) (q : H × F) → IsRefusal from e → RefusedAt steps stop_comes (plan_meets call plan stops) made RefusesMade q (before_stop held (Some e))
      made_refused_at None e q because = λ t. inl (e, refl, because)
      made_refused_at (Some b) e q because = λ t. let y = each b in inr (y.0, b, y.1, refl, λ r u step. (e, step.0, because))

      made_of_result : (p q : H × F) (a : K × Unit {0}) (y : Result X E) (m : Emitted B (Option E) E) → AtMadeState p a → plan_meets call plan stops p (result_answer y) m q → RefusedAt steps stop_comes (plan_meets call plan stops) made RefusesMade q m ⊎ (AtMadeState q (does a (result_answer y)).1 × IsMadeAs made (does a (result_answer y)).0 m)
      made_of_result p q a y m at w = elim (result_alike p q a y m at w) [
        | inl k ↦ inl (rw k.2 (made_refused_at k.0 k.1 q k.3))
        | inr k ↦ inr k
      ]

      made_at_end : (p q : H × F) (a : K × Unit {0}) (m : Emitted B (Option E) E) → AtMadeState p a → plan_meets call plan stops p end m q → EndEmitted stop_comes (does a end).0 × IsMadeAs made (does a end).0 m
      made_at_end p q a m at w = (ends a.0, (alike_of_makes (stops p.0 None) (list_stops a.0 None) a.1 m q (stops_alike p.0 a.0 None at.1) w.0 (subst Acts (sym w.1) at.0)).1)

      pub gives_made_plan : (l : List (Result X E)) (s : S) (h : H) (f : F) (k : K) → Acts f → At h k → AlwaysGives steps s l → GivesMade made (stage_step stop_comes (plan_meets call plan stops) steps) from (s, ((h, f), None)) (staged stop_comes does (k, tt) l)
      gives_made_plan l s h f k acting at i = gives_made_within (λ p. p) steps stop_comes (plan_meets call plan stops) (stage_step stop_comes (plan_meets call plan stops) steps) (λ u r v w. w) made from (staged stop_comes does (k, tt) l) (s, ((h, f), None))
          (gives_staged_up_to_refusal steps stop_comes (plan_meets call plan stops) made RefusesMade stop_comes AtMadeState does (due_stop_made made) made_of_result made_at_end (λ p q a y l r due t at w k. never_nil a.0 y l) l s (h, f) (k, tt) (acting, at) i)

-- ---- A plan is followed, by what is held; and where a closure may be called, so may the adapter

pub follows_at : {H F Q R X B L E : Type 0} (call : F → Q → R → F → Type 0) (plan : H → X → Plan Q R (Transition H B L E)) (stops : H → Option E → Transition H B L E) (p : H × F) (x : X) (emitted : Emitted B L E) (q : H × F) (h : H) → p.0 ≡ h → Follows call (plan h x) p.1 emitted q.0 q.1 → plan_item call plan stops p x emitted q
follows_at call plan stops p x emitted q h at w = subst (λ (k : _). Follows call (plan k x) p.1 emitted q.0 q.1) (sym at) w

-- `asked` holds of what the plans of the items that may come call on.
module _ {H F Q R X B L E : Type 0} (call : F → Q → R → F → Type 0) (takes : F → Q → Type 0) (plan : H → X → Plan Q R (Transition H B L E)) (stops : H → Option E → Transition H B L E) (asked : Q → Type 0) (P : Answered X E → Type 0) where
  abbrev pub CallsOnAsked : Plan Q R (Transition H B L E) → Type 0
  CallsOnAsked (makes t) = ⊤
  CallsOnAsked (calls q by) = asked q

  module _ (asks : (h : H) (x : X) → P (Ok (Some x)) → CallsOnAsked (plan h x)) where
    callable_after_followed : (t : Plan Q R (Transition H B L E)) (f : F) (emitted : Emitted B L E) (k : H) (g : F) → CallsOnAsked t → Follows call t f emitted k g → IsCallable call takes asked f → IsCallable call takes asked g
    callable_after_followed (makes t) f emitted k g on w c = rw w.1 c
    callable_after_followed (calls q by) f emitted k g on w c = is_callable_after (λ y p. p) (reaches_by_call_first q w.0 on w.1 reaches_reflexive) c

    callable_after_met : (p : H × F) (a : Answered X E) (emitted : Emitted B L E) (q : H × F) → P a → IsCallable call takes asked p.1 → plan_meets call plan stops p a emitted q → IsCallable call takes asked q.1
    callable_after_met p (Ok (Some x)) emitted q may c w = callable_after_followed (plan p.0 x) p.1 emitted q.0 q.1 (asks p.0 x may) w c
    callable_after_met p (Ok None) emitted q may c w = rw w.1 c
    callable_after_met p (Err e) emitted q may c w = rw w.1 c

    can_follow_where_callable : (t : Plan Q R (Transition H B L E)) (f : F) → CallsOnAsked t → IsCallable call takes asked f → CanFollow takes t f
    can_follow_where_callable (makes t) f on c = tt
    can_follow_where_callable (calls q by) f on c = c.at f q reaches_reflexive on

    takes_where_callable : (p : H × F) (a : Answered X E) → P a → IsCallable call takes asked p.1 → IfItem (plan_takes takes plan p) a
    takes_where_callable p (Ok (Some x)) may c = can_follow_where_callable (plan p.0 x) p.1 (asks p.0 x may) c
    takes_where_callable p (Ok None) may c = tt
    takes_where_callable p (Err e) may c = tt

    pub plan_can_where_callable : (p : H × F) → IsCallable call takes asked p.1 → plan_can call plan stops takes P p
    plan_can_where_callable p c = record { at = λ q a reached may. takes_where_callable q a may (kept_where_reached (λ (k : H × F). IsCallable call takes asked k.1) callable_after_met reached c) }

-- ---- Adapters by functions at whose stop what is held comes first: a failure parts what they list, and their hint where one is due

-- ---- what is emitted at a stop

-- an end is emitted at one
pub end_before_stop : {B : Type 0} (E : Type 0) (kept : Option B) → EndEmitted (stop_comes {B = B} {E = E}) (before_stop kept None)
end_before_stop E None = inl refl
end_before_stop E (Some y) = inr refl

-- ---- a failure parts the list

module _ {B E : Type 0} (k : List (Result B E)) where
  emitted_first_append : (m : Emitted B (Option E) E) (j : List (Result B E)) → NoEnd m → emitted_first stop_comes m (j ++ k) ≡ emitted_first stop_comes m j ++ k
  emitted_first_append None j on = refl
  emitted_first_append (Some (Ok (Some y), None)) j on = refl
  emitted_first_append (Some (Ok (Some y), Some None)) j on = absurd on
  emitted_first_append (Some (Ok (Some y), Some (Some e))) j on = refl
  emitted_first_append (Some (Ok None, due)) j on = absurd on
  emitted_first_append (Some (Err d, None)) j on = refl
  emitted_first_append (Some (Err d, Some None)) j on = absurd on
  emitted_first_append (Some (Err d, Some (Some e))) j on = refl

  before_failure_first : (kept : Option B) (e : E) → emitted_first stop_comes (before_stop kept (Some e)) k ≡ emitted_first stop_comes (before_stop kept None) [] ++ Err e ∷ k
  before_failure_first None e = refl
  before_failure_first (Some y) e = refl

always_of_followed : {Q R H B L E : Type 0} (P : Emitted B L E → Type 0) (g : Q → R) (t : Plan Q R (Transition H B L E)) → Always (λ v. P v.0) t → P (followed (as_function g) t tt).0
always_of_followed P g (makes t) is = is
always_of_followed P g (calls q by) is = is (g q)

-- ---- adjacent items are apart

module _ {B : Type 0} (P : B → B → Type 0) where
  -- an item is held, and P holds of z and that
  abbrev pub HoldsOfHeld : B → Option B → Type 0
  HoldsOfHeld z None = ⊥
  HoldsOfHeld z (Some y) = P z y

  -- Where P holds of z and what was held, it holds of z and the item that is emitted, or of z and what is held then if none is. It also holds of an item that is emitted and what is held then.
  abbrev pub Apart : {E : Type 0} → Option B → Emitted B (Option E) E → Option B → Type 0
  Apart was None held = (z : B) → HoldsOfHeld z was → HoldsOfHeld z held
  Apart was (Some (Ok (Some y), None)) held = HoldsOfHeld y held × ((z : B) → HoldsOfHeld z was → P z y)
  Apart was (Some (Ok (Some y), Some later)) held = (z : B) → HoldsOfHeld z was → P z y
  Apart was (Some (Ok None, due)) held = ⊤
  Apart was (Some (Err e, due)) held = ⊤

  module _ {E : Type 0} where
    next_apart : (was held : Option B) (emitted : Emitted B (Option E) E) (rest : List (Result B E)) (z : B) → Apart was emitted held → HoldsOfHeld z was → (HoldsOfHeld z held → HoldsOfNext P z rest) → HoldsOfNext P z (emitted_first stop_comes emitted rest)
    next_apart was held None rest z apart at next = next (apart z at)
    next_apart was held (Some (Ok (Some y), None)) rest z apart at next = apart.1 z at
    next_apart was held (Some (Ok (Some y), Some later)) rest z apart at next = apart z at
    next_apart was held (Some (Ok None, due)) rest z apart at next = tt
    next_apart was held (Some (Err e, due)) rest z apart at next = tt

    each_apart : (was held : Option B) (emitted : Emitted B (Option E) E) (rest : List (Result B E)) → Apart was emitted held → ((y : B) → HoldsOfHeld y held → HoldsOfNext P y rest) → EachNext P rest → EachNext P (emitted_first stop_comes emitted rest)
    each_apart was held None rest apart next each = each
    each_apart was held (Some (Ok (Some y), None)) rest apart next each = (next y apart.0, each)
    each_apart was held (Some (Ok (Some y), Some None)) rest apart next each = (tt, tt)
    each_apart was held (Some (Ok (Some y), Some (Some e))) rest apart next each = (tt, each)
    each_apart was held (Some (Ok None, due)) rest apart next each = tt
    each_apart was held (Some (Err e, None)) rest apart next each = each
    each_apart was held (Some (Err e, Some None)) rest apart next each = tt
    each_apart was held (Some (Err e, Some (Some d))) rest apart next each = each

    apart_at_stop : (was held : Option B) (stop : Option E) → Apart was (before_stop was stop) held
    apart_at_stop None held None = tt
    apart_at_stop None held (Some e) = tt
    apart_at_stop (Some y) held stop = λ z after. after

-- `kept h` is what comes of h at a stop, and `empty h` is held then.
module _ {Q R H X B E : Type 0} (g : Q → R) (plan : H → X → Plan Q R (Transition H B (Option E) E)) (kept : H → Option B) (empty : H → H) where
  abbrev lets_go : H → Option E → Transition H B (Option E) E
  lets_go h stop = (before_stop (kept h) stop, empty h)

  abbrev list_from : H → List (Result X E) → List (Result B E)
  list_from h l = staged stop_comes (plan_does (as_function g) plan lets_go) (h, tt) l

  module _ (none : H) (settles : (h : H) → empty h ≡ none) (held : H → ℕ) (buffers : (h : H) (x : X) → Always (λ t. ItemBuffers held h t) (plan h x)) where
    -- What stands before a failure is listed by itself, and so is what comes after it.
    pub parted_by_failure : (h : H) (l : List (Result X E)) (e : E) (k : List (Result X E)) → list_from h (l ++ Err e ∷ k) ≡ list_from h l ++ Err e ∷ list_from none k
    parted_by_failure h [] e k = before_failure_first (list_from (empty h) k) (kept h) e ∙ ap (λ (n : H). list_from h [] ++ Err e ∷ list_from n k) (settles h)
    parted_by_failure h (Ok x ∷ l) e k = let t = followed (as_function g) (plan h x) tt in ap (λ j. emitted_first stop_comes t.0 j) (parted_by_failure t.1.0 l e k) ∙ emitted_first_append (Err e ∷ list_from none k) t.0 (list_from t.1.0 l) (always_of_followed (λ m. NoEnd m) g (plan h x) (always_weaken (λ t is. is.1) (plan h x) (buffers h x)))
    parted_by_failure h (Err d ∷ l) e k = ap (λ j. emitted_first stop_comes (before_stop (kept h) (Some d)) j) (parted_by_failure (empty h) l e k) ∙ emitted_first_append (Err e ∷ list_from none k) (before_stop (kept h) (Some d)) (list_from (empty h) l) (failure_buffers held_one (kept h) None (kept h) d (omega arith) refl).1

  -- ---- adjacent items are apart

  module _ (P : B → B → Type 0) (Good : H → Type 0) (at_item : (h : H) (x : X) → Good h → Apart P (kept h) (followed (as_function g) (plan h x) tt).0 (kept (followed (as_function g) (plan h x) tt).1.0)) (good_at_item : (h : H) (x : X) → Good h → Good (followed (as_function g) (plan h x) tt).1.0) (good_at_stop : (h : H) → Good (empty h)) where
    holds_of_next_of_list : (l : List (Result X E)) (h : H) (z : B) → Good h → HoldsOfHeld P z (kept h) → HoldsOfNext P z (list_from h l)
    holds_of_next_of_list [] h z good after = next_apart P (kept h) (kept (empty h)) (before_stop (kept h) None) [] z (apart_at_stop P (kept h) _ None) after (λ at. tt)
    holds_of_next_of_list (Ok x ∷ l) h z good after = let t = followed (as_function g) (plan h x) tt in next_apart P (kept h) (kept t.1.0) t.0 (list_from t.1.0 l) z (at_item h x good) after (holds_of_next_of_list l t.1.0 z (good_at_item h x good))
    holds_of_next_of_list (Err e ∷ l) h z good after = next_apart P (kept h) (kept (empty h)) (before_stop (kept h) (Some e)) (list_from (empty h) l) z (apart_at_stop P (kept h) _ (Some e)) after (holds_of_next_of_list l (empty h) z (good_at_stop h))

    each_of_list : (l : List (Result X E)) (h : H) → Good h → EachNext P (list_from h l)
    each_of_list [] h good = each_apart P (kept h) (kept (empty h)) (before_stop (kept h) None) [] (apart_at_stop P (kept h) _ None) (λ y at. tt) tt
    each_of_list (Ok x ∷ l) h good = let t = followed (as_function g) (plan h x) tt in let then = good_at_item h x good in each_apart P (kept h) (kept t.1.0) t.0 (list_from t.1.0 l) (at_item h x good) (λ y after. holds_of_next_of_list l t.1.0 y then after) (each_of_list l t.1.0 then)
    each_of_list (Err e ∷ l) h good = let then = good_at_stop h in each_apart P (kept h) (kept (empty h)) (before_stop (kept h) (Some e)) (list_from (empty h) l) (apart_at_stop P (kept h) _ (Some e)) (λ y after. holds_of_next_of_list l (empty h) y then after) (each_of_list l (empty h) then)

    pub adjacent_items_apart : (l : List (Result X E)) (h : H) → Good h → AdjacentItems P (list_from h l)
    adjacent_items_apart l h good = adjacent_items_of_each_next P (list_from h l) (each_of_list l h good)

-- ---- the hint where a failure is due

-- Law: Where a failure is due, each hint of an adapter that buffers, whose hint is by `hint_unless_end`, is one of what comes after it.
pub hints_past_failure : {S H F X B E : Type 0} (m : Contract S X E) (meets : H × F → Answered X E → Emitted B (Option E) E → H × F → Type 0) (hint : H → ℕ × Option ℕ → ℕ × Option ℕ) (s : S × ((H × F) × Option (Option E))) (e : E) → s.1.1 ≡ Some (Some e) → HintsPastFailure (stage_step stop_comes meets m.steps) (plan_hint m (λ h due hints k. hint_unless_end (hint h) due hints k)) s e
hints_past_failure {S = S} {H = H} {F = F} {E = E} m meets hint (s, (p, due)) e is t h step made = let w : stage_step stop_comes meets m.steps (s, (p, Some (Some e))) (Err e) t = subst (λ (d : Option (Option E)). stage_step stop_comes meets m.steps (s, (p, d)) (Err e) t) is step in
    subst (λ (q : S × ((H × F) × Option (Option E))). hint_unless_end (hint q.1.0.0) q.1.1 (m.hints q.0) h) (sym (ap (λ (z : S). (z, t.1)) w.1 ∙ ap (λ (z : (H × F) × Option (Option E)). (s, z)) w.2)) (subst (λ (d : Option (Option E)). hint_unless_end (hint p.0) d (m.hints s) h) is made)
