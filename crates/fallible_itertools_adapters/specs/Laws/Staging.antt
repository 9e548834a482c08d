-- The runs of a stage are its traces, its contract is lawful where its source's is, and why its hint is sound where it says so: of any stage, of one by a plan, and of one at whose stop what is held comes first.
use Rattle.std.specs.Prelude.{List, [], ◌∷◌, map, Option, Some, None, ◌≡◌, ℕ, ◌+◌, ◌*◌, ◌≤◌, Ok, Err, suc, ◌-◌, ⊤, IfSome, length, ◌⊎◌, IsSome, min}
use Rattle.std.specs.Iterator.{IsFinite, size}
use Rattle.std.specs.List.{FoldsTo}
use Rattle.std.proofs.Common.{refl, sym, subst, ap, arith, inl, inr, ◌∙◌}
use Rattle.std.proofs.lemmas.Nat.{mul-le}
use Rattle.fallible_iterator.specs.Closures.{IsCallable, Reaches, MayAnswer}
use Rattle.fallible_iterator.specs.Contract.{Contract, OnAnswer, KeptByDraw, KeptByDraws, Lawful}
use Rattle.fallible_iterator.specs.Hints.{fitting_sum}
use Rattle.fallible_iterator.specs.Passing.{IfItem}
use Rattle.fallible_iterator.specs.Sound.{BoundsAbove, BoundsBelow, HintsHold, SoundWhere, sound_once, as_made}
use Rattle.fallible_iterator.specs.Traces.{Answered, Run, item, failure, Yields, end}
use Rattle.fallible_iterator.specs.Laws.Closures.{reaches_reflexive, reaches_weaken, reaches_by_call_first, may_answer_of_call, may_answer_where_reached_may_answer, is_callable_after}
use Rattle.fallible_iterator.specs.Laws.Contract.{kept_by_draws_of_one_draw, kept_by_draws_transitive}
use Rattle.fallible_iterator.specs.Laws.Hints.Drawn.{brackets_any_lower_where_no_end, brackets_zero_where_no_item, if_some_at_least_of_smaller}
use Rattle.fallible_iterator.specs.Laws.Hints.Joining.{if_some_fitting_sum_at_least_both}
use Rattle.fallible_iterator.specs.Laws.LawForm.{IsTraced}
use Rattle.fallible_itertools_adapters.specs.Staging.{DrawsUpTo, Emits, Emitted, StagedTrace, due_gives, emits_due, emits_later, emits_first, emits_nothing, passes_over, stage_step, yields, weight, due_total, emitted_total, IsStage, IsDue, IsEmitted, MayMeet, MayCome, EndsInStop, IsStop, stop_comes, before_stop, held_one, Follows, IsTransition, Transition, Plan, bounded, calls, makes, passes, Rule, rule_contract, rule_meets, plan_meets, plan_takes, hint_unless_end, stop_answer}

-- ---- The runs of a stage are its traces: one law of all stages, over what the source's law says

module _ {S P X D B L E : Type 0} (comes : L → Option (Answered B E)) (meets : P → Answered X D → Emitted B L E → P → Type 0) (steps : S → Answered X D → S → Type 0) where
  abbrev State : Type 0
  State = S × (P × Option L)

  abbrev TraceHere : State → List (Answered B E) → State → Type 0
  TraceHere = StagedTrace (Run steps) comes meets

  drawn_then : (q : State) (rest : List (Answered B E)) (s t : S) (h : P) (r : Answered B E) (k : P × Option L) → DrawsUpTo comes meets steps s h r t k → TraceHere (t, k) rest q → TraceHere (s, (h, None)) (r ∷ rest) q
  drawn_then q rest s t h r _ (yields {q = g} {due = due} a step called) w = record { draws = (a, Some (r, due)) ∷ w.draws; drawn = (t, step, w.drawn); met = (g, called, w.met); emitted = emits_first a r w.emitted }
  drawn_then q rest s t h r k (passes_over {u = u} {h = g} a step called more) w = let v = drawn_then q rest u t g r k more w in record { draws = (a, None) ∷ v.draws; drawn = (u, step, v.drawn); met = (g, called, v.met); emitted = emits_later a v.emitted }

  due_then : (s : S) (h : P) (later : L) (rest : List (Answered B E)) (q : State) → TraceHere (s, (h, (due_gives later (comes later)).1)) rest q → TraceHere (s, (h, Some later)) ((due_gives later (comes later)).0 ∷ rest) q
  due_then s h later rest q v = record { draws = v.draws; drawn = v.drawn; met = v.met; emitted = emits_due later v.emitted }

  step_then : (p u q : State) (r : Answered B E) (rest : List (Answered B E)) → stage_step comes meets steps p r u → TraceHere u rest q → TraceHere p (r ∷ rest) q
  step_then (s, (h, None)) (t, k) q r rest step w = drawn_then q rest s t h r k step w
  step_then (s, (h, Some later)) (t, k) q r rest step w = rw step.0 (due_then s h later rest q (subst (λ (v : S). TraceHere (v, (h, (due_gives later (comes later)).1)) rest q) step.1 (subst (λ (d : P × Option L). TraceHere (t, d) rest q) step.2 w)))

  trace_of_run : (trace : List (Answered B E)) (p q : State) → Run (stage_step comes meets steps) p trace q → TraceHere p trace q
  trace_of_run [] p q ran = rw (sym ran) (record { draws = []; drawn = refl; met = refl; emitted = emits_nothing })
  trace_of_run (r ∷ rest) p q ran = step_then p ran.0 q r rest ran.1 (trace_of_run rest ran.0 q ran.2)

  run_of_draws : (draws : List (Answered X D × Emitted B L E)) (s t : S) (h k : P) (due after : Option L) (trace : List (Answered B E)) → Run steps s (map (λ d. d.0) draws) t → FoldsTo (λ h d k. meets h d.0 d.1 k) h draws k → Emits comes due draws trace after → Run (stage_step comes meets steps) (s, (h, due)) trace (t, (k, after))
  run_of_draws _ s t h k due _ _ ran met emits_nothing = rw (sym ran, sym met) refl
  run_of_draws draws s t h k _ after _ ran met (emits_due {trace = rest} later e) = ((s, (h, (due_gives later (comes later)).1)), (refl, refl, refl), run_of_draws draws s t h k (due_gives later (comes later)).1 after rest ran met e)
  run_of_draws _ s t h k _ after _ ran met (emits_first {due = due} {draws = draws} {trace = rest} x a e) = ((ran.0, (met.0, due)), yields x ran.1 met.1, run_of_draws draws ran.0 t met.0 k due after rest ran.2 met.2 e)
  run_of_draws _ s t h k _ after _ ran met (emits_later {draws = draws} {r = r} {trace = rest} x e) = let more = run_of_draws draws ran.0 t met.0 k None after (r ∷ rest) ran.2 met.2 e in (more.0, passes_over x ran.1 met.1 more.1, more.2)

  pub stage_traced : {traces : S → List (Answered X D) → S → Type 0} → IsTraced steps traces → IsTraced (λ p r q. stage_step comes meets steps p r q) (λ p trace q. StagedTrace traces comes meets p trace q)
  stage_traced law p trace q = (
    (λ ran. let w = trace_of_run trace p q ran in record { draws = w.draws; drawn = (law p.0 (map (λ d. d.0) w.draws) q.0).0 w.drawn; met = w.met; emitted = w.emitted }),
    (λ w. run_of_draws w.draws p.0 q.0 p.1.0 q.1.0 p.1.1 q.1.1 trace ((law p.0 (map (λ d. d.0) w.draws) q.0).1 w.drawn) w.met w.emitted),
  )

-- ---- The contract of a stage is lawful where its source's is

scaled_parts_within_scaled_whole : (c k i n : ℕ) → k + i ≤ n → c * k + c * i ≤ c * n
scaled_parts_within_scaled_whole c k i n le = let e = mul-le c (k + i) c n (omega arith) le in omega (arith, e)

-- ---- one answer of the source

module _ {S X D : Type 0} (m : Contract S X D) where
  pub may_meet_of_answer : (s t : S) (a : Answered X D) → OnAnswer m s a t → MayMeet m s a
  may_meet_of_answer s t (Ok (Some x)) h = h.0
  may_meet_of_answer s t (Ok None) h = tt
  may_meet_of_answer s t (Err e) h = h.0

  pub may_meet_before_draws : (s t : S) → KeptByDraws m s t → (a : Answered X D) → MayMeet m t a → MayMeet m s a
  may_meet_before_draws s t k (Ok (Some x)) h = k.may_give x h
  may_meet_before_draws s t k (Ok None) h = tt
  may_meet_before_draws s t k (Err e) h = k.may_fail e h

  bound_after : (s t : S) (a : Answered X D) → OnAnswer m s a t → (n : ℕ) → m.bound s n → (k : ℕ) × m.bound t k × (k + weight 0 a ≤ n)
  bound_after s t (Ok (Some x)) h n b = let k = h.1 n b in (k.0, k.1, omega (arith, k.2))
  bound_after s t (Ok None) h n b = let k = h.0 n b in (k.0, k.1, omega (arith, k.2))
  bound_after s t (Err e) h n b = let k = h.1 n b in (k.0, k.1, omega (arith, k.2))

  remaining_finite_and_fewer_after_answer : (s t : S) (a : Answered X D) → OnAnswer m s a t → IsFinite (m.remaining s) → IsFinite (m.remaining t) × (size (m.remaining t) + weight 1 a ≤ size (m.remaining s))
  remaining_finite_and_fewer_after_answer s t (Ok (Some x)) h f = let k = h.2 f in (k.0, omega (arith, k.1))
  remaining_finite_and_fewer_after_answer s t (Ok None) h f = let k = h.1 f in (k.0, omega (arith, k.1))
  remaining_finite_and_fewer_after_answer s t (Err e) h f = let k = h.2 f in (k.0, omega (arith, k.1))

-- ---- what is emitted, and what is due

-- what is emitted is one answer and what is due after it
pub parts_equal_where_emitted_equal : {B L E : Type 0} {r a : Answered B E} {due later : Option L} → ◌≡◌ {A = Emitted B L E} (Some (r, due)) (Some (a, later)) → (r ≡ a) × (due ≡ later)
parts_equal_where_emitted_equal {B = B} {L = L} {E = E} {r = r} {a = a} {due = due} {later = later} e = let same : ◌≡◌ {A = Answered B E × Option L} (r, due) (a, later) = cc in (ap (λ p. p.0) same, ap (λ p. p.1) same)

module _ {L B E : Type 0} (comes : L → Option (Answered B E)) where
  pub due_total_of_due_left_is_zero : (later : L) (c : Option (Answered B E)) → comes later ≡ c → (due_total comes 0 (due_gives later c).1 ≡ 0) × (due_total comes 1 (due_gives later c).1 ≡ 0)
  due_total_of_due_left_is_zero later (Some a) is = (refl, refl)
  due_total_of_due_left_is_zero later None is = rw is (refl, refl)

  is_due_before_where_due_left : (later : L) (r : Answered B E) (c : Option (Answered B E)) → IsDue comes r (due_gives later c).1 → IsDue comes r (Some later)
  is_due_before_where_due_left later r (Some a) d = absurd d
  is_due_before_where_due_left later r None d = d

-- The hint of a stage is sound where its rule says so.
abbrev pub HintHolds : {S P X B L E : Type 0} → Contract S X E → Rule P X B L E → Type 0
HintHolds {S = S} m rule = HintsHold (λ p r q. stage_step rule.comes (rule_meets rule) m.steps p r q) (λ p h. rule.hint p.1.0 p.1.1 (m.hints p.0) h) (rule.sound S m)

-- What may be called stays so, on fewer answers, in each state that these bring it to.
abbrev pub CanStays : {P X B L E : Type 0} → Rule P X B L E → Type 1
CanStays {P = P} {X = X} {E = E} rule = (Q R : Answered X E → Type 0) (p q : P) → ((a : Answered X E) → R a → Q a) → Reaches (rule_meets rule) Q p q → rule.can Q p → rule.can R q

module _ {S P X B L E : Type 0} {m : Contract S X E} (l : Lawful m) (rule : Rule P X B L E) (w : IsStage rule.comes (rule_meets rule) rule.most rule.held) (stays : CanStays rule) where
  abbrev StageState : Type 0
  StageState = S × (P × Option L)

  abbrev StageContract : Contract StageState B E
  StageContract = rule_contract m rule

  -- Of each bound, with what is held, i less are left, and of what remains j less.
  record Spends (i j : ℕ) (s : S) (p : P) (t : S) (q : P) : Type 0 where
    bound : (n : ℕ) → m.bound s n → (k : ℕ) × m.bound t k × (rule.most * k + rule.held q + i ≤ rule.most * n + rule.held p)
    remaining : IsFinite (m.remaining s) → IsFinite (m.remaining t) × (rule.most * size (m.remaining t) + rule.held q + j ≤ rule.most * size (m.remaining s) + rule.held p)

  spends_emitted_total_where_met : (s t : S) (p q : P) (a : Answered X E) (emitted : Emitted B L E) → OnAnswer m s a t → (rule_meets rule) p a emitted q → Spends (emitted_total rule.comes 0 emitted) (emitted_total rule.comes 1 emitted) s p t q
  spends_emitted_total_where_met s t p q a emitted h called = record {
    bound = λ n b. let k = bound_after m s t a h n b in (k.0, k.1, omega (arith, scaled_parts_within_scaled_whole rule.most k.0 (weight 0 a) n k.2, (w p a emitted q called).0));
    remaining = λ f. let k = remaining_finite_and_fewer_after_answer m s t a h f in (k.0, omega (arith, scaled_parts_within_scaled_whole rule.most (size (m.remaining t)) (weight 1 a) (size (m.remaining s)) k.1, (w p a emitted q called).1));
  }

  spends_transitive : (i j : ℕ) (s u t : S) (p h q : P) → Spends 0 0 s p u h → Spends i j u h t q → Spends i j s p t q
  spends_transitive i j s u t p h q a b = record {
    bound = λ n h. let k = a.bound n h in let e = b.bound k.0 k.1 in (e.0, e.1, omega (arith, k.2, e.2));
    remaining = λ f. let k = a.remaining f in let e = b.remaining k.0 in (e.0, omega (arith, k.1, e.1));
  }

  -- ---- draws up to an answer

  record Came (s : S) (p : P) (r : Answered B E) (t : S) (q : P × Option L) : Type 0 where
    kept : KeptByDraws m s t
    reached : Reaches (rule_meets rule) (MayMeet m s) p q.0
    spends : Spends (weight 0 r + due_total rule.comes 0 q.1) (weight 1 r + due_total rule.comes 1 q.1) s p t q.0
    may : (z : Answered B E) → IsEmitted rule.comes z (Some (r, q.1)) → MayAnswer (rule_meets rule) (MayMeet m s) p (λ a emitted. IsEmitted rule.comes z emitted)

  came_of_draws : (s t : S) (p : P) (r : Answered B E) (q : P × Option L) → m.can_next s → DrawsUpTo rule.comes (rule_meets rule) m.steps s p r t q → Came s p r t q
  came_of_draws s t p r _ c (yields {q = q} {due = due} a step called) = let g = l.kept_by_draw s a t c step in let may = may_meet_of_answer m s t a g.answer in record {
    kept = kept_by_draws_of_one_draw g;
    reached = reaches_by_call_first a (Some (r, due)) may called reaches_reflexive;
    spends = spends_emitted_total_where_met s t p q a (Some (r, due)) g.answer called;
    may = λ z is. may_answer_of_call q a (Some (r, due)) may called is;
  }
  came_of_draws s t p r q c (passes_over {u = u} {h = h} a step called rest) = let g = l.kept_by_draw s a u c step in let may = may_meet_of_answer m s u a g.answer in let k = kept_by_draws_of_one_draw g in
      let d = came_of_draws u t h r q g.can_next rest in record {
        kept = kept_by_draws_transitive k d.kept;
        reached = reaches_by_call_first a None may called (reaches_weaken (may_meet_before_draws m s u k) d.reached);
        spends = spends_transitive _ _ s u t p h q.0 (spends_emitted_total_where_met s u p h a None g.answer called) d.spends;
        may = λ z is. may_answer_where_reached_may_answer (may_meet_before_draws m s u k) (reaches_by_call_first a None may called reaches_reflexive) (d.may z is);
      }

  -- ---- one answer

  record Leaves (p : StageState) (r : Answered B E) (q : StageState) : Type 0 where
    bound : (n : ℕ) → StageContract.bound p n → (k : ℕ) × StageContract.bound q k × (k + weight 0 r ≤ n)
    remaining : IsFinite (StageContract.remaining p) → IsFinite (StageContract.remaining q) × (size (StageContract.remaining q) + weight 1 r ≤ size (StageContract.remaining p))

  on_answer_where_leaves : (p q : StageState) (r : Answered B E) → MayCome m rule.comes (rule_meets rule) p r → Leaves p r q → OnAnswer StageContract p r q
  on_answer_where_leaves p q (Ok (Some y)) may k = (may, (λ n b. let e = k.bound n b in (e.0, e.1, omega (arith, e.2))), (λ f. let e = k.remaining f in (e.0, omega (arith, e.1))))
  on_answer_where_leaves p q (Ok None) may k = ((λ n b. let e = k.bound n b in (e.0, e.1, omega (arith, e.2))), (λ f. let e = k.remaining f in (e.0, omega (arith, e.1))))
  on_answer_where_leaves p q (Err e) may k = (may, (λ n b. let e = k.bound n b in (e.0, e.1, omega (arith, e.2))), (λ f. let e = k.remaining f in (e.0, omega (arith, e.1))))

  kept_by_draw_drawn : (s t : S) (p : P) (r : Answered B E) (q : P × Option L) → StageContract.can_next (s, (p, None)) → Came s p r t q → KeptByDraw StageContract (s, (p, None)) r (t, q)
  kept_by_draw_drawn s t p r q c k = record {
    can_next = (k.kept.can_next, stays (MayMeet m s) (MayMeet m t) p q.0 (may_meet_before_draws m s t k.kept) k.reached c.1);
    is_finite = k.kept.is_finite;
    answer = on_answer_where_leaves (s, (p, None)) (t, q) r (inr (k.may r (inl refl))) (record {
      bound = λ n b. let e = k.spends.bound b.0 b.1 in (rule.most * e.0 + rule.held q.0 + due_total rule.comes 0 q.1, (e.0, e.1, omega arith), omega (arith, e.2, b.2));
      remaining = λ f. let e = k.spends.remaining f in (e.0, omega (arith, e.1));
    });
    may_give = λ y h. may_come_before_where_may_come_after (item y) h;
    may_fail = λ e h. may_come_before_where_may_come_after (failure e) h;
    lenders = k.kept.lenders;
  }
    where
      may_come_before_where_may_come_after : (z : Answered B E) → MayCome m rule.comes (rule_meets rule) (t, q) z → MayCome m rule.comes (rule_meets rule) (s, (p, None)) z
      may_come_before_where_may_come_after z h = inr (elim h [ inl d ↦ k.may z (inr d) | inr d ↦ may_answer_where_reached_may_answer (may_meet_before_draws m s t k.kept) k.reached d ])

  kept_by_draw_due : (s : S) (p : P) (later : L) → StageContract.can_next (s, (p, Some later)) → KeptByDraw StageContract (s, (p, Some later)) (due_gives later (rule.comes later)).0 (s, (p, (due_gives later (rule.comes later)).1))
  kept_by_draw_due s p later c = let none = due_total_of_due_left_is_zero rule.comes later (rule.comes later) refl in record {
    can_next = c;
    is_finite = λ e. e;
    answer = on_answer_where_leaves (s, (p, Some later)) (s, (p, (due_gives later (rule.comes later)).1)) (due_gives later (rule.comes later)).0 (inl refl) (record {
      bound = λ n b. (rule.most * b.0 + rule.held p, (b.0, b.1, omega (arith, none.0)), omega (arith, b.2));
      remaining = λ f. (f, omega (arith, none.1));
    });
    may_give = λ y h. elim h [ inl d ↦ inl (is_due_before_where_due_left rule.comes later (item y) (rule.comes later) d) | inr d ↦ inr d ];
    may_fail = λ e h. elim h [ inl d ↦ inl (is_due_before_where_due_left rule.comes later (failure e) (rule.comes later) d) | inr d ↦ inr d ];
    lenders = refl;
  }

  kept_by_draw_stage : (p : StageState) (r : Answered B E) (q : StageState) → StageContract.can_next p → StageContract.steps p r q → KeptByDraw StageContract p r q
  kept_by_draw_stage (s, (p, None)) r (t, q) c step = kept_by_draw_drawn s t p r q c (came_of_draws s t p r q c.0 step)
  kept_by_draw_stage (s, (p, Some later)) r (t, q) c step = rw (step.0, step.1, step.2) (kept_by_draw_due s p later c)

  pub lawful_rule : HintHolds m rule → Lawful (rule_contract m rule)
  lawful_rule holds = record {
    kept_by_draw = kept_by_draw_stage;
    bounded = λ p. ((λ e. let k = (l.bounded p.0).0 e in (rule.most * k.0 + rule.held p.1.0 + due_total rule.comes 0 p.1.1, (k.0, k.1, omega arith))), (λ h. (l.bounded p.0).1 ((h.1).0, (h.1).1)));
    traced = stage_traced rule.comes (rule_meets rule) m.steps l.traced;
    hold = holds;
  }

-- ---- what holds in each state

module _ {P A V : Type 0} {call : P → A → V → P → Type 0} {Q : A → Type 0} (T : P → Type 0) (keeps : (p : P) (a : A) (v : V) (q : P) → Q a → T p → call p a v q → T q) where
  kept_by_calls : (made : List (A × V)) (p q : P) → FoldsTo (λ p c q. Q c.0 × call p c.0 c.1 q) p made q → T p → T q
  kept_by_calls [] p q e t = rw (sym e) t
  kept_by_calls (c ∷ made) p q w t = kept_by_calls made w.0 q w.2 (keeps p c.0 c.1 w.0 w.1.0 t w.1.1)

  -- what each call keeps holds in each state that calls bring it to
  pub kept_where_reached : {p q : P} → Reaches call Q p q → T p → T q
  kept_where_reached {p = p} {q = q} r t = kept_by_calls r.made p q r.by t

-- ---- The hint of a stage, by how many answers come of how many items of its source

module _ {B L E : Type 0} (comes : L → Option (Answered B E)) where
  -- What holds of the number of answers after what is due, or what is emitted, and before; before an end alone, and nothing is said of a failure.
  abbrev AnswerFew : Answered B E → (ℕ → Type 0) → (ℕ → Type 0) → Type 0
  AnswerFew (Ok (Some y)) after before = (n : ℕ) → after n → before (suc n)
  AnswerFew (Ok None) after before = before 0
  AnswerFew (Err e) after before = ⊤

  abbrev pub DueFew : Option L → (ℕ → Type 0) → (ℕ → Type 0) → Type 0
  DueFew None after before = (n : ℕ) → after n → before n
  DueFew (Some later) after before = AnswerFew (due_gives later (comes later)).0 after before

  abbrev pub EmittedFew : Emitted B L E → (ℕ → Type 0) → (ℕ → Type 0) → Type 0
  EmittedFew None after before = (n : ℕ) → after n → before n
  EmittedFew (Some (Ok (Some y), due)) after before = DueFew due after (λ n. before (suc n))
  EmittedFew (Some (Ok None, due)) after before = before 0
  EmittedFew (Some (Err e, due)) after before = ⊤

-- what is due is a stop
abbrev pub StopIsDue : {B L E : Type 0} → (L → Option (Answered B E)) → Option L → Type 0
StopIsDue comes None = ⊥
StopIsDue comes (Some later) = IsStop (due_gives later (comes later)).0

pub no_items_of_stop : {X E : Type 0} (a : Answered X E) → IsStop a → weight 0 a ≡ 0
no_items_of_stop (Ok (Some x)) stop = absurd stop
no_items_of_stop (Ok None) stop = refl
no_items_of_stop (Err e) stop = refl

module _ {P X B L E : Type 0} (comes : L → Option (Answered B E)) (meets : P → Answered X E → Emitted B L E → P → Type 0) where
  -- At most `most p n` items come of n items of the source, if p is held; at a stop a stop comes.
  pub record MakesAtMost (most : P → ℕ → ℕ) : Type 0 where
    pub at_item : (p : P) (x : X) (m : Emitted B L E) (q : P) (n : ℕ) → meets p (item x) m q → emitted_total comes 0 m + most q n ≤ most p (suc n)
    pub at_stop : (p : P) (a : Answered X E) (m : Emitted B L E) (q : P) → IsStop a → meets p a m q → (emitted_total comes 0 m ≤ most p 0) × EndsInStop comes m

  -- `Few p low n` holds of each number n of items that come before an end, if p is held and at least `low` come of the source.
  pub record MakesNoFewer (Few : P → ℕ → ℕ → Type 0) : Type 0 where
    pub at_item : (p : P) (x : X) (m : Emitted B L E) (q : P) (low : ℕ) → meets p (item x) m q → EmittedFew comes m (λ n. Few q (low - 1) n) (λ n. Few p low n)
    pub at_end : (p : P) (m : Emitted B L E) (q : P) → meets p end m q → EmittedFew comes m (λ n. Few q 0 n) (λ n. Few p 0 n)
    pub at_failure : (p : P) (e : E) (m : Emitted B L E) (q : P) (low : ℕ) → meets p (failure e) m q → EmittedFew comes m (λ n. Few q 0 n) (λ n. Few p low n)

  -- where at an item at most one is emitted, what comes is at most that and what is held
  pub makes_at_most_items_and_held : (held : P → ℕ) → IsStage comes meets 1 held → MakesAtMost (λ p n. n + held p)
  makes_at_most_items_and_held held stage = record {
    at_item = λ p x m q n w. let k = stage p (item x) m q w in omega (arith, k.0);
    at_stop = λ p a m q stop w. let k = stage p a m q w in let none = no_items_of_stop a stop in (omega (arith, k.0, none), k.2 stop);
  }

module _ {S P X B L E : Type 0} (steps : S → Answered X E → S → Type 0) (comes : L → Option (Answered B E)) (meets : P → Answered X E → Emitted B L E → P → Type 0) where
  abbrev HintState : Type 0
  HintState = S × (P × Option L)

  abbrev HintSteps : HintState → Answered B E → HintState → Type 0
  HintSteps = stage_step comes meets steps

  -- ---- above

  module _ (most : P → ℕ → ℕ) (makes : MakesAtMost comes meets most) where
    abbrev Drawn : S → P → ℕ → Type 0
    Drawn s p n = (xs : List X) × (t : S) × Yields steps s xs t × (n ≤ most p (length xs))

    no_item_after_due_stop : (y : B) (due : Option L) (ys : List B) (s : S) (q : P) (t : HintState) → EndsInStop comes (Some (item y, due)) → Yields HintSteps (s, (q, due)) ys t → length ys ≡ 0
    no_item_after_due_stop y None ys s q t stop ran = absurd stop
    no_item_after_due_stop y (Some later) [] s q t stop ran = refl
    no_item_after_due_stop y (Some later) (z ∷ ys) s q t stop ran = absurd (rw (sym ran.1.0) at stop)

    drawn_where_emitted_ends_in_stop : (y : B) (due : Option L) (ys : List B) (s v : S) (p q : P) (t : HintState) → (emitted_total comes 0 (Some (item y, due)) ≤ most p 0) × EndsInStop comes (Some (item y, due)) → Yields HintSteps (v, (q, due)) ys t → Drawn s p (length ys + 1)
    drawn_where_emitted_ends_in_stop y due ys s v p q t few ran = let none = no_item_after_due_stop y due ys v q t few.1 ran in ([], s, refl, omega (arith, few.0, none))

    drawn_where_first_makes_item : (a : Answered X E) (y : B) (due : Option L) (ys : List B) (s v : S) (p q : P) (t : HintState) → steps s a v → meets p a (Some (item y, due)) q → Yields HintSteps (v, (q, due)) ys t → ((xs : List X) × (u : S) × Yields steps v xs u × (length ys ≤ due_total comes 0 due + most q (length xs))) → Drawn s p (length ys + 1)
    drawn_where_first_makes_item (Ok (Some x)) y due ys s v p q t step called ran k = let few = makes.at_item p x (Some (item y, due)) q (length k.0) called in (x ∷ k.0, k.1, (v, step, k.2), omega (arith, few, k.3))
    drawn_where_first_makes_item (Ok None) y due ys s v p q t step called ran k = drawn_where_emitted_ends_in_stop y due ys s v p q t (makes.at_stop p end (Some (item y, due)) q tt called) ran
    drawn_where_first_makes_item (Err e) y due ys s v p q t step called ran k = drawn_where_emitted_ends_in_stop y due ys s v p q t (makes.at_stop p (failure e) (Some (item y, due)) q tt called) ran

    drawn_where_first_makes_none : (a : Answered X E) (s u : S) (p h : P) (n : ℕ) → steps s a u → meets p a None h → Drawn u h n → Drawn s p n
    drawn_where_first_makes_none (Ok (Some x)) s u p h n step called k = let few = makes.at_item p x None h (length k.0) called in (x ∷ k.0, k.1, (u, step, k.2), omega (arith, few, k.3))
    drawn_where_first_makes_none (Ok None) s u p h n step called k = absurd (makes.at_stop p end None h tt called).1
    drawn_where_first_makes_none (Err e) s u p h n step called k = absurd (makes.at_stop p (failure e) None h tt called).1

    drawn_where_draws_up_to_item : (y : B) (r : Answered B E) (ys : List B) (s v : S) (p : P) (q : P × Option L) (t : HintState) → r ≡ item y → DrawsUpTo comes meets steps s p r v q → Yields HintSteps (v, q) ys t → ((xs : List X) × (u : S) × Yields steps v xs u × (length ys ≤ due_total comes 0 q.1 + most q.0 (length xs))) → Drawn s p (length ys + 1)
    drawn_where_draws_up_to_item y r ys s v p _ t is (yields {q = q} {due = due} a step called) ran k = drawn_where_first_makes_item a y due ys s v p q t step (rw is at called) ran k
    drawn_where_draws_up_to_item y r ys s v p q t is (passes_over {u = u} {h = h} a step called rest) ran k = drawn_where_first_makes_none a s u p h (length ys + 1) step called (drawn_where_draws_up_to_item y r ys u v h q t is rest ran k)

    -- items of the source of which the items of a run come
    length_bounded_by_source_items : (ys : List B) (s : S) (p : P) (due : Option L) (t : HintState) → Yields HintSteps (s, (p, due)) ys t → (xs : List X) × (u : S) × Yields steps s xs u × (length ys ≤ due_total comes 0 due + most p (length xs))
    length_bounded_by_source_items [] s p due t ran = ([], s, refl, omega arith)
    length_bounded_by_source_items (y ∷ ys) s p None t ran = let v = ran.0 in let k = drawn_where_draws_up_to_item y (item y) ys s v.0 p v.1 t refl ran.1 ran.2 (length_bounded_by_source_items ys v.0 v.1.0 v.1.1 t ran.2) in (k.0, k.1, k.2, omega (arith, k.3))
    length_bounded_by_source_items (y ∷ ys) s p (Some later) t ran = let w = ran.1 in let k = length_bounded_by_source_items ys s p (due_gives later (comes later)).1 t (subst (λ (z : S). Yields HintSteps (z, (p, (due_gives later (comes later)).1)) ys t) w.1 (subst (λ (z : P × Option L). Yields HintSteps (ran.0.0, z) ys t) w.2 ran.2)) in
        let none = due_total_of_due_left_is_zero comes later (comes later) refl in let one : weight 0 (due_gives later (comes later)).0 ≡ 1 = ap (weight 0) (sym w.0) in (k.0, k.1, k.2, omega (arith, k.3, none.0, one))

    -- A bound of the source bounds what comes of it and of what is due.
    pub bounds_above_staged : (k o : Option ℕ) (s : S) (p : P) (due : Option L) → ((n : ℕ) → IfSome k (λ j. n ≤ j) → IfSome o (λ j. due_total comes 0 due + most p n ≤ j)) → BoundsAbove steps s k → BoundsAbove HintSteps (s, (p, due)) o
    bounds_above_staged k o s p due more above = λ ys t ran. let d = length_bounded_by_source_items ys s p due t ran in if_some_at_least_of_smaller o (length ys) (due_total comes 0 due + most p (length d.0)) d.3 (more (length d.0) (above d.0 d.1 d.2))

  -- ---- below

  module _ (Few : P → ℕ → ℕ → Type 0) (makes : MakesNoFewer comes meets Few) where
    lower_bound_after_answer : (a : Answered X E) (s u : S) (p q : P) (m : Emitted B L E) (low : ℕ) → steps s a u → BoundsBelow steps s low → meets p a m q → (j : ℕ) × BoundsBelow steps u j × EmittedFew comes m (λ n. Few q j n) (λ n. Few p low n)
    lower_bound_after_answer (Ok (Some x)) s u p q m low step b called = (low - 1, (λ xs t v ran last. let k = b (x ∷ xs) t v (u, step, ran) last in omega (arith, k)), makes.at_item p x m q low called)
    lower_bound_after_answer (Ok None) s u p q m low step b called = let none = b [] s u refl step in let is : low ≡ 0 = omega (arith, none) in (0, (λ xs t v ran last. omega arith), rw is (makes.at_end p m q called))
    lower_bound_after_answer (Err e) s u p q m low step b called = (0, (λ xs t v ran last. omega arith), makes.at_failure p e m q low called)

    few_at_end : (s t : S) (p : P) (r : Answered B E) (q : P × Option L) (low : ℕ) → r ≡ end → DrawsUpTo comes meets steps s p r t q → BoundsBelow steps s low → Few p low 0
    few_at_end s t p r _ low is (yields {q = q} {due = due} a step called) b = (lower_bound_after_answer a s t p q (Some (end, due)) low step b (rw is at called)).2
    few_at_end s t p r q low is (passes_over {u = u} {h = h} a step called rest) b = let k = lower_bound_after_answer a s u p h None low step b called in k.2 0 (few_at_end u t h r q k.0 is rest k.1)

    few_at_item_drawn : (y : B) (n : ℕ) (s t : S) (p : P) (r : Answered B E) (q : P × Option L) (low : ℕ) → r ≡ item y → DrawsUpTo comes meets steps s p r t q → BoundsBelow steps s low → ((j : ℕ) (F : ℕ → Type 0) → BoundsBelow steps t j → DueFew comes q.1 (λ k. Few q.0 j k) F → F n) → Few p low (suc n)
    few_at_item_drawn y n s t p r _ low is (yields {q = q} {due = due} a step called) b then = let k = lower_bound_after_answer a s t p q (Some (item y, due)) low step b (rw is at called) in then k.0 (λ i. Few p low (suc i)) k.1 k.2
    few_at_item_drawn y n s t p r q low is (passes_over {u = u} {h = h} a step called rest) b then = let k = lower_bound_after_answer a s u p h None low step b called in k.2 (suc n) (few_at_item_drawn y n u t h r q k.0 is rest k.1 then)

    none_due_left_where_item_comes : (later : L) (c : Option (Answered B E)) (y : B) → item y ≡ (due_gives later c).0 → (due_gives later c).1 ≡ None
    none_due_left_where_item_comes later (Some r) y is = refl
    none_due_left_where_item_comes later None y is = absurd cc

    due_few_holds_at_length_of_run : (ys : List B) (s : S) (p : P) (due : Option L) (t u : HintState) (low : ℕ) (F : ℕ → Type 0) → Yields HintSteps (s, (p, due)) ys t → HintSteps t end u → BoundsBelow steps s low → DueFew comes due (λ n. Few p low n) F → F (length ys)
    due_few_holds_at_length_of_run [] s p None t u low F ran last b f = let w : HintSteps (s, (p, None)) end u = subst (λ (z : HintState). HintSteps z end u) (sym ran) last in f 0 (few_at_end s u.0 p end u.1 low refl w b)
    due_few_holds_at_length_of_run [] s p (Some later) t u low F ran last b f = let w : HintSteps (s, (p, Some later)) end u = subst (λ (z : HintState). HintSteps z end u) (sym ran) last in (rw (sym w.0) at f)
    due_few_holds_at_length_of_run (y ∷ ys) s p None t u low F ran last b f = let v = ran.0 in f (suc (length ys)) (few_at_item_drawn y (length ys) s v.0 p (item y) v.1 low refl ran.1 b (λ j G bj g. due_few_holds_at_length_of_run ys v.0 v.1.0 v.1.1 t u j G ran.2 last bj g))
    due_few_holds_at_length_of_run (y ∷ ys) s p (Some later) t u low F ran last b f = let w = ran.1 in let rest : Yields HintSteps (s, (p, None)) ys t = subst (λ (z : S). Yields HintSteps (z, (p, None)) ys t) w.1 (subst (λ (z : P × Option L). Yields HintSteps (ran.0.0, z) ys t) (w.2 ∙ ap (λ (d : Option L). (p, d)) (none_due_left_where_item_comes later (comes later) y w.0)) ran.2) in
        let g : (n : ℕ) → Few p low n → F (suc n) = (rw (sym w.0) at f) in g (length ys) (due_few_holds_at_length_of_run ys s p None t u low (λ n. Few p low n) rest last b (λ n k. k))

    pub bounds_below_staged : (low least : ℕ) (s : S) (p : P) (due : Option L) → DueFew comes due (λ n. Few p low n) (λ n. least ≤ n) → BoundsBelow steps s low → BoundsBelow HintSteps (s, (p, due)) least
    bounds_below_staged low least s p due more below = λ ys t u ran last. due_few_holds_at_length_of_run ys s p due t u low (λ n. least ≤ n) ran last below more

  -- ---- where a stop is due

  module _ (s : S) (p : P) (later : L) where
    -- no item comes of it
    no_item_of_stop : IsStop (due_gives later (comes later)).0 → (y : B) (t : HintState) → HintSteps (s, (p, Some later)) (item y) t → ⊥
    no_item_of_stop stop y t w = (rw (sym w.0) at stop)

    zero_bounded : (o : Option ℕ) → IfSome o (λ n. 0 ≤ n)
    zero_bounded None = tt
    zero_bounded (Some n) = omega arith

    -- so each upper bound is sound
    pub bounds_above_where_stop_due : (o : Option ℕ) → IsStop (due_gives later (comes later)).0 → BoundsAbove HintSteps (s, (p, Some later)) o
    bounds_above_where_stop_due o stop ys t ran = if_some_at_least_of_smaller o (length ys) 0 ((brackets_zero_where_no_item HintSteps (s, (p, Some later)) (no_item_of_stop stop)).above ys t ran) (zero_bounded o)

    no_end_where_failure_due : (e : E) → (due_gives later (comes later)).0 ≡ failure e → (ys : List B) (t u : HintState) → Yields HintSteps (s, (p, Some later)) ys t → HintSteps t end u → ⊥
    no_end_where_failure_due e is [] t u ran step = let w : HintSteps (s, (p, Some later)) end u = subst (λ (v : HintState). HintSteps v end u) (sym ran) step in let other = w.0 ∙ is in cc
    no_end_where_failure_due e is (y ∷ ys) t u ran step = let w = ran.1 in let other = w.0 ∙ is in cc

    -- and each lower one where that is a failure, and 0 at an end
    pub bounds_below_where_stop_due : (low : ℕ) (r : Answered B E) → (due_gives later (comes later)).0 ≡ r → IsStop r → (r ≡ end → low ≤ 0) → BoundsBelow HintSteps (s, (p, Some later)) low
    bounds_below_where_stop_due low (Ok (Some y)) is stop none = absurd stop
    bounds_below_where_stop_due low (Ok None) is stop none = λ ys t u ran step. let few = none refl in omega (arith, few)
    bounds_below_where_stop_due low (Err e) is stop none = (brackets_any_lower_where_no_end HintSteps (s, (p, Some later)) low (λ ys t u ran step. no_end_where_failure_due e is ys t u ran step)).below

-- ---- The contracts of adapters by functions are lawful where the source's is: what is emitted weighs no more than what was held and drawn

-- P holds of what comes of a plan, whatever the call returns
abbrev pub Always : {Q R T : Type 0} → (T → Type 0) → Plan Q R T → Type 0
Always P (makes t) = P t
Always {R = R} P (calls q by) = (v : R) → P (by v)

pub always_weaken : {Q R T : Type 0} {P W : T → Type 0} → ((t : T) → P t → W t) → (plan : Plan Q R T) → Always P plan → Always W plan
always_weaken weak (makes t) is = weak t is
always_weaken weak (calls q by) is = λ v. weak (by v) (is v)

pub always_of_follows : {F Q R H B L E : Type 0} (call : F → Q → R → F → Type 0) (P : Transition H B L E → Type 0) (plan : Plan Q R (Transition H B L E)) (f : F) (emitted : Emitted B L E) (k : H) (g : F) → Follows call plan f emitted k g → Always P plan → (t : Transition H B L E) × IsTransition t emitted k × P t
always_of_follows call P (makes t) f emitted k g w is = (t, w.0, is)
always_of_follows call P (calls q by) f emitted k g w is = (by w.0, w.2, is w.0)

-- how many failures a stop is
abbrev pub failures_of : {E : Type 0} → Option E → ℕ
failures_of None = 0
failures_of (Some e) = 1

module _ {L B E : Type 0} (comes : L → Option (Answered B E)) (most : ℕ) {H : Type 0} (held : H → ℕ) where
  -- At an item at most `most` answers are emitted beyond what was held and isn't any more; at a stop no item beyond that, and a stop last.
  abbrev pub ItemWeighs : H → Transition H B L E → Type 0
  ItemWeighs h t = (emitted_total comes 0 t.0 + held t.1 ≤ held h + most) × (emitted_total comes 1 t.0 + held t.1 ≤ held h + most)

  abbrev pub StopWeighs : H → Option E → Transition H B L E → Type 0
  StopWeighs h stop t = (emitted_total comes 0 t.0 + held t.1 ≤ held h) × (emitted_total comes 1 t.0 + held t.1 ≤ held h + most * failures_of stop) × EndsInStop comes t.0

  item_emitted_weighs : (h : H) (t : Transition H B L E) (emitted : Emitted B L E) (k : H) → IsTransition t emitted k → ItemWeighs h t → (emitted_total comes 0 emitted + held k ≤ held h + most * 1) × (emitted_total comes 1 emitted + held k ≤ held h + most * 1) × (⊥ → EndsInStop comes emitted)
  item_emitted_weighs h t emitted k w g = rw (w.0, w.1) (omega (arith, g.0), omega (arith, g.1), λ s. absurd s)

  stop_emitted_weighs : (h : H) (stop : Option E) (t : Transition H B L E) (emitted : Emitted B L E) (k : H) → IsTransition t emitted k → StopWeighs h stop t → (emitted_total comes 0 emitted + held k ≤ held h + most * 0) × (emitted_total comes 1 emitted + held k ≤ held h + most * failures_of stop) × (⊤ → EndsInStop comes emitted)
  stop_emitted_weighs h stop t emitted k w g = rw (w.0, w.1) (omega (arith, g.0), g.1, λ s. g.2)

  pub is_stage_plan : {F Q R X : Type 0} (call : F → Q → R → F → Type 0) (plan : H → X → Plan Q R (Transition H B L E)) (stops : H → Option E → Transition H B L E) → ((h : H) (x : X) → Always (λ t. ItemWeighs h t) (plan h x)) → ((h : H) (stop : Option E) → StopWeighs h stop (stops h stop)) → IsStage comes (plan_meets call plan stops) most (λ (p : H × F). held p.0)
  is_stage_plan call plan stops item_weighs stop_weighs p (Ok (Some x)) emitted k w = let t = always_of_follows call (λ t. ItemWeighs p.0 t) (plan p.0 x) p.1 emitted k.0 k.1 w (item_weighs p.0 x) in item_emitted_weighs p.0 t.0 emitted k.0 t.1 t.2
  is_stage_plan call plan stops item_weighs stop_weighs p (Ok None) emitted k w = stop_emitted_weighs p.0 None (stops p.0 None) emitted k.0 w.0 (stop_weighs p.0 None)
  is_stage_plan call plan stops item_weighs stop_weighs p (Err e) emitted k w = stop_emitted_weighs p.0 (Some e) (stops p.0 (Some e)) emitted k.0 w.0 (stop_weighs p.0 (Some e))

-- a stop that passes
pub passes_weighs : {L B E H : Type 0} (comes : L → Option (Answered B E)) (most : ℕ) → 1 ≤ most → (h : H) (stop : Option E) → StopWeighs comes most (λ (k : H). 0) h stop (passes h stop)
passes_weighs comes most some h None = (omega arith, omega arith, tt)
passes_weighs comes most some h (Some e) = (omega arith, omega (arith, some), tt)

-- what is held, and then a stop
pub before_stop_weighs : {B E H : Type 0} (held : H → ℕ) (h k : H) (kept : Option B) (stop : Option E) → held h ≡ held_one kept → held k ≡ 0 → StopWeighs stop_comes 1 held h stop (before_stop kept stop, k)
before_stop_weighs held h k None None was none = (omega (arith, none), omega (arith, none), tt)
before_stop_weighs held h k None (Some e) was none = (omega (arith, none), omega (arith, none), tt)
before_stop_weighs held h k (Some y) None was none = (omega (arith, was, none), omega (arith, was, none), tt)
before_stop_weighs held h k (Some y) (Some e) was none = (omega (arith, was, none), omega (arith, was, none), tt)

-- ---- where what is held comes first at a stop

-- no end is an answer, and none is due
abbrev pub NoEnd : {B E : Type 0} → Emitted B (Option E) E → Type 0
NoEnd None = ⊤
NoEnd (Some (Ok None, due)) = ⊥
NoEnd (Some (a, Some None)) = ⊥
NoEnd (Some (a, due)) = ⊤

-- where nothing is emitted, something is held
abbrev pub HeldWhereNone : {B E : Type 0} → ℕ → Emitted B (Option E) E → Type 0
HeldWhereNone held None = 1 ≤ held
HeldWhereNone held (Some emitted) = ⊤

-- At an item at most one answer is emitted beyond what was held and isn't any more, and no end; where nothing is, something is held.
abbrev pub ItemBuffers : {H B E : Type 0} → (H → ℕ) → H → Transition H B (Option E) E → Type 0
ItemBuffers held h t = ItemWeighs stop_comes 1 held h t × NoEnd t.0 × HeldWhereNone (held t.1) t.0

-- what was held, and then a failure
pub failure_buffers : {B E H : Type 0} (held : H → ℕ) (h k : H) (kept : Option B) (e : E) → held_one kept ≤ held h → held k ≡ 0 → ItemBuffers held h (before_stop kept (Some e), k)
failure_buffers held h k None e was none = ((omega (arith, none), omega (arith, none)), tt, tt)
failure_buffers held h k (Some y) e was none = ((omega (arith, was, none), omega (arith, was, none)), tt, tt)

pub is_stage_buffering : {H F Q R X B E : Type 0} (held : H → ℕ) (call : F → Q → R → F → Type 0) (plan : H → X → Plan Q R (Transition H B (Option E) E)) (stops : H → Option E → Transition H B (Option E) E) → ((h : H) (x : X) → Always (λ t. ItemBuffers held h t) (plan h x)) → ((h : H) (stop : Option E) → StopWeighs stop_comes 1 held h stop (stops h stop)) → IsStage stop_comes (plan_meets call plan stops) 1 (λ (p : H × F). held p.0)
is_stage_buffering held call plan stops item_buffers stop_weighs = is_stage_plan stop_comes 1 held call plan stops (λ h x. always_weaken (λ t is. is.0) (plan h x) (item_buffers h x)) stop_weighs

-- ---- lawful

pub lawful_bounded : {S A E : Type 0} {m : Contract S A E} → Lawful m → Lawful (bounded m)
lawful_bounded {m = m} l = record {
  kept_by_draw = λ s r t c step. let k = l.kept_by_draw s r t c.1 step in record { can_next = (k.is_finite c.0, k.can_next); is_finite = k.is_finite; answer = k.answer; may_give = k.may_give; may_fail = k.may_fail; lenders = k.lenders };
  bounded = l.bounded;
  traced = l.traced;
  hold = l.hold;
}

-- where a closure may be called, it stays so
pub closure_stays : {H F Q R T V X E : Type 0} (takes : F → Q → Type 0) (plan : H → X → Plan Q R T) {meets : H × F → Answered X E → V → H × F → Type 0} (P K : Answered X E → Type 0) (p q : H × F) → ((a : Answered X E) → K a → P a) → Reaches meets P p q → IsCallable meets (λ r a. IfItem (plan_takes takes plan r) a) P p → IsCallable meets (λ r a. IfItem (plan_takes takes plan r) a) K q
closure_stays takes plan P K p q weak reached c = is_callable_after {pre = λ r a. IfItem (plan_takes takes plan r) a} weak reached c

-- the hint by a plan, by what is held and what is due
abbrev pub plan_hint : {S H F L X E : Type 0} → Contract S X E → (H → Option L → (ℕ × Option ℕ → Type 0) → ℕ × Option ℕ → Type 0) → S × ((H × F) × Option L) → ℕ × Option ℕ → Type 0
plan_hint m hint p h = hint p.1.0.0 p.1.1 (m.hints p.0) h

-- a hint is sound once a stop is due, and before wherever the hint of the source is that it is made of
abbrev pub held_sound : {S H F X E : Type 0} → Contract S X E → (H → ℕ × Option ℕ → ℕ × Option ℕ) → SoundWhere (S × ((H × F) × Option (Option E)))
held_sound m made = sound_once (λ p. IsSome p.1.1) (as_made (λ p. p.0) m.hints m.sound (λ p. made p.1.0.0))

-- ---- Why the hints of an adapter by functions are sound where it says so, by how many answers each plan emits

-- at a stop that passes no item is emitted
pub passes_at_most : {H B L E : Type 0} (comes : L → Option (Answered B E)) (most : ℕ) (h : H) (stop : Option E) → (emitted_total comes 0 (passes {L = L} h stop).0 ≤ most) × EndsInStop comes (passes {L = L} h stop).0
passes_at_most comes most h None = (omega arith, tt)
passes_at_most comes most h (Some e) = (omega arith, tt)

-- `most h n` bounds how many items come of n of the source where h is held; `Few h low n` holds of each number n of items before an end, if at least `low` come of the source.
module _ {H F Q R X B L E : Type 0} (comes : L → Option (Answered B E)) (call : F → Q → R → F → Type 0) (plan : H → X → Plan Q R (Transition H B L E)) (stops : H → Option E → Transition H B L E) (most : H → ℕ → ℕ) (Few : H → ℕ → ℕ → Type 0) where
  pub record PlanMakes : Type 0 where
    pub at_most : (h : H) (x : X) (n : ℕ) → Always (λ t. emitted_total comes 0 t.0 + most t.1 n ≤ most h (suc n)) (plan h x)
    pub at_most_at_stop : (h : H) (stop : Option E) → (emitted_total comes 0 (stops h stop).0 ≤ most h 0) × EndsInStop comes (stops h stop).0
    pub no_fewer : (h : H) (x : X) (low : ℕ) → Always (λ t. EmittedFew comes t.0 (λ n. Few t.1 (low - 1) n) (λ n. Few h low n)) (plan h x)
    pub no_fewer_at_end : (h : H) → EmittedFew comes (stops h None).0 (λ n. Few (stops h None).1 0 n) (λ n. Few h 0 n)
    pub no_fewer_at_failure : (h : H) (e : E) (low : ℕ) → EmittedFew comes (stops h (Some e)).0 (λ n. Few (stops h (Some e)).1 0 n) (λ n. Few h low n)

  module _ (plan_makes : PlanMakes) where
    most_of_emitted : (h : H) (n : ℕ) (t : Transition H B L E) (m : Emitted B L E) (k : H) → IsTransition t m k → emitted_total comes 0 t.0 + most t.1 n ≤ most h (suc n) → emitted_total comes 0 m + most k n ≤ most h (suc n)
    most_of_emitted h n t m k w is = rw (w.0, w.1) is

    few_of_emitted : (h : H) (low i : ℕ) (t : Transition H B L E) (m : Emitted B L E) (k : H) → IsTransition t m k → EmittedFew comes t.0 (λ n. Few t.1 i n) (λ n. Few h low n) → EmittedFew comes m (λ n. Few k i n) (λ n. Few h low n)
    few_of_emitted h low i t m k w is = rw (w.0, w.1) is

    stop_of_emitted : (h : H) (t : Transition H B L E) (m : Emitted B L E) (k : H) → IsTransition t m k → (emitted_total comes 0 t.0 ≤ most h 0) × EndsInStop comes t.0 → (emitted_total comes 0 m ≤ most h 0) × EndsInStop comes m
    stop_of_emitted h t m k w is = rw w.0 is

    at_most_at_stop_met : (p : H × F) (a : Answered X E) (m : Emitted B L E) (q : H × F) → IsStop a → plan_meets call plan stops p a m q → (emitted_total comes 0 m ≤ most p.0 0) × EndsInStop comes m
    at_most_at_stop_met p (Ok (Some x)) m q stop w = absurd stop
    at_most_at_stop_met p (Ok None) m q stop w = stop_of_emitted p.0 (stops p.0 None) m q.0 w.0 (plan_makes.at_most_at_stop p.0 None)
    at_most_at_stop_met p (Err e) m q stop w = stop_of_emitted p.0 (stops p.0 (Some e)) m q.0 w.0 (plan_makes.at_most_at_stop p.0 (Some e))

    pub makes_at_most_plan : MakesAtMost comes (plan_meets call plan stops) (λ p n. most p.0 n)
    makes_at_most_plan = record {
      at_item = λ p x m q n w. let t = always_of_follows call _ (plan p.0 x) p.1 m q.0 q.1 w (plan_makes.at_most p.0 x n) in most_of_emitted p.0 n t.0 m q.0 t.1 t.2;
      at_stop = at_most_at_stop_met;
    }

    pub makes_no_fewer_plan : MakesNoFewer comes (plan_meets call plan stops) (λ p low n. Few p.0 low n)
    makes_no_fewer_plan = record {
      at_item = λ p x m q low w. let t = always_of_follows call _ (plan p.0 x) p.1 m q.0 q.1 w (plan_makes.no_fewer p.0 x low) in few_of_emitted p.0 low (low - 1) t.0 m q.0 t.1 t.2;
      at_end = λ p m q w. few_of_emitted p.0 0 0 (stops p.0 None) m q.0 w.0 (plan_makes.no_fewer_at_end p.0);
      at_failure = λ p e m q low w. few_of_emitted p.0 low 0 (stops p.0 (Some e)) m q.0 w.0 (plan_makes.no_fewer_at_failure p.0 e low);
    }

-- ---- where it is sound

-- something is due, or nothing
pub due_or_none : {L : Type 0} (due : Option L) → IsSome due ⊎ (IsSome due → ⊥)
due_or_none None = inr (λ n. cc)
due_or_none (Some later) = inl refl

-- Where `done` holds of what is due, that is a stop; where it doesn't, the hint is `made` of the source's. Where an end is due it is none.
module _ {H F Q R X B L E : Type 0} (comes : L → Option (Answered B E)) (call : F → Q → R → F → Type 0) (plan : H → X → Plan Q R (Transition H B L E)) (stops : H → Option E → Transition H B L E) (most : H → ℕ → ℕ) (Few : H → ℕ → ℕ → Type 0) (at_most : MakesAtMost comes (plan_meets call plan stops) (λ p n. most p.0 n)) (no_fewer : MakesNoFewer comes (plan_meets call plan stops) (λ p low n. Few p.0 low n)) (hint : H → Option L → (ℕ × Option ℕ → Type 0) → ℕ × Option ℕ → Type 0) (low : H → Option L → ℕ → ℕ) (high : H → Option L → Option ℕ → Option ℕ) (done : Option L → Type 0) (done_or_open : (due : Option L) → done due ⊎ (done due → ⊥)) (stop_where_done : (due : Option L) → done due → StopIsDue comes due) (none_at_end : (h : H) (later : L) → (due_gives later (comes later)).0 ≡ end → (hints : ℕ × Option ℕ → Type 0) (k : ℕ × Option ℕ) → hint h (Some later) hints k → k ≡ (0, Some 0)) (above : (h : H) (due : Option L) → (done due → ⊥) → (o : Option ℕ) (n : ℕ) → IfSome o (λ j. n ≤ j) → IfSome (high h due o) (λ j. due_total comes 0 due + most h n ≤ j)) (below : (h : H) (due : Option L) → (done due → ⊥) → (n : ℕ) → DueFew comes due (λ k. Few h n k) (λ k. low h due n ≤ k)) where
  module _ {S : Type 0} (m : Contract S X E) (holds : HintsHold m.steps m.hints m.sound) where
    abbrev PlanState : Type 0
    PlanState = S × ((H × F) × Option L)

    abbrev PlanSteps : PlanState → Answered B E → PlanState → Type 0
    PlanSteps = stage_step comes (plan_meets call plan stops) m.steps

    above_at_stop : (s : S) (p : H × F) (due : Option L) (o : Option ℕ) → StopIsDue comes due → BoundsAbove PlanSteps (s, (p, due)) o
    above_at_stop s p None o stop = absurd stop
    above_at_stop s p (Some later) o stop = bounds_above_where_stop_due m.steps comes (plan_meets call plan stops) s p later o stop

    below_at_stop : (s : S) (p : H × F) (due : Option L) (h : ℕ × Option ℕ) → StopIsDue comes due → hint p.0 due (m.hints s) h → BoundsBelow PlanSteps (s, (p, due)) h.0
    below_at_stop s p None h stop is = absurd stop
    below_at_stop s p (Some later) h stop is = bounds_below_where_stop_due m.steps comes (plan_meets call plan stops) s p later h.0 (due_gives later (comes later)).0 refl stop (λ over. let none = none_at_end p.0 later over (m.hints s) h is in let zero = ap (λ (z : ℕ × Option ℕ). z.0) none in omega (arith, zero))

    above_of_made : (p : PlanState) (o : Option ℕ) → (done p.1.1 → ⊥) → (k : ℕ × Option ℕ) → m.hints p.0 k → o ≡ high p.1.0.0 p.1.1 k.1 → m.sound.above p.0 k.1 → BoundsAbove PlanSteps p o
    above_of_made p o unstopped k is by sound = subst (λ (u : Option ℕ). BoundsAbove PlanSteps p u) (sym by) (bounds_above_staged m.steps comes (plan_meets call plan stops) (λ p n. most p.0 n) at_most k.1 (high p.1.0.0 p.1.1 k.1) p.0 p.1.0 p.1.1 (λ n le. above p.1.0.0 p.1.1 unstopped k.1 n le) (holds.above p.0 k is sound))

    below_of_made : (p : PlanState) (n : ℕ) → (done p.1.1 → ⊥) → (k : ℕ × Option ℕ) → m.hints p.0 k → n ≡ low p.1.0.0 p.1.1 k.0 → m.sound.below p.0 k.0 → BoundsBelow PlanSteps p n
    below_of_made p n unstopped k is by sound = subst (λ (u : ℕ). BoundsBelow PlanSteps p u) (sym by) (bounds_below_staged m.steps comes (plan_meets call plan stops) (λ p i n. Few p.0 i n) no_fewer k.0 (low p.1.0.0 p.1.1 k.0) p.0 p.1.0 p.1.1 (below p.1.0.0 p.1.1 unstopped k.0) (holds.below p.0 k is sound))

    pub plan_hold : HintsHold (λ p r q. stage_step comes (plan_meets call plan stops) m.steps p r q) (plan_hint m hint) (sound_once (λ p. done p.1.1) (as_made (λ p. p.0) m.hints m.sound (λ p k. (low p.1.0.0 p.1.1 k.0, high p.1.0.0 p.1.1 k.1))))
    plan_hold = record {
      above = λ p h is a. elim (done_or_open p.1.1) [ inl over ↦ above_at_stop p.0 p.1.0 p.1.1 h.1 (stop_where_done p.1.1 over) | inr unstopped ↦ (let b = a unstopped in above_of_made p h.1 unstopped b.0 b.1 b.2 b.3) ];
      below = λ p h is a. elim (done_or_open p.1.1) [ inl over ↦ below_at_stop p.0 p.1.0 p.1.1 h (stop_where_done p.1.1 over) is | inr unstopped ↦ (let b = a unstopped in below_of_made p h.0 unstopped b.0 b.1 b.2 b.3) ];
    }

-- ---- Why the hints of adapters at whose stop what is held comes first are sound where they say so

-- each stop is one
stop_where_due : (B : Type 0) {E : Type 0} (due : Option (Option E)) → IsSome due → StopIsDue {B = B} stop_comes due
stop_where_due B None some = absurd cc
stop_where_due B (Some None) some = tt
stop_where_due B (Some (Some e)) some = tt

-- `most h n` and `Few h low n` bound the items, as in `MakesAtMost` and `MakesNoFewer`; `low` and `high` are the bounds of the hint where no end is due.
module _ {H F Q R X B E : Type 0} (call : F → Q → R → F → Type 0) (plan : H → X → Plan Q R (Transition H B (Option E) E)) (stops : H → Option E → Transition H B (Option E) E) (most : H → ℕ → ℕ) (Few : H → ℕ → ℕ → Type 0) (low : H → ℕ → ℕ) (high : H → Option ℕ → Option ℕ) (above : (h : H) (o : Option ℕ) (n : ℕ) → IfSome o (λ j. n ≤ j) → IfSome (high h o) (λ j. most h n ≤ j)) (below : (h : H) (n k : ℕ) → Few h n k → low h n ≤ k) where
  abbrev hint_held : H → Option (Option E) → (ℕ × Option ℕ → Type 0) → ℕ × Option ℕ → Type 0
  hint_held h due hints j = hint_unless_end (λ k. (low h k.0, high h k.1)) due hints j

  none_where_end_due : (h : H) (stop : Option E) → stop_answer {B = B} stop ≡ end → (hints : ℕ × Option ℕ → Type 0) (k : ℕ × Option ℕ) → hint_held h (Some stop) hints k → k ≡ (0, Some 0)
  none_where_end_due h None over hints k is = is
  none_where_end_due h (Some e) over hints k is = absurd cc

  above_where_open : (h : H) (due : Option (Option E)) → (IsSome due → ⊥) → (o : Option ℕ) (n : ℕ) → IfSome o (λ j. n ≤ j) → IfSome (high h o) (λ j. due_total {B = B} stop_comes 0 due + most h n ≤ j)
  above_where_open h None unstopped o n le = if_some_at_least_of_smaller (high h o) (0 + most h n) (most h n) (omega arith) (above h o n le)
  above_where_open h (Some stop) unstopped o n le = absurd (unstopped refl)

  below_where_open : (h : H) (due : Option (Option E)) → (IsSome due → ⊥) → (n : ℕ) → DueFew {B = B} stop_comes due (λ k. Few h n k) (λ k. low h n ≤ k)
  below_where_open h None unstopped n = λ k few. below h n k few
  below_where_open h (Some stop) unstopped n = absurd (unstopped refl)

  pub held_hold_by_makes : MakesAtMost stop_comes (plan_meets call plan stops) (λ p n. most p.0 n) → MakesNoFewer stop_comes (plan_meets call plan stops) (λ p low n. Few p.0 low n) → {S : Type 0} (m : Contract S X E) → HintsHold m.steps m.hints m.sound → HintsHold (λ p r q. stage_step stop_comes (plan_meets call plan stops) m.steps p r q) (plan_hint m hint_held) (held_sound m (λ h k. (low h k.0, high h k.1)))
  held_hold_by_makes at_most no_fewer m holds = plan_hold stop_comes call plan stops most Few at_most no_fewer hint_held (λ h due. low h) (λ h due. high h) (λ due. IsSome due) due_or_none (stop_where_due B) none_where_end_due above_where_open below_where_open m holds

  pub held_hold : PlanMakes stop_comes call plan stops most Few → {S : Type 0} (m : Contract S X E) → HintsHold m.steps m.hints m.sound → HintsHold (λ p r q. stage_step stop_comes (plan_meets call plan stops) m.steps p r q) (plan_hint m hint_held) (held_sound m (λ h k. (low h k.0, high h k.1)))
  held_hold plan_makes m holds = held_hold_by_makes (makes_at_most_plan stop_comes call plan stops most Few plan_makes) (makes_no_fewer_plan stop_comes call plan stops most Few plan_makes) m holds

-- ---- at least one, where the source has one or one is held

module _ {H B : Type 0} (E : Type 0) (kept : H → Option B) (empty : H → H) (held : H → ℕ) (is_held : (h : H) → held h ≡ held_one (kept h)) where
  few_of_emitted_before_stop : (t : Transition H B (Option E) E) (before low : ℕ) → NoEnd t.0 → HeldWhereNone (held t.1) t.0 → EmittedFew stop_comes t.0 (λ n. min ((low - 1) + held t.1) 1 ≤ n) (λ n. min (low + before) 1 ≤ n)
  few_of_emitted_before_stop (None, h) before low on one = λ n after. omega (arith, after, one)
  few_of_emitted_before_stop (Some (Ok (Some y), None), h) before low on one = λ n after. omega arith
  few_of_emitted_before_stop (Some (Ok (Some y), Some None), h) before low on one = absurd on
  few_of_emitted_before_stop (Some (Ok (Some y), Some (Some e)), h) before low on one = tt
  few_of_emitted_before_stop (Some (Ok None, due), h) before low on one = absurd on
  few_of_emitted_before_stop (Some (Err d, due), h) before low on one = tt

  few_at_end_before_stop : (h : H) (o : Option B) → held h ≡ held_one o → EmittedFew {E = E} stop_comes (before_stop o None) (λ n. min (0 + held (empty h)) 1 ≤ n) (λ n. min (0 + held h) 1 ≤ n)
  few_at_end_before_stop h None is = omega (arith, is)
  few_at_end_before_stop h (Some y) is = omega arith

  few_at_failure : (o : Option B) (e : E) (after before : ℕ → Type 0) → EmittedFew stop_comes (before_stop o (Some e)) after before
  few_at_failure None e after before = tt
  few_at_failure (Some y) e after before = tt

  at_most_at_stop : (h : H) (o : Option B) (stop : Option E) → held h ≡ held_one o → (emitted_total stop_comes 0 (before_stop o stop) ≤ 0 + held h) × EndsInStop stop_comes (before_stop o stop)
  at_most_at_stop h None None is = (omega arith, tt)
  at_most_at_stop h None (Some e) is = (omega arith, tt)
  at_most_at_stop h (Some y) None is = (omega (arith, is), tt)
  at_most_at_stop h (Some y) (Some e) is = (omega (arith, is), tt)

  always_at_most : {Q R : Type 0} (h : H) (n : ℕ) (t : Plan Q R (Transition H B (Option E) E)) → Always (λ v. ItemBuffers held h v) t → Always (λ v. emitted_total stop_comes 0 v.0 + (n + held v.1) ≤ suc n + held h) t
  always_at_most h n (makes t) w = omega (arith, w.0.0)
  always_at_most h n (calls q by) w = λ v. let k = (w v).0.0 in omega (arith, k)

  always_no_fewer : {Q R : Type 0} (h : H) (low : ℕ) (t : Plan Q R (Transition H B (Option E) E)) → Always (λ v. ItemBuffers held h v) t → Always (λ v. EmittedFew stop_comes v.0 (λ n. min ((low - 1) + held v.1) 1 ≤ n) (λ n. min (low + held h) 1 ≤ n)) t
  always_no_fewer h low (makes t) w = few_of_emitted_before_stop t (held h) low w.1 w.2
  always_no_fewer h low (calls q by) w = λ v. few_of_emitted_before_stop (by v) (held h) low (w v).1 (w v).2

  module _ {F Q R X : Type 0} (call : F → Q → R → F → Type 0) (plan : H → X → Plan Q R (Transition H B (Option E) E)) (buffers : (h : H) (x : X) → Always (λ t. ItemBuffers held h t) (plan h x)) where
    makes_held : PlanMakes stop_comes call plan (λ h stop. (before_stop (kept h) stop, empty h)) (λ h n. n + held h) (λ h low n. min (low + held h) 1 ≤ n)
    makes_held = record {
      at_most = λ h x n. always_at_most h n (plan h x) (buffers h x);
      at_most_at_stop = λ h stop. at_most_at_stop h (kept h) stop (is_held h);
      no_fewer = λ h x low. always_no_fewer h low (plan h x) (buffers h x);
      no_fewer_at_end = λ h. few_at_end_before_stop h (kept h) (is_held h);
      no_fewer_at_failure = λ h e low. few_at_failure (kept h) e _ _;
    }

    pub one_held_hold : {S : Type 0} (m : Contract S X E) → HintsHold m.steps m.hints m.sound → HintsHold (λ p r q. stage_step stop_comes (plan_meets call plan (λ h stop. (before_stop (kept h) stop, empty h))) m.steps p r q) (plan_hint m (λ h due hints k. hint_unless_end (λ j. (min (j.0 + held h) 1, fitting_sum j.1 (Some (held h)))) due hints k)) (held_sound m (λ h j. (min (j.0 + held h) 1, fitting_sum j.1 (Some (held h)))))
    one_held_hold m holds = held_hold call plan (λ h stop. (before_stop (kept h) stop, empty h)) (λ h n. n + held h) (λ h low n. min (low + held h) 1 ≤ n) (λ h n. min (n + held h) 1) (λ h o. fitting_sum o (Some (held h))) (λ h o n le. if_some_fitting_sum_at_least_both o (Some (held h)) n (held h) (n + held h) (omega arith) le (omega arith)) (λ h n k few. few) makes_held m holds
