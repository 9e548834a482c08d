-- The contracts of the adapters whose closure is called on failures are lawful where the source's is.
use Rattle.std.specs.Prelude.{◌≡◌, ℕ, Option, List, [], ◌∷◌, map, Some, None, Ok, Err}
use Rattle.std.proofs.Common.{refl, sym, ap, subst, arith, inl, inr}
use Rattle.std.specs.Iterator.{IsFinite, size}
use Rattle.fallible_contract.specs.Traces.{Answered}
use Rattle.fallible_contract.specs.Sound.{SoundWhere, HintsHold, as_source}
use Rattle.fallible_contract.specs.Laws.Sound.{own_hold, hold_within, hold_nothing_said}
use Rattle.fallible_contract.specs.Contract.{Contract, OnAnswer, KeptByDraw, Lawful}
use Rattle.fallible_contract.specs.Closures.{Reaches, IsCallable}
use Rattle.fallible_contract.specs.Ends.{Ends, from_back, ends_of, LawfulEnds}
use Rattle.fallible_contract.specs.Exchange.{exchanged, steps_exchanged}
use Rattle.fallible_contract.specs.Failing.{failing_outcome, FailingTrace, failing_step, FailingAnswer, replaces_all, failing_contract, exchanged_contract, outcome_exchanged, recovering_contract}
use Rattle.fallible_contract.specs.Laws.Closures.{reaches_reflexive, reaches_by_call_first, is_callable_after, may_answer_of_call, may_answer_where_reached_may_answer}
use Rattle.fallible_contract.specs.Laws.Exchange.{exchanged_twice, exchanged_traced}
use Rattle.fallible_contract.specs.Laws.Contract.{lawful_with_sound}
use Rattle.fallible_contract.specs.Laws.LawForm.{IsByAnswers, is_by_answers_renamed, run_at_one_answer_iff_law, IsTraced, iff_of_two}
use Rattle.fallible_contract.specs.Laws.Passing.{Passes, done, end_passes, failure_passes, keeps, refuses, closes, leaves_out, passes_of_pass_trace, passing_by_answers, passes_over_all, lawful_leaving_out}
use Rattle.fallible_contract.specs.declared.passing.Outcome.{Outcome}

module _ {S F X D E : Type 0} (steps : S → Answered X D → S → Type 0) (call : F → D → E → F → Type 0) where
  -- one answer of the source, and what becomes of it
  abbrev DrawnOnce : S → F → Answered X E → S → F → Type 0
  DrawnOnce s f r t g = (drawn : Answered X D) × steps s drawn t × FailingAnswer call f drawn r g

  drawn_once_of_passes : (s t : S) (f g : F) (r : Answered E X) → Passes (steps_exchanged steps) call failing_outcome s f (r ∷ []) t g → DrawnOnce s f (exchanged r) t g
  drawn_once_of_passes s t f _ _ (end_passes step done) = (Ok None, step, (refl, refl))
  drawn_once_of_passes s t f _ _ (failure_passes x step done) = (Ok (Some x), step, (refl, refl))
  drawn_once_of_passes s t f g _ (keeps d e y step called is done) = (Err d, step, (e, called, (let same : e ≡ y = cc in ap (λ (v : E). Err v) (sym same))))
  drawn_once_of_passes s t f g _ (refuses d e x step called is rest) = absurd cc
  drawn_once_of_passes s t f g _ (closes d e step called is rest) = absurd cc
  drawn_once_of_passes s t f g r (leaves_out d e step called is rest) = absurd cc

  -- a trace of one answer is one draw
  pub drawn_once_of_trace : (p q : S × F) (r : Answered X E) → FailingTrace steps call p (r ∷ []) q → DrawnOnce p.0 p.1 r q.0 q.1
  drawn_once_of_trace p q r trace = subst (λ (a : Answered X E). DrawnOnce p.0 p.1 a q.0 q.1) (exchanged_twice r) (drawn_once_of_passes p.0 q.0 p.1 q.1 (exchanged r) (passes_of_pass_trace trace))

-- what is no failure was drawn so
drawn_is_ok_where_failing_answer_is_ok : {F X D E : Type 0} (call : F → D → E → F → Type 0) (f g : F) (o : Option X) (drawn : Answered X D) → FailingAnswer call f drawn (Ok o) g → drawn ≡ Ok o
drawn_is_ok_where_failing_answer_is_ok call f g o (Ok v) made = let same : v ≡ o = (let e = made.0 in cc) in ap (λ z. Ok z) same
drawn_is_ok_where_failing_answer_is_ok call f g o (Err d) made = absurd (let e = made.2 in cc)

module _ {S F X D E : Type 0} (steps : S → Answered X D → S → Type 0) (call : F → D → E → F → Type 0) where
  -- an item comes of an item, and an end of an end
  pub source_step_of_failing_step : (p q : S × F) (o : Option X) → failing_step steps call p (Ok o) q → steps p.0 (Ok o) q.0
  source_step_of_failing_step p q o step = let d = drawn_once_of_trace steps call p q (Ok o) step in subst (λ (r : Answered X D). steps p.0 r q.0) (drawn_is_ok_where_failing_answer_is_ok call p.1 q.1 o d.0 d.2) d.1

  -- so its hints are as sound as the source's
  failing_hold : {hints : S → ℕ × Option ℕ → Type 0} {w : SoundWhere S} → HintsHold steps hints w → HintsHold (failing_step steps call) (λ p h. hints p.0 h) (as_source (λ p. p.0) w)
  failing_hold holds = hold_within (λ (p : S × F). p.0) (failing_step steps call) steps (λ p o q step. source_step_of_failing_step p q o step) holds

module _ {S F X D E : Type 0} (m : Contract S X D) (l : Lawful m) (call : F → D → E → F → Type 0) (takes : F → D → Type 0) where
  abbrev FailingContract : Contract (S × F) X E
  FailingContract = failing_contract m call takes

  reaches_by_failing_answer : (s t : S) (f h : F) (r : Answered X E) (drawn : Answered X D) → OnAnswer m s drawn t → FailingAnswer call f drawn r h → Reaches call (m.may_fail s) f h
  reaches_by_failing_answer s t f h r (Ok v) a made = subst (λ (k : F). Reaches call (m.may_fail s) f k) (sym made.1) reaches_reflexive
  reaches_by_failing_answer s t f h r (Err d) a made = reaches_by_call_first d made.0 a.0 made.1 reaches_reflexive

  on_answer_failing_of_drawn : (s t : S) (f h : F) (r : Answered X E) (drawn : Answered X D) → OnAnswer m s drawn t → FailingAnswer call f drawn r h → OnAnswer FailingContract (s, f) r (t, h)
  on_answer_failing_of_drawn s t f h r (Ok (Some x)) a made = subst (λ (q : Answered X E). OnAnswer FailingContract (s, f) q (t, h)) (sym made.0) a
  on_answer_failing_of_drawn s t f h r (Ok None) a made = subst (λ (q : Answered X E). OnAnswer FailingContract (s, f) q (t, h)) (sym made.0) a
  on_answer_failing_of_drawn s t f h r (Err d) a made = subst (λ (q : Answered X E). OnAnswer FailingContract (s, f) q (t, h)) (sym made.2) (may_answer_of_call h d made.0 a.0 made.1 refl, a.1, a.2)

  kept_by_draw_failing : (p : S × F) (r : Answered X E) (q : S × F) → FailingContract.can_next p → FailingContract.steps p r q → KeptByDraw FailingContract p r q
  kept_by_draw_failing (s, f) r (t, h) c step =
      let d = drawn_once_of_trace m.steps call (s, f) (t, h) r step in
      let a = l.kept_by_draw s d.0 t c.0 d.1 in
      let reached = reaches_by_failing_answer s t f h r d.0 a.answer d.2 in
      record { can_next = (a.can_next, is_callable_after a.may_fail reached c.1); is_finite = a.is_finite; answer = on_answer_failing_of_drawn s t f h r d.0 a.answer d.2; may_give = a.may_give; may_fail = λ e k. may_answer_where_reached_may_answer a.may_fail reached k; lenders = a.lenders }

pub failing_by_answers : {S F X D E : Type 0} (steps : S → Answered X D → S → Type 0) (call : F → D → E → F → Type 0) → IsByAnswers (FailingTrace steps call)
failing_by_answers steps call = is_by_answers_renamed exchanged (passing_by_answers (steps_exchanged steps) call failing_outcome)

pub failing_traced : {S F X D E : Type 0} {steps : S → Answered X D → S → Type 0} {traces : S → List (Answered X D) → S → Type 0} → IsTraced steps traces → (call : F → D → E → F → Type 0) → IsTraced (λ p r q. FailingTrace steps call p (r ∷ []) q) (replaces_all traces call)
failing_traced {steps = steps} law call p trace q = iff_of_two (run_at_one_answer_iff_law _ (failing_by_answers steps call) p trace q) (passes_over_all (exchanged_traced law) call failing_outcome p (map exchanged trace) q)

pub lawful_failing : {S F X D E : Type 0} {m : Contract S X D} (call : F → D → E → F → Type 0) (takes : F → D → Type 0) → Lawful m → Lawful (failing_contract m call takes)
lawful_failing {m = m} call takes l = record { kept_by_draw = kept_by_draw_failing m l call takes; bounded = λ p. l.bounded p.0; traced = failing_traced l.traced call; hold = failing_hold m.steps call l.hold }

pub lawful_ends_failing : {S F X D E : Type 0} {m : Contract S X D} {e : Ends S X D} (call : F → D → E → F → Type 0) (takes : F → D → Type 0) → LawfulEnds m e → LawfulEnds (failing_contract m call takes) (ends_of (failing_contract (from_back m e) call takes))
lawful_ends_failing call takes l = record {
  front_can = λ p c. (l.front_can p.0 c.0, is_callable_after (l.may_fail p.0) reaches_reflexive c.1);
  may_give = λ p x h. l.may_give p.0 x h;
  may_fail = λ p d h. may_answer_where_reached_may_answer (l.may_fail p.0) reaches_reflexive h;
  front = lawful_failing call takes l.front;
  back = lawful_failing call takes l.back;
}

-- ---- items and failures exchanged

module _ {S A E : Type 0} (m : Contract S A E) where
  on_answer_exchanged : (s t : S) (r : Answered E A) → (m.is_finite s → m.is_finite t) → OnAnswer m s (exchanged r) t → OnAnswer (exchanged_contract m) s r t
  on_answer_exchanged s t (Ok (Some e)) still h = (h.0, (λ n b. let k = h.2 b.1 in (size (m.remaining t), (still b.0, k.0, omega arith), omega (arith, k.1, b.2))), h.2)
  on_answer_exchanged s t (Ok None) still h = ((λ n b. let k = h.1 b.1 in (size (m.remaining t), (still b.0, k.0, omega arith), omega (arith, k.1, b.2))), h.1)
  on_answer_exchanged s t (Err x) still h = (h.0, (λ n b. let k = h.2 b.1 in (size (m.remaining t), (still b.0, k.0, omega arith), omega (arith, k.1, b.2))), h.2)

  is_finite_after : (s t : S) (r : Answered A E) → OnAnswer m s r t → IsFinite (m.remaining s) → IsFinite (m.remaining t)
  is_finite_after s t (Ok (Some x)) h f = (h.2 f).0
  is_finite_after s t (Ok None) h f = (h.1 f).0
  is_finite_after s t (Err e) h f = (h.2 f).0

  kept_by_draw_exchanged : (s t : S) (r : Answered E A) → KeptByDraw m s (exchanged r) t → KeptByDraw (exchanged_contract m) s r t
  kept_by_draw_exchanged s t r g = record { can_next = g.can_next; is_finite = λ f. (g.is_finite f.0, is_finite_after s t (exchanged r) g.answer f.1); answer = on_answer_exchanged s t r g.is_finite g.answer; may_give = g.may_fail; may_fail = g.may_give; lenders = g.lenders }

pub lawful_exchanged : {S A E : Type 0} {m : Contract S A E} → Lawful m → Lawful (exchanged_contract m)
lawful_exchanged {m = m} l = record {
  kept_by_draw = λ s r t c step. kept_by_draw_exchanged m s t r (l.kept_by_draw s (exchanged r) t c step);
  bounded = λ s. ((λ f. (size (m.remaining s), (f.0, f.1, omega arith))), (λ b. (b.1.0, b.1.1)));
  traced = exchanged_traced l.traced;
  hold = own_hold;
}

-- ---- where a failure may become an item

pub lawful_recovering : {S F X D V E : Type 0} {m : Contract S X D} (call : F → D → V → F → Type 0) (takes : F → D → Type 0) (outcome : D → V → Outcome X E) → Lawful m → Lawful (recovering_contract m call takes outcome)
lawful_recovering {m = m} call takes outcome l = lawful_with_sound hold_nothing_said (lawful_exchanged (lawful_leaving_out call (λ P f. IsCallable call takes P f) (λ d v. outcome_exchanged (outcome d v)) (λ p h. h ≡ (0, None)) (λ P Q f h weak reached c. is_callable_after weak reached c) (lawful_exchanged l)))

pub lawful_ends_recovering : {S F X D V E : Type 0} {m : Contract S X D} {e : Ends S X D} (call : F → D → V → F → Type 0) (takes : F → D → Type 0) (outcome : D → V → Outcome X E) → LawfulEnds m e → LawfulEnds (recovering_contract m call takes outcome) (ends_of (recovering_contract (from_back m e) call takes outcome))
lawful_ends_recovering call takes outcome l = record {
  front_can = λ p c. (c.0, (l.front_can p.0 c.1.0, is_callable_after (l.may_fail p.0) reaches_reflexive c.1.1));
  may_give = λ p x h. elim h [ inl b ↦ inl (l.may_give p.0 x b) | inr b ↦ inr (may_answer_where_reached_may_answer (l.may_fail p.0) reaches_reflexive b) ];
  may_fail = λ p d h. may_answer_where_reached_may_answer (l.may_fail p.0) reaches_reflexive h;
  front = lawful_recovering call takes outcome l.front;
  back = lawful_recovering call takes outcome l.back;
}
