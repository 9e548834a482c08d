-- The contracts of the adapters of failures are lawful where the source's is.
use Rattle.std.specs.Prelude.{Option, Result, ⊤, List, ◌≡◌, ◌⊎◌, ℕ, Bool, false, true, zero, suc, ◌+◌, ◌≤◌, [], ◌∷◌, map, Some, None, Ok, Err}
use Rattle.std.specs.Borrow.{Bor}
use Rattle.std.specs.Fn.{Mut}
use Rattle.std.proofs.Common.{◌∙◌, ap, inl, inr, refl, subst, sym, arith}
use Rattle.fallible_iterator.specs.Closing.{closing_step, closing_hints}
use Rattle.fallible_iterator.specs.Closures.{IsCallable, call_by_value, takes_by_reference, takes_by_value}
use Rattle.fallible_iterator.specs.Contract.{Contract, KeptByDraw, Lawful, AtMost, OnAnswer}
use Rattle.fallible_iterator.specs.Cutting.Take.{take_step}
use Rattle.fallible_iterator.specs.Ends.{Ends, from_back, ends_of, LawfulEnds}
use Rattle.fallible_iterator.specs.Exchange.{exchanged, steps_exchanged}
use Rattle.fallible_iterator.specs.Failing.{failing_contract}
use Rattle.fallible_iterator.specs.Sound.{HintsHold, SoundWhere, as_source, sound_once}
use Rattle.fallible_iterator.specs.Traces.{Answered, end, item, Run, items_in}
use Rattle.fallible_iterator.specs.Laws.Closing.{lawful_closing}
use Rattle.fallible_iterator.specs.Laws.Contract.{lawful_with_traces, lawful_with_sound}
use Rattle.fallible_iterator.specs.Laws.Cutting.Take.{take_traced}
use Rattle.fallible_iterator.specs.Laws.Exchange.{exchanged_traced, exchanged_twice}
use Rattle.fallible_iterator.specs.Laws.Failing.{lawful_failing, lawful_ends_failing, lawful_recovering, lawful_ends_recovering}
use Rattle.fallible_iterator.specs.Laws.Hints.Brackets.{AsSound, Brackets}
use Rattle.fallible_iterator.specs.Laws.Hints.Cutting.{brackets_closed}
use Rattle.fallible_iterator.specs.Laws.Hints.Drawn.{OneOfOne, as_sound_where_one_of_one, brackets_zero_where_no_item}
use Rattle.fallible_iterator.specs.Laws.Hints.Holding.{hold_once}
use Rattle.fallible_iterator.specs.Laws.LawForm.{IsTraced}
use Rattle.fallible_iterator.proofs.Lemmas.Closing.{closing_folds_iff_drawn_to_close}
use Rattle.fallible_itertools_adapters.specs.Failing.{FuseAtFailureTrace, convert_call, err_into_contract, fuse_at_failure_contract, inspect_err_contract, is_failure, or_else_contract, or_else_outcome, seen_call, StopAfterTrace, stop_after_contract, stop_after_step, stop_after_hints}

-- ---- The contract of `ErrInto` is lawful where the source's is

module _ {D E : Type 0} (from : D → E → Type 0) where
  -- a conversion may be made of any failure
  pub convert_call_is_callable : {P : D → Type 0} {u : Unit {0}} → IsCallable (convert_call from) (λ v d. ⊤) P u
  convert_call_is_callable = record { at = λ v d reached given. tt }

  module _ {S X : Type 0} where
    kept_by_draw_converted : (m : Contract S X D) → Lawful (failing_contract m (convert_call from) (λ u d. ⊤)) → (p : S × Unit {0}) (r : Answered X E) (q : S × Unit {0}) → m.can_next p.0 → (err_into_contract from m).steps p r q → KeptByDraw (err_into_contract from m) p r q
    kept_by_draw_converted m l p r q can step = let k = l.kept_by_draw p r q (can, convert_call_is_callable) step in record { can_next = k.can_next.0; is_finite = k.is_finite; answer = k.answer; may_give = k.may_give; may_fail = k.may_fail; lenders = k.lenders }

    pub lawful_err_into : {m : Contract S X D} → Lawful m → Lawful (err_into_contract from m)
    lawful_err_into {m = m} l = let f = lawful_failing (convert_call from) (λ u d. ⊤) l in record { kept_by_draw = kept_by_draw_converted m f; bounded = f.bounded; traced = f.traced; hold = f.hold }

    pub lawful_ends_err_into : {m : Contract S X D} {e : Ends S X D} → LawfulEnds m e → LawfulEnds (err_into_contract from m) (ends_of (err_into_contract from (from_back m e)))
    lawful_ends_err_into l = let f = lawful_ends_failing (convert_call from) (λ u d. ⊤) l in record {
      front_can = λ p c. l.front_can p.0 c;
      may_give = λ p x h. l.may_give p.0 x h;
      may_fail = λ p d h. f.may_fail p d h;
      front = lawful_err_into l.front;
      back = lawful_err_into l.back;
    }

-- ---- The contract of `InspectErr` is lawful where the source's is

pub lawful_inspect_err : {S F X D : Type 0} {m : Contract S X D} (g : Mut F (Bor D × Unit {0}) (Unit {0})) → Lawful m → Lawful (inspect_err_contract m g)
lawful_inspect_err g l = lawful_failing (seen_call g) (takes_by_reference g) l

pub lawful_ends_inspect_err : {S F X D : Type 0} {m : Contract S X D} {e : Ends S X D} (g : Mut F (Bor D × Unit {0}) (Unit {0})) → LawfulEnds m e → LawfulEnds (inspect_err_contract m g) (ends_of (inspect_err_contract (from_back m e) g))
lawful_ends_inspect_err g l = lawful_ends_failing (seen_call g) (takes_by_reference g) l

-- ---- The contract of `OrElse` is lawful where the source's is

pub lawful_or_else : {S F X D E : Type 0} {m : Contract S X D} (g : Mut F (D × Unit {0}) (Result (Option X) E)) → Lawful m → Lawful (or_else_contract m g)
lawful_or_else g l = lawful_recovering (call_by_value g) (takes_by_value g) or_else_outcome l

pub lawful_ends_or_else : {S F X D E : Type 0} {m : Contract S X D} {e : Ends S X D} (g : Mut F (D × Unit {0}) (Result (Option X) E)) → LawfulEnds m e → LawfulEnds (or_else_contract m g) (ends_of (or_else_contract (from_back m e) g))
lawful_ends_or_else g l = lawful_ends_recovering (call_by_value g) (takes_by_value g) or_else_outcome l

-- ---- The runs of `FuseAtFailure` are its definition, and its contract is lawful where the source's is

pub fuse_at_failure_traced : {S A E : Type 0} {steps : S → Answered A E → S → Type 0} {traces : S → List (Answered A E) → S → Type 0} → IsTraced steps traces → IsTraced (closing_step steps (λ r. r) is_failure) (FuseAtFailureTrace traces)
fuse_at_failure_traced {steps = steps} law p trace q = let both = closing_folds_iff_drawn_to_close steps (λ r. r) is_failure p.0 p.1 trace q.0 q.1 in ((λ h. let d = both.0 h in (d.0, (law p.0 d.0 q.0).0 d.1, d.2)), (λ d. both.1 (d.0, (law p.0 d.0 q.0).1 d.1, d.2)))

-- ---- where its hint is sound

module _ {S A E : Type 0} (steps : S → Answered A E → S → Type 0) where
  abbrev FuseStep : S × Bool → Answered A E → S × Bool → Type 0
  FuseStep = closing_step steps (λ r. r) is_failure

  source_gives_item_where_open_gives : (p q : S × Bool) (x : A) → p.1 ≡ false → FuseStep p (item x) q → (y : A) × steps p.0 (item y) q.0 × (q.1 ≡ false)
  source_gives_item_where_open_gives (s, true) q x e w = absurd cc
  source_gives_item_where_open_gives (s, false) q x e w = (x, subst (λ (r : Answered A E). steps s r q.0) (sym w.2) w.1, w.3 ∙ ap is_failure (sym w.2))

  source_ends_where_open_ends : (p q : S × Bool) → p.1 ≡ false → FuseStep p end q → steps p.0 end q.0
  source_ends_where_open_ends (s, true) q e w = absurd cc
  source_ends_where_open_ends (s, false) q e w = subst (λ (r : Answered A E). steps s r q.0) (sym w.2) w.1

  one_of_one_fuse_at_failure : OneOfOne FuseStep steps (λ p. p.0) (λ p. p.1 ≡ false)
  one_of_one_fuse_at_failure = record { item_of_item = λ p q x e w. source_gives_item_where_open_gives p q x e w; end_of_end = λ p q e w. source_ends_where_open_ends p q e w }

  module _ {hints : S → ℕ × Option ℕ → Type 0} {w : SoundWhere S} (holds : HintsHold steps hints w) where
    failed_or_open : (p : S × Bool) (h : ℕ × Option ℕ) → closing_hints hints p h → Brackets FuseStep p h ⊎ (((p.1 ≡ true) → ⊥) × hints p.0 h × AsSound FuseStep p h steps p.0 h)
    failed_or_open (s, true) h is = inl (brackets_closed steps (λ r. r) is_failure hints (s, true) h refl is)
    failed_or_open (s, false) h is = inr ((λ e. absurd cc), is, as_sound_where_one_of_one _ _ _ _ one_of_one_fuse_at_failure (s, false) refl h)

    fuse_at_failure_hold : HintsHold FuseStep (closing_hints hints) (sound_once (λ p. p.1 ≡ true) (as_source (λ p. p.0) w))
    fuse_at_failure_hold = hold_once FuseStep (closing_hints hints) holds (λ p. p.0) (λ p. p.1 ≡ true) failed_or_open

pub lawful_fuse_at_failure : {S A E : Type 0} {m : Contract S A E} → Lawful m → Lawful (fuse_at_failure_contract m)
lawful_fuse_at_failure {m = m} l = lawful_with_sound (fuse_at_failure_hold m.steps l.hold) (lawful_with_traces (FuseAtFailureTrace m.traces) (fuse_at_failure_traced l.traced) (lawful_closing m.steps (λ r. r) is_failure l.kept_by_draw l))

-- ---- The runs of `StopAfter` are its definition, and its contract is lawful where the source's is

module _ {S A E : Type 0} (m : Contract S A E) where
  abbrev StopAfterContract : Contract (S × (ℕ × ℕ)) A E
  StopAfterContract = stop_after_contract m

  -- the bound that is at most k, after an answer
  bound_within_where_at_most : (s : S) (k : ℕ) → AtMost m s k → (n : ℕ) × m.bound s n × (n ≤ k)
  bound_within_where_at_most s k b = elim b [ inl h ↦ (k, h, omega arith) | inr h ↦ h ]

  within_after : (s t : S) (r : Answered A E) (k i : ℕ) → i + items_in (r ∷ []) ≡ k → (n : ℕ) × m.bound s n × (n ≤ k) → OnAnswer m s r t → AtMost m t i
  within_after s t (Ok (Some x)) k i e b a = let d = a.1 b.0 b.1 in inr (d.0, d.1, omega (arith, e, b.2, d.2))
  within_after s t (Ok None) k i e b a = let d = a.0 b.0 b.1 in inr (d.0, d.1, omega (arith, e, b.2, d.2))
  within_after s t (Err f) k i e b a = let d = a.1 b.0 b.1 in inr (d.0, d.1, omega (arith, e, b.2, d.2))

  on_answer_stop_after : (s t : S) (r : Answered A E) (n k j i : ℕ) → j + items_in (exchanged r ∷ []) ≡ suc n → i + items_in (r ∷ []) ≡ k → OnAnswer m s r t → OnAnswer StopAfterContract (s, (suc n, k)) r (t, (j, i))
  on_answer_stop_after s t (Ok (Some x)) n k j i d e a = (a.0, a.1, λ f. (f, omega (arith, d, e)))
  on_answer_stop_after s t (Ok None) n k j i d e a = (a.0, λ f. (f, omega (arith, d, e)))
  on_answer_stop_after s t (Err f) n k j i d e a = (a.0, a.1, λ f. (f, omega (arith, d, e)))

  kept_by_draw_over : (s : S) (k : ℕ) → StopAfterContract.can_next (s, (zero, k)) → KeptByDraw StopAfterContract (s, (zero, k)) end (s, (zero, k))
  kept_by_draw_over s k c = record { can_next = c; is_finite = λ e. e; answer = ((λ n b. (n, b, omega arith)), (λ f. (f, omega arith))); may_give = λ x p. p; may_fail = λ e p. p; lenders = refl }

  kept_by_draw_stop_after : Lawful m → (p : S × (ℕ × ℕ)) (r : Answered A E) (q : S × (ℕ × ℕ)) → StopAfterContract.can_next p → StopAfterContract.steps p r q → KeptByDraw StopAfterContract p r q
  kept_by_draw_stop_after l (s, (zero, k)) r (t, left) c step = rw (step.0, step.1, step.2) (kept_by_draw_over s k c)
  kept_by_draw_stop_after l (s, (suc n, k)) r (t, left) c step = let a = l.kept_by_draw s r t c.0 step.0 in record {
    can_next = (a.can_next, within_after s t r k left.1 step.2 (bound_within_where_at_most s k c.1) a.answer);
    is_finite = a.is_finite;
    answer = on_answer_stop_after s t r n k left.0 left.1 step.1 step.2 a.answer;
    may_give = a.may_give;
    may_fail = a.may_fail;
    lenders = a.lenders;
  }

-- ---- whole traces

module _ {S A E : Type 0} (steps : S → Answered A E → S → Type 0) where
  abbrev State : Type 0
  State = S × (ℕ × ℕ)

  abbrev StopAfterStep : State → Answered A E → State → Type 0
  StopAfterStep = stop_after_step steps

  -- a step of it is one of `Take` over the source with items and failures exchanged
  abbrev TakeStep : S × ℕ → Answered E A → S × ℕ → Type 0
  TakeStep = take_step (steps_exchanged steps)

  take_step_of_stop_after_step : (p q : State) (r : Answered A E) → StopAfterStep p r q → TakeStep (p.0, p.1.0) (exchanged r) (q.0, q.1.0) × (q.1.1 + items_in (r ∷ []) ≡ p.1.1)
  take_step_of_stop_after_step (s, (zero, k)) q r w = ((ap exchanged w.0, w.1, ap (λ p. p.0) w.2), rw (w.0, w.2) (omega arith))
  take_step_of_stop_after_step (s, (suc n, k)) q r w = ((subst (λ (a : Answered A E). steps s a q.0) (sym (exchanged_twice r)) w.0, w.1), w.2)

  stop_after_step_of_take_step : (p q : State) (r : Answered A E) → TakeStep (p.0, p.1.0) (exchanged r) (q.0, q.1.0) → q.1.1 + items_in (r ∷ []) ≡ p.1.1 → StopAfterStep p r q
  stop_after_step_of_take_step (s, (zero, k)) (t, (j, i)) r w e = let is : r ≡ end = sym (exchanged_twice r) ∙ ap exchanged w.0 in let none : items_in (r ∷ []) ≡ 0 = ap (λ (a : Answered A E). items_in (a ∷ [])) is in let same : i ≡ k = omega (arith, e, none) in (is, w.1, rw (w.2, same) refl)
  stop_after_step_of_take_step (s, (suc n, k)) q r w e = (subst (λ (a : Answered A E). steps s a q.0) (exchanged_twice r) w.0, w.1, e)

  first_and_rest : (r : Answered A E) (rest : List (Answered A E)) → items_in (r ∷ rest) ≡ items_in (r ∷ []) + items_in rest
  first_and_rest (Ok (Some x)) rest = omega arith
  first_and_rest (Ok None) rest = omega arith
  first_and_rest (Err e) rest = omega arith

  take_run_of_stop_after_run : (trace : List (Answered A E)) (p q : State) → Run StopAfterStep p trace q → Run TakeStep (p.0, p.1.0) (map exchanged trace) (q.0, q.1.0) × (q.1.1 + items_in trace ≡ p.1.1)
  take_run_of_stop_after_run [] p q e = (ap (λ (p : State). (p.0, p.1.0)) e, let same : p.1.1 ≡ q.1.1 = ap (λ (p : State). p.1.1) e in omega (arith, same))
  take_run_of_stop_after_run (r ∷ rest) p q h = let d = take_step_of_stop_after_step p h.0 r h.1 in let k = take_run_of_stop_after_run rest h.0 q h.2 in (((h.0.0, h.0.1.0), d.0, k.0), omega (arith, first_and_rest r rest, d.1, k.1))

  stop_after_run_of_take_run : (trace : List (Answered A E)) (p q : State) → Run TakeStep (p.0, p.1.0) (map exchanged trace) (q.0, q.1.0) → q.1.1 + items_in trace ≡ p.1.1 → Run StopAfterStep p trace q
  stop_after_run_of_take_run [] (s, (n, k)) (t, (j, i)) e c = let same : i ≡ k = omega (arith, c) in rw (ap (λ (p : S × ℕ). p.0) e, ap (λ (p : S × ℕ). p.1) e, same) refl
  stop_after_run_of_take_run (r ∷ rest) p q h c = let u : State = (h.0.0, (h.0.1, q.1.1 + items_in rest)) in (u, stop_after_step_of_take_step p u r h.1 (omega (arith, c, first_and_rest r rest)), stop_after_run_of_take_run rest u q h.2 refl)

  pub stop_after_traced : {traces : S → List (Answered A E) → S → Type 0} → IsTraced steps traces → IsTraced (stop_after_step steps) (StopAfterTrace traces)
  stop_after_traced law p trace q = let both = take_traced (exchanged_traced law) (p.0, p.1.0) (map exchanged trace) (q.0, q.1.0) in
      ((λ h. let k = take_run_of_stop_after_run trace p q h in (both.0 k.0, k.1)), (λ d. stop_after_run_of_take_run trace p q (both.1 d.0) d.1))

-- ---- where its hint is sound

module _ {S A E : Type 0} (steps : S → Answered A E → S → Type 0) where
  abbrev StepOfHint : S × (ℕ × ℕ) → Answered A E → S × (ℕ × ℕ) → Type 0
  StepOfHint = stop_after_step steps

  source_gives_item_where_step_does : (p q : S × (ℕ × ℕ)) (x : A) → 1 ≤ p.1.0 → StepOfHint p (item x) q → (y : A) × steps p.0 (item y) q.0 × (1 ≤ q.1.0)
  source_gives_item_where_step_does (s, (zero, k)) q x some w = absurd (omega (arith, some))
  source_gives_item_where_step_does (s, (suc n, k)) q x some w = (x, w.0, omega (arith, w.1))

  source_ends_where_step_does : (p q : S × (ℕ × ℕ)) → 1 ≤ p.1.0 → StepOfHint p end q → steps p.0 end q.0
  source_ends_where_step_does (s, (zero, k)) q some w = absurd (omega (arith, some))
  source_ends_where_step_does (s, (suc n, k)) q some w = w.0

  as_sound_stop_after : (p : S × (ℕ × ℕ)) (h : ℕ × Option ℕ) → 1 ≤ p.1.0 → AsSound StepOfHint p h steps p.0 h
  as_sound_stop_after p h some = as_sound_where_one_of_one StepOfHint steps (λ p. p.0) (λ p. 1 ≤ p.1.0) (record { item_of_item = source_gives_item_where_step_does; end_of_end = source_ends_where_step_does }) p some h

  no_item_once_stopped : (p q : S × (ℕ × ℕ)) (x : A) → p.1.0 ≡ 0 → StepOfHint p (item x) q → ⊥
  no_item_once_stopped (s, (zero, k)) q x none w = let d = w.0 in cc
  no_item_once_stopped (s, (suc n, k)) q x none w = omega (arith, none)

module _ {S A E : Type 0} (m : Contract S A E) where
  hint_is_of_source_before_stop : (p : S × (ℕ × ℕ)) (h : ℕ × Option ℕ) → 1 ≤ p.1.0 → stop_after_hints m p h → m.hints p.0 h
  hint_is_of_source_before_stop (s, (zero, k)) h some is = absurd (omega (arith, some))
  hint_is_of_source_before_stop (s, (suc n, k)) h some is = is

  hint_is_zero_once_stopped : (p : S × (ℕ × ℕ)) (h : ℕ × Option ℕ) → p.1.0 ≡ 0 → stop_after_hints m p h → h ≡ (0, Some 0)
  hint_is_zero_once_stopped (s, (zero, k)) h none is = is
  hint_is_zero_once_stopped (s, (suc n, k)) h none is = absurd (omega (arith, none))

  brackets_once_stopped : (p : S × (ℕ × ℕ)) (h : ℕ × Option ℕ) → p.1.0 ≡ 0 → stop_after_hints m p h → Brackets (stop_after_step m.steps) p h
  brackets_once_stopped p h none is = subst (λ (j : ℕ × Option ℕ). Brackets (stop_after_step m.steps) p j) (sym (hint_is_zero_once_stopped p h none is)) (brackets_zero_where_no_item (stop_after_step m.steps) p (λ x q w. no_item_once_stopped m.steps p q x none w))

  stopped_or_open : (p : S × (ℕ × ℕ)) (h : ℕ × Option ℕ) → stop_after_hints m p h → Brackets (stop_after_step m.steps) p h ⊎ (((p.1.0 ≡ 0) → ⊥) × m.hints p.0 h × AsSound (stop_after_step m.steps) p h m.steps p.0 h)
  stopped_or_open (s, (zero, k)) h is = inl (brackets_once_stopped (s, (zero, k)) h refl is)
  stopped_or_open (s, (suc n, k)) h is = inr ((λ e. absurd cc), is, as_sound_stop_after m.steps (s, (suc n, k)) h (omega arith))

  stop_after_hold : HintsHold m.steps m.hints m.sound → HintsHold (stop_after_step m.steps) (stop_after_hints m) (sound_once (λ p. p.1.0 ≡ 0) (as_source (λ p. p.0) m.sound))
  stop_after_hold holds = hold_once (stop_after_step m.steps) (stop_after_hints m) holds (λ p. p.0) (λ p. p.1.0 ≡ 0) stopped_or_open

pub lawful_stop_after : {S A E : Type 0} {m : Contract S A E} → Lawful m → Lawful (stop_after_contract m)
lawful_stop_after {m = m} l = record { kept_by_draw = kept_by_draw_stop_after m l; bounded = λ p. l.bounded p.0; traced = stop_after_traced m.steps l.traced; hold = stop_after_hold m l.hold }
