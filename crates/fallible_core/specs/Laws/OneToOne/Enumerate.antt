-- The contract of `Enumerate` is lawful where the source's is.
use Rattle.std.specs.Prelude.{◌≡◌, ℕ, ◌+◌, ⊤, List, [], ◌∷◌, Some, None, Ok, Err}
use Rattle.std.proofs.Common.{sym, subst, arith, refl, ap}
use Rattle.fallible_contract.specs.Traces.{Answered, Run, item, end, items_in}
use Rattle.fallible_contract.specs.Sound.{HintsHold, as_source}
use Rattle.fallible_contract.specs.Contract.{Contract, KeptByDraw, Lawful}
use Rattle.fallible_core.specs.Laws.Hints.Drawn.{OneOfOne, as_sound_where_one_of_one}
use Rattle.fallible_core.specs.Laws.Hints.Holding.{hold_as_source}
use Rattle.fallible_core.specs.OneToOne.Enumerate.{numbered_from, EnumerateTrace, enumerate_contract, numbers_all}
use Rattle.fallible_contract.specs.Laws.LawForm.{FirstOf, IsByAnswers, IsTraced, run_at_one_answer_iff_law, run_of_whole_list, list_is_trace}

module _ {S A E : Type 0} (steps : S → Answered A E → S → Type 0) where
  -- `EnumerateTrace`, built from the first answer on
  pub data NumberedTrace : S → ℕ → List (Answered (ℕ × A) E) → S → ℕ → Type 0 where
    numbered_none : {s : S} {n : ℕ} → NumberedTrace s n [] s n
    numbered_item : {s u t : S} {n k : ℕ} {trace : List (Answered (ℕ × A) E)} (x : A) → steps s (item x) u → NumberedTrace u (n + 1) trace t k → NumberedTrace s n (item (n, x) ∷ trace) t k
    numbered_end : {s u t : S} {n k : ℕ} {trace : List (Answered (ℕ × A) E)} → steps s (Ok None) u → NumberedTrace u n trace t k → NumberedTrace s n (Ok None ∷ trace) t k
    numbered_failure : {s u t : S} {n k : ℕ} {trace : List (Answered (ℕ × A) E)} (e : E) → steps s (Err e) u → NumberedTrace u n trace t k → NumberedTrace s n (Err e ∷ trace) t k

  numbered_trace_of_source_run : (source : List (Answered A E)) (s t : S) (n k : ℕ) → Run steps s source t → k ≡ n + items_in source → NumberedTrace s n (numbered_from n source) t k
  numbered_trace_of_source_run [] s t n k ran number_after = subst (λ (u : S). NumberedTrace s n [] u k) ran (let same : n ≡ k = omega (arith, number_after) in subst (λ (j : ℕ). NumberedTrace s n [] s j) same numbered_none)
  numbered_trace_of_source_run (Ok (Some x) ∷ rest) s t n k ran number_after = numbered_item x ran.1 (numbered_trace_of_source_run rest ran.0 t (n + 1) k ran.2 (omega (arith, number_after)))
  numbered_trace_of_source_run (Ok None ∷ rest) s t n k ran number_after = numbered_end ran.1 (numbered_trace_of_source_run rest ran.0 t n k ran.2 number_after)
  numbered_trace_of_source_run (Err e ∷ rest) s t n k ran number_after = numbered_failure e ran.1 (numbered_trace_of_source_run rest ran.0 t n k ran.2 number_after)

  pub numbered_trace_of_enumerate_trace : (s t : S) (n k : ℕ) (trace : List (Answered (ℕ × A) E)) → EnumerateTrace steps (s, n) trace (t, k) → NumberedTrace s n trace t k
  numbered_trace_of_enumerate_trace s t n k trace p = subst (λ (l : List (Answered (ℕ × A) E)). NumberedTrace s n l t k) (sym p.answers) (numbered_trace_of_source_run p.source_trace s t n k p.drawn p.number_after)

module _ {S A E : Type 0} (m : Contract S A E) (l : Lawful m) where
  abbrev EnumerateContract : Contract (S × ℕ) (ℕ × A) E
  EnumerateContract = enumerate_contract m

  kept_by_draw_numbered : (s t : S) (n k : ℕ) (r : Answered (ℕ × A) E) → EnumerateContract.can_next (s, n) → NumberedTrace m.steps s n (r ∷ []) t k → KeptByDraw EnumerateContract (s, n) r (t, k)
  kept_by_draw_numbered s t n _ _ c (numbered_item x step numbered_none) = let a = l.kept_by_draw s (item x) t c.can_next step in record {
    can_next = (let b = a.answer.1 c.bound c.bounds in record { can_next = a.can_next; bound = b.0; bounds = b.1; fits = omega (arith, b.2, c.fits) });
    is_finite = a.is_finite;
    answer = ((a.answer.0, omega arith, (λ j b. let d = a.answer.1 j b in omega (arith, d.2))), a.answer.1, a.answer.2);
    may_give = λ y h. (a.may_give y.1 h.0, omega (arith, h.1), (λ j b. let d = a.answer.1 j b in let e = h.2 d.0 d.1 in omega (arith, d.2, e)));
    may_fail = a.may_fail;
    lenders = a.lenders;
  }
  kept_by_draw_numbered s t n _ _ c (numbered_end step numbered_none) = let a = l.kept_by_draw s (Ok None) t c.can_next step in record {
    can_next = (let b = a.answer.0 c.bound c.bounds in record { can_next = a.can_next; bound = b.0; bounds = b.1; fits = omega (arith, b.2, c.fits) });
    is_finite = a.is_finite;
    answer = a.answer;
    may_give = λ y h. (a.may_give y.1 h.0, h.1, (λ j b. let d = a.answer.0 j b in let e = h.2 d.0 d.1 in omega (arith, d.2, e)));
    may_fail = a.may_fail;
    lenders = a.lenders;
  }
  kept_by_draw_numbered s t n _ _ c (numbered_failure e step numbered_none) = let a = l.kept_by_draw s (Err e) t c.can_next step in record {
    can_next = (let b = a.answer.1 c.bound c.bounds in record { can_next = a.can_next; bound = b.0; bounds = b.1; fits = omega (arith, b.2, c.fits) });
    is_finite = a.is_finite;
    answer = a.answer;
    may_give = λ y h. (a.may_give y.1 h.0, h.1, (λ j b. let d = a.answer.1 j b in let e = h.2 d.0 d.1 in omega (arith, d.2, e)));
    may_fail = a.may_fail;
    lenders = a.lenders;
  }

  kept_by_draw_enumerate : (p : S × ℕ) (r : Answered (ℕ × A) E) (q : S × ℕ) → EnumerateContract.can_next p → EnumerateContract.steps p r q → KeptByDraw EnumerateContract p r q
  kept_by_draw_enumerate (s, n) r (t, k) c step = kept_by_draw_numbered s t n k r c (numbered_trace_of_enumerate_trace m.steps s t n k (r ∷ []) step)

module _ {S A E : Type 0} (steps : S → Answered A E → S → Type 0) where
  abbrev NumberedHere : S → ℕ → List (Answered (ℕ × A) E) → S → ℕ → Type 0
  NumberedHere = NumberedTrace steps

  pub enumerate_trace_of_numbered : (s t : S) (n k : ℕ) (trace : List (Answered (ℕ × A) E)) → NumberedHere s n trace t k → EnumerateTrace steps (s, n) trace (t, k)
  enumerate_trace_of_numbered s _ n _ _ numbered_none = record { source_trace = []; drawn = refl; answers = refl; number_after = omega arith }
  enumerate_trace_of_numbered s t n k _ (numbered_item {u = u} {trace = trace} x step h) = let p = enumerate_trace_of_numbered u t (n + 1) k trace h in record { source_trace = item x ∷ p.source_trace; drawn = (u, step, p.drawn); answers = ap (λ (l : List (Answered (ℕ × A) E)). item (n, x) ∷ l) p.answers; number_after = omega (arith, p.number_after) }
  enumerate_trace_of_numbered s t n k _ (numbered_end {u = u} {trace = trace} step h) = let p = enumerate_trace_of_numbered u t n k trace h in record { source_trace = Ok None ∷ p.source_trace; drawn = (u, step, p.drawn); answers = ap (λ (l : List (Answered (ℕ × A) E)). Ok None ∷ l) p.answers; number_after = p.number_after }
  enumerate_trace_of_numbered s t n k _ (numbered_failure {u = u} {trace = trace} e step h) = let p = enumerate_trace_of_numbered u t n k trace h in record { source_trace = Err e ∷ p.source_trace; drawn = (u, step, p.drawn); answers = ap (λ (l : List (Answered (ℕ × A) E)). Err e ∷ l) p.answers; number_after = p.number_after }

  same_state_where_nothing_numbered : (s t : S) (n k : ℕ) → NumberedHere s n [] t k → ◌≡◌ {A = S × ℕ} (s, n) (t, k)
  same_state_where_nothing_numbered s _ n _ numbered_none = refl

  numbered_of_first_and_rest : (s u t : S) (n j k : ℕ) (r : Answered (ℕ × A) E) (rest : List (Answered (ℕ × A) E)) → NumberedHere s n (r ∷ []) u j → NumberedHere u j rest t k → NumberedHere s n (r ∷ rest) t k
  numbered_of_first_and_rest s u t n _ k _ rest (numbered_item x step numbered_none) q = numbered_item x step q
  numbered_of_first_and_rest s u t n _ k _ rest (numbered_end step numbered_none) q = numbered_end step q
  numbered_of_first_and_rest s u t n _ k _ rest (numbered_failure e step numbered_none) q = numbered_failure e step q

  first_of_enumerate_trace_of_numbered : (s t : S) (n k : ℕ) (r : Answered (ℕ × A) E) (rest : List (Answered (ℕ × A) E)) → NumberedHere s n (r ∷ rest) t k → FirstOf (EnumerateTrace steps) (s, n) r rest (t, k)
  first_of_enumerate_trace_of_numbered s t n k _ rest (numbered_item {u = u} x step q) = record { left_by_first = (u, n + 1); first = enumerate_trace_of_numbered s u n (n + 1) _ (numbered_item x step numbered_none); others = enumerate_trace_of_numbered u t (n + 1) k rest q }
  first_of_enumerate_trace_of_numbered s t n k _ rest (numbered_end {u = u} step q) = record { left_by_first = (u, n); first = enumerate_trace_of_numbered s u n n _ (numbered_end step numbered_none); others = enumerate_trace_of_numbered u t n k rest q }
  first_of_enumerate_trace_of_numbered s t n k _ rest (numbered_failure {u = u} e step q) = record { left_by_first = (u, n); first = enumerate_trace_of_numbered s u n n _ (numbered_failure e step numbered_none); others = enumerate_trace_of_numbered u t n k rest q }

  pub enumerate_trace_is_by_answers : IsByAnswers (EnumerateTrace steps)
  enumerate_trace_is_by_answers = record {
    none = λ p. enumerate_trace_of_numbered p.0 p.0 p.1 p.1 [] numbered_none;
    same = λ p q d. same_state_where_nothing_numbered p.0 q.0 p.1 q.1 (numbered_trace_of_enumerate_trace steps p.0 q.0 p.1 q.1 [] d);
    joins = λ p u q r rest d e. enumerate_trace_of_numbered p.0 q.0 p.1 q.1 (r ∷ rest) (numbered_of_first_and_rest p.0 u.0 q.0 p.1 u.1 q.1 r rest (numbered_trace_of_enumerate_trace steps p.0 u.0 p.1 u.1 (r ∷ []) d) (numbered_trace_of_enumerate_trace steps u.0 q.0 u.1 q.1 rest e));
    splits = λ p q r rest d. first_of_enumerate_trace_of_numbered p.0 q.0 p.1 q.1 r rest (numbered_trace_of_enumerate_trace steps p.0 q.0 p.1 q.1 (r ∷ rest) d);
  }

pub enumerate_traced : {S A E : Type 0} {steps : S → Answered A E → S → Type 0} {traces : S → List (Answered A E) → S → Type 0} → IsTraced steps traces → IsTraced (λ p r q. EnumerateTrace steps p (r ∷ []) q) (numbers_all traces)
enumerate_traced {A = A} {E = E} {steps = steps} law p trace q = let both = run_at_one_answer_iff_law _ (enumerate_trace_is_by_answers steps) p trace q in (
  (λ ran. let h = both.0 ran in (h.source_trace, (law p.0 h.source_trace q.0).0 h.drawn, record { source_trace = h.source_trace; drawn = run_of_whole_list h.source_trace; answers = h.answers; number_after = h.number_after })),
  (λ (l, ran, h). both.1 (record { source_trace = h.source_trace; drawn = subst (λ (k : List (Answered A E)). Run steps p.0 k q.0) (list_is_trace h.source_trace l h.drawn) ((law p.0 l q.0).1 ran); answers = h.answers; number_after = h.number_after })),
)

-- ---- its hints

module _ {S A E : Type 0} (steps : S → Answered A E → S → Type 0) where
  abbrev enumerate_step : S × ℕ → Answered (ℕ × A) E → S × ℕ → Type 0
  enumerate_step p r q = EnumerateTrace steps p (r ∷ []) q

  source_item_of_numbered_item : (s t : S) (n k : ℕ) (y : ℕ × A) → NumberedTrace steps s n (item y ∷ []) t k → (x : A) × steps s (item x) t
  source_item_of_numbered_item s t n _ _ (numbered_item x step numbered_none) = (x, step)

  source_end_of_numbered_end : (s t : S) (n k : ℕ) → NumberedTrace steps s n (end ∷ []) t k → steps s end t
  source_end_of_numbered_end s t n _ (numbered_end step numbered_none) = step

  pub one_of_one_enumerate : OneOfOne enumerate_step steps (λ p. p.0) (λ p. ⊤)
  one_of_one_enumerate = record {
    item_of_item = λ p q y _ step. let d = source_item_of_numbered_item p.0 q.0 p.1 q.1 y (numbered_trace_of_enumerate_trace steps p.0 q.0 p.1 q.1 (item y ∷ []) step) in (d.0, d.1, tt);
    end_of_end = λ p q _ step. source_end_of_numbered_end p.0 q.0 p.1 q.1 (numbered_trace_of_enumerate_trace steps p.0 q.0 p.1 q.1 (end ∷ []) step);
  }

enumerate_hold : {S A E : Type 0} (m : Contract S A E) → HintsHold m.steps m.hints m.sound → HintsHold (enumerate_contract m).steps (enumerate_contract m).hints (as_source (λ p. p.0) m.sound)
enumerate_hold m holds = hold_as_source (enumerate_contract m).steps (enumerate_contract m).hints holds (λ p. p.0) (λ p h is. (is, as_sound_where_one_of_one _ _ _ _ (one_of_one_enumerate m.steps) p tt h))

pub lawful_enumerate : {S A E : Type 0} {m : Contract S A E} → Lawful m → Lawful (enumerate_contract m)
lawful_enumerate {m = m} l = record { kept_by_draw = kept_by_draw_enumerate m l; bounded = λ p. l.bounded p.0; traced = enumerate_traced l.traced; hold = enumerate_hold m l.hold }
