-- The contract of `Take` is lawful where the source's is.
use Rattle.std.specs.Prelude.{◌≡◌, ℕ, zero, suc, ◌+◌, ◌<◌, List, [], ◌∷◌, ◌++◌, replicate, ◌↔◌, Some, None, Ok, Err}
use Rattle.std.proofs.Common.{arith, inl, inr, refl, ap, subst}
use Rattle.fallible_contract.specs.Traces.{Answered, Run, first_of, end, items_in}
use Rattle.fallible_contract.specs.Laws.LawForm.{IsTraced, run_of_whole_list, list_is_trace}
use Rattle.fallible_core.specs.Laws.Hints.Cutting.{take_hold}
use Rattle.fallible_contract.specs.Contract.{Contract, OnAnswer, KeptByDraw, Lawful}
use Rattle.fallible_core.specs.Cutting.Take.{take_contract, take_step, TakeTrace, takes_all}

module _ {S A E : Type 0} (m : Contract S A E) where
  abbrev TakeContract : Contract (S × ℕ) A E
  TakeContract = take_contract m

  kept_by_draw_over : (s : S) → m.can_next s → KeptByDraw TakeContract (s, zero) end (s, zero)
  kept_by_draw_over s c = record { can_next = c; is_finite = λ e. e; answer = ((λ n b. (n, b, omega arith)), (λ f. (f, omega arith))); may_give = λ x p. p; may_fail = λ e p. p; lenders = refl }

  on_answer_of_take : (s t : S) (r : Answered A E) (n k : ℕ) → k + items_in (r ∷ []) ≡ suc n → OnAnswer m s r t → OnAnswer TakeContract (s, suc n) r (t, k)
  on_answer_of_take s t (Ok (Some x)) n k e a = (a.0, (λ j b. elim b [ inl h ↦ (k, inl (omega arith), omega (arith, e, h)) | inr h ↦ let i = a.1 j h in (i.0, inr i.1, i.2) ]), a.2)
  on_answer_of_take s t (Ok None) n k e a = ((λ j b. elim b [ inl h ↦ (k, inl (omega arith), omega (arith, e, h)) | inr h ↦ let i = a.0 j h in (i.0, inr i.1, i.2) ]), a.1)
  on_answer_of_take s t (Err d) n k e a = (a.0, (λ j b. elim b [ inl h ↦ (k, inl (omega arith), omega (arith, e, h)) | inr h ↦ let i = a.1 j h in (i.0, inr i.1, i.2) ]), a.2)

  kept_by_draw_take : Lawful m → (p : S × ℕ) (r : Answered A E) (q : S × ℕ) → TakeContract.can_next p → TakeContract.steps p r q → KeptByDraw TakeContract p r q
  kept_by_draw_take l (s, zero) r (t, k) c step = rw (step.0, step.1, step.2) (kept_by_draw_over s c)
  kept_by_draw_take l (s, suc n) r (t, k) c step = let a = l.kept_by_draw s r t c step.0 in record { can_next = a.can_next; is_finite = λ e. e; answer = on_answer_of_take s t r n k step.1 a.answer; may_give = a.may_give; may_fail = a.may_fail; lenders = a.lenders }

module _ {A E : Type 0} where
  items_in_first_and_rest : (r : Answered A E) (rest : List (Answered A E)) → items_in (r ∷ rest) ≡ items_in (r ∷ []) + items_in rest
  items_in_first_and_rest (Ok (Some x)) rest = omega arith
  items_in_first_and_rest (Ok None) rest = omega arith
  items_in_first_and_rest (Err e) rest = omega arith

  -- every shorter front of a trace has fewer than n items
  abbrev PrefixesBelow : List (Answered A E) → ℕ → Type 0
  PrefixesBelow trace n = (prefix : List (Answered A E)) (r : Answered A E) (rest : List (Answered A E)) → trace ≡ prefix ++ r ∷ rest → items_in prefix < n

  prefixes_below_of_nil : (n : ℕ) → PrefixesBelow [] n
  prefixes_below_of_nil n [] r rest e = absurd cc
  prefixes_below_of_nil n (x ∷ prefix) r rest e = absurd cc

  prefixes_below_of_first_and_rest : (r : Answered A E) (trace : List (Answered A E)) (n j : ℕ) → j + items_in (r ∷ []) ≡ suc n → PrefixesBelow trace j → PrefixesBelow (r ∷ trace) (suc n)
  prefixes_below_of_first_and_rest r trace n j c h [] q rest e = omega arith
  prefixes_below_of_first_and_rest r trace n j c h (x ∷ prefix) q rest e = let below = h prefix q rest cc in let same : x ≡ r = cc in rw same (omega (arith, items_in_first_and_rest r prefix, below, c))

  prefixes_below_of_rest : (r : Answered A E) (trace : List (Answered A E)) (n j : ℕ) → j + items_in (r ∷ []) ≡ n → PrefixesBelow (r ∷ trace) n → PrefixesBelow trace j
  prefixes_below_of_rest r trace n j c h prefix q rest e = let below = h (r ∷ prefix) q rest (ap {B = List (Answered A E)} (λ l. r ∷ l) e) in omega (arith, items_in_first_and_rest r prefix, below, c)

module _ {S A E : Type 0} (steps : S → Answered A E → S → Type 0) where
  -- an end without a draw more, where nothing is left to take
  take_trace_once_all_taken : (source : List (Answered A E)) (ends : ℕ) (s : S) (rest : List (Answered A E)) (t : S) (k : ℕ) → Run steps s source t → rest ≡ source ++ replicate ends end → PrefixesBelow source 0 → k + items_in source ≡ 0 → TakeTrace steps (s, 0) (end ∷ rest) (t, k)
  take_trace_once_all_taken [] ends s rest t k ran e prefixes c = record { source_trace = []; ends = suc ends; drawn = ran; answers = ap {B = List (Answered A E)} (λ l. end ∷ l) e; prefixes = prefixes_below_of_nil 0; at_most = omega arith; over = λ h. refl; remaining = c }
  take_trace_once_all_taken (r ∷ source) ends s rest t k ran e prefixes c = absurd (let h = prefixes [] r source refl in omega (arith, h))

  take_trace_of_run : (trace : List (Answered A E)) (s : S) (n : ℕ) (t : S) (k : ℕ) → Run (take_step steps) (s, n) trace (t, k) → TakeTrace steps (s, n) trace (t, k)
  take_trace_of_run [] s n t k e = let same : n ≡ k = ap (λ p. p.1) e in record { source_trace = []; ends = 0; drawn = ap (λ p. p.0) e; answers = refl; prefixes = prefixes_below_of_nil n; at_most = omega arith; over = λ h. absurd (omega arith); remaining = omega (arith, same) }
  take_trace_of_run (r ∷ rest) s zero t k h = let p : TakeTrace steps (s, 0) rest (t, k) = take_trace_of_run rest s 0 t k (rw (h.1.1, h.1.2) at h.2) in rw h.1.0 (take_trace_once_all_taken p.source_trace p.ends s rest t k p.drawn p.answers p.prefixes p.remaining)
  take_trace_of_run (r ∷ rest) s (suc n) t k h = let p : TakeTrace steps (h.0.0, h.0.1) rest (t, k) = take_trace_of_run rest h.0.0 h.0.1 t k h.2 in record {
    source_trace = r ∷ p.source_trace;
    ends = p.ends;
    drawn = (h.0.0, h.1.0, p.drawn);
    answers = ap {B = List (Answered A E)} (λ l. r ∷ l) p.answers;
    prefixes = prefixes_below_of_first_and_rest r p.source_trace n h.0.1 h.1.1 p.prefixes;
    at_most = omega (arith, items_in_first_and_rest r p.source_trace, p.at_most, h.1.1);
    over = λ some. let all = p.over some in omega (arith, items_in_first_and_rest r p.source_trace, all, h.1.1);
    remaining = omega (arith, items_in_first_and_rest r p.source_trace, p.remaining, h.1.1);
  }

  ends_once_all_taken : (ends : ℕ) (s : S) → Run (take_step steps) (s, zero) (replicate ends end) (s, zero)
  ends_once_all_taken zero s = refl
  ends_once_all_taken (suc ends) s = ((s, zero), (refl, refl, refl), ends_once_all_taken ends s)

  run_only_ends : (ends : ℕ) (s : S) (n : ℕ) (t : S) (k : ℕ) → s ≡ t → k ≡ n → (0 < ends → n ≡ 0) → Run (take_step steps) (s, n) (replicate ends end) (t, k)
  run_only_ends zero s n t k e c over = rw (e, c) refl
  run_only_ends (suc ends) s n t k e c over = let none : n ≡ 0 = over (omega arith) in rw (c, none, ← e) (ends_once_all_taken (suc ends) s)

  take_run_of_source_run : (source : List (Answered A E)) (ends : ℕ) (s : S) (n : ℕ) (t : S) (k : ℕ) → Run steps s source t → PrefixesBelow source n → (0 < ends → items_in source ≡ n) → k + items_in source ≡ n → Run (take_step steps) (s, n) (source ++ replicate ends end) (t, k)
  take_run_of_source_run [] ends s n t k ran prefixes over c = run_only_ends ends s n t k ran (omega (arith, c)) (λ some. let none = over some in omega (arith, none))
  take_run_of_source_run (r ∷ source) ends s zero t k ran prefixes over c = absurd (let h = prefixes [] r source refl in omega (arith, h))
  take_run_of_source_run (r ∷ source) ends s (suc n) t k ran prefixes over c =
      let j : ℕ = k + items_in source in
      let here : j + items_in (r ∷ []) ≡ suc n = omega (arith, items_in_first_and_rest r source, c) in
      ((ran.0, j), (ran.1, here), take_run_of_source_run source ends ran.0 j t k ran.2 (prefixes_below_of_rest r source (suc n) j here prefixes) (λ some. let all = over some in omega (arith, items_in_first_and_rest r source, all, here)) refl)

  pub take_law : (p : S × ℕ) (trace : List (Answered A E)) (q : S × ℕ) → Run (take_step steps) p trace q ↔ TakeTrace steps p trace q
  take_law p trace q = (take_trace_of_run trace p.0 p.1 q.0 q.1, (λ d. rw d.answers (take_run_of_source_run d.source_trace d.ends p.0 p.1 q.0 q.1 d.drawn d.prefixes d.over d.remaining)))

-- ---- all that the source returns

module _ {S A E : Type 0} (steps : S → Answered A E → S → Type 0) where
  take_trace_of_list : {p q : S × ℕ} {trace : List (Answered A E)} → (h : TakeTrace steps p trace q) → TakeTrace first_of (h.source_trace, p.1) trace ([], q.1)
  take_trace_of_list h = record { source_trace = h.source_trace; ends = h.ends; drawn = run_of_whole_list h.source_trace; answers = h.answers; prefixes = h.prefixes; at_most = h.at_most; over = h.over; remaining = h.remaining }

  take_trace_of_source : {p q : S × ℕ} {l : List (Answered A E)} {trace : List (Answered A E)} → Run steps p.0 l q.0 → TakeTrace first_of (l, p.1) trace ([], q.1) → TakeTrace steps p trace q
  take_trace_of_source {p = p} {q = q} {l = l} ran h = record { source_trace = h.source_trace; ends = h.ends; drawn = subst (λ (k : List (Answered A E)). Run steps p.0 k q.0) (list_is_trace h.source_trace l h.drawn) ran; answers = h.answers; prefixes = h.prefixes; at_most = h.at_most; over = h.over; remaining = h.remaining }

pub take_traced : {S A E : Type 0} {steps : S → Answered A E → S → Type 0} {traces : S → List (Answered A E) → S → Type 0} → IsTraced steps traces → IsTraced (take_step steps) (takes_all traces)
take_traced {steps = steps} law p trace q = let both = take_law steps p trace q in (
  (λ ran. let h = both.0 ran in (h.source_trace, (law p.0 h.source_trace q.0).0 h.drawn, take_trace_of_list steps h)),
  (λ (l, ran, h). both.1 (take_trace_of_source steps ((law p.0 l q.0).1 ran) h)),
)

pub lawful_take : {S A E : Type 0} {m : Contract S A E} → Lawful m → Lawful (take_contract m)
lawful_take {m = m} l = record { kept_by_draw = kept_by_draw_take m l; bounded = λ p. ((λ e. (p.1, inl (omega arith))), (λ h. tt)); traced = take_traced l.traced; hold = take_hold m l.hold }
