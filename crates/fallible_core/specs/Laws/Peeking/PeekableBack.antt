-- The runs of `Peekable` from the back are its definition there, over all that its source returns.
use Rattle.std.specs.Prelude.{◌≡◌, ℕ, false, List, [], ◌∷◌, ◌++◌, replicate, Option, Some, None, Ok, Err, ◌↔◌}
use Rattle.std.proofs.Common.{refl, sym, ap, subst, inl, inr, suc, zero}
use Rattle.fallible_contract.specs.Traces.{Answered, Run, item, end, is_end, NoEnd}
use Rattle.fallible_contract.specs.Laws.LawForm.{IsTraced, iff_of_two}
use Rattle.fallible_core.specs.Peeking.Peekable.{IsNoEnd, peekable_step_back, peeks_all_back}

module _ {S A E : Type 0} (back : S → Answered A E → S → Type 0) where
  abbrev BackStep : S × Option (Option A) → Answered A E → S × Option (Option A) → Type 0
  BackStep = peekable_step_back back

  abbrev BackTrace : S × Option (Option A) → List (Answered A E) → S × Option (Option A) → Type 0
  BackTrace = peeks_all_back (Run back)

  is_end_false_of_no_end : (r : Answered A E) → IsNoEnd r → is_end r ≡ false
  is_end_false_of_no_end (Ok (Some x)) goes_on = refl
  is_end_false_of_no_end (Ok None) goes_on = absurd goes_on
  is_end_false_of_no_end (Err e) goes_on = refl

  no_end_of_is_end_false : (r : Answered A E) → is_end r ≡ false → IsNoEnd r
  no_end_of_is_end_false (Ok (Some x)) e = tt
  no_end_of_is_end_false (Ok None) e = absurd cc
  no_end_of_is_end_false (Err d) e = tt

  -- ---- to the definition

  back_trace_where_none_held : (trace : List (Answered A E)) (s t : S) (held : Option (Option A)) → Run BackStep (s, None) trace (t, held) → BackTrace (s, None) trace (t, held)
  back_trace_where_none_held [] s t held e = (ap (λ p. p.0) e, sym (ap (λ p. p.1) e))
  back_trace_where_none_held (r ∷ rest) s t held h = let k = back_trace_where_none_held rest h.0.0 t held (rw h.1.1 at h.2) in ((h.0.0, h.1.0, k.0), k.1)

  back_trace_where_end_held : (trace : List (Answered A E)) (s t : S) (held : Option (Option A)) → Run BackStep (s, Some None) trace (t, held) → BackTrace (s, Some None) trace (t, held)
  back_trace_where_end_held [] s t held e = ((0, refl), sym (ap (λ p. p.0) e), sym (ap (λ p. p.1) e))
  back_trace_where_end_held (r ∷ rest) s t held h = let k = back_trace_where_end_held rest s t held (rw (h.1.1, h.1.2) at h.2) in ((suc k.0.0, rw h.1.0 (ap {B = List (Answered A E)} (λ l. end ∷ l) k.0.1)), k.1, k.2)

  -- an answer of the source before those of a trace
  back_trace_with_answer_of_source : (s u t : S) (x : A) (held : Option (Option A)) (r : Answered A E) (rest : List (Answered A E)) → back s r u → is_end r ≡ false → BackTrace (u, Some (Some x)) rest (t, held) → BackTrace (s, Some (Some x)) (r ∷ rest) (t, held)
  back_trace_with_answer_of_source s u t x held r rest step e (inl p) = inl ((u, step, p.0), (e, p.1), p.2)
  back_trace_with_answer_of_source s u t x held r rest step e (inr p) = let j = p.0 in inr (record { before_held = r ∷ j.before_held; n = j.n; drawn = (u, step, j.drawn); no_end = (e, j.no_end); answers = ap {B = List (Answered A E)} (λ l. r ∷ l) j.answers }, p.1)

  back_trace_where_item_held : (trace : List (Answered A E)) (s t : S) (x : A) (held : Option (Option A)) → Run BackStep (s, Some (Some x)) trace (t, held) → BackTrace (s, Some (Some x)) trace (t, held)
  back_trace_where_item_held [] s t x held e = inl (ap (λ p. p.0) e, tt, sym (ap (λ p. p.1) e))
  back_trace_where_item_held (r ∷ rest) s t x held h = elim h.1 [
    | inl d ↦ let k = back_trace_where_end_held rest h.0.0 t held (rw d.2 at h.2) in inr (record { before_held = []; n = k.0.0; drawn = (h.0.0, d.0, sym k.1); no_end = tt; answers = rw d.1 (ap {B = List (Answered A E)} (λ l. item x ∷ l) k.0.1) }, k.2)
    | inr d ↦ back_trace_with_answer_of_source s h.0.0 t x held r rest d.0 (is_end_false_of_no_end r d.1) (back_trace_where_item_held rest h.0.0 t x held (rw d.2 at h.2))
  ]

  -- ---- from the definition

  run_where_none_held : (trace : List (Answered A E)) (s t : S) → Run back s trace t → Run BackStep (s, None) trace (t, None)
  run_where_none_held [] s t e = ap (λ (u : S). (u, None)) e
  run_where_none_held (r ∷ rest) s t h = ((h.0, None), (h.1, refl), run_where_none_held rest h.0 t h.2)

  run_where_end_held : (n : ℕ) (s : S) → Run BackStep (s, Some None) (replicate n end) (s, Some None)
  run_where_end_held zero s = refl
  run_where_end_held (suc n) s = ((s, Some None), (refl, refl, refl), run_where_end_held n s)

  run_where_item_stays_held : (trace : List (Answered A E)) (s t : S) (x : A) → Run back s trace t → NoEnd trace → Run BackStep (s, Some (Some x)) trace (t, Some (Some x))
  run_where_item_stays_held [] s t x e none = ap (λ (u : S). (u, Some (Some x))) e
  run_where_item_stays_held (r ∷ rest) s t x h none = ((h.0, Some (Some x)), inr (h.1, no_end_of_is_end_false r none.0, refl), run_where_item_stays_held rest h.0 t x h.2 none.1)

  run_where_held_comes_last : (before : List (Answered A E)) (s t : S) (x : A) (n : ℕ) → Run back s (before ++ end ∷ []) t → NoEnd before → Run BackStep (s, Some (Some x)) (before ++ item x ∷ replicate n end) (t, Some None)
  run_where_held_comes_last [] s t x n h none = ((t, Some None), inl (subst (λ (u : S). back s end u) h.2 h.1, refl, refl), run_where_end_held n t)
  run_where_held_comes_last (r ∷ before) s t x n h none = ((h.0, Some (Some x)), inr (h.1, no_end_of_is_end_false r none.0, refl), run_where_held_comes_last before h.0 t x n h.2 none.1)

  run_of_back_trace_where_item_held : (trace : List (Answered A E)) (s t : S) (x : A) (held : Option (Option A)) → BackTrace (s, Some (Some x)) trace (t, held) → Run BackStep (s, Some (Some x)) trace (t, held)
  run_of_back_trace_where_item_held trace s t x held (inl d) = rw d.2 (run_where_item_stays_held trace s t x d.0 d.1)
  run_of_back_trace_where_item_held trace s t x held (inr d) = let j = d.0 in rw (j.answers, d.1) (run_where_held_comes_last j.before_held s t x j.n j.drawn j.no_end)

  pub peekable_back_law : (p : S × Option (Option A)) (trace : List (Answered A E)) (q : S × Option (Option A)) → Run BackStep p trace q ↔ BackTrace p trace q
  peekable_back_law (s, Some (Some x)) trace (t, held) = (back_trace_where_item_held trace s t x held, run_of_back_trace_where_item_held trace s t x held)
  peekable_back_law (s, Some None) trace (t, held) = (back_trace_where_end_held trace s t held, (λ d. rw (d.0.1, d.1, d.2) (run_where_end_held d.0.0 s)))
  peekable_back_law (s, None) trace (t, held) = (back_trace_where_none_held trace s t held, (λ d. rw d.1 (run_where_none_held trace s t d.0)))

-- where all that the source may return by one account it may by another, the definition's traces by the one are traces by the other
peeks_back_over : {S A E : Type 0} {traces others : S → List (Answered A E) → S → Type 0} → ((s : S) (l : List (Answered A E)) (t : S) → traces s l t → others s l t) → (p : S × Option (Option A)) (trace : List (Answered A E)) (q : S × Option (Option A)) → peeks_all_back traces p trace q → peeks_all_back others p trace q
peeks_back_over over (s, Some (Some x)) trace (t, held) (inl d) = inl (over s trace t d.0, d.1, d.2)
peeks_back_over over (s, Some (Some x)) trace (t, held) (inr d) = let j = d.0 in inr (record { before_held = j.before_held; n = j.n; drawn = over s (j.before_held ++ end ∷ []) t j.drawn; no_end = j.no_end; answers = j.answers }, d.1)
peeks_back_over over (s, Some None) trace (t, held) d = d
peeks_back_over over (s, None) trace (t, held) d = (over s trace t d.0, d.1)

pub peekable_back_traced : {S A E : Type 0} {steps : S → Answered A E → S → Type 0} {traces : S → List (Answered A E) → S → Type 0} → IsTraced steps traces → IsTraced (peekable_step_back steps) (peeks_all_back traces)
peekable_back_traced {steps = steps} law p trace q = iff_of_two (peekable_back_law steps p trace q) (peeks_back_over (λ s l t. (law s l t).0) p trace q, peeks_back_over (λ s l t. (law s l t).1) p trace q)
