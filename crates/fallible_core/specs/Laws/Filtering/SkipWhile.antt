-- The contract of `SkipWhile` is lawful where the source's is: its runs are the traces that its definition names.
use Rattle.std.specs.Prelude.{Result, Bool, Some, None, Ok, Err, ◌≡◌, List, [], ◌∷◌, ◌++◌, map, true, false, IsSome, ◌↔◌}
use Rattle.std.specs.List.{filter_map}
use Rattle.std.proofs.Common.{refl, sym, ◌∙◌, ap, subst, append-nil}
use Rattle.std.specs.Fn.{Mut}
use Rattle.std.specs.Borrow.{Bor}
use Rattle.fallible_contract.specs.Traces.{Answered, Run, item}
use Rattle.fallible_contract.specs.Contract.{Contract, Lawful}
use Rattle.fallible_contract.specs.Closures.{Calls, IsCallable, call_by_reference, takes_by_reference}
use Rattle.fallible_contract.specs.Passing.{PassTrace, Place, asked, failure_at, end_at, source_answer, call_of, answer_at}
use Rattle.fallible_contract.specs.Laws.Closures.{is_callable_after}
use Rattle.fallible_contract.specs.Laws.Contract.{lawful_with_sound, lawful_with_traces}
use Rattle.fallible_contract.specs.Laws.LawForm.{IsTraced, run_at_one_answer_iff_law}
use Rattle.fallible_contract.specs.Laws.Passing.{Passes, done, end_passes, failure_passes, keeps, refuses, closes, leaves_out, last_kept_tail, last_kept_cons, last_kept_before, answers_never_nil, lawful_leaving_out, passes_of_pass_trace, pass_trace_of_passes, passing_by_answers}
use Rattle.fallible_core.specs.Laws.Hints.Filtering.{runs_without_calls_after_false, skip_while_hold}
use Rattle.fallible_core.specs.Filtering.SkipWhile.{skip_call, skip_takes, skip_while_outcome, skip_while_hints, skip_while_contract, false_at, EndsAtFalse, asked_outcome, AskedUntilFalse, SkipWhileTrace}

-- ---- the places met, one before the others

module _ {X E : Type 0} where
  ends_at_false_at_cons : (p : Place X (Result Bool E) E) (met : List (Place X (Result Bool E) E)) → false_at p ≡ false → EndsAtFalse met → EndsAtFalse (p ∷ met)
  ends_at_false_at_cons p [] e h = absurd h
  ends_at_false_at_cons p (q ∷ rest) e h = (e, h)

  -- a place with an answer before the others
  asked_until_false_cons : (p : Place X (Result Bool E) E) (met : List (Place X (Result Bool E) E)) (after : List (Answered X E)) (b : Bool) → false_at p ≡ false → IsSome (answer_at asked_outcome p) → AskedUntilFalse false met after b → AskedUntilFalse false (p ∷ met) after b
  asked_until_false_cons p met after true e some h = ends_at_false_at_cons p met e h
  asked_until_false_cons p met after false e some h = ((e, h.0), h.1, last_kept_cons asked_outcome p met some h.2)

  -- a left-out item before the others, of which there are some
  asked_until_false_cons_left_out : (p : Place X (Result Bool E) E) (met : List (Place X (Result Bool E) E)) (after : List (Answered X E)) (b : Bool) (r : Answered X E) (trace : List (Answered X E)) → false_at p ≡ false → r ∷ trace ≡ filter_map (answer_at asked_outcome) met ++ after → AskedUntilFalse false met after b → AskedUntilFalse false (p ∷ met) after b
  asked_until_false_cons_left_out p met after true r trace e answers h = ends_at_false_at_cons p met e h
  asked_until_false_cons_left_out p met after false r trace e answers h = let same : r ∷ trace ≡ filter_map (answer_at asked_outcome) met ++ [] = subst (λ (l : List (Answered X E)). r ∷ trace ≡ filter_map (answer_at asked_outcome) met ++ l) h.1 answers in
      ((e, h.0), h.1, last_kept_before asked_outcome p met r trace (same ∙ append-nil (filter_map (answer_at asked_outcome) met)) h.2)

  -- and the other way: what holds of the others
  asked_until_false_tail : (p : Place X (Result Bool E) E) (met : List (Place X (Result Bool E) E)) (after : List (Answered X E)) (b : Bool) → false_at p ≡ false → AskedUntilFalse false (p ∷ met) after b → AskedUntilFalse false met after b
  asked_until_false_tail p [] after true e h = absurd cc
  asked_until_false_tail p (q ∷ rest) after true e h = h.1
  asked_until_false_tail p met after false e h = (h.0.1, h.1, last_kept_tail asked_outcome p met h.2)

  -- places that end at a false have an answer
  answers_never_nil_where_ends_at_false : (p : Place X (Result Bool E) E) (rest : List (Place X (Result Bool E) E)) (after : List (Answered X E)) → EndsAtFalse (p ∷ rest) → filter_map (answer_at asked_outcome) (p ∷ rest) ++ after ≡ [] → ⊥
  answers_never_nil_where_ends_at_false (failure_at e) [] after h d = cc
  answers_never_nil_where_ends_at_false end_at [] after h d = cc
  answers_never_nil_where_ends_at_false (asked x (Ok false)) [] after h d = cc
  answers_never_nil_where_ends_at_false (asked x (Ok true)) [] after h d = cc
  answers_never_nil_where_ends_at_false (asked x (Err e)) [] after h d = cc
  answers_never_nil_where_ends_at_false (failure_at e) (q ∷ rest) after h d = cc
  answers_never_nil_where_ends_at_false end_at (q ∷ rest) after h d = cc
  answers_never_nil_where_ends_at_false (asked x (Ok false)) (q ∷ rest) after h d = cc
  answers_never_nil_where_ends_at_false (asked x (Ok true)) (q ∷ rest) after h d = answers_never_nil_where_ends_at_false q rest after h.1 d
  answers_never_nil_where_ends_at_false (asked x (Err e)) (q ∷ rest) after h d = cc

module _ {S F X E : Type 0} (steps : S → Answered X E → S → Type 0) (call : F → X → Result Bool E → F → Type 0) where
  abbrev SkipPasses : S → Bool × F → List (Answered X E) → S → Bool × F → Type 0
  SkipPasses = Passes steps (skip_call call) skip_while_outcome

  -- ---- after the first false all items pass, and the predicate isn't called

  pub skip_passes_of_run_after_false : (trace : List (Answered X E)) (s t : S) (f : F) → Run steps s trace t → SkipPasses s (true, f) trace t (true, f)
  skip_passes_of_run_after_false [] s t f ran = subst (λ (u : S). SkipPasses s (true, f) [] u (true, f)) ran done
  skip_passes_of_run_after_false (Ok None ∷ rest) s t f ran = end_passes ran.1 (skip_passes_of_run_after_false rest ran.0 t f ran.2)
  skip_passes_of_run_after_false (Err e ∷ rest) s t f ran = failure_passes e ran.1 (skip_passes_of_run_after_false rest ran.0 t f ran.2)
  skip_passes_of_run_after_false (Ok (Some x) ∷ rest) s t f ran = keeps x None x ran.1 (refl, refl) refl (skip_passes_of_run_after_false rest ran.0 t f ran.2)

  -- ---- before it

  record SkipsOfSkipWhile (s : S) (f : F) (trace : List (Answered X E)) (t : S) (q : Bool × F) : Type 0 where
    met : List (Place X (Result Bool E) E)
    after : List (Answered X E)
    drawn : Run steps s (map source_answer met ++ after) t
    called : Calls (call) f (filter_map call_of met) q.1
    answers : trace ≡ filter_map (answer_at asked_outcome) met ++ after
    until_false : AskedUntilFalse false met after q.0

  skips_before_false : (s t : S) (p q : Bool × F) (trace : List (Answered X E)) → p.0 ≡ false → SkipPasses s p trace t q → SkipsOfSkipWhile s p.1 trace t q
  skips_before_false s _ p _ _ e done = record { met = []; after = []; drawn = refl; called = refl; answers = refl; until_false = subst (λ (b : Bool). AskedUntilFalse {X = X} {E = E} false [] [] b) (sym e) (tt, refl, tt) }
  skips_before_false s t p q _ e (end_passes {u = u} {trace = rest} step h) = let k = skips_before_false u t p q rest e h in record { met = end_at ∷ k.met; after = k.after; drawn = (u, step, k.drawn); called = k.called; answers = ap (λ (l : List (Answered X E)). Ok None ∷ l) k.answers; until_false = asked_until_false_cons end_at k.met k.after q.0 refl refl k.until_false }
  skips_before_false s t p q _ e (failure_passes {u = u} {trace = rest} d step h) = let k = skips_before_false u t p q rest e h in record { met = failure_at d ∷ k.met; after = k.after; drawn = (u, step, k.drawn); called = k.called; answers = ap (λ (l : List (Answered X E)). Err d ∷ l) k.answers; until_false = asked_until_false_cons (failure_at d) k.met k.after q.0 refl refl k.until_false }
  skips_before_false s t p q _ e (keeps x None y step called is h) = absurd (let d = called.0 in cc)
  skips_before_false s t p q _ e (keeps {u = u} {h = j} {trace = rest} x (Some (Ok false)) y step called is h) = let k = runs_without_calls_after_false steps call u t j q rest called.2 h in let same : x ≡ y = cc in
      record { met = asked x (Ok false) ∷ []; after = rest; drawn = (u, step, k.ran); called = (j.1, called.1, ap (λ (z : Bool × F). z.1) (sym k.same)); answers = ap (λ (z : X). item z ∷ rest) (sym same); until_false = subst (λ (b : Bool). AskedUntilFalse false (asked x (Ok false) ∷ []) rest b) (sym (ap (λ (z : Bool × F). z.0) k.same ∙ called.2)) refl }
  skips_before_false s t p q _ e (keeps x (Some (Ok true)) y step called is h) = absurd cc
  skips_before_false s t p q _ e (keeps x (Some (Err d)) y step called is h) = absurd cc
  skips_before_false s t p q _ e (refuses x None d step called is h) = absurd cc
  skips_before_false s t p q _ e (refuses x (Some (Ok false)) d step called is h) = absurd cc
  skips_before_false s t p q _ e (refuses x (Some (Ok true)) d step called is h) = absurd cc
  skips_before_false s t p q _ e (refuses {u = u} {h = j} {trace = rest} x (Some (Err c)) d step called is h) = let k = skips_before_false u t j q rest called.2 h in let same : c ≡ d = cc in
      record { met = asked x (Err c) ∷ k.met; after = k.after; drawn = (u, step, k.drawn); called = (j.1, called.1, k.called); answers = ap (λ (z : E). Err z ∷ rest) (sym same) ∙ ap (λ (l : List (Answered X E)). Err c ∷ l) k.answers; until_false = asked_until_false_cons (asked x (Err c)) k.met k.after q.0 refl refl k.until_false }
  skips_before_false s t p q _ e (closes x None step called is h) = absurd cc
  skips_before_false s t p q _ e (closes x (Some (Ok false)) step called is h) = absurd cc
  skips_before_false s t p q _ e (closes x (Some (Ok true)) step called is h) = absurd cc
  skips_before_false s t p q _ e (closes x (Some (Err c)) step called is h) = absurd cc
  skips_before_false s t p q _ e (leaves_out x None step called is h) = absurd cc
  skips_before_false s t p q _ e (leaves_out x (Some (Ok false)) step called is h) = absurd cc
  skips_before_false s t p q _ e (leaves_out x (Some (Err c)) step called is h) = absurd cc
  skips_before_false s t p q _ e (leaves_out {u = u} {h = j} {r = r} {trace = rest} x (Some (Ok true)) step called is h) = let k = skips_before_false u t j q (r ∷ rest) called.2 h in
      record { met = asked x (Ok true) ∷ k.met; after = k.after; drawn = (u, step, k.drawn); called = (j.1, called.1, k.called); answers = k.answers; until_false = asked_until_false_cons_left_out (asked x (Ok true)) k.met k.after q.0 r rest refl k.answers k.until_false }

  -- a left-out item before an answer
  module _ (x : X) (s u : S) (f h : F) (step : steps s (item x) u) (called : call f x (Ok true) h) where
    skip_passes_after_left_out_item : (met : List (Place X (Result Bool E) E)) (after : List (Answered X E)) (trace : List (Answered X E)) (t : S) (q : Bool × F) → trace ≡ filter_map (answer_at asked_outcome) met ++ after → AskedUntilFalse false (asked x (Ok true) ∷ met) after q.0 → SkipPasses u (false, h) trace t q → SkipPasses s (false, f) trace t q
    skip_passes_after_left_out_item met after (r ∷ trace) t q answers until rest = leaves_out x (Some (Ok true)) step (refl, called, refl) refl rest
    skip_passes_after_left_out_item [] after [] t (true, k) answers until rest = absurd cc
    skip_passes_after_left_out_item (p ∷ met) after [] t (true, k) answers until rest = absurd (answers_never_nil_where_ends_at_false p met after until.1 (sym answers))
    skip_passes_after_left_out_item [] after [] t (false, k) answers until rest = absurd (let some : false ≡ true = until.2 in cc)
    skip_passes_after_left_out_item (p ∷ met) after [] t (false, k) answers until rest = absurd (answers_never_nil asked_outcome p met until.2 (sym (append-nil (filter_map (answer_at asked_outcome) (p ∷ met))) ∙ ap (λ (l : List (Answered X E)). filter_map (answer_at asked_outcome) (p ∷ met) ++ l) (sym until.1) ∙ sym answers))

  skip_passes_of_run_before_false : (met : List (Place X (Result Bool E) E)) (after : List (Answered X E)) (s t : S) (f : F) (q : Bool × F) → Run steps s (map source_answer met ++ after) t → Calls (call) f (filter_map call_of met) q.1 → AskedUntilFalse false met after q.0 → SkipPasses s (false, f) (filter_map (answer_at asked_outcome) met ++ after) t q
  skip_passes_of_run_before_false [] after s t f (true, k) ran called until = absurd until
  skip_passes_of_run_before_false [] after s t f (false, k) ran called until = let none = until.1 in let here : Run steps s [] t = subst (λ (l : List (Answered X E)). Run steps s l t) none ran in
      subst (λ (l : List (Answered X E)). SkipPasses s (false, f) l t (false, k)) (sym none) (subst (λ (u : S). SkipPasses s (false, f) [] u (false, k)) here (subst (λ (h : F). SkipPasses s (false, f) [] s (false, h)) called done))
  skip_passes_of_run_before_false (failure_at e ∷ met) after s t f q ran called until = failure_passes e ran.1 (skip_passes_of_run_before_false met after ran.0 t f q ran.2 called (asked_until_false_tail (failure_at e) met after q.0 refl until))
  skip_passes_of_run_before_false (end_at ∷ met) after s t f q ran called until = end_passes ran.1 (skip_passes_of_run_before_false met after ran.0 t f q ran.2 called (asked_until_false_tail end_at met after q.0 refl until))
  skip_passes_of_run_before_false (asked x (Err e) ∷ met) after s t f q ran called until = refuses x (Some (Err e)) e ran.1 (refl, called.1, refl) refl (skip_passes_of_run_before_false met after ran.0 t called.0 q ran.2 called.2 (asked_until_false_tail (asked x (Err e)) met after q.0 refl until))
  skip_passes_of_run_before_false (asked x (Ok true) ∷ met) after s t f q ran called until = skip_passes_after_left_out_item x s ran.0 f called.0 ran.1 called.1 met after (filter_map (answer_at asked_outcome) met ++ after) t q refl until (skip_passes_of_run_before_false met after ran.0 t called.0 q ran.2 called.2 (asked_until_false_tail (asked x (Ok true)) met after q.0 refl until))
  skip_passes_of_run_before_false (asked x (Ok false) ∷ []) after s t f (true, k) ran called until = keeps x (Some (Ok false)) x ran.1 (refl, called.1, refl) refl (subst (λ (h : F). SkipPasses ran.0 (true, called.0) after t (true, h)) called.2 (skip_passes_of_run_after_false after ran.0 t called.0 ran.2))
  skip_passes_of_run_before_false (asked x (Ok false) ∷ p ∷ met) after s t f (true, k) ran called until = absurd (let d = until.0 in cc)
  skip_passes_of_run_before_false (asked x (Ok false) ∷ met) after s t f (false, k) ran called until = absurd (let d = until.0.0 in cc)

  -- ---- both ways

  skip_while_trace_of_passes : (s t : S) (p q : Bool × F) (trace : List (Answered X E)) → SkipPasses s p trace t q → SkipWhileTrace (Run steps) call (s, p) trace (t, q)
  skip_while_trace_of_passes s t (true, f) q trace h = let k = runs_without_calls_after_false steps call s t (true, f) q trace refl h in record { met = []; after = trace; drawn = k.ran; called = ap (λ (z : Bool × F). z.1) (sym k.same); answers = refl; until_false = (refl, ap (λ (z : Bool × F). z.0) k.same) }
  skip_while_trace_of_passes s t (false, f) q trace h = let k = skips_before_false s t (false, f) q trace refl h in record { met = k.met; after = k.after; drawn = k.drawn; called = k.called; answers = k.answers; until_false = k.until_false }

  -- what came after the first false, where it came before the trace
  record RunsAfterFalse (s : S) (f : F) (trace : List (Answered X E)) (t : S) (q : Bool × F) : Type 0 where
    ran : Run steps s trace t
    same : (true, f) ≡ q

  runs_after_false : (met : List (Place X (Result Bool E) E)) (after trace : List (Answered X E)) (s t : S) (f : F) (q : Bool × F) → Run steps s (map source_answer met ++ after) t → Calls (call) f (filter_map call_of met) q.1 → trace ≡ filter_map (answer_at asked_outcome) met ++ after → met ≡ [] → q.0 ≡ true → RunsAfterFalse s f trace t q
  runs_after_false [] after trace s t f q ran called answers none found = record { ran = subst (λ (l : List (Answered X E)). Run steps s l t) (sym answers) ran; same = ap (λ (b : Bool). (b, f)) (sym found) ∙ ap (λ (h : F). (q.0, h)) called }
  runs_after_false (p ∷ met) after trace s t f q ran called answers none found = absurd cc

  passes_of_skip_while_trace : (s t : S) (p q : Bool × F) (trace : List (Answered X E)) → SkipWhileTrace (Run steps) call (s, p) trace (t, q) → SkipPasses s p trace t q
  passes_of_skip_while_trace s t (true, f) q trace h = let k = runs_after_false h.met h.after trace s t f q h.drawn h.called h.answers h.until_false.0 h.until_false.1 in subst (λ (z : Bool × F). SkipPasses s (true, f) trace t z) k.same (skip_passes_of_run_after_false trace s t f k.ran)
  passes_of_skip_while_trace s t (false, f) q trace h = subst (λ (l : List (Answered X E)). SkipPasses s (false, f) l t q) (sym h.answers) (skip_passes_of_run_before_false h.met h.after s t f q h.drawn h.called h.until_false)

pub skip_while_law : {S F X E : Type 0} (steps : S → Answered X E → S → Type 0) (call : F → X → Result Bool E → F → Type 0) (p : S × (Bool × F)) (trace : List (Answered X E)) (q : S × (Bool × F)) → Run (λ u r v. PassTrace steps (skip_call call) skip_while_outcome u (r ∷ []) v) p trace q ↔ SkipWhileTrace (Run steps) call p trace q
skip_while_law steps call p trace q = let law = run_at_one_answer_iff_law (PassTrace steps (skip_call call) skip_while_outcome) (passing_by_answers steps (skip_call call) skip_while_outcome) p trace q in
    ((λ ran. skip_while_trace_of_passes steps call p.0 q.0 p.1 q.1 trace (passes_of_pass_trace (law.0 ran))), (λ d. law.1 (pass_trace_of_passes (passes_of_skip_while_trace steps call p.0 q.0 p.1 q.1 trace d))))

pub skip_while_traced : {S F X E : Type 0} {steps : S → Answered X E → S → Type 0} {traces : S → List (Answered X E) → S → Type 0} (call : F → X → Result Bool E → F → Type 0) → IsTraced steps traces → IsTraced (λ u r v. PassTrace steps (skip_call call) skip_while_outcome u (r ∷ []) v) (SkipWhileTrace traces call)
skip_while_traced {steps = steps} call law p trace q = let of_runs = skip_while_law steps call p trace q in (
  (λ ran. let k = of_runs.0 ran in record { met = k.met; after = k.after; drawn = (law p.0 (map source_answer k.met ++ k.after) q.0).0 k.drawn; called = k.called; answers = k.answers; until_false = k.until_false }),
  (λ d. of_runs.1 (record { met = d.met; after = d.after; drawn = (law p.0 (map source_answer d.met ++ d.after) q.0).1 d.drawn; called = d.called; answers = d.answers; until_false = d.until_false })),
)

-- ---- its contract

pub lawful_skip_while : {S F X E : Type 0} {m : Contract S X E} (g : Mut F (Bor X × Unit {0}) (Result Bool E)) → Lawful m → Lawful (skip_while_contract m g)
lawful_skip_while {m = m} g l = lawful_with_sound (skip_while_hold m (call_by_reference g) l.hold) (lawful_with_traces (SkipWhileTrace m.traces (call_by_reference g)) (skip_while_traced (call_by_reference g) l.traced) (lawful_leaving_out (skip_call (call_by_reference g)) (λ P p. IsCallable (skip_call (call_by_reference g)) (skip_takes (takes_by_reference g)) P p) skip_while_outcome (skip_while_hints m) (λ P Q p q weak reached c. is_callable_after weak reached c) l))
