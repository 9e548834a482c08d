-- The runs of `Cycle` are its definition, over all that its runs return.
use Rattle.std.specs.Prelude.{◌≡◌, List, [], ◌∷◌, ◌++◌, Err, false, ◌↔◌}
use Rattle.std.proofs.Common.{refl, sym, ap, subst, inl, inr}
use Rattle.fallible_contract.specs.Traces.{Answered, Run, end, is_end, NoEnd}
use Rattle.fallible_contract.specs.Laws.LawForm.{IsTraced, iff_of_two}
use Rattle.fallible_core.specs.Joining.Cycle.{Laps, CycleTrace, cycles_all, last_lap, then_a_clone, then_a_refusal, CycleAnswer, cycle_step}
use Rattle.std.specs.declared.alloc.AllocError.{AllocError}

module _ {S A E : Type 0} (is_clone : S → S → Type 0) (is_infallible : S → Type 0) (from : AllocError → E → Type 0) (steps : S → Answered A E → S → Type 0) where
  abbrev TraceOfCycle : S → S → List (Answered A E) → S → Type 0
  TraceOfCycle k s trace t = Laps is_clone is_infallible from (Run steps) k s trace t

  abbrev StepsOfCycle : S × S → Answered A E → S × S → Type 0
  StepsOfCycle = cycle_step is_clone is_infallible from steps

  -- one answer more at the front of the first lap
  trace_of_cycle_of_step_and_rest : (k s u t : S) (r : Answered A E) (trace : List (Answered A E)) → steps s r u → is_end r ≡ false → TraceOfCycle k u trace t → TraceOfCycle k s (r ∷ trace) t
  trace_of_cycle_of_step_and_rest k s _ _ r _ step goes_on (last_lap u t lap none ran) = last_lap s t (r ∷ lap) (goes_on, none) (u, step, ran)
  trace_of_cycle_of_step_and_rest k s _ _ r _ step goes_on (then_a_clone u ended clone run t lap first rest none ran is drawn more) = then_a_clone s ended clone run t (r ∷ lap) first rest (goes_on, none) (u, step, ran) is drawn more
  trace_of_cycle_of_step_and_rest k s _ _ r _ step goes_on (then_a_refusal u ended t lap e rest none ran refused more) = then_a_refusal s ended t (r ∷ lap) e rest (goes_on, none) (u, step, ran) refused more

  trace_of_cycle_of_answer_and_rest : (k s u t : S) (r : Answered A E) (rest : List (Answered A E)) → CycleAnswer is_clone is_infallible from steps k s r u → TraceOfCycle k u rest t → TraceOfCycle k s (r ∷ rest) t
  trace_of_cycle_of_answer_and_rest k s u t r rest h more = elim h [
    | inl d ↦ trace_of_cycle_of_step_and_rest k s u t r rest d.0 d.1 more
    | inr i ↦ elim i [
      | inl d ↦ then_a_clone s d.0 d.1 u t [] r rest tt (d.0, d.2, refl) d.3 (u, d.4, refl) more
      | inr d ↦ rw d.2 (then_a_refusal s u t [] d.0 rest tt (u, d.1, refl) d.3 more)
    ]
  ]

  cycle_trace_of_run : (trace : List (Answered A E)) (s k t k' : S) → Run StepsOfCycle (s, k) trace (t, k') → (k' ≡ k) × TraceOfCycle k s trace t
  cycle_trace_of_run [] s k t k' e = (sym (ap (λ p. p.1) e), last_lap s t [] tt (ap (λ p. p.0) e))
  cycle_trace_of_run (r ∷ rest) s k t k' h = let more = cycle_trace_of_run rest h.0.0 k t k' (rw h.1.0 at h.2) in (more.0, trace_of_cycle_of_answer_and_rest k s h.0.0 t r rest h.1.1 more.1)

  -- a lap, and then what comes after its answers
  cycle_run_of_lap_and_more : (lap : List (Answered A E)) (s k : S) (after more : List (Answered A E)) (ended : S) (q : S × S) → NoEnd lap → Run steps s (lap ++ after) ended → ((u : S) → Run steps u after ended → Run StepsOfCycle (u, k) more q) → Run StepsOfCycle (s, k) (lap ++ more) q
  cycle_run_of_lap_and_more [] s k after more ended q none ran next = next s ran
  cycle_run_of_lap_and_more (r ∷ lap) s k after more ended q none ran next = ((ran.0, k), (refl, inl (ran.1, none.0)), cycle_run_of_lap_and_more lap ran.0 k after more ended q none.1 ran.2 next)

  cycle_run_of_lap_without_end : (lap : List (Answered A E)) (s k t : S) → NoEnd lap → Run steps s lap t → Run StepsOfCycle (s, k) lap (t, k)
  cycle_run_of_lap_without_end [] s k t none ran = ap (λ (u : S). (u, k)) ran
  cycle_run_of_lap_without_end (r ∷ lap) s k t none ran = ((ran.0, k), (refl, inl (ran.1, none.0)), cycle_run_of_lap_without_end lap ran.0 k t none.1 ran.2)

  run_of_cycle_trace : (k s t : S) (trace : List (Answered A E)) → TraceOfCycle k s trace t → Run StepsOfCycle (s, k) trace (t, k)
  run_of_cycle_trace k _ _ _ (last_lap s t lap none ran) = cycle_run_of_lap_without_end lap s k t none ran
  run_of_cycle_trace k _ _ _ (then_a_clone s ended clone run t lap first rest none ran is drawn more) =
      cycle_run_of_lap_and_more lap s k (end ∷ []) (first ∷ rest) ended (t, k) none ran (λ u last. ((run, k), (refl, inr (inl (last.0, clone, last.1, is, subst (λ (v : S). steps clone first v) drawn.2 drawn.1))), run_of_cycle_trace k run t rest more))
  run_of_cycle_trace k _ _ _ (then_a_refusal s ended t lap e rest none ran refused more) =
      cycle_run_of_lap_and_more lap s k (end ∷ []) (Err e ∷ rest) ended (t, k) none ran (λ u last. ((ended, k), (refl, inr (inr (e, subst (λ (v : S). steps u end v) last.2 last.1, refl, refused))), run_of_cycle_trace k ended t rest more))

  pub cycle_law : (p : S × S) (trace : List (Answered A E)) (q : S × S) → Run StepsOfCycle p trace q ↔ CycleTrace is_clone is_infallible from steps p trace q
  cycle_law p trace q = (cycle_trace_of_run trace p.0 p.1 q.0 q.1, (λ h. rw h.0 (run_of_cycle_trace p.1 p.0 q.0 trace h.1)))

-- ---- the definition over what is returned

module _ {S A E : Type 0} (is_clone : S → S → Type 0) (is_infallible : S → Type 0) (from : AllocError → E → Type 0) where
  -- where all that a run may return by one account it may by another, laps by the one are laps by the other
  laps_over : {traces others : S → List (Answered A E) → S → Type 0} → ((s : S) (l : List (Answered A E)) (t : S) → traces s l t → others s l t) → (k s t : S) (trace : List (Answered A E)) → Laps is_clone is_infallible from traces k s trace t → Laps is_clone is_infallible from others k s trace t
  laps_over over k _ _ _ (last_lap s t lap none drawn) = last_lap s t lap none (over s lap t drawn)
  laps_over over k _ _ _ (then_a_clone s ended clone run t lap first rest none drawn is begun more) = then_a_clone s ended clone run t lap first rest none (over s (lap ++ end ∷ []) ended drawn) is (over clone (first ∷ []) run begun) (laps_over over k run t rest more)
  laps_over over k _ _ _ (then_a_refusal s ended t lap e rest none drawn refused more) = then_a_refusal s ended t lap e rest none (over s (lap ++ end ∷ []) ended drawn) refused (laps_over over k ended t rest more)

  pub cycle_traced : {steps : S → Answered A E → S → Type 0} {traces : S → List (Answered A E) → S → Type 0} → IsTraced steps traces → IsTraced (cycle_step is_clone is_infallible from steps) (cycles_all is_clone is_infallible from traces)
  cycle_traced {steps = steps} law p trace q = iff_of_two (cycle_law is_clone is_infallible from steps p trace q) (
    (λ d. (d.0, laps_over (λ s l t. (law s l t).0) p.1 p.0 q.0 trace d.1)),
    (λ d. (d.0, laps_over (λ s l t. (law s l t).1) p.1 p.0 q.0 trace d.1)),
  )
