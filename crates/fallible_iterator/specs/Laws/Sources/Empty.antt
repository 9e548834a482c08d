-- The contract of `EmptyContract` is lawful.
use Rattle.std.specs.Prelude.{◌≡◌, ℕ, List, [], ◌∷◌, replicate, ◌↔◌}
use Rattle.std.proofs.Common.{sym, subst, arith, refl, suc, zero}
use Rattle.fallible_contract.specs.Traces.{Answered, end, Run}
use Rattle.fallible_contract.specs.Contract.{Contract, KeptByDraw, Lawful}
use Rattle.fallible_iterator.specs.Sources.Empty.{empty_contract, EmptyTrace}
use Rattle.fallible_iterator.specs.Laws.Sources.Hints.{empty_hold}

-- ---- ends alone

module _ {S A E : Type 0} (same : (s t : S) → s ≡ t) where
  abbrev ends_only : S → Answered A E → S → Type 0
  ends_only s r t = r ≡ end

  empty_trace_of_run : (trace : List (Answered A E)) (s t : S) → Run ends_only s trace t → EmptyTrace trace
  empty_trace_of_run [] s t h = (0, refl)
  empty_trace_of_run (r ∷ rest) s t h = let n = empty_trace_of_run rest h.0 t h.2 in (suc n.0, (λ i. h.1 i ∷ n.1 i))

  run_of_ends_replicated : (n : ℕ) (trace : List (Answered A E)) (s t : S) → trace ≡ replicate n end → Run ends_only s trace t
  run_of_ends_replicated zero trace s t e = subst (λ l. Run ends_only s l t) (sym e) (same s t)
  run_of_ends_replicated (suc n) trace s t e = subst (λ l. Run ends_only s l t) (sym e) (s, refl, run_of_ends_replicated n (replicate n end) s t refl)

  pub runs_are_empty_traces : (trace : List (Answered A E)) (s t : S) → Run ends_only s trace t ↔ EmptyTrace trace
  runs_are_empty_traces trace s t = (empty_trace_of_run trace s t, (λ p. run_of_ends_replicated p.0 trace s t p.1))

module _ {S A E : Type 0} where
  abbrev EmptyContract : Contract S A E
  EmptyContract = empty_contract

  kept_by_draw_empty : (s t : S) (r : Answered A E) → r ≡ end → KeptByDraw EmptyContract s r t
  kept_by_draw_empty s t r e = subst (λ (q : Answered A E). KeptByDraw EmptyContract s q t) (sym e) (record { can_next = tt; is_finite = λ h. h; answer = ((λ n b. (n, tt, omega arith)), (λ f. (f, omega arith))); may_give = λ x h. h; may_fail = λ d h. h; lenders = refl })

  pub lawful_empty : ((s t : S) → s ≡ t) → Lawful EmptyContract
  lawful_empty same = record { kept_by_draw = λ s r t c e. kept_by_draw_empty s t r e; bounded = λ s. ((λ e. (0, tt)), (λ p. tt)); hold = empty_hold; traced = λ s trace t. runs_are_empty_traces same trace s t }
