-- A fold of the source that counts down the items which are left out is a fold of `StepBy`.
use Rattle.std.specs.Prelude.{◌≡◌, ℕ, zero, suc, [], ◌∷◌}
use Rattle.std.proofs.Common.{refl, sym, ap, subst, ◌∙◌, arith}
use Rattle.fallible_contract.specs.Traces.{Answered, item}
use Rattle.fallible_contract.specs.Passing.{passing_step}
use Rattle.fallible_contract.specs.Laws.Passing.{Passes, done, end_passes, failure_passes, keeps, refuses, closes, leaves_out, passes_of_pass_trace}
use Rattle.fallible_contract.proofs.Lemmas.ByNumber.{Leaves, none, keeps_item, keeps_end, keeps_failure, leaves_after_item_left_out}
use Rattle.fallible_core.specs.Cutting.StepBy.{step_by_step, to_skip_next, count_call, count_outcome}
use Rattle.fallible_core.specs.Laws.Cutting.StepBy.{step_by_trace_of_leaves}
use Rattle.fallible_contract.specs.declared.passing.Outcome.TheVariants.{Kept}

module _ {S A E : Type 0} (steps : S → Answered A E → S → Type 0) (between : ℕ) where
  abbrev CountPassesOne : S → ℕ → Answered A E → S → ℕ → Type 0
  CountPassesOne s n r t k = Passes steps (count_call between) count_outcome s n (r ∷ []) t k

  abbrev LeavesOneAnswer : S → ℕ → Answered A E → S → ℕ → Type 0
  LeavesOneAnswer s n r t k = Leaves steps between n s (r ∷ []) t k

  leaves_one_answer_of_count_passes_one : (s t : S) (n k : ℕ) (r : Answered A E) → CountPassesOne s n r t k → LeavesOneAnswer s n r t k
  leaves_one_answer_of_count_passes_one s t n k _ (end_passes step done) = keeps_end step none
  leaves_one_answer_of_count_passes_one s t n k _ (failure_passes e step done) = keeps_failure e step none
  leaves_one_answer_of_count_passes_one s t zero k _ (keeps x v y step called is done) = let at : count_outcome {E = E} x zero ≡ Kept y = subst (λ (i : ℕ). count_outcome {E = E} x i ≡ Kept y) called.0 is in let same : x ≡ y = cc in
      subst (λ (z : A). LeavesOneAnswer s zero (item z) t k) same (subst (λ (j : ℕ). LeavesOneAnswer s zero (item x) t j) (sym called.1) (keeps_item x step none))
  leaves_one_answer_of_count_passes_one s t (suc n) k _ (keeps x v y step called is done) = absurd (let at : count_outcome {E = E} x (suc n) ≡ Kept y = subst (λ (i : ℕ). count_outcome {E = E} x i ≡ Kept y) called.0 is in cc)
  leaves_one_answer_of_count_passes_one s t n k _ (refuses x zero e step called is rest) = absurd cc
  leaves_one_answer_of_count_passes_one s t n k _ (refuses x (suc v) e step called is rest) = absurd cc
  leaves_one_answer_of_count_passes_one s t n k _ (closes x zero step called is rest) = absurd cc
  leaves_one_answer_of_count_passes_one s t n k _ (closes x (suc v) step called is rest) = absurd cc
  leaves_one_answer_of_count_passes_one s t n k r (leaves_out x zero step called is rest) = absurd cc
  leaves_one_answer_of_count_passes_one s t n k r (leaves_out {u = u} {h = h} x (suc v) step called is rest) = let fewer : h ≡ v = called.1 ∙ ap (to_skip_next between) (sym called.0) in let was : suc v ≡ n = called.0 in
      leaves_after_item_left_out steps between x n (omega (arith, was)) step (subst (λ (j : ℕ). LeavesOneAnswer u j r t k) (omega (arith, fewer, was)) (leaves_one_answer_of_count_passes_one u t h k r rest))

-- an item that is counted down or kept is one of `StepBy`
pub step_by_step_of_draw : {S A E : Type 0} {steps : S → Answered A E → S → Type 0} (between : ℕ) (p : S × ℕ) (r : Answered A E) (q : S × ℕ) → passing_step steps (count_call between) count_outcome p r q → step_by_step steps (p.0, (between, p.1)) r (q.0, (between, q.1))
step_by_step_of_draw {steps = steps} between p r q step = step_by_trace_of_leaves steps {p = (p.0, (between, p.1))} {q = (q.0, (between, q.1))} (leaves_one_answer_of_count_passes_one steps between p.0 q.0 p.1 q.1 r (passes_of_pass_trace step), refl)
