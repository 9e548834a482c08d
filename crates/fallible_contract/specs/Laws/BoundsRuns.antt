-- The bound of a type that states no other.
use Rattle.std.specs.Prelude.{ℕ, ◌-◌, ◌≤◌, ◌<◌, [], ◌∷◌, Some, None, Ok, Err}
use Rattle.std.proofs.Common.{refl, arith}
use Rattle.fallible_contract.specs.Traces.{Answered, item}
use Rattle.fallible_contract.specs.Laws.Sound.{own_hold}
use Rattle.fallible_contract.specs.Contract.{Contract, OnAnswer, Lawful, BoundsRuns, unbounded_contract}
use Rattle.fallible_contract.specs.Laws.Contract.{no_more_after}

-- ---- the number of a type that states no other

module _ {S A E : Type 0} {steps : S → Answered A E → S → Type 0} where
  -- an item lowers it
  pub bounds_runs_by_fewer_after_item : {s t : S} {n : ℕ} (x : A) → steps s (item x) t → BoundsRuns steps s n → (k : ℕ) × BoundsRuns steps t k × (k < n)
  bounds_runs_by_fewer_after_item {s} {t} {n} x step b = let one = b.at (item x ∷ []) t (t, step, refl) in
      (n - 1, record { at = λ trace u ran. let more = b.at (item x ∷ trace) u (t, step, ran) in omega (arith, more) }, omega (arith, one))

  -- a failure and an end leave it
  pub bounds_runs_by_no_more_after_failure : {s t : S} {n : ℕ} (e : E) → steps s (Err e) t → BoundsRuns steps s n → (k : ℕ) × BoundsRuns steps t k × (k ≤ n)
  bounds_runs_by_no_more_after_failure {s} {t} {n} e step b = (n, record { at = λ trace u ran. b.at (Err e ∷ trace) u (t, step, ran) }, omega arith)

  pub bounds_runs_by_no_more_after_end : {s t : S} {n : ℕ} → steps s (Ok None) t → BoundsRuns steps s n → (k : ℕ) × BoundsRuns steps t k × (k ≤ n)
  bounds_runs_by_no_more_after_end {s} {t} {n} step b = (n, record { at = λ trace u ran. b.at (Ok None ∷ trace) u (t, step, ran) }, omega arith)

-- a value that has a bound has one after a draw
pub bound_stays : {S A E : Type 0} (m : Contract S A E) (s t : S) (r : Answered A E) → OnAnswer m s r t → ((n : ℕ) × m.bound s n) → ((n : ℕ) × m.bound t n)
bound_stays m s t r a p = let k = no_more_after m s t r a p.0 p.1 in (k.0, k.1)

-- a contract that bounds its runs is lawful
module _ {S A E : Type 0} (steps : S → Answered A E → S → Type 0) where
  on_answer_unbounded : (s t : S) (r : Answered A E) → steps s r t → OnAnswer (unbounded_contract steps) s r t
  on_answer_unbounded s t (Ok (Some x)) step = (tt, (λ n b. bounds_runs_by_fewer_after_item x step b), (λ f. absurd f))
  on_answer_unbounded s t (Ok None) step = ((λ n b. bounds_runs_by_no_more_after_end step b), (λ f. absurd f))
  on_answer_unbounded s t (Err e) step = (tt, (λ n b. bounds_runs_by_no_more_after_failure e step b), (λ f. absurd f))

  pub lawful_unbounded : Lawful (unbounded_contract steps)
  lawful_unbounded = record {
    kept_by_draw = λ s r t c step. record {
      can_next = tt;
      is_finite = bound_stays (unbounded_contract steps) s t r (on_answer_unbounded s t r step);
      answer = on_answer_unbounded s t r step;
      may_give = λ x g. tt;
      may_fail = λ e g. tt;
      lenders = refl;
    };
    bounded = λ s. ((λ e. e), (λ p. p));
    traced = λ _ _ _. ((λ h. h), (λ h. h));
    hold = own_hold;
  }
