-- A draw of `StepBy`, and what it lists.
use Rattle.std.specs.Prelude.{◌≡◌, ℕ, List, [], ◌∷◌, Some, None, Result, Ok, Err}
use Rattle.std.proofs.Common.{refl, sym, subst}
use Rattle.fallible_contract.specs.Traces.{Answered}
use Rattle.fallible_contract.specs.Contract.{Contract, parts_as}
use Rattle.fallible_contract.specs.Lists.{AlwaysGives, Lists}
use Rattle.fallible_contract.proofs.Lemmas.Lists.Passing.{lists_seen}
use Rattle.fallible_contract.proofs.Lemmas.ByNumber.{Leaves, leaves_from_equal, none, keeps_item, keeps_end, keeps_failure, leaves_out, leaves_nil_same}
use Rattle.fallible_core.specs.Cutting.StepBy.{StepByTrace, step_by_step, step_by_parts, step_by_contract, stepped}
use Rattle.fallible_core.specs.Cutting.Skip.{SkipTrace}
use Rattle.fallible_core.specs.Laws.Cutting.Skip.{leaves_of_skip_trace}
use Rattle.fallible_core.specs.Laws.Hints.ByNumber.{leaves_one}
use Rattle.fallible_core.proofs.Lemmas.Cutting.ByNumber.{always_gives_stepped}
use Rattle.fallible_core.specs.declared.cutting.step_by.StepBy.{StepBy}
use Rattle.fallible_core.specs.Laws.Cutting.StepBy.{step_by_leaves_of_step_by_trace, step_by_trace_of_leaves}

-- ---- one draw: what `Skip` returns, and after an item the items between two are to be left out

module _ {S A E : Type 0} (steps : S → Answered A E → S → Type 0) where
  -- with a kept item as many are left out next as lie between two; a failure and an end leave what was left
  abbrev to_leave_out_next : ℕ → Answered A E → ℕ → ℕ
  to_leave_out_next between (Ok (Some x)) k = between
  to_leave_out_next between (Ok None) k = k
  to_leave_out_next between (Err e) k = k

  leaves_one_with_between_of_none_between : {s t : S} {r : Answered A E} {n k : ℕ} (between : ℕ) → Leaves steps 0 n s (r ∷ []) t k → Leaves steps between n s (r ∷ []) t (to_leave_out_next between r k)
  leaves_one_with_between_of_none_between between (keeps_item x step last) = let h = leaves_nil_same steps 0 last in keeps_item x step (leaves_from_equal steps between h.0 refl none)
  leaves_one_with_between_of_none_between between (keeps_end step last) = let h = leaves_nil_same steps 0 last in keeps_end step (leaves_from_equal steps between h.0 h.1 none)
  leaves_one_with_between_of_none_between between (keeps_failure e step last) = let h = leaves_nil_same steps 0 last in keeps_failure e step (leaves_from_equal steps between h.0 h.1 none)
  leaves_one_with_between_of_none_between between (leaves_out x step rest) = leaves_out x step (leaves_one_with_between_of_none_between between rest)

  pub step_by_trace_of_skip_trace_of_one : {s t : S} (between n k : ℕ) (r : Answered A E) → SkipTrace steps (s, n) (r ∷ []) (t, k) → StepByTrace steps (s, (between, n)) (r ∷ []) (t, (between, to_leave_out_next between r k))
  step_by_trace_of_skip_trace_of_one {s} {t} between n k r d = step_by_trace_of_leaves steps {p = (s, (between, n))} {q = (t, (between, to_leave_out_next between r k))} (leaves_one_with_between_of_none_between between (leaves_of_skip_trace steps {p = (s, n)} {q = (t, k)} d), refl)

-- ---- what it lists

module _ {S A E : Type 0} (steps : S → Answered A E → S → Type 0) (between : ℕ) where
  always_gives_of_leaves_one : (l : List (Result A E)) (s : S) (n : ℕ) → AlwaysGives (leaves_one steps between) (s, n) l → AlwaysGives (step_by_step steps) (s, (between, n)) l
  always_gives_of_leaves_one [] s n g = λ r q w. g r (q.0, (q.1).1) (step_by_leaves_of_step_by_trace steps {p = (s, (between, n))} {q = q} w).0
  always_gives_of_leaves_one (y ∷ l) s n g = λ r q w. let d = g r (q.0, (q.1).1) (step_by_leaves_of_step_by_trace steps {p = (s, (between, n))} {q = q} w).0 in
      (d.0, subst (λ (b : ℕ). AlwaysGives (step_by_step steps) (q.0, (b, (q.1).1)) l) (sym w.1) (always_gives_of_leaves_one l q.0 (q.1).1 d.1))

pub lists_stepped : {S A E : Type 0} (m : Contract S A E) (s : StepBy S) (between n : ℕ) (l : List (Result A E)) → step_by_parts s ≡ (s.it, (between, n)) → Lists m.steps s.it l → Lists (parts_as step_by_parts (step_by_contract m)).steps s (stepped between n l)
lists_stepped m s between n l parts i = lists_seen step_by_parts (step_by_step m.steps) s parts refl (always_gives_of_leaves_one m.steps between (stepped between n l) s.it n (always_gives_stepped m.steps between l n s.it i.runs))
