-- What `Skip` lists.
use Rattle.std.specs.Prelude.{◌≡◌, ℕ, zero, suc, List, [], ◌∷◌, Result, Ok, Err}
use Rattle.std.proofs.Common.{refl, ap}
use Rattle.fallible_contract.specs.Traces.{Answered}
use Rattle.fallible_contract.specs.Contract.{Contract, parts_as}
use Rattle.fallible_contract.specs.Lists.{AlwaysGives, Lists}
use Rattle.fallible_contract.proofs.Lemmas.Lists.Passing.{lists_seen}
use Rattle.fallible_core.specs.Cutting.Skip.{skip_step, skip_parts, skip_contract, skipped}
use Rattle.fallible_core.specs.Cutting.StepBy.{stepped}
use Rattle.fallible_core.specs.Laws.Hints.ByNumber.{leaves_one}
use Rattle.fallible_core.proofs.Lemmas.Cutting.ByNumber.{always_gives_stepped}
use Rattle.fallible_core.specs.declared.cutting.skip.Skip.{Skip}
use Rattle.fallible_core.specs.Laws.Cutting.Skip.{leaves_of_skip_trace}

-- ---- what it lists

stepped_by_one_is_skipped : {A E : Type 0} (l : List (Result A E)) (n : ℕ) → stepped 0 n l ≡ skipped n l
unfolding skipped stepped
stepped_by_one_is_skipped [] n = refl
stepped_by_one_is_skipped {A = A} {E = E} (Err e ∷ l) n = ap {B = List (Result A E)} (λ k. Err e ∷ k) (stepped_by_one_is_skipped l n)
stepped_by_one_is_skipped {A = A} {E = E} (Ok x ∷ l) zero = ap {B = List (Result A E)} (λ k. Ok x ∷ k) (stepped_by_one_is_skipped l zero)
stepped_by_one_is_skipped (Ok x ∷ l) (suc n) = stepped_by_one_is_skipped l n

always_gives_skipped : {S A E : Type 0} (steps : S → Answered A E → S → Type 0) (l : List (Result A E)) (p : S × ℕ) → AlwaysGives (leaves_one steps 0) p l → AlwaysGives (skip_step steps) p l
always_gives_skipped steps [] p g = λ r q w. g r q (leaves_of_skip_trace steps {p = p} {q = q} w)
always_gives_skipped steps (y ∷ l) p g = λ r q w. let d = g r q (leaves_of_skip_trace steps {p = p} {q = q} w) in (d.0, always_gives_skipped steps l q d.1)

pub lists_skipped : {S A E : Type 0} (m : Contract S A E) (s : Skip S) (n : ℕ) (l : List (Result A E)) → skip_parts s ≡ (s.it, n) → Lists m.steps s.it l → Lists (parts_as skip_parts (skip_contract m)).steps s (skipped n l)
lists_skipped m s n l parts i = lists_seen skip_parts (skip_step m.steps) s parts (stepped_by_one_is_skipped l n) (always_gives_skipped m.steps (stepped 0 n l) (s.it, n) (always_gives_stepped m.steps 0 l n s.it i.runs))
