-- The contract of `Cycle` is lawful where the source's is.
use Rattle.std.specs.Prelude.{Some, None, Ok, Err, ⊤}
use Rattle.std.proofs.Common.{refl, inl, inr}
use Rattle.fallible_contract.specs.Traces.{Answered, end}
use Rattle.fallible_contract.specs.Contract.{Contract, OnAnswer, KeptByDraw, Lawful}
use Rattle.fallible_contract.specs.Laws.BoundsRuns.{bounds_runs_by_fewer_after_item, bounds_runs_by_no_more_after_failure, bounds_runs_by_no_more_after_end, bound_stays}
use Rattle.fallible_core.specs.Joining.Cycle.{CycleAnswer, cycle_contract}
use Rattle.fallible_core.specs.Laws.Hints.Joining.{cycle_hold}
use Rattle.fallible_core.specs.Laws.Joining.CycleTraces.{cycle_traced}
use Rattle.std.specs.declared.alloc.AllocError.{AllocError}

module _ {S A E : Type 0} (is_clone : S → S → Type 0) (is_infallible : S → Type 0) (from : AllocError → E → Type 0) (m : Contract S A E) where
  abbrev CycleContract : Contract (S × S) A E
  CycleContract = cycle_contract is_clone is_infallible from m

  -- the answer was one to come
  abbrev CameBefore : S × S → Answered A E → Type 0
  CameBefore p (Ok (Some x)) = CycleContract.may_give p x
  CameBefore p (Ok None) = ⊤
  CameBefore p (Err e) = CycleContract.may_fail p e

  on_answer_of_came : (p q : S × S) (r : Answered A E) → CycleContract.steps p r q → CameBefore p r → OnAnswer CycleContract p r q
  on_answer_of_came p q (Ok (Some x)) step came = (came, (λ n b. bounds_runs_by_fewer_after_item {steps = CycleContract.steps} x step b), (λ f. absurd f))
  on_answer_of_came p q (Ok None) step came = ((λ n b. bounds_runs_by_no_more_after_end {steps = CycleContract.steps} step b), (λ f. absurd f))
  on_answer_of_came p q (Err e) step came = (came, (λ n b. bounds_runs_by_no_more_after_failure {steps = CycleContract.steps} e step b), (λ f. absurd f))

  came_before_of_source_answer : (s t k : S) (r : Answered A E) → OnAnswer m s r t → CameBefore (s, k) r
  came_before_of_source_answer s t k (Ok (Some x)) a = inl a.0
  came_before_of_source_answer s t k (Ok None) a = tt
  came_before_of_source_answer s t k (Err e) a = inl a.0

  came_before_of_clone_answer : (s t k c : S) (r : Answered A E) → is_clone k c → OnAnswer m c r t → CameBefore (s, k) r
  came_before_of_clone_answer s t k c (Ok (Some x)) is a = inr (c, is, a.0)
  came_before_of_clone_answer s t k c (Ok None) is a = tt
  came_before_of_clone_answer s t k c (Err e) is a = inr (inl (c, is, a.0))

  -- with what the answer and what is left have to do with the source, a draw keeps the contract
  kept_by_draw_of_came : (s t k : S) (r : Answered A E) → CycleContract.can_next (s, k) → m.can_next t → CycleContract.steps (s, k) r (t, k) → CameBefore (s, k) r → ((x : A) → m.may_give t x → CycleContract.may_give (s, k) x) → ((e : E) → m.may_fail t e → CycleContract.may_fail (s, k) e) → KeptByDraw CycleContract (s, k) r (t, k)
  kept_by_draw_of_came s t k r c can step came gives fails = let a = on_answer_of_came (s, k) (t, k) r step came in record {
    can_next = (can, c.1);
    is_finite = bound_stays CycleContract (s, k) (t, k) r a;
    answer = a;
    may_give = λ x h. elim h [ inl g ↦ gives x g | inr d ↦ inr d ];
    may_fail = λ e h. elim h [ inl g ↦ fails e g | inr d ↦ inr d ];
    lenders = refl;
  }

  kept_by_draw_cycle : Lawful m → (s t k : S) (r : Answered A E) → CycleContract.can_next (s, k) → CycleAnswer is_clone is_infallible from m.steps k s r t → KeptByDraw CycleContract (s, k) r (t, k)
  kept_by_draw_cycle l s t k r c h = elim h [
    | inl d ↦ (let a = l.kept_by_draw s r t c.0 d.0 in kept_by_draw_of_came s t k r c a.can_next (refl, inl d) (came_before_of_source_answer s t k r a.answer) (λ x g. inl (a.may_give x g)) (λ e g. inl (a.may_fail e g)))
    | inr i ↦ elim i [
      | inl d ↦ (let a = l.kept_by_draw d.1 r t (c.1 d.1 d.3) d.4 in kept_by_draw_of_came s t k r c a.can_next (refl, inr (inl d)) (came_before_of_clone_answer s t k d.1 r d.3 a.answer) (λ x g. inr (d.1, d.3, a.may_give x g)) (λ e g. inr (inl (d.1, d.3, a.may_fail e g))))
      | inr d ↦ (let a = l.kept_by_draw s end t c.0 d.1 in kept_by_draw_of_came s t k r c a.can_next (refl, inr (inr d)) (rw d.2 (inr (inr d.3))) (λ x g. inl (a.may_give x g)) (λ e g. inl (a.may_fail e g)))
    ]
  ]

  kept_by_draw_cycle_parts : Lawful m → (p : S × S) (r : Answered A E) (q : S × S) → CycleContract.can_next p → CycleContract.steps p r q → KeptByDraw CycleContract p r q
  kept_by_draw_cycle_parts l (s, k) r (t, k') c step = rw step.0 (kept_by_draw_cycle l s t k r c step.1)

pub lawful_cycle : {S A E : Type 0} {m : Contract S A E} (is_clone : S → S → Type 0) (is_infallible : S → Type 0) (from : AllocError → E → Type 0) → Lawful m → Lawful (cycle_contract is_clone is_infallible from m)
lawful_cycle {m = m} is_clone is_infallible from l = record { kept_by_draw = kept_by_draw_cycle_parts is_clone is_infallible from m l; bounded = λ p. ((λ e. e), (λ h. h)); traced = cycle_traced is_clone is_infallible from l.traced; hold = cycle_hold is_clone is_infallible from m }
