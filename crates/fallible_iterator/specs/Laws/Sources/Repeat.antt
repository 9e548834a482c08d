-- The contract of `RepeatContract` is lawful.
use Rattle.std.specs.Prelude.{Some, None, Ok, Err, ◌≡◌, List, [], ◌∷◌, All, ◌↔◌}
use Rattle.std.proofs.Common.{refl, sym, subst}
use Rattle.fallible_contract.specs.Laws.BoundsRuns.{bounds_runs_by_fewer_after_item, bounds_runs_by_no_more_after_failure}
use Rattle.fallible_contract.specs.Traces.{Answered, Run}
use Rattle.fallible_contract.specs.Contract.{Contract, OnAnswer, KeptByDraw, Lawful}
use Rattle.fallible_iterator.specs.Sources.Repeat.{RepeatAnswer, repeat_contract}
use Rattle.fallible_iterator.specs.Laws.Sources.Hints.{repeat_hold}
use Rattle.std.specs.declared.alloc.AllocError.{AllocError}
use Rattle.std.proofs.lemmas.List.Elements.{All-nil, All-cons, All-head, All-tail}

-- ---- one answer again and again

module _ {V A E : Type 0} (P : V → Answered A E → Type 0) where
  abbrev answers_again : V → Answered A E → V → Type 0
  answers_again v r w = P v r × (w ≡ v)

  all_of_run_of_answers_again : (trace : List (Answered A E)) (v w : V) → Run answers_again v trace w → All (P v) trace × (w ≡ v)
  all_of_run_of_answers_again [] v w h = (All-nil (P v), sym h)
  all_of_run_of_answers_again (r ∷ rest) v w h = let p = all_of_run_of_answers_again rest v w (subst (λ u. Run answers_again u rest w) h.1.1 h.2) in (All-cons (P v) r rest h.1.0 p.0, p.1)

  run_of_all_answers_again : (trace : List (Answered A E)) (v w : V) → All (P v) trace × (w ≡ v) → Run answers_again v trace w
  run_of_all_answers_again [] v w h = sym h.1
  run_of_all_answers_again (r ∷ rest) v w h = (v, (All-head (P v) r rest h.0, refl), run_of_all_answers_again rest v w (All-tail (P v) r rest h.0, h.1))

  pub run_again_is_all_such_answers : (v : V) (trace : List (Answered A E)) (w : V) → Run answers_again v trace w ↔ (All (P v) trace × (w ≡ v))
  run_again_is_all_such_answers v trace w = (all_of_run_of_answers_again trace v w, run_of_all_answers_again trace v w)

module _ {A E : Type 0} (is_clone : A → A → Type 0) (is_infallible : A → Type 0) (from : AllocError → E → Type 0) where
  abbrev RepeatContract : Contract A A E
  RepeatContract = repeat_contract is_clone is_infallible from

  on_answer_of_repeat : (v : A) (r : Answered A E) → RepeatAnswer is_clone is_infallible from v r → OnAnswer RepeatContract v r v
  on_answer_of_repeat v (Ok (Some x)) h = (h, (λ n b. bounds_runs_by_fewer_after_item {steps = RepeatContract.steps} x (h, refl) b), (λ f. absurd f))
  on_answer_of_repeat v (Ok None) h = absurd h
  on_answer_of_repeat v (Err e) h = (h, (λ n b. bounds_runs_by_no_more_after_failure {steps = RepeatContract.steps} e (h, refl) b), (λ f. absurd f))

  kept_by_draw_repeat : (v : A) (r : Answered A E) (w : A) → RepeatContract.steps v r w → KeptByDraw RepeatContract v r w
  kept_by_draw_repeat v r w step = subst (λ (u : A). KeptByDraw RepeatContract v r u) (sym step.1) (record { can_next = tt; is_finite = λ e. e; answer = on_answer_of_repeat v r step.0; may_give = λ x h. h; may_fail = λ e h. h; lenders = refl })

  pub lawful_repeat : Lawful RepeatContract
  lawful_repeat = record { kept_by_draw = λ v r w c step. kept_by_draw_repeat v r w step; bounded = λ v. ((λ e. e), (λ p. p)); hold = repeat_hold is_clone is_infallible from; traced = run_again_is_all_such_answers (RepeatAnswer is_clone is_infallible from) }
