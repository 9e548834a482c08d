-- The contract of `RepeatErrContract` is lawful.
use Rattle.std.specs.Prelude.{Some, None, Ok, Err}
use Rattle.std.proofs.Common.{sym, subst, arith, refl}
use Rattle.fallible_contract.specs.Traces.{Answered}
use Rattle.fallible_contract.specs.Contract.{Contract, OnAnswer, KeptByDraw, Lawful}
use Rattle.fallible_iterator.specs.Sources.RepeatErr.{RepeatErrAnswer, repeat_err_contract}
use Rattle.std.specs.declared.alloc.AllocError.{AllocError}
use Rattle.fallible_iterator.specs.Laws.Sources.Repeat.{run_again_is_all_such_answers}
use Rattle.fallible_iterator.specs.Laws.Sources.Hints.{repeat_err_hold}

module _ {A E : Type 0} (is_clone : E → E → Type 0) (is_infallible : E → Type 0) (from : AllocError → E → Type 0) where
  abbrev RepeatErrContract : Contract E A E
  RepeatErrContract = repeat_err_contract is_clone is_infallible from

  on_answer_of_repeat_err : (v : E) (r : Answered A E) → RepeatErrAnswer is_clone is_infallible from v r → OnAnswer RepeatErrContract v r v
  on_answer_of_repeat_err v (Ok (Some x)) h = absurd h
  on_answer_of_repeat_err v (Ok None) h = absurd h
  on_answer_of_repeat_err v (Err e) h = (h, (λ n b. (n, tt, omega arith)), (λ f. absurd f))

  kept_by_draw_repeat_err : (v : E) (r : Answered A E) (w : E) → RepeatErrContract.steps v r w → KeptByDraw RepeatErrContract v r w
  kept_by_draw_repeat_err v r w step = subst (λ (u : E). KeptByDraw RepeatErrContract v r u) (sym step.1) (record { can_next = tt; is_finite = λ e. e; answer = on_answer_of_repeat_err v r step.0; may_give = λ x h. h; may_fail = λ e h. h; lenders = refl })

  pub lawful_repeat_err : Lawful RepeatErrContract
  lawful_repeat_err = record { kept_by_draw = λ v r w c step. kept_by_draw_repeat_err v r w step; bounded = λ v. ((λ e. (0, tt)), (λ p. tt)); hold = repeat_err_hold is_clone is_infallible from; traced = run_again_is_all_such_answers (RepeatErrAnswer is_clone is_infallible from) }
