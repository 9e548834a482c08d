-- The contract of `OnceErr` is lawful.
use Rattle.std.specs.Prelude.{Option, Some, None}
use Rattle.std.proofs.Common.{refl, sym, subst, arith}
use Rattle.fallible_contract.specs.Traces.{Answered, failure, end}
use Rattle.fallible_contract.specs.Contract.{Contract, KeptByDraw, Lawful}
use Rattle.fallible_contract.specs.Held.{once_step}
use Rattle.fallible_iterator.specs.Sources.OnceErr.{once_err_contract}
use Rattle.fallible_iterator.specs.Laws.Sources.Hints.{once_err_hold}
use Rattle.fallible_contract.proofs.Lemmas.Held.{once_run_iff_once_trace}

module _ {A E : Type 0} where
  abbrev OnceErrContract : Contract (Option E) A E
  OnceErrContract = once_err_contract

  kept_by_draw_once_err_given : (e : E) → KeptByDraw OnceErrContract (Some e) (failure e) None
  kept_by_draw_once_err_given e = record { can_next = tt; is_finite = λ d. d; answer = (refl, (λ n b. (n, tt, omega arith)), (λ f. (tt, omega arith))); may_give = λ y d. d; may_fail = λ d h. absurd cc; lenders = refl }

  kept_by_draw_once_err_ended : KeptByDraw OnceErrContract None end None
  kept_by_draw_once_err_ended = record { can_next = tt; is_finite = λ e. e; answer = ((λ n b. (n, b, omega arith)), (λ f. (f, omega arith))); may_give = λ y e. e; may_fail = λ d e. e; lenders = refl }

  kept_by_draw_once_err : (v : Option E) (r : Answered A E) (w : Option E) → once_step failure v r w → KeptByDraw OnceErrContract v r w
  kept_by_draw_once_err (Some x) r w step = subst (λ (q : Answered A E). KeptByDraw OnceErrContract (Some x) q w) (sym step.0) (subst (λ (u : Option E). KeptByDraw OnceErrContract (Some x) (failure x) u) (sym step.1) (kept_by_draw_once_err_given x))
  kept_by_draw_once_err None r w step = subst (λ (q : Answered A E). KeptByDraw OnceErrContract None q w) (sym step.0) (subst (λ (u : Option E). KeptByDraw OnceErrContract None end u) (sym step.1) kept_by_draw_once_err_ended)

  pub lawful_once_err : Lawful OnceErrContract
  lawful_once_err = record { kept_by_draw = λ v r w c step. kept_by_draw_once_err v r w step; bounded = λ v. ((λ e. (0, tt)), (λ p. tt)); hold = once_err_hold; traced = once_run_iff_once_trace failure }
