-- The contract of `Once` is lawful.
use Rattle.std.specs.Prelude.{Option, Some, None}
use Rattle.std.proofs.Common.{refl, sym, subst, arith}
use Rattle.fallible_contract.specs.Traces.{Answered, item, end}
use Rattle.fallible_contract.specs.Contract.{Contract, KeptByDraw, Lawful}
use Rattle.fallible_contract.specs.Held.{held_count, once_step}
use Rattle.fallible_iterator.specs.Sources.Once.{once_contract}
use Rattle.fallible_iterator.specs.Laws.Sources.Hints.{once_hold}
use Rattle.fallible_contract.proofs.Lemmas.Held.{once_run_iff_once_trace}

module _ {A E : Type 0} where
  abbrev OnceContract : Contract (Option A) A E
  OnceContract = once_contract

  kept_by_draw_once_given : (x : A) → KeptByDraw OnceContract (Some x) (item x) None
  kept_by_draw_once_given x = record { can_next = tt; is_finite = λ e. e; answer = (refl, (λ n b. (0, omega arith, omega (arith, b))), (λ f. (tt, omega arith))); may_give = λ y e. absurd cc; may_fail = λ d e. e; lenders = refl }

  kept_by_draw_once_ended : KeptByDraw OnceContract None end None
  kept_by_draw_once_ended = record { can_next = tt; is_finite = λ e. e; answer = ((λ n b. (n, b, omega arith)), (λ f. (f, omega arith))); may_give = λ y e. e; may_fail = λ d e. e; lenders = refl }

  kept_by_draw_once : (v : Option A) (r : Answered A E) (w : Option A) → once_step item v r w → KeptByDraw OnceContract v r w
  kept_by_draw_once (Some x) r w step = subst (λ (q : Answered A E). KeptByDraw OnceContract (Some x) q w) (sym step.0) (subst (λ (u : Option A). KeptByDraw OnceContract (Some x) (item x) u) (sym step.1) (kept_by_draw_once_given x))
  kept_by_draw_once None r w step = subst (λ (q : Answered A E). KeptByDraw OnceContract None q w) (sym step.0) (subst (λ (u : Option A). KeptByDraw OnceContract None end u) (sym step.1) kept_by_draw_once_ended)

  pub lawful_once : Lawful OnceContract
  lawful_once = record { kept_by_draw = λ v r w c step. kept_by_draw_once v r w step; bounded = λ v. ((λ e. (held_count v, omega arith)), (λ p. tt)); hold = once_hold; traced = once_run_iff_once_trace item }
