-- The contract of an adapter that one place closes is lawful if its source's is.
use Rattle.std.specs.Prelude.{Bool, true, false}
use Rattle.std.proofs.Common.{arith, refl}
use Rattle.fallible_contract.specs.Traces.{Answered, end}
use Rattle.fallible_contract.specs.Laws.Sound.{own_hold}
use Rattle.fallible_contract.specs.Contract.{Contract, KeptByDraw, Lawful}
use Rattle.fallible_contract.specs.Closing.{closing_contract}
use Rattle.fallible_contract.specs.Laws.WithSteps.{kept_by_draw_with_steps}

module _ {P Q B E : Type 0} (m : Contract P B E) (draws : P → Q → P → Type 0) (answer : Q → Answered B E) (closes : Q → Bool) where
  abbrev ClosingContract : Contract (P × Bool) B E
  ClosingContract = closing_contract m draws answer closes

  kept_by_draw_closed : (p : P) → m.can_next p → KeptByDraw ClosingContract (p, true) end (p, true)
  kept_by_draw_closed p c = record { can_next = c; is_finite = λ e. e; answer = ((λ n b. (n, b, omega arith)), (λ f. (f, omega arith))); may_give = λ x h. h; may_fail = λ e h. h; lenders = refl }

  kept_by_draw_closing : ((p : P) (x : Q) (q : P) → m.can_next p → draws p x q → KeptByDraw m p (answer x) q) → (p : P × Bool) (r : Answered B E) (q : P × Bool) → ClosingContract.can_next p → ClosingContract.steps p r q → KeptByDraw ClosingContract p r q
  kept_by_draw_closing goes (p, true) r (q, c) can step = rw (step.0, step.1, step.2) (kept_by_draw_closed p can)
  kept_by_draw_closing goes (p, false) r (q, c) can step = rw step.2 (kept_by_draw_with_steps (p, false) (answer step.0) (q, c) (goes p step.0 q can step.1))

pub lawful_closing : {P Q B E : Type 0} {m : Contract P B E} (draws : P → Q → P → Type 0) (answer : Q → Answered B E) (closes : Q → Bool) → ((p : P) (x : Q) (q : P) → m.can_next p → draws p x q → KeptByDraw m p (answer x) q) → Lawful m → Lawful (closing_contract m draws answer closes)
lawful_closing {m = m} draws answer closes goes l = record { kept_by_draw = kept_by_draw_closing m draws answer closes goes; bounded = λ p. l.bounded p.0; traced = λ _ _ _. ((λ h. h), (λ h. h)); hold = own_hold }
