-- Adapters that step in their own way: a draw of one goes as a draw of its source goes.
use Rattle.std.specs.Prelude.{ℕ, Option, Some, None, Ok, Err}
use Rattle.fallible_contract.specs.Traces.{Answered}
use Rattle.fallible_contract.specs.Laws.Sound.{own_hold}
use Rattle.fallible_contract.specs.Contract.{Contract, OnAnswer, KeptByDraw, Lawful}
use Rattle.fallible_contract.specs.WithSteps.{with_steps_contract}

module _ {S C A E : Type 0} (m : Contract S A E) (steps : S × C → Answered A E → S × C → Type 0) (hints : S × C → ℕ × Option ℕ → Type 0) where
  on_answer_with_steps : (p : S × C) (r : Answered A E) (q : S × C) → OnAnswer m p.0 r q.0 → OnAnswer (with_steps_contract m steps hints) p r q
  on_answer_with_steps p (Ok (Some x)) q h = h
  on_answer_with_steps p (Ok None) q h = h
  on_answer_with_steps p (Err e) q h = h

module _ {S C A E : Type 0} {m : Contract S A E} {steps : S × C → Answered A E → S × C → Type 0} {hints : S × C → ℕ × Option ℕ → Type 0} where
  pub kept_by_draw_with_steps : (p : S × C) (r : Answered A E) (q : S × C) → KeptByDraw m p.0 r q.0 → KeptByDraw (with_steps_contract m steps hints) p r q
  kept_by_draw_with_steps p r q g = record { can_next = g.can_next; is_finite = g.is_finite; answer = on_answer_with_steps m steps hints p r q g.answer; may_give = g.may_give; may_fail = g.may_fail; lenders = g.lenders }

  pub lawful_with_steps : ((p : S × C) (r : Answered A E) (q : S × C) → m.can_next p.0 → steps p r q → KeptByDraw m p.0 r q.0) → Lawful m → Lawful (with_steps_contract m steps hints)
  lawful_with_steps goes l = record { kept_by_draw = λ p r q c step. kept_by_draw_with_steps p r q (goes p r q c step); bounded = λ p. l.bounded p.0; traced = λ _ _ _. ((λ h. h), (λ h. h)); hold = own_hold }
