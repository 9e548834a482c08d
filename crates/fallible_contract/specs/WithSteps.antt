-- Adapters that step and hint in their own way, and of which all else is said as of their source.
use Rattle.std.specs.Prelude.{ℕ, Option}
use Rattle.fallible_contract.specs.Traces.{Answered, Run}
use Rattle.fallible_contract.specs.Sound.{own_sound}
use Rattle.fallible_contract.specs.Contract.{Contract}

-- the contract of an adapter that steps and hints in its own way, and of which all else is said as of its source
abbrev pub with_steps_contract : {S C A E : Type 0} → Contract S A E → (S × C → Answered A E → S × C → Type 0) → (S × C → ℕ × Option ℕ → Type 0) → Contract (S × C) A E
with_steps_contract m steps hints = record {
  can_next = λ p. m.can_next p.0;
  steps = steps;
  bound = λ p n. m.bound p.0 n;
  is_finite = λ p. m.is_finite p.0;
  remaining = λ p. m.remaining p.0;
  may_give = λ p x. m.may_give p.0 x;
  may_fail = λ p e. m.may_fail p.0 e;
  hints = hints;
  lenders = λ p. m.lenders p.0;
  traces = λ p trace q. Run steps p trace q;
  sound = own_sound steps;
}
