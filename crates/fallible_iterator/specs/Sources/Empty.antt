-- `Empty`: only ends.
use Rattle.std.specs.Prelude.{◌≡◌, ℕ, List, replicate, Some, ⊤}
use Rattle.std.specs.Iterator.{at_most}
use Rattle.fallible_contract.specs.Traces.{Answered, end}
use Rattle.fallible_contract.specs.Sound.{sound_always}
use Rattle.fallible_contract.specs.Contract.{Contract, no_lenders}

-- `Empty`: only ends.
abbrev pub EmptyTrace : {A E : Type 0} → List (Answered A E) → Type 0
EmptyTrace trace = (n : ℕ) × (trace ≡ replicate n end)

-- `Empty`'s contract: nothing may come.
abbrev pub empty_contract : {S A E : Type 0} → Contract S A E
empty_contract = record {
  can_next = λ _. ⊤;
  steps = λ _ r _. r ≡ end;
  bound = λ _ _. ⊤;
  is_finite = λ _. ⊤;
  remaining = λ _. at_most 0;
  may_give = λ _ _. ⊥;
  may_fail = λ _ _. ⊥;
  hints = λ _ h. h ≡ (0, Some 0);
  lenders = λ _. no_lenders;
  traces = λ _ trace _. EmptyTrace trace;
  sound = sound_always;
}
