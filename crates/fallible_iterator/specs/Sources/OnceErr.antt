-- `OnceErr`: one failure.
use Rattle.std.specs.Prelude.{Option, Some, ◌≡◌, ⊤}
use Rattle.std.specs.Iterator.{at_most}
use Rattle.fallible_contract.specs.Traces.{failure}
use Rattle.fallible_contract.specs.Sound.{sound_always}
use Rattle.fallible_contract.specs.Contract.{Contract, no_lenders, Inverse}
use Rattle.fallible_contract.specs.Held.{OnceTrace, once_step, held_count}
use Rattle.fallible_iterator.specs.declared.sources.once_err.OnceErr.{OnceErr}
use Rattle.std.proofs.Common.{refl}

-- the failure that is still to come
abbrev pub once_err_parts : {T E : Type 0} → OnceErr T E → Option E
once_err_parts s = s.error

-- and back
pub once_err_made : {T E : Type 0} → Inverse (once_err_parts {T = T} {E = E})
once_err_made = record { make = λ p. record { item_type = record {}; error = p }; made = λ s. refl; has = λ p. refl }

-- `OnceErr`'s contract: no item comes, and what is held is the one failure that may.
abbrev pub once_err_contract : {A E : Type 0} → Contract (Option E) A E
once_err_contract = record {
  can_next = λ _. ⊤;
  steps = once_step failure;
  bound = λ _ n. ⊤;
  is_finite = λ _. ⊤;
  remaining = λ v. at_most (held_count v);
  may_give = λ _ _. ⊥;
  may_fail = λ v e. v ≡ Some e;
  hints = λ _ h. h ≡ (0, Some 0);
  lenders = λ _. no_lenders;
  traces = OnceTrace failure;
  sound = sound_always;
}
