-- `Once`: one item.
use Rattle.std.specs.Prelude.{Option, Some, ◌≡◌, ◌≤◌, ⊤}
use Rattle.std.specs.Iterator.{at_most}
use Rattle.fallible_contract.specs.Traces.{item}
use Rattle.fallible_contract.specs.Sound.{sound_always}
use Rattle.fallible_contract.specs.Contract.{Contract, no_lenders, Inverse}
use Rattle.fallible_contract.specs.Held.{OnceTrace, once_step, held_count}
use Rattle.fallible_iterator.specs.declared.sources.once.Once.{Once}
use Rattle.std.proofs.Common.{refl}

-- the item that is still to come
abbrev pub once_parts : {T E : Type 0} → Once T E → Option T
once_parts s = s.value

-- and back
pub once_made : {T E : Type 0} → Inverse (once_parts {T = T} {E = E})
once_made = record { make = λ p. record { value = p; error_type = record {} }; made = λ s. refl; has = λ p. refl }

-- `Once`'s contract: what is held is all that may come.
abbrev pub once_contract : {A E : Type 0} → Contract (Option A) A E
once_contract = record {
  can_next = λ _. ⊤;
  steps = once_step item;
  bound = λ v n. held_count v ≤ n;
  is_finite = λ _. ⊤;
  remaining = λ v. at_most (held_count v);
  may_give = λ v x. v ≡ Some x;
  may_fail = λ _ _. ⊥;
  hints = λ v h. h ≡ (held_count v, Some (held_count v));
  lenders = λ _. no_lenders;
  traces = OnceTrace item;
  sound = sound_always;
}
