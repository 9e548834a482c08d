-- `Repeat`: clones as items.
use Rattle.std.specs.Prelude.{Some, ◌≡◌, List, None, Ok, Err, ◌^◌, ◌-◌, All}
use Rattle.fallible_contract.specs.Traces.{Answered, item, failure}
use Rattle.fallible_contract.specs.Sound.{sound_always}
use Rattle.fallible_contract.specs.Contract.{Contract, unbounded_contract, Inverse}
use Rattle.fallible_contract.specs.Refusals.{RefusedAs}
use Rattle.std.specs.declared.alloc.AllocError.{AllocError}
use Rattle.fallible_iterator.specs.declared.sources.repeat.Repeat.{Repeat}
use Rattle.std.proofs.Common.{refl}

-- the value that is cloned
abbrev pub repeat_parts : {T E : Type 0} → Repeat T E → T
repeat_parts s = s.value

-- and back
pub repeat_made : {T E : Type 0} → Inverse (repeat_parts {T = T} {E = E})
repeat_made = record { make = λ p. record { value = p; error_type = record {} }; made = λ s. refl; has = λ p. refl }

module _ {A E : Type 0} (is_clone : A → A → Type 0) (is_infallible : A → Type 0) (from : AllocError → E → Type 0) where
  -- one answer of `Repeat`
  abbrev pub RepeatAnswer : A → Answered A E → Type 0
  RepeatAnswer v (Ok (Some x)) = is_clone v x
  RepeatAnswer v (Ok None) = ⊥
  RepeatAnswer v (Err e) = RefusedAs is_infallible from v e

  -- `Repeat`: always a clone, or, if the clone fails to allocate, the failure converted from its `AllocError`.
  abbrev pub RepeatTrace : A → List (Answered A E) → A → Type 0
  RepeatTrace v trace w = All (RepeatAnswer v) trace × (w ≡ v)

  -- `Repeat`'s contract. It has a bound only where its runs do.
  abbrev pub repeat_contract : Contract A A E
  repeat_contract = record (unbounded_contract (λ v r w. RepeatAnswer v r × (w ≡ v))) {
    may_give = λ v x. RepeatAnswer v (item x);
    may_fail = λ v e. RepeatAnswer v (failure e);
    hints = λ _ h. h ≡ (2 ^ 64 - 1, None);
    traces = RepeatTrace;
    sound = sound_always;
  }
