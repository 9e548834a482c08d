-- `RepeatErr`: clones as failures.
use Rattle.std.specs.Prelude.{Some, ◌≡◌, List, Ok, Err, ⊤, ◌⊎◌, All}
use Rattle.std.specs.Iterator.{endless}
use Rattle.fallible_contract.specs.Traces.{Answered, failure}
use Rattle.fallible_contract.specs.Sound.{sound_always}
use Rattle.fallible_contract.specs.Contract.{Contract, no_lenders, Inverse}
use Rattle.fallible_contract.specs.Refusals.{RefusedAs}
use Rattle.std.specs.declared.alloc.AllocError.{AllocError}
use Rattle.fallible_iterator.specs.declared.sources.repeat_err.RepeatErr.{RepeatErr}
use Rattle.std.proofs.Common.{refl}

-- the failure that is cloned
abbrev pub repeat_err_parts : {T E : Type 0} → RepeatErr T E → E
repeat_err_parts s = s.error

-- and back
pub repeat_err_made : {T E : Type 0} → Inverse (repeat_err_parts {T = T} {E = E})
repeat_err_made = record { make = λ p. record { item_type = record {}; error = p }; made = λ s. refl; has = λ p. refl }

module _ {A E : Type 0} (is_clone : E → E → Type 0) (is_infallible : E → Type 0) (from : AllocError → E → Type 0) where
  -- one answer of `RepeatErr`
  abbrev pub RepeatErrAnswer : E → Answered A E → Type 0
  RepeatErrAnswer v (Ok x) = ⊥
  RepeatErrAnswer v (Err e) = is_clone v e ⊎ RefusedAs is_infallible from v e

  -- `RepeatErr`: always a failure with a clone, or, if the clone fails to allocate, the failure converted from its `AllocError`.
  abbrev pub RepeatErrTrace : E → List (Answered A E) → E → Type 0
  RepeatErrTrace v trace w = All (RepeatErrAnswer v) trace × (w ≡ v)

  -- `RepeatErr`'s contract: no item comes.
  abbrev pub repeat_err_contract : Contract E A E
  repeat_err_contract = record {
    can_next = λ _. ⊤;
    steps = λ v r w. RepeatErrAnswer v r × (w ≡ v);
    bound = λ _ _. ⊤;
    is_finite = λ _. ⊤;
    remaining = λ _. endless;
    may_give = λ _ _. ⊥;
    may_fail = λ v e. RepeatErrAnswer v (failure e);
    hints = λ _ h. h ≡ (0, Some 0);
    lenders = λ _. no_lenders;
    traces = RepeatErrTrace;
    sound = sound_always;
  }
