-- `IntoFallible`: the elements of a std iterator, none of which is a failure.
use Rattle.std.specs.Prelude.{Option, List}
use Rattle.std.specs.Iterator.{Count}
use Rattle.fallible_contract.specs.Traces.{Answered}
use Rattle.fallible_contract.specs.Contract.{Contract, Inverse}
use Rattle.fallible_contract.specs.Ends.{Ends}
use Rattle.fallible_iterator.specs.Sources.Std.{StdTrace, std_contract, std_ends}
use Rattle.std.specs.declared.convert.Infallible.{Infallible}
use Rattle.fallible_iterator.specs.declared.sources.into_fallible.IntoFallible.{IntoFallible}
use Rattle.std.proofs.Common.{refl}

-- the std iterator
abbrev pub into_fallible_parts : {I : Type 0} → IntoFallible I → I
into_fallible_parts s = s.it

-- and back
pub into_fallible_made : {I : Type 0} → Inverse (into_fallible_parts {I = I})
into_fallible_made = record { make = λ p. record { it = p }; made = λ s. refl; has = λ p. refl }

-- nothing is an `Infallible`
abbrev pub never : {Z : Type 0} → Infallible → Z
never e = elim e [ ]

module _ {S A : Type 0} (can : S → Type 0) (gives : S → Option A → S → Type 0) (remaining : S → Count) where
  -- `IntoFallible`: each element is an item, none an end.
  abbrev pub IntoFallibleTrace : S → List (Answered A Infallible) → S → Type 0
  IntoFallibleTrace = StdTrace (λ x. x) never can gives remaining

  -- `IntoFallible`'s contract.
  abbrev pub into_fallible_contract : Contract S A Infallible
  into_fallible_contract = record (std_contract (λ x. x) never can gives remaining) { traces = IntoFallibleTrace }

-- `IntoFallible`'s second end.
abbrev pub into_fallible_ends : {S A : Type 0} → (can can_back : S → Type 0) (gives gives_back : S → Option A → S → Type 0) → (S → Count) → Ends S A Infallible
into_fallible_ends can can_back gives gives_back remaining = std_ends (λ x. x) never can can_back gives gives_back remaining
