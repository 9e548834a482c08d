-- `Convert`: the results of a std iterator.
use Rattle.std.specs.Prelude.{◌≡◌, ℕ, ◌≤◌, true, IfSome, Option, List, length, Result, Ok, Err}
use Rattle.std.specs.Iterator.{Count}
use Rattle.std.specs.Iterator.Runs.{EachRunFrom}
use Rattle.std.specs.List.{HoldsAt}
use Rattle.fallible_contract.specs.Traces.{Answered}
use Rattle.fallible_contract.specs.Contract.{Contract, Inverse}
use Rattle.fallible_contract.specs.Ends.{Ends}
use Rattle.fallible_iterator.specs.Sources.Std.{StdTrace, std_contract, std_ends}
use Rattle.fallible_iterator.specs.declared.sources.convert.Convert.{Convert}
use Rattle.std.proofs.Common.{refl}

-- the std iterator
abbrev pub convert_parts : {I : Type 0} → Convert I → I
convert_parts s = s.it

-- and back
pub convert_made : {I : Type 0} → Inverse (convert_parts {I = I})
convert_made = record { make = λ p. record { it = p }; made = λ s. refl; has = λ p. refl }

module _ {S A E : Type 0} (can : S → Type 0) (gives : S → Option (Result A E) → S → Type 0) (remaining : S → Count) where
  -- `Convert`: `Ok` is an item, `Err` a failure, none an end.
  abbrev pub ConvertTrace : S → List (Answered A E) → S → Type 0
  ConvertTrace = StdTrace Ok Err can gives remaining

  -- `Convert`'s contract.
  abbrev pub convert_contract : Contract S A E
  convert_contract = record (std_contract Ok Err can gives remaining) { traces = ConvertTrace }

-- `Convert`'s second end.
abbrev pub convert_ends : {S A E : Type 0} → (can can_back : S → Type 0) (gives gives_back : S → Option (Result A E) → S → Type 0) → (S → Count) → Ends S A E
convert_ends can can_back gives gives_back remaining = std_ends Ok Err can can_back gives gives_back remaining

-- Whatever calls of a std iterator's `next` return from s, it reads the list, each element in an `Ok`: what comes at a place is the element there, and `None` comes only after the last one.
abbrev pub ItemsRead : {S A E : Type 0} → (S → Option (Result A E) → S → Type 0) → S → List A → Type 0
ItemsRead gives s l = EachRunFrom gives s (λ p. (p.len ≤ length l) × (p.whole ≡ true → p.len ≡ length l) × ((k : ℕ) → IfSome (p.at k) (λ y. HoldsAt (λ x. y ≡ Ok x) l k)))
