-- `Unwrap`, the std iterator over the items of a fallible iterator that never fails.
use Rattle.std.specs.Prelude.{Option, Result, Ok, Err, List, [], ◌∷◌}
use Rattle.fallible_contract.specs.Traces.{Answered}
use Rattle.fallible_core.specs.declared.bridges.unwrap.Unwrap.{Unwrap}

-- the source
abbrev pub unwrap_parts : {I : Type 0} → Unwrap I → I
unwrap_parts s = s.it

-- One call of std's `next` is one draw of the source, which returns an item or an end.
abbrev pub unwrap_steps : {I A E : Type 0} → (I → Answered A E → I → Type 0) → Unwrap I → Option A → Unwrap I → Type 0
unwrap_steps steps s item t = steps (unwrap_parts s) (Ok item) (unwrap_parts t)

-- the items of a list, in order
unfoldable pub unwrapped : {A E : Type 0} → List (Result A E) → List A
unwrapped [] = []
unwrapped (Ok x ∷ l) = x ∷ unwrapped l
unwrapped (Err e ∷ l) = unwrapped l
