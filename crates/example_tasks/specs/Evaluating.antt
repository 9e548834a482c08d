-- The value of tokens that come with their places.
use Rattle.std.specs.Prelude.{◌≡◌, ℕ, ℤ, Bool, true, List, [], Result, Ok, Err, vec_capacity}
use Rattle.std.specs.Int.{cast_signed, w64}
use Rattle.std.specs.declared.alloc.Global.{Global}
use Rattle.std.specs.declared.vec.Vec.{Vec}
use Rattle.fallible_iterator.specs.Lists.{folded, on_value}
use Rattle.example_tasks.specs.Expressions.{no_terms, after_token, after_token_in, value_at_end}
use Rattle.example_tasks.specs.declared.evaluating.Misplaced.{Misplaced}
use Rattle.example_tasks.specs.declared.evaluating.Misplaced.TheVariants as misplaced
use Rattle.example_tasks.specs.declared.tokens.Level.{Level}
use Rattle.example_tasks.specs.declared.tokens.TextFault.{TextFault}
use Rattle.example_tasks.specs.declared.tokens.TextFault.TheVariants.{Memory, Unexpected, Unknown}
use Rattle.example_tasks.specs.declared.tokens.Token.{Token}

-- a token and its place, the place first
abbrev pub PlacedToken : Type 0
PlacedToken = ℕ × Token

-- the state of a calculation: the levels outside, the level at hand, and whether a number or an opening parenthesis is to come
abbrev pub State : Type 0
State = List Level × Level × Bool

module _ {E : Type 0} where
  -- the fault of a token: an allocation's, or the token itself with its place
  abbrev pub fault_at : PlacedToken → TextFault → Misplaced E
  fault_at x Memory = misplaced.Memory
  fault_at x Unexpected = misplaced.Unexpected x.0 x.1
  fault_at x Unknown = misplaced.Unexpected x.0 x.1

  -- what a token made of the state, where its failure gets its place
  abbrev pub placed : PlacedToken → Result State TextFault → Result State (Misplaced E)
  placed x (Ok state) = Ok state
  placed x (Err e) = Err (fault_at x e)

  -- the value at the end, as a signed number
  abbrev pub ended : Result ℕ TextFault → Result ℤ (Misplaced E)
  ended (Ok n) = Ok (cast_signed w64 n)
  ended (Err e) = Err misplaced.Ended

  -- the value of the tokens from here on, where `after` says what each makes of the state; or the first fault
  abbrev pub placed_value_from : (State → Token → Result State TextFault) → State → List (Result PlacedToken E) → Result ℤ (Misplaced E)
  placed_value_from after state l = on_value (folded (λ e. misplaced.Source e) (λ s x. placed x (after s x.1)) state l) (λ s. ended (value_at_end s))

  -- the value of the tokens, or the first fault
  abbrev pub value_of_placed : List (Result PlacedToken E) → Result ℤ (Misplaced E)
  value_of_placed l = placed_value_from after_token ([], no_terms, true) l

  -- It is the value of the tokens where as many parentheses may be open at once as some vector has room for.
  pub record IsPlacedValueInRoom (l : List (Result PlacedToken E)) (r : Result ℤ (Misplaced E)) : Type 0 where
    pub levels : Vec Level Global
    pub is : r ≡ placed_value_from (after_token_in (vec_capacity levels)) ([], no_terms, true) l
