-- The text of JSON without the blanks between its tokens, of its tokens at their places.
use Rattle.std.specs.Prelude.{◌≡◌, ℕ, ◌+◌, ◌-◌, nat_le, nat_lt, ◌&&◌, if◌then◌else◌, Bool, true, false, Option, Some, None, Result, Ok, Err, List, [], ◌∷◌, ◌++◌, length, take, drop, ⊤}
use Rattle.std.specs.declared.alloc.Global.{Global}
use Rattle.std.specs.declared.vec.Vec.{Vec}
use Rattle.fallible_iterator.specs.Fault.{Fault}
use Rattle.fallible_iterator.specs.Fault.TheVariants as fault
use Rattle.fallible_iterator.specs.Lists.{folded, on_value}
use Rattle.fallible_json.specs.Grammar.{State, after_token, begin, is_whole}
use Rattle.fallible_json.specs.Lexing.{Lexeme}
use Rattle.fallible_json.specs.Wanted.{wanted_of}
use Rattle.fallible_json.specs.declared.minifying.Misplaced.{Misplaced}
use Rattle.fallible_json.specs.declared.minifying.Misplaced.TheVariants.{Source, Unexpected, Ended}
use Rattle.fallible_json.specs.declared.wanted.Wanted.{Wanted}

-- the bytes of a text from the first to the last; none, where it has no such bytes
abbrev pub bytes_of : List ℕ → ℕ → ℕ → List ℕ
bytes_of text first last = if nat_le first last && nat_lt last (length text) then take (last + 1 - first) (drop first text) else []

-- the bytes of tokens of a text, one after the other
unfoldable pub bytes_of_all : List ℕ → List Lexeme → List ℕ
bytes_of_all text [] = []
bytes_of_all text (x ∷ xs) = bytes_of text x.0 x.1 ++ bytes_of_all text xs

-- by what a token makes of the state: where it may not stand, and where it may
abbrev pub by_whether_taken : Option State → State → (State → State) → State
by_whether_taken (Some next) state goes = goes next
by_whether_taken None state goes = state

module _ {E : Type 0} where
  -- what a token leaves: the state after it, if it may stand there, and the text with its bytes
  abbrev pub moved : ℕ → List ℕ → Option State → Result (State × List ℕ) (Misplaced E)
  moved first json (Some state) = Ok (state, json)
  moved first json None = Err (Unexpected first)

  -- what one token makes of the state and of the text so far
  abbrev pub after_lexeme : List ℕ → State × List ℕ → Lexeme → Result (State × List ℕ) (Misplaced E)
  after_lexeme text b x = moved x.0 (b.1 ++ bytes_of text x.0 x.1) (after_token b.0 x.2)

  -- what it comes to at the end: the text, where the tokens are one JSON text
  abbrev pub ended : Bool → List ℕ → Result (List ℕ) (Misplaced E)
  ended true json = Ok json
  ended false json = Err Ended

  -- what it comes to from here on
  abbrev pub minified_from : List ℕ → State × List ℕ → List (Result Lexeme E) → Result (List ℕ) (Misplaced E)
  minified_from text b l = on_value (folded (λ e. Source e) (after_lexeme text) b l) (λ c. ended (is_whole c.0) c.1)

  -- The bytes of the tokens of a text, one after the other, where these are one JSON text; or the first fault: of the source, of a token that may not stand where it stands, or of the end.
  abbrev pub minified : List ℕ → List (Result Lexeme E) → Result (List ℕ) (Misplaced E)
  minified text l = minified_from text (begin, []) l

  -- ---- with what could come where the fault is

  -- the state before the first token that may not stand where it stands, before a failure, or at the end
  unfoldable pub state_at : State → List (Result Lexeme E) → State
  state_at state [] = state
  state_at state (Ok x ∷ l) = by_whether_taken (after_token state x.2) state (λ next. state_at next l)
  state_at state (Err e ∷ l) = state

  -- a fault, with what could come there
  abbrev pub with_wanted : Wanted → Result (List ℕ) (Misplaced E) → Result (List ℕ) (Misplaced E × Wanted)
  with_wanted wanted (Ok json) = Ok json
  with_wanted wanted (Err fault) = Err (fault, wanted)

  -- what it comes to from here on, a fault with what could come there
  abbrev pub wanting_from : List ℕ → State × List ℕ → List (Result Lexeme E) → Result (List ℕ) (Misplaced E × Wanted)
  wanting_from text b l = with_wanted (wanted_of (state_at b.0 l)) (minified_from text b l)

  -- The bytes of the tokens of a text, where these are one JSON text; or the first fault, and what could come there.
  abbrev pub minified_or_wanted : List ℕ → List (Result Lexeme E) → Result (List ℕ) (Misplaced E × Wanted)
  minified_or_wanted text l = wanting_from text (begin, []) l

-- The bytes are those that are wanted, or the fault is that; want of memory says nothing.
abbrev pub ComesFrom : {F : Type 0} → Result (List ℕ) F → Result (Vec ℕ Global) (Fault F) → Type 0
ComesFrom wanted (Ok json) = wanted ≡ Ok json.items
ComesFrom wanted (Err (fault.Source f)) = wanted ≡ Err f
ComesFrom wanted (Err (fault.Memory a)) = ⊤
