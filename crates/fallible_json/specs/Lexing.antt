-- The tokens of placed bytes.
use Rattle.std.specs.Prelude.{ℕ, Option, Some, None, option_map, unwrap_or, Result, Ok, Err, List, [], ◌∷◌}
use Rattle.std.specs.Option.{option_map_or}
use Rattle.fallible_itertools.specs.Lexing.{TokenRules, lexed_by, rest_lexed_by}
use Rattle.fallible_json.specs.Tokens.{after, begun_by, is_blank, token_of}
use Rattle.fallible_json.specs.Wanted.{wanted_in}
use Rattle.fallible_json.specs.declared.lexer.LexFault.{LexFault}
use Rattle.fallible_json.specs.declared.lexer.LexFault.TheVariants.{Source, Unknown, Unfinished}
use Rattle.fallible_json.specs.declared.token.Phase.{Phase}
use Rattle.fallible_json.specs.declared.token.Token.{Token}
use Rattle.fallible_json.specs.declared.wanted.Wanted.{Wanted}

-- a byte and its place, the place first
abbrev pub Placed : Type 0
Placed = ℕ × ℕ

-- a token, after the places of its first byte and of its last
abbrev pub Lexeme : Type 0
Lexeme = ℕ × ℕ × Token

-- what is begun of a token: the places of its first byte and of its last so far, and what its bytes are
abbrev pub Begun : Type 0
Begun = ℕ × ℕ × Phase

-- what a byte begins at its place
abbrev pub begun_at : Placed → Option Begun
begun_at (place, byte) = option_map (λ phase. (place, place, phase)) (begun_by byte)

-- what is begun with a byte that goes on with it
abbrev pub begun_with : Begun → Placed → Option Begun
begun_with (first, last, phase) (place, byte) = option_map (λ next. (first, place, next)) (after phase byte)

-- the token with a byte that goes on with it
abbrev pub with_byte : Phase → ℕ → Phase
with_byte phase byte = unwrap_or (after phase byte) phase

module _ {E : Type 0} where
  -- a token at its places, or the failure of one whose last byte doesn't end it, with what could come next
  abbrev pub lexeme_or : ℕ → ℕ → Wanted → Option Token → Result Lexeme (LexFault E)
  lexeme_or first last wanted (Some token) = Ok (first, last, token)
  lexeme_or first last wanted None = Err (Unfinished last wanted)

  abbrev pub closed : ℕ → ℕ → Phase → Result Lexeme (LexFault E)
  closed first last phase = lexeme_or first last (wanted_in phase) (token_of phase)

  -- ---- what a run makes of a list

  -- The bytes in front that go on with a token, one after the other: the place of the last and what the token is then, or a failure that comes before; and the list without them, or without the failure.
  unfoldable pub run_of : ℕ × Phase → List (Result Placed E) → Result (ℕ × Phase) E × List (Result Placed E)
  run_of b [] = (Ok b, [])
  run_of b (Ok x ∷ l) = option_map_or (λ phase. run_of (x.0, phase) l) (after b.1 x.1) (Ok b, Ok x ∷ l)
  run_of b (Err e ∷ l) = (Err e, l)

  -- ---- the tokens of a list

  -- Placed bytes make tokens: each is the longest run of bytes that go on with what the first of them begins, and a blank stands between them.
  abbrev pub token_rules : TokenRules Placed Begun E Lexeme (LexFault E)
  token_rules = record {
    skips = λ x. is_blank x.1;
    begins = begun_at;
    goes_on = begun_with;
    closed = λ s. closed s.0 s.1 s.2;
    alone = λ x. Err (Unknown x.0);
    told = Source;
  }

  -- The tokens of placed bytes, each with its places.
  abbrev pub lexed : List (Result Placed E) → List (Result Lexeme (LexFault E))
  lexed l = lexed_by token_rules None l

  -- What a draw leaves of placed bytes: what comes after the blanks and the token, or after the failure that comes first.
  abbrev pub rest_lexed : List (Result Placed E) → List (Result Placed E)
  rest_lexed l = rest_lexed_by token_rules None l
