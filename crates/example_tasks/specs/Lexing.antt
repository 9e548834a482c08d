-- Tokens of placed bytes.
use Rattle.std.specs.Prelude.{ℕ, ◌+◌, ◌*◌, ◌-◌, ◌^◌, nat_lt, if◌then◌else◌, Bool, Option, Some, None, option_map, Result, Ok, Err, List}
use Rattle.std.specs.Char.{is_ascii_alphabetic, is_ascii_alphanumeric, is_ascii_digit, is_ascii_whitespace}
use Rattle.fallible_iterator.specs.Lists.{folded_if, rest_fold_if}
use Rattle.fallible_itertools.specs.Lexing.{TokenRules, lexed_by, rest_lexed_by}
use Rattle.example_tasks.specs.Expressions.{sign_of}
use Rattle.example_tasks.specs.declared.lexing.Kind.{Kind}
use Rattle.example_tasks.specs.declared.lexing.Kind.TheVariants as kinds
use Rattle.example_tasks.specs.declared.lexing.LexFault.{LexFault}
use Rattle.example_tasks.specs.declared.lexing.LexFault.TheVariants.{Source, Unknown, TooLong}
use Rattle.example_tasks.specs.declared.tokens.Token.{Token}
use Rattle.example_tasks.specs.declared.tokens.Token.TheVariants.{Number, Word}

-- a byte and its place, the place first
abbrev pub Placed : Type 0
Placed = ℕ × ℕ

-- ---- tokens of several bytes

-- what a byte begins: a digit a number, a letter a word, and another byte neither
abbrev pub kind_of : ℕ → Option Kind
kind_of byte = if is_ascii_digit byte then Some kinds.Number else if is_ascii_alphabetic byte then Some kinds.Word else None

-- whether a byte goes on with a token: a digit with a number, a letter and a digit with a word
abbrev pub belongs : Kind → ℕ → Bool
belongs kinds.Number byte = is_ascii_digit byte
belongs kinds.Word byte = is_ascii_alphanumeric byte

-- a number with one digit more in a base, if it is below 2 ^ 64
abbrev pub with_digit : ℕ → Option ℕ → ℕ → Option ℕ
with_digit base None digit = None
with_digit base (Some n) digit = if nat_lt (n * base + digit) (2 ^ 64) then Some (n * base + digit) else None

-- the value with one byte more: of a number in base 10, of a word in base 256
abbrev pub with_byte : Kind → Option ℕ → ℕ → Option ℕ
with_byte kinds.Number value byte = with_digit 10 value (byte - 48)
with_byte kinds.Word value byte = with_digit 256 value byte

-- what is begun of a token: its kind, its place, and its value so far
abbrev pub Begun : Type 0
Begun = Kind × ℕ × Option ℕ

-- what a byte begins at its place
abbrev pub begun_at : Placed → Option Begun
begun_at (place, byte) = option_map (λ kind. (kind, place, with_byte kind (Some 0) byte)) (kind_of byte)

-- a token with a byte that goes on with it
abbrev pub begun_with : Begun → Placed → Option Begun
begun_with (kind, place, value) (at, byte) = if belongs kind byte then Some (kind, place, with_byte kind value byte) else None

-- ---- one token at its place

module _ {E : Type 0} where
  -- the token that a value is, or the failure of one that doesn't fit
  abbrev pub token_at : Kind → ℕ → Option ℕ → Result (ℕ × Token) (LexFault E)
  token_at kind place None = Err (TooLong place)
  token_at kinds.Number place (Some n) = Ok (place, Number n)
  token_at kinds.Word place (Some n) = Ok (place, Word n)

  -- the sign that a byte is, or the failure of one that is none
  abbrev pub sign_or_unknown : ℕ → ℕ → Option Token → Result (ℕ × Token) (LexFault E)
  sign_or_unknown place byte (Some sign) = Ok (place, sign)
  sign_or_unknown place byte None = Err (Unknown place byte)

  abbrev pub sign_at : ℕ → ℕ → Result (ℕ × Token) (LexFault E)
  sign_at place byte = sign_or_unknown place byte (sign_of byte)

  -- ---- what a fold makes of a list

  -- the value of a token that was begun, with the bytes in front that go on with it
  abbrev pub value_taken : Kind → Option ℕ → List (Result Placed E) → Result (Option ℕ) E
  value_taken kind value l = folded_if (λ x. Ok (belongs kind x.1)) (λ v x. Ok (with_byte kind v x.1)) value l

  -- what taking these bytes leaves
  abbrev pub rest_value : Kind → Option ℕ → List (Result Placed E) → List (Result Placed E)
  rest_value kind value l = rest_fold_if (λ x. Ok (belongs kind x.1)) (λ v x. Ok (with_byte kind v x.1)) value l

  -- ---- the tokens of a list

  -- Placed bytes make tokens: a blank stands between them, and a byte that begins no number and no word is a sign.
  abbrev pub token_rules : TokenRules Placed Begun E (ℕ × Token) (LexFault E)
  token_rules = record {
    skips = λ x. is_ascii_whitespace x.1;
    begins = begun_at;
    goes_on = begun_with;
    closed = λ s. token_at s.0 s.1 s.2;
    alone = λ x. sign_at x.0 x.1;
    told = Source;
  }

  -- The tokens of placed bytes, each at the place of its first byte.
  abbrev pub lexed : List (Result Placed E) → List (Result (ℕ × Token) (LexFault E))
  lexed l = lexed_by token_rules None l

  -- What a draw leaves of placed bytes: what comes after the blanks and the token, or after the failure that comes first.
  abbrev pub rest_lexed : List (Result Placed E) → List (Result Placed E)
  rest_lexed l = rest_lexed_by token_rules None l
