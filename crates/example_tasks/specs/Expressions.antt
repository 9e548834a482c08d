-- Texts of sums, differences and products: their tokens, and what these come to.
use Rattle.std.specs.Prelude.{◌≡◌, ◌≤◌, nat_lt, length, take, drop, ℕ, ◌+◌, ◌-◌, ◌*◌, ◌%◌, ◌^◌, ◌==◌, if◌then◌else◌, Bool, true, false, List, [], ◌∷◌, ◌++◌, Option, Some, None, Result, Ok, Err, option_map, vec_capacity}
use Rattle.std.specs.Char.{is_ascii_digit}
use Rattle.std.specs.Option.{ok_or}
use Rattle.std.specs.Str.{IsAscii}
use Rattle.fallible_iterator.specs.Lists.{folded, on_value}
use Rattle.program_io.specs.Numbers.{number_of}
use Rattle.std.specs.declared.alloc.Global.{Global}
use Rattle.std.specs.declared.vec.Vec.{Vec}
use Rattle.example_tasks.specs.declared.tokens.Token.{Token}
use Rattle.example_tasks.specs.declared.tokens.Token.TheVariants.{Number, Plus, Minus, Times, Open, Close}
use Rattle.example_tasks.specs.declared.tokens.TextFault.{TextFault}
use Rattle.example_tasks.specs.declared.tokens.TextFault.TheVariants.{Unknown, Unexpected, Memory}
use Rattle.example_tasks.specs.declared.tokens.Level.{Level}

-- ---- tokens

-- the token that digits are: their number, or the failure of one that doesn't fit
abbrev pub number_token : List ℕ → Result Token TextFault
number_token digits = ok_or (option_map (λ n. Number n) (number_of digits)) Unknown

-- the sign that a byte is, if it is one: 43 is `+`, 45 is `-`, 42 is `*`, and 40 and 41 are the parentheses
abbrev pub sign_of : ℕ → Option Token
sign_of byte = if byte == 43 then Some Plus else if byte == 45 then Some Minus else if byte == 42 then Some Times else if byte == 40 then Some Open else if byte == 41 then Some Close else None

-- the token that another byte is, or the failure of one that is none
abbrev pub sign_token : ℕ → Result Token TextFault
sign_token byte = ok_or (sign_of byte) Unknown

-- the token of digits, where there are any, before others
abbrev pub with_number : List ℕ → List (Result Token TextFault) → List (Result Token TextFault)
with_number [] l = l
with_number (digit ∷ digits) l = number_token (digit ∷ digits) ∷ l

-- the tokens of a text after digits that belong to it
unfoldable pub tokens_after : List ℕ → List ℕ → List (Result Token TextFault)
tokens_after digits [] = with_number digits []
tokens_after digits (byte ∷ text) = if is_ascii_digit byte then tokens_after (digits ++ byte ∷ []) text else with_number digits (sign_token byte ∷ tokens_after [] text)

-- The tokens of a text: of digits in a row one number, of each other byte its own token. A byte that is none, and a number that doesn't fit, is a failure.
abbrev pub tokens_of : List ℕ → List (Result Token TextFault)
tokens_of text = tokens_after [] text

-- so many digits stand in front of a text, and the tokens of the text are those of the rest after them
pub record ReadsDigits (text : List ℕ) (end : ℕ) : Type 0 where
  pub fits : end ≤ length text
  pub same : tokens_of text ≡ tokens_after (take end text) (drop end text)
  pub ascii : IsAscii (take end text)

-- ---- values

-- a level without a term: the sum is 0, and the product of no factors is 1
abbrev pub no_terms : Level
no_terms = record { sum = 0; product = 1 }

-- what a level comes to: its sum and the term at hand, modulo 2 ^ 64
abbrev pub level_value : Level → ℕ
level_value level = (level.sum + level.product) % 2 ^ 64

-- a level whose term at hand has one factor more, modulo 2 ^ 64
abbrev pub with_factor : Level → ℕ → Level
with_factor level factor = record { sum = level.sum; product = level.product * factor % 2 ^ 64 }

-- a level whose term at hand is closed by a plus: its value is the sum, and the next term has no factor
abbrev pub with_plus : Level → Level
with_plus level = record { sum = level_value level; product = 1 }

-- a level whose term at hand is closed by a minus: its value is the sum, and the next term begins with the factor -1, modulo 2 ^ 64
abbrev pub with_minus : Level → Level
with_minus level = record { sum = level_value level; product = 2 ^ 64 - 1 }

-- What one token makes of the levels outside, the nearest first, of the level at hand, and of whether a number or an opening parenthesis is to come: each token where it may stand, and otherwise a failure.
abbrev pub after_token : List Level × Level × Bool → Token → Result (List Level × Level × Bool) TextFault
after_token (outside, level, true) (Number n) = Ok (outside, with_factor level n, false)
after_token (outside, level, true) Open = Ok (level ∷ outside, no_terms, true)
after_token (outside, level, false) Plus = Ok (outside, with_plus level, true)
after_token (outside, level, false) Minus = Ok (outside, with_minus level, true)
after_token (outside, level, false) Times = Ok (outside, level, true)
after_token (outer ∷ outside, level, false) Close = Ok (outside, with_factor outer (level_value level), false)
after_token (outside, level, is_begun) token = Err Unexpected

-- what it comes to at the end: the value of the level at hand, where no parenthesis is open and none nor a number is to come
abbrev pub value_at_end : List Level × Level × Bool → Result ℕ TextFault
value_at_end ([], level, false) = Ok (level_value level)
value_at_end (outside, level, is_begun) = Err Unexpected

-- the value that the tokens have from here on, or the failure that comes first
abbrev pub value_from : List Level × Level × Bool → List (Result Token TextFault) → Result ℕ TextFault
value_from state l = on_value (folded (λ e. e) after_token state l) value_at_end

-- the value of the tokens, or the failure that comes first
abbrev pub value_of_tokens : List (Result Token TextFault) → Result ℕ TextFault
value_of_tokens l = value_from ([], no_terms, true) l

-- ---- values where an allocation may fail

-- one token, where so many parentheses may be open at once: an opening one that would be one more is the failure `Memory`
abbrev pub after_token_in : ℕ → List Level × Level × Bool → Token → Result (List Level × Level × Bool) TextFault
after_token_in room (outside, level, true) Open = if nat_lt (length outside) room then Ok (level ∷ outside, no_terms, true) else Err Memory
after_token_in room state token = after_token state token

-- the value from here on, where so many parentheses may be open at once
abbrev pub value_from_in : ℕ → List Level × Level × Bool → List (Result Token TextFault) → Result ℕ TextFault
value_from_in room state l = on_value (folded (λ e. e) (after_token_in room) state l) value_at_end

-- It is the value of the tokens where as many parentheses may be open at once as some vector has room for.
pub record IsValueInRoom (l : List (Result Token TextFault)) (r : Result ℕ TextFault) : Type 0 where
  pub levels : Vec Level Global
  pub is : r ≡ value_from_in (vec_capacity levels) ([], no_terms, true) l
