-- The tokens of JSON, and the bytes that each has: RFC 8259's, byte by byte.
use Rattle.std.specs.Prelude.{ℕ, ◌==◌, ◌||◌, nat_le, if◌then◌else◌, Bool, true, false, Option, Some, None}
use Rattle.std.specs.Char.{is_ascii_digit, is_ascii_hexdigit}
use Rattle.std.specs.Option.{is_some}
use Rattle.fallible_json.specs.declared.token.Token.{Token}
use Rattle.fallible_json.specs.declared.token.Token.TheVariants.{BeginArray, EndArray, BeginObject, EndObject, NameSeparator, ValueSeparator, Text, Number, Literal}
use Rattle.fallible_json.specs.declared.token.Phase.{Phase}
use Rattle.fallible_json.specs.declared.token.Phase.TheVariants.{Whole, Inside, Escape, FourDigits, ThreeDigits, TwoDigits, OneDigit, Minus, Zero, Integer, Point, Fraction, Exponent, Sign, Power, T, Tr, Tru, F, Fa, Fal, Fals, N, Nu, Nul}

-- whether a byte stands between tokens: a blank, a tab, a line feed or a carriage return
abbrev pub is_blank : ℕ → Bool
is_blank byte = byte == 32 || byte == 9 || byte == 10 || byte == 13

-- a phase, where a test holds
abbrev pub goes_if : Bool → Phase → Option Phase
goes_if true phase = Some phase
goes_if false phase = None

-- ---- what a byte begins

-- the token that a byte alone is: 91 and 93 are the brackets, 123 and 125 the braces, 58 is the colon and 44 the comma
abbrev pub sign_of : ℕ → Option Token
sign_of byte = if byte == 91 then Some BeginArray else if byte == 93 then Some EndArray else if byte == 123 then Some BeginObject else if byte == 125 then Some EndObject else if byte == 58 then Some NameSeparator else if byte == 44 then Some ValueSeparator else None

-- what the first digit of a number begins: nothing but a point or an exponent comes after a 0
abbrev pub first_digit : ℕ → Option Phase
first_digit byte = if byte == 48 then Some Zero else goes_if (is_ascii_digit byte) Integer

-- what a quote begins, a minus, the first letter of `true`, `false` and `null`, and a digit
abbrev pub letter_begun : ℕ → Option Phase
letter_begun byte = if byte == 34 then Some Inside else if byte == 45 then Some Minus else if byte == 116 then Some T else if byte == 102 then Some F else if byte == 110 then Some N else first_digit byte

-- a sign, or what another byte begins
abbrev pub begun_or : ℕ → Option Token → Option Phase
begun_or byte (Some sign) = Some (Whole sign)
begun_or byte None = letter_begun byte

-- what a byte begins, if it begins a token
abbrev pub begun_by : ℕ → Option Phase
begun_by byte = begun_or byte (sign_of byte)

-- ---- what a byte goes on with

-- in a string a quote is its end, and 92, a backslash, begins an escape; a byte below 32 may not stand there
abbrev pub after_inside : ℕ → Option Phase
after_inside byte = if byte == 34 then Some (Whole Text) else if byte == 92 then Some Escape else goes_if (nat_le 32 byte) Inside

-- whether a byte may stand alone after a backslash: a quote, a backslash, a slash, and `b`, `f`, `n`, `r`, `t`
abbrev pub is_escaped : ℕ → Bool
is_escaped byte = byte == 34 || byte == 92 || byte == 47 || byte == 98 || byte == 102 || byte == 110 || byte == 114 || byte == 116

-- after a backslash comes `u`, 117, before four hexadecimal digits, or one of these bytes
abbrev pub after_escape : ℕ → Option Phase
after_escape byte = if byte == 117 then Some FourDigits else goes_if (is_escaped byte) Inside

-- after the fraction of a number may come an exponent: `e` or `E`
abbrev pub after_fraction : ℕ → Option Phase
after_fraction byte = goes_if (byte == 101 || byte == 69) Exponent

-- after its integer may come a fraction, which 46, a point, begins, or an exponent
abbrev pub after_integer : ℕ → Option Phase
after_integer byte = if byte == 46 then Some Point else after_fraction byte

-- an exponent has digits
abbrev pub after_sign : ℕ → Option Phase
after_sign byte = goes_if (is_ascii_digit byte) Power

-- 43 and 45 are its signs
abbrev pub after_exponent : ℕ → Option Phase
after_exponent byte = if byte == 43 || byte == 45 then Some Sign else after_sign byte

-- What a byte makes of the token so far, if it goes on with it: a line for each phase.
abbrev pub after : Phase → ℕ → Option Phase
after (Whole token) byte = None
after Inside byte = after_inside byte
after Escape byte = after_escape byte
after FourDigits byte = goes_if (is_ascii_hexdigit byte) ThreeDigits
after ThreeDigits byte = goes_if (is_ascii_hexdigit byte) TwoDigits
after TwoDigits byte = goes_if (is_ascii_hexdigit byte) OneDigit
after OneDigit byte = goes_if (is_ascii_hexdigit byte) Inside
after Minus byte = first_digit byte
after Zero byte = after_integer byte
after Integer byte = if is_ascii_digit byte then Some Integer else after_integer byte
after Point byte = goes_if (is_ascii_digit byte) Fraction
after Fraction byte = if is_ascii_digit byte then Some Fraction else after_fraction byte
after Exponent byte = after_exponent byte
after Sign byte = after_sign byte
after Power byte = after_sign byte
after T byte = goes_if (byte == 114) Tr
after Tr byte = goes_if (byte == 117) Tru
after Tru byte = goes_if (byte == 101) (Whole Literal)
after F byte = goes_if (byte == 97) Fa
after Fa byte = goes_if (byte == 108) Fal
after Fal byte = goes_if (byte == 115) Fals
after Fals byte = goes_if (byte == 101) (Whole Literal)
after N byte = goes_if (byte == 117) Nu
after Nu byte = goes_if (byte == 108) Nul
after Nul byte = goes_if (byte == 108) (Whole Literal)

-- whether a byte goes on with a token
abbrev pub goes_on : Phase → ℕ → Bool
goes_on phase byte = is_some (after phase byte)

-- the token, if its bytes so far are one: a number may end after a digit, but for those that begin nothing
abbrev pub token_of : Phase → Option Token
token_of (Whole token) = Some token
token_of Zero = Some Number
token_of Integer = Some Number
token_of Fraction = Some Number
token_of Power = Some Number
token_of phase = None
