-- Which bytes are a token: the rules of RFC 8259, a line each.
use Rattle.std.specs.Prelude.{ℕ, zero, suc, ◌≡◌, ◌≤◌, ◌⊎◌, true, List, [], ◌∷◌, ◌++◌, codes}
use Rattle.std.specs.Int.{is_in_range}
use Rattle.fallible_json.specs.declared.token.Token.{Token}
use Rattle.fallible_json.specs.declared.token.Token.TheVariants.{BeginArray, EndArray, BeginObject, EndObject, NameSeparator, ValueSeparator, Text, Number, Literal}

-- ---- how rules are made of others

-- the bytes of which a rule holds
abbrev pub Rule : Type 1
Rule = List ℕ → Type 0

infixr 30 ◌then◌
infixr 20 ◌or◌
-- these bytes
abbrev pub Exactly : List ℕ → Rule
Exactly text bytes = bytes ≡ text

-- this byte
abbrev pub Byte : ℕ → Rule
Byte byte bytes = bytes ≡ byte ∷ []

-- a byte from the first to the last
abbrev pub FromTo : ℕ → ℕ → Rule
FromTo first last bytes = (byte : ℕ) × (is_in_range first last byte ≡ true) × (bytes ≡ byte ∷ [])

-- a byte that is this one or a greater one
abbrev pub From : ℕ → Rule
From first bytes = (byte : ℕ) × (first ≤ byte) × (bytes ≡ byte ∷ [])

-- the bytes of one rule, and then those of another
abbrev pub ◌then◌ : Rule → Rule → Rule
(A then B) bytes = (front rest : List ℕ) × (bytes ≡ front ++ rest) × A front × B rest

-- those of one rule or of the other
abbrev pub ◌or◌ : Rule → Rule → Rule
(A or B) bytes = A bytes ⊎ B bytes

-- none, or those of a rule
abbrev pub Maybe : Rule → Rule
Maybe A bytes = (bytes ≡ []) ⊎ A bytes

-- those of a rule so many times
unfoldable pub Times : ℕ → Rule → Rule
Times zero A bytes = bytes ≡ []
Times (suc n) A bytes = (A then Times n A) bytes

-- any number of times
abbrev pub Many : Rule → Rule
Many A bytes = (n : ℕ) × Times n A bytes

-- once or more often
abbrev pub OneOrMore : Rule → Rule
OneOrMore A = A then Many A

-- ---- numbers

-- `0` to `9`
abbrev pub IsDigit : Rule
IsDigit = FromTo 48 57

-- `0`, or a digit from `1` on and then any digits
abbrev pub IsInt : Rule
IsInt = Byte 48 or FromTo 49 57 then Many IsDigit

-- a point and digits
abbrev pub IsFrac : Rule
IsFrac = Byte 46 then OneOrMore IsDigit

-- `e` or `E`, perhaps a plus or a minus, and digits
abbrev pub IsExp : Rule
IsExp = (Byte 101 or Byte 69) then Maybe (Byte 43 or Byte 45) then OneOrMore IsDigit

-- perhaps a minus, an integer, perhaps a fraction, perhaps an exponent
abbrev pub IsNumber : Rule
IsNumber = Maybe (Byte 45) then IsInt then Maybe IsFrac then Maybe IsExp

-- ---- strings

-- from the blank on, but no quote and no backslash
abbrev pub IsUnescaped : Rule
IsUnescaped = FromTo 32 33 or FromTo 35 91 or From 93

-- `0` to `9`, `A` to `F`, `a` to `f`
abbrev pub IsHexDigit : Rule
IsHexDigit = FromTo 48 57 or FromTo 65 70 or FromTo 97 102

-- a quote, a backslash, a slash, `b`, `f`, `n`, `r`, `t`, or `u` and four hexadecimal digits
abbrev pub IsEscaped : Rule
IsEscaped = Byte 34 or Byte 92 or Byte 47 or Byte 98 or Byte 102 or Byte 110 or Byte 114 or Byte 116 or Byte 117 then Times 4 IsHexDigit

-- a byte as it is, or a backslash and what is escaped
abbrev pub IsChar : Rule
IsChar = IsUnescaped or Byte 92 then IsEscaped

-- characters between quotes
abbrev pub IsString : Rule
IsString = Byte 34 then Many IsChar then Byte 34

-- ---- tokens

-- `true`, `false` or `null`
abbrev pub IsLiteral : Rule
IsLiteral = Exactly (codes "true") or Exactly (codes "false") or Exactly (codes "null")

-- the bytes of each token: brackets, braces, the colon and the comma are one
abbrev pub IsSpelled : Token → Rule
IsSpelled BeginArray = Byte 91
IsSpelled EndArray = Byte 93
IsSpelled BeginObject = Byte 123
IsSpelled EndObject = Byte 125
IsSpelled NameSeparator = Byte 58
IsSpelled ValueSeparator = Byte 44
IsSpelled Text = IsString
IsSpelled Number = IsNumber
IsSpelled Literal = IsLiteral

-- ---- between tokens

-- a blank, a tab, a line feed or a carriage return
abbrev pub IsBlank : Rule
IsBlank = Byte 32 or Byte 9 or Byte 10 or Byte 13
