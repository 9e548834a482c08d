-- Of what rule the bytes are that are still to come after each phase of a token.
use Rattle.std.specs.Prelude.{◌≡◌, ℕ, suc, ◌==◌, ◌||◌, nat_le, Bool, true, false, if◌then◌else◌, Option, Some, None, option_and_then, List, [], ◌∷◌, ◌++◌, codes}
use Rattle.std.specs.Char.{is_ascii_digit, is_ascii_hexdigit}
use Rattle.std.specs.Int.{is_in_range}
use Rattle.std.proofs.Common.{arith, refl, ap, sym, subst, inl, inr, ◌∙◌, append_assoc}
use Rattle.std.proofs.lemmas.Bool.Decides.{Decides-eqb, nat_tests}
use Rattle.fallible_json.proofs.Reading.{token_begun, token_read}
use Rattle.fallible_json.specs.Reading.{read}
use Rattle.fallible_json.specs.Spelling.{Rule, Byte, ◌then◌, ◌or◌, Maybe, Times, Many, OneOrMore, IsDigit, IsInt, IsFrac, IsExp, IsHexDigit, IsUnescaped, IsEscaped, IsChar, Exactly, IsSpelled}
use Rattle.fallible_json.specs.Tokens.{after, after_fraction, after_integer, after_sign, begun_by, first_digit, goes_if, is_escaped, token_of, begun_or}
use Rattle.fallible_json.specs.declared.token.Phase.{Phase}
use Rattle.fallible_json.specs.declared.token.Phase.TheVariants.{Whole, Inside, Escape, FourDigits, ThreeDigits, TwoDigits, OneDigit, Minus, Zero, Integer, Point, Fraction, Exponent, Sign, Power, T, Tr, Tru, F, Fa, Fal, Fals, N, Nu, Nul}
use Rattle.fallible_json.specs.declared.token.Token.{Token}
use Rattle.fallible_json.specs.declared.token.Token.TheVariants.{BeginArray, EndArray, BeginObject, EndObject, NameSeparator, ValueSeparator, Text, Number, Literal}

-- ---- rules of lists

skips_none : {A B : Rule} (bytes : List ℕ) → A [] → B bytes → (A then B) bytes
skips_none bytes a b = ([], bytes, refl, a, b)

is_first : {A B : Rule} (byte : ℕ) (bytes : List ℕ) → A (byte ∷ []) → B bytes → (A then B) (byte ∷ bytes)
is_first byte bytes a b = (byte ∷ [], bytes, refl, a, b)

with_first : {A B C : Rule} (byte : ℕ) (bytes : List ℕ) → ((front : List ℕ) → A front → B (byte ∷ front)) → (A then C) bytes → (B then C) (byte ∷ bytes)
with_first byte bytes to both = (byte ∷ both.0, both.1, ap (λ k. byte ∷ k) both.2, to both.0 both.3, both.4)

pub one_more : (A : Rule) (front rest : List ℕ) → A front → Many A rest → Many A (front ++ rest)
unfolding Times
one_more A front rest a more = (suc more.0, (front, rest, refl, a, more.1))

one_more_then : (A B : Rule) (front rest : List ℕ) → A front → (Many A then B) rest → (Many A then B) (front ++ rest)
one_more_then A B front rest a both = (front ++ both.0, both.1, ap (λ k. front ++ k) both.2 ∙ sym (append_assoc front both.0 both.1), one_more A front both.0 a both.3, both.4)

none_of : (A : Rule) → Many A []
unfolding Times
none_of A = (0, refl)

-- ---- what is still to come

abbrev InString : Rule
InString = Many IsChar then Byte 34

abbrev pub Rest : Phase → Rule
Rest (Whole token) = Exactly []
Rest Inside = InString
Rest Escape = IsEscaped then InString
Rest FourDigits = Times 4 IsHexDigit then InString
Rest ThreeDigits = Times 3 IsHexDigit then InString
Rest TwoDigits = Times 2 IsHexDigit then InString
Rest OneDigit = Times 1 IsHexDigit then InString
Rest Minus = IsInt then Maybe IsFrac then Maybe IsExp
Rest Zero = Maybe IsFrac then Maybe IsExp
Rest Integer = Many IsDigit then Maybe IsFrac then Maybe IsExp
Rest Point = OneOrMore IsDigit then Maybe IsExp
Rest Fraction = Many IsDigit then Maybe IsExp
Rest Exponent = Maybe (Byte 43 or Byte 45) then OneOrMore IsDigit
Rest Sign = OneOrMore IsDigit
Rest Power = Many IsDigit
Rest T = Exactly (codes "rue")
Rest Tr = Exactly (codes "ue")
Rest Tru = Exactly (codes "e")
Rest F = Exactly (codes "alse")
Rest Fa = Exactly (codes "lse")
Rest Fal = Exactly (codes "se")
Rest Fals = Exactly (codes "e")
Rest N = Exactly (codes "ull")
Rest Nu = Exactly (codes "ll")
Rest Nul = Exactly (codes "l")

-- the token that a phase is of
abbrev pub kind : Phase → Token
kind (Whole token) = token
kind Inside = Text
kind Escape = Text
kind FourDigits = Text
kind ThreeDigits = Text
kind TwoDigits = Text
kind OneDigit = Text
kind Minus = Number
kind Zero = Number
kind Integer = Number
kind Point = Number
kind Fraction = Number
kind Exponent = Number
kind Sign = Number
kind Power = Number
kind phase = Literal

-- ---- what a byte adds to it

same_byte : (byte n : ℕ) → (byte == n) ≡ true → byte ≡ n
same_byte byte n is = (Decides-eqb byte n).0 is

is_byte : (byte n : ℕ) → (byte == n) ≡ true → Byte n (byte ∷ [])
is_byte byte n is = ap (λ k. k ∷ []) (same_byte byte n is)

-- what a test says of the next phase
goes_of : (b : Bool) (phase next : Phase) → goes_if b phase ≡ Some next → (b ≡ true) × (phase ≡ next)
goes_of true phase next is = (refl, cc)
goes_of false phase next is = absurd cc

abbrev Adds : Phase → ℕ → Phase → List ℕ → Type 0
Adds phase byte next bytes = Rest phase (byte ∷ bytes) × (kind next ≡ kind phase)

-- at a test, with what the rest is where it goes on
rest_of_tested_byte : (b : Bool) (phase to next : Phase) (byte : ℕ) (bytes : List ℕ) → goes_if b to ≡ Some next → kind to ≡ kind phase → (b ≡ true → Rest to bytes → Rest phase (byte ∷ bytes)) → Rest next bytes → Adds phase byte next bytes
rest_of_tested_byte b phase to next byte bytes is same by h =
    let k = goes_of b to next is in
    (by k.0 (subst (λ p. Rest p bytes) (sym k.1) h), ap kind (sym k.1) ∙ same)

digit_of : (byte : ℕ) → is_ascii_digit byte ≡ true → IsDigit (byte ∷ [])
digit_of byte is = (byte, is, refl)

hex_digit_of : (b c d : Bool) (byte : ℕ) → is_in_range 48 57 byte ≡ b → is_in_range 65 70 byte ≡ c → is_in_range 97 102 byte ≡ d → ((b || c) || d) ≡ true → IsHexDigit (byte ∷ [])
hex_digit_of true c d byte one two three is = inl (byte, one, refl)
hex_digit_of false true d byte one two three is = inr (inl (byte, two, refl))
hex_digit_of false false true byte one two three is = inr (inr (byte, three, refl))
hex_digit_of false false false byte one two three is = absurd cc

is_hex_digit_of_ascii : (byte : ℕ) → is_ascii_hexdigit byte ≡ true → IsHexDigit (byte ∷ [])
is_hex_digit_of_ascii byte is = hex_digit_of _ _ _ byte refl refl refl is

unescaped_of : (b c : Bool) (byte : ℕ) → is_in_range 32 33 byte ≡ b → is_in_range 35 91 byte ≡ c → (byte == 34) ≡ false → (byte == 92) ≡ false → nat_le 32 byte ≡ true → IsUnescaped (byte ∷ [])
unescaped_of true c byte one two quote slash low = inl (byte, one, refl)
unescaped_of false true byte one two quote slash low = inr (inl (byte, two, refl))
unescaped_of false false byte one two quote slash low = inr (inr (byte, grind (arith, nat_tests), refl))

inside_adds : (t u : Bool) (byte : ℕ) (next : Phase) (bytes : List ℕ) → (byte == 34) ≡ t → (byte == 92) ≡ u → (if t then Some (Whole Text) else if u then Some Escape else goes_if (nat_le 32 byte) Inside) ≡ Some next → Rest next bytes → Adds Inside byte next bytes
inside_adds true u byte next bytes quote slash is h =
    let same : Whole Text ≡ next = cc in
    let none : bytes ≡ [] = subst (λ k. Rest k bytes) (sym same) h in
    (skips_none {A = Many IsChar} {B = Byte 34} (byte ∷ bytes) (none_of IsChar) (rw (none, same_byte byte 34 quote) refl), ap kind (sym same))
inside_adds false true byte next bytes quote slash is h =
    let same : Escape ≡ next = cc in
    let rest : Rest Escape bytes = subst (λ k. Rest k bytes) (sym same) h in
    let chars : InString ((byte ∷ rest.0) ++ rest.1) = one_more_then IsChar (Byte 34) (byte ∷ rest.0) rest.1 (inr (byte ∷ [], rest.0, refl, is_byte byte 92 slash, rest.3)) rest.4 in
    (subst InString (sym (ap (λ k. byte ∷ k) rest.2)) chars, ap kind (sym same))
inside_adds false false byte next bytes quote slash is h = rest_of_tested_byte (nat_le 32 byte) Inside Inside next byte bytes is refl (λ low rest. one_more_then IsChar (Byte 34) (byte ∷ []) bytes (inl (unescaped_of _ _ byte refl refl quote slash low)) rest) h

escaped_of : (b1 b2 b3 b4 b5 b6 b7 b8 : Bool) (byte : ℕ) → (byte == 34) ≡ b1 → (byte == 92) ≡ b2 → (byte == 47) ≡ b3 → (byte == 98) ≡ b4 → (byte == 102) ≡ b5 → (byte == 110) ≡ b6 → (byte == 114) ≡ b7 → (byte == 116) ≡ b8 → (b1 || b2 || b3 || b4 || b5 || b6 || b7 || b8) ≡ true → IsEscaped (byte ∷ [])
escaped_of true b2 b3 b4 b5 b6 b7 b8 byte e1 e2 e3 e4 e5 e6 e7 e8 is = inl (is_byte byte 34 e1)
escaped_of false true b3 b4 b5 b6 b7 b8 byte e1 e2 e3 e4 e5 e6 e7 e8 is = inr (inl (is_byte byte 92 e2))
escaped_of false false true b4 b5 b6 b7 b8 byte e1 e2 e3 e4 e5 e6 e7 e8 is = inr (inr (inl (is_byte byte 47 e3)))
escaped_of false false false true b5 b6 b7 b8 byte e1 e2 e3 e4 e5 e6 e7 e8 is = inr (inr (inr (inl (is_byte byte 98 e4))))
escaped_of false false false false true b6 b7 b8 byte e1 e2 e3 e4 e5 e6 e7 e8 is = inr (inr (inr (inr (inl (is_byte byte 102 e5)))))
escaped_of false false false false false true b7 b8 byte e1 e2 e3 e4 e5 e6 e7 e8 is = inr (inr (inr (inr (inr (inl (is_byte byte 110 e6))))))
escaped_of false false false false false false true b8 byte e1 e2 e3 e4 e5 e6 e7 e8 is = inr (inr (inr (inr (inr (inr (inl (is_byte byte 114 e7)))))))
escaped_of false false false false false false false true byte e1 e2 e3 e4 e5 e6 e7 e8 is = inr (inr (inr (inr (inr (inr (inr (inl (is_byte byte 116 e8))))))))
escaped_of false false false false false false false false byte e1 e2 e3 e4 e5 e6 e7 e8 is = absurd cc

is_escaped_byte : (byte : ℕ) → is_escaped byte ≡ true → IsEscaped (byte ∷ [])
is_escaped_byte byte is = escaped_of _ _ _ _ _ _ _ _ byte refl refl refl refl refl refl refl refl is

escape_adds : (t : Bool) (byte : ℕ) (next : Phase) (bytes : List ℕ) → (byte == 117) ≡ t → (if t then Some FourDigits else goes_if (is_escaped byte) Inside) ≡ Some next → Rest next bytes → Adds Escape byte next bytes
escape_adds true byte next bytes letter is h =
    let same : FourDigits ≡ next = cc in
    (with_first {A = Times 4 IsHexDigit} {B = IsEscaped} {C = InString} byte bytes (λ front four. inr (inr (inr (inr (inr (inr (inr (inr (byte ∷ [], front, refl, is_byte byte 117 letter, four))))))))) (subst (λ k. Rest k bytes) (sym same) h), ap kind (sym same))
escape_adds false byte next bytes letter is h = rest_of_tested_byte (is_escaped byte) Escape Inside next byte bytes is refl (λ one rest. is_first {A = IsEscaped} {B = InString} byte bytes (is_escaped_byte byte one) rest) h

hex_adds : (n : ℕ) (byte : ℕ) (bytes : List ℕ) → is_ascii_hexdigit byte ≡ true → (Times n IsHexDigit then InString) bytes → (Times (suc n) IsHexDigit then InString) (byte ∷ bytes)
unfolding Times
hex_adds n byte bytes is rest = with_first {A = Times n IsHexDigit} {B = Times (suc n) IsHexDigit} {C = InString} byte bytes (λ front more. (byte ∷ [], front, refl, is_hex_digit_of_ascii byte is, more)) rest

last_hex_adds : (byte : ℕ) (bytes : List ℕ) → is_ascii_hexdigit byte ≡ true → InString bytes → (Times 1 IsHexDigit then InString) (byte ∷ bytes)
unfolding Times
last_hex_adds byte bytes is rest = is_first {A = Times 1 IsHexDigit} {B = InString} byte bytes (byte ∷ [], [], refl, is_hex_digit_of_ascii byte is, refl) rest

digits_add : (byte : ℕ) (bytes : List ℕ) → is_ascii_digit byte ≡ true → Many IsDigit bytes → Many IsDigit (byte ∷ bytes)
digits_add byte bytes is more = one_more IsDigit (byte ∷ []) bytes (digit_of byte is) more

some_digits_of : (byte : ℕ) (bytes : List ℕ) → is_ascii_digit byte ≡ true → Many IsDigit bytes → OneOrMore IsDigit (byte ∷ bytes)
some_digits_of byte bytes is more = is_first {A = IsDigit} {B = Many IsDigit} byte bytes (digit_of byte is) more

first_digit_adds : (t : Bool) (byte : ℕ) (next : Phase) (bytes : List ℕ) → (byte == 48) ≡ t → (if t then Some Zero else goes_if (is_ascii_digit byte) Integer) ≡ Some next → Rest next bytes → Adds Minus byte next bytes
first_digit_adds true byte next bytes nought is h =
    let same : Zero ≡ next = cc in
    (is_first {A = IsInt} {B = Maybe IsFrac then Maybe IsExp} byte bytes (inl (is_byte byte 48 nought)) (subst (λ k. Rest k bytes) (sym same) h), ap kind (sym same))
first_digit_adds false byte next bytes nought is h = rest_of_tested_byte (is_ascii_digit byte) Minus Integer next byte bytes is refl (λ digit rest. with_first {A = Many IsDigit} {B = IsInt} {C = Maybe IsFrac then Maybe IsExp} byte bytes (λ front more. inr (byte ∷ [], front, refl, (byte, grind (arith, nat_tests), refl), more)) rest) h

e_of : (b c : Bool) (byte : ℕ) → (byte == 101) ≡ b → (byte == 69) ≡ c → (b || c) ≡ true → (Byte 101 or Byte 69) (byte ∷ [])
e_of true c byte small great is = inl (is_byte byte 101 small)
e_of false true byte small great is = inr (is_byte byte 69 great)
e_of false false byte small great is = absurd cc

exp_of : (byte : ℕ) (next : Phase) (bytes : List ℕ) → after_fraction byte ≡ Some next → Rest next bytes → IsExp (byte ∷ bytes) × (kind next ≡ Number)
exp_of byte next bytes is h =
    let k = goes_of (byte == 101 || byte == 69) Exponent next is in
    (is_first {A = Byte 101 or Byte 69} {B = Maybe (Byte 43 or Byte 45) then OneOrMore IsDigit} byte bytes (e_of _ _ byte refl refl k.0) (subst (λ p. Rest p bytes) (sym k.1) h), ap kind (sym k.1))

integer_adds : (t : Bool) (byte : ℕ) (next : Phase) (bytes : List ℕ) → (byte == 46) ≡ t → (if t then Some Point else after_fraction byte) ≡ Some next → Rest next bytes → (Maybe IsFrac then Maybe IsExp) (byte ∷ bytes) × (kind next ≡ Number)
integer_adds true byte next bytes point is h =
    let same : Point ≡ next = cc in
    (with_first {A = OneOrMore IsDigit} {B = Maybe IsFrac} {C = Maybe IsExp} byte bytes (λ front digits. inr (is_first {A = Byte 46} {B = OneOrMore IsDigit} byte front (is_byte byte 46 point) digits)) (subst (λ k. Rest k bytes) (sym same) h), ap kind (sym same))
integer_adds false byte next bytes point is h =
    let k = exp_of byte next bytes is h in
    (skips_none {A = Maybe IsFrac} {B = Maybe IsExp} (byte ∷ bytes) (inl refl) (inr k.0), k.1)

digit_or_integer_adds : (t : Bool) (byte : ℕ) (next : Phase) (bytes : List ℕ) → is_ascii_digit byte ≡ t → (if t then Some Integer else after_integer byte) ≡ Some next → Rest next bytes → Adds Integer byte next bytes
digit_or_integer_adds true byte next bytes digit is h =
    let same : Integer ≡ next = cc in
    (with_first {A = Many IsDigit} {B = Many IsDigit} {C = Maybe IsFrac then Maybe IsExp} byte bytes (λ front more. digits_add byte front digit more) (subst (λ k. Rest k bytes) (sym same) h), ap kind (sym same))
digit_or_integer_adds false byte next bytes digit is h =
    let k = integer_adds (byte == 46) byte next bytes refl is h in
    (skips_none {A = Many IsDigit} {B = Maybe IsFrac then Maybe IsExp} (byte ∷ bytes) (none_of IsDigit) k.0, k.1)

fraction_adds : (t : Bool) (byte : ℕ) (next : Phase) (bytes : List ℕ) → is_ascii_digit byte ≡ t → (if t then Some Fraction else after_fraction byte) ≡ Some next → Rest next bytes → Adds Fraction byte next bytes
fraction_adds true byte next bytes digit is h =
    let same : Fraction ≡ next = cc in
    (with_first {A = Many IsDigit} {B = Many IsDigit} {C = Maybe IsExp} byte bytes (λ front more. digits_add byte front digit more) (subst (λ k. Rest k bytes) (sym same) h), ap kind (sym same))
fraction_adds false byte next bytes digit is h =
    let k = exp_of byte next bytes is h in
    (skips_none {A = Many IsDigit} {B = Maybe IsExp} (byte ∷ bytes) (none_of IsDigit) (inr k.0), k.1)

sign_byte_of : (b c : Bool) (byte : ℕ) → (byte == 43) ≡ b → (byte == 45) ≡ c → (b || c) ≡ true → (Byte 43 or Byte 45) (byte ∷ [])
sign_byte_of true c byte plus minus is = inl (is_byte byte 43 plus)
sign_byte_of false true byte plus minus is = inr (is_byte byte 45 minus)
sign_byte_of false false byte plus minus is = absurd cc

exponent_adds : (t : Bool) (byte : ℕ) (next : Phase) (bytes : List ℕ) → (byte == 43 || byte == 45) ≡ t → (if t then Some Sign else after_sign byte) ≡ Some next → Rest next bytes → Adds Exponent byte next bytes
exponent_adds true byte next bytes sign is h =
    let same : Sign ≡ next = cc in
    (is_first {A = Maybe (Byte 43 or Byte 45)} {B = OneOrMore IsDigit} byte bytes (inr (sign_byte_of _ _ byte refl refl sign)) (subst (λ k. Rest k bytes) (sym same) h), ap kind (sym same))
exponent_adds false byte next bytes sign is h = rest_of_tested_byte (is_ascii_digit byte) Exponent Power next byte bytes is refl (λ digit rest. skips_none {A = Maybe (Byte 43 or Byte 45)} {B = OneOrMore IsDigit} (byte ∷ bytes) (inl refl) (some_digits_of byte bytes digit rest)) h

letters : (n b : ℕ) (bs text : List ℕ) → b ≡ n → bs ≡ text → b ∷ bs ≡ n ∷ text
letters n b bs text one others = rw (one, others) refl

pub adds : (phase next : Phase) (byte : ℕ) (bytes : List ℕ) → after phase byte ≡ Some next → Rest next bytes → Adds phase byte next bytes
adds (Whole token) next byte bytes is h = absurd cc
adds Inside next byte bytes is h = inside_adds (byte == 34) (byte == 92) byte next bytes refl refl is h
adds Escape next byte bytes is h = escape_adds (byte == 117) byte next bytes refl is h
adds FourDigits next byte bytes is h = rest_of_tested_byte (is_ascii_hexdigit byte) FourDigits ThreeDigits next byte bytes is refl (λ digit rest. hex_adds 3 byte bytes digit rest) h
adds ThreeDigits next byte bytes is h = rest_of_tested_byte (is_ascii_hexdigit byte) ThreeDigits TwoDigits next byte bytes is refl (λ digit rest. hex_adds 2 byte bytes digit rest) h
adds TwoDigits next byte bytes is h = rest_of_tested_byte (is_ascii_hexdigit byte) TwoDigits OneDigit next byte bytes is refl (λ digit rest. hex_adds 1 byte bytes digit rest) h
adds OneDigit next byte bytes is h = rest_of_tested_byte (is_ascii_hexdigit byte) OneDigit Inside next byte bytes is refl (λ digit rest. last_hex_adds byte bytes digit rest) h
adds Minus next byte bytes is h = first_digit_adds (byte == 48) byte next bytes refl is h
adds Zero next byte bytes is h = integer_adds (byte == 46) byte next bytes refl is h
adds Integer next byte bytes is h = digit_or_integer_adds (is_ascii_digit byte) byte next bytes refl is h
adds Point next byte bytes is h = rest_of_tested_byte (is_ascii_digit byte) Point Fraction next byte bytes is refl (λ digit rest. with_first {A = Many IsDigit} {B = OneOrMore IsDigit} {C = Maybe IsExp} byte bytes (λ front more. some_digits_of byte front digit more) rest) h
adds Fraction next byte bytes is h = fraction_adds (is_ascii_digit byte) byte next bytes refl is h
adds Exponent next byte bytes is h = exponent_adds (byte == 43 || byte == 45) byte next bytes refl is h
adds Sign next byte bytes is h = rest_of_tested_byte (is_ascii_digit byte) Sign Power next byte bytes is refl (λ digit rest. some_digits_of byte bytes digit rest) h
adds Power next byte bytes is h = rest_of_tested_byte (is_ascii_digit byte) Power Power next byte bytes is refl (λ digit rest. digits_add byte bytes digit rest) h
adds T next byte bytes is h = rest_of_tested_byte (byte == 114) T Tr next byte bytes is refl (λ one rest. letters 114 byte bytes (codes "ue") (same_byte byte 114 one) rest) h
adds Tr next byte bytes is h = rest_of_tested_byte (byte == 117) Tr Tru next byte bytes is refl (λ one rest. letters 117 byte bytes (codes "e") (same_byte byte 117 one) rest) h
adds Tru next byte bytes is h = rest_of_tested_byte (byte == 101) Tru (Whole Literal) next byte bytes is refl (λ one rest. letters 101 byte bytes [] (same_byte byte 101 one) rest) h
adds F next byte bytes is h = rest_of_tested_byte (byte == 97) F Fa next byte bytes is refl (λ one rest. letters 97 byte bytes (codes "lse") (same_byte byte 97 one) rest) h
adds Fa next byte bytes is h = rest_of_tested_byte (byte == 108) Fa Fal next byte bytes is refl (λ one rest. letters 108 byte bytes (codes "se") (same_byte byte 108 one) rest) h
adds Fal next byte bytes is h = rest_of_tested_byte (byte == 115) Fal Fals next byte bytes is refl (λ one rest. letters 115 byte bytes (codes "e") (same_byte byte 115 one) rest) h
adds Fals next byte bytes is h = rest_of_tested_byte (byte == 101) Fals (Whole Literal) next byte bytes is refl (λ one rest. letters 101 byte bytes [] (same_byte byte 101 one) rest) h
adds N next byte bytes is h = rest_of_tested_byte (byte == 117) N Nu next byte bytes is refl (λ one rest. letters 117 byte bytes (codes "ll") (same_byte byte 117 one) rest) h
adds Nu next byte bytes is h = rest_of_tested_byte (byte == 108) Nu Nul next byte bytes is refl (λ one rest. letters 108 byte bytes (codes "l") (same_byte byte 108 one) rest) h
adds Nul next byte bytes is h = rest_of_tested_byte (byte == 108) Nul (Whole Literal) next byte bytes is refl (λ one rest. letters 108 byte bytes [] (same_byte byte 108 one) rest) h

-- ---- whole tokens

rest_ends : (phase : Phase) (token : Token) → token_of phase ≡ Some token → Rest phase [] × (kind phase ≡ token)
rest_ends (Whole k) token is = (refl, cc)
rest_ends Inside token is = absurd cc
rest_ends Escape token is = absurd cc
rest_ends FourDigits token is = absurd cc
rest_ends ThreeDigits token is = absurd cc
rest_ends TwoDigits token is = absurd cc
rest_ends OneDigit token is = absurd cc
rest_ends Minus token is = absurd cc
rest_ends Zero token is = (skips_none {A = Maybe IsFrac} {B = Maybe IsExp} [] (inl refl) (inl refl), cc)
rest_ends Integer token is = (skips_none {A = Many IsDigit} {B = Maybe IsFrac then Maybe IsExp} [] (none_of IsDigit) (skips_none {A = Maybe IsFrac} {B = Maybe IsExp} [] (inl refl) (inl refl)), cc)
rest_ends Point token is = absurd cc
rest_ends Fraction token is = (skips_none {A = Many IsDigit} {B = Maybe IsExp} [] (none_of IsDigit) (inl refl), cc)
rest_ends Exponent token is = absurd cc
rest_ends Sign token is = absurd cc
rest_ends Power token is = (none_of IsDigit, cc)
rest_ends T token is = absurd cc
rest_ends Tr token is = absurd cc
rest_ends Tru token is = absurd cc
rest_ends F token is = absurd cc
rest_ends Fa token is = absurd cc
rest_ends Fal token is = absurd cc
rest_ends Fals token is = absurd cc
rest_ends N token is = absurd cc
rest_ends Nu token is = absurd cc
rest_ends Nul token is = absurd cc

rest_by : (o : Option Phase) (phase : Phase) (t : Option Phase) (token : Token) (byte : ℕ) (bytes : List ℕ) → after phase byte ≡ o → option_and_then (λ next. read (Some next) bytes) o ≡ Some t → ((next : Phase) → read (Some next) bytes ≡ Some t → Rest next bytes × (kind next ≡ token)) → Rest phase (byte ∷ bytes) × (kind phase ≡ token)
rest_by (Some next) phase t token byte bytes is goes others =
    let k = others next goes in
    let l = adds phase next byte bytes is k.0 in
    (l.0, sym l.1 ∙ k.1)
rest_by None phase t token byte bytes is goes others = absurd cc

pub rest_of : (bytes : List ℕ) (phase : Phase) (t : Option Phase) (token : Token) → read (Some phase) bytes ≡ Some t → token_begun t ≡ Some token → Rest phase bytes × (kind phase ≡ token)
unfolding read
rest_of [] phase t token is ends =
    let same : ◌≡◌ {A = Option Phase} (Some phase) t = cc in
    rest_ends phase token (ap token_begun same ∙ ends)
rest_of (byte ∷ bytes) phase t token is ends = rest_by (after phase byte) phase t token byte bytes refl is (λ next goes. rest_of bytes next t token goes ends)

sign_begins : (token : Token) (n : ℕ) (phase : Phase) (byte : ℕ) (bytes : List ℕ) → ((text : List ℕ) → text ≡ n ∷ [] → IsSpelled token text) → Some (Whole token) ≡ Some phase → (byte == n) ≡ true → Rest phase bytes → IsSpelled (kind phase) (byte ∷ bytes)
sign_begins token n phase byte bytes by is same h =
    let one : Whole token ≡ phase = cc in
    let none : bytes ≡ [] = subst (λ k. Rest k bytes) (sym one) h in
    subst (λ k. IsSpelled (kind k) (byte ∷ bytes)) one (by (byte ∷ bytes) (letters n byte bytes [] (same_byte byte n same) none))

letter_begins : (n : ℕ) (to phase : Phase) (byte : ℕ) (bytes : List ℕ) → ((b : ℕ) (bs : List ℕ) → b ≡ n → Rest to bs → IsSpelled (kind to) (b ∷ bs)) → Some to ≡ Some phase → (byte == n) ≡ true → Rest phase bytes → IsSpelled (kind phase) (byte ∷ bytes)
letter_begins n to phase byte bytes by is same h =
    let one : to ≡ phase = cc in
    subst (λ k. IsSpelled (kind k) (byte ∷ bytes)) one (by byte bytes (same_byte byte n same) (subst (λ k. Rest k bytes) (sym one) h))

digit_begins : (t : Bool) (byte : ℕ) (phase : Phase) (bytes : List ℕ) → (byte == 48) ≡ t → (if t then Some Zero else goes_if (is_ascii_digit byte) Integer) ≡ Some phase → Rest phase bytes → IsSpelled (kind phase) (byte ∷ bytes)
digit_begins t byte phase bytes is goes h =
    let k = first_digit_adds t byte phase bytes is goes h in
    subst (λ z. IsSpelled z (byte ∷ bytes)) (sym k.1) (skips_none {A = Maybe (Byte 45)} {B = IsInt then Maybe IsFrac then Maybe IsExp} (byte ∷ bytes) (inl refl) k.0)

letter_cases : (b1 b2 b3 b4 b5 : Bool) (byte : ℕ) (phase : Phase) (bytes : List ℕ) → (byte == 34) ≡ b1 → (byte == 45) ≡ b2 → (byte == 116) ≡ b3 → (byte == 102) ≡ b4 → (byte == 110) ≡ b5 → (if b1 then Some Inside else if b2 then Some Minus else if b3 then Some T else if b4 then Some F else if b5 then Some N else first_digit byte) ≡ Some phase → Rest phase bytes → IsSpelled (kind phase) (byte ∷ bytes)
letter_cases true b2 b3 b4 b5 byte phase bytes e1 e2 e3 e4 e5 is h = letter_begins 34 Inside phase byte bytes (λ b bs one rest. is_first {A = Byte 34} {B = InString} b bs (ap (λ k. k ∷ []) one) rest) is e1 h
letter_cases false true b3 b4 b5 byte phase bytes e1 e2 e3 e4 e5 is h = letter_begins 45 Minus phase byte bytes (λ b bs one rest. is_first {A = Maybe (Byte 45)} {B = IsInt then Maybe IsFrac then Maybe IsExp} b bs (inr (ap (λ k. k ∷ []) one)) rest) is e2 h
letter_cases false false true b4 b5 byte phase bytes e1 e2 e3 e4 e5 is h = letter_begins 116 T phase byte bytes (λ b bs one rest. inl (letters 116 b bs (codes "rue") one rest)) is e3 h
letter_cases false false false true b5 byte phase bytes e1 e2 e3 e4 e5 is h = letter_begins 102 F phase byte bytes (λ b bs one rest. inr (inl (letters 102 b bs (codes "alse") one rest))) is e4 h
letter_cases false false false false true byte phase bytes e1 e2 e3 e4 e5 is h = letter_begins 110 N phase byte bytes (λ b bs one rest. inr (inr (letters 110 b bs (codes "ull") one rest))) is e5 h
letter_cases false false false false false byte phase bytes e1 e2 e3 e4 e5 is h = digit_begins (byte == 48) byte phase bytes refl is h

sign_cases : (b1 b2 b3 b4 b5 b6 : Bool) (byte : ℕ) (phase : Phase) (bytes : List ℕ) → (byte == 91) ≡ b1 → (byte == 93) ≡ b2 → (byte == 123) ≡ b3 → (byte == 125) ≡ b4 → (byte == 58) ≡ b5 → (byte == 44) ≡ b6 → begun_or byte (if b1 then Some BeginArray else if b2 then Some EndArray else if b3 then Some BeginObject else if b4 then Some EndObject else if b5 then Some NameSeparator else if b6 then Some ValueSeparator else None) ≡ Some phase → Rest phase bytes → IsSpelled (kind phase) (byte ∷ bytes)
sign_cases true b2 b3 b4 b5 b6 byte phase bytes e1 e2 e3 e4 e5 e6 is h = sign_begins BeginArray 91 phase byte bytes (λ text same. same) is e1 h
sign_cases false true b3 b4 b5 b6 byte phase bytes e1 e2 e3 e4 e5 e6 is h = sign_begins EndArray 93 phase byte bytes (λ text same. same) is e2 h
sign_cases false false true b4 b5 b6 byte phase bytes e1 e2 e3 e4 e5 e6 is h = sign_begins BeginObject 123 phase byte bytes (λ text same. same) is e3 h
sign_cases false false false true b5 b6 byte phase bytes e1 e2 e3 e4 e5 e6 is h = sign_begins EndObject 125 phase byte bytes (λ text same. same) is e4 h
sign_cases false false false false true b6 byte phase bytes e1 e2 e3 e4 e5 e6 is h = sign_begins NameSeparator 58 phase byte bytes (λ text same. same) is e5 h
sign_cases false false false false false true byte phase bytes e1 e2 e3 e4 e5 e6 is h = sign_begins ValueSeparator 44 phase byte bytes (λ text same. same) is e6 h
sign_cases false false false false false false byte phase bytes e1 e2 e3 e4 e5 e6 is h = letter_cases (byte == 34) (byte == 45) (byte == 116) (byte == 102) (byte == 110) byte phase bytes refl refl refl refl refl is h

pub begins : (byte : ℕ) (phase : Phase) (bytes : List ℕ) → begun_by byte ≡ Some phase → Rest phase bytes → IsSpelled (kind phase) (byte ∷ bytes)
begins byte phase bytes is h = sign_cases (byte == 91) (byte == 93) (byte == 123) (byte == 125) (byte == 58) (byte == 44) byte phase bytes refl refl refl refl refl refl is h

-- what the first byte begins, and what is read of the others
begun_cases : (o : Option Phase) (token : Token) (byte : ℕ) (bytes : List ℕ) → begun_by byte ≡ o → option_and_then token_begun (option_and_then (λ phase. read (Some phase) bytes) o) ≡ Some token → (phase : Phase) × (t : Option Phase) × (begun_by byte ≡ Some phase) × (read (Some phase) bytes ≡ Some t) × (token_begun t ≡ Some token)
begun_cases None token byte bytes is h = absurd cc
begun_cases (Some phase) token byte bytes is h = elim (read (Some phase) bytes) as (λ o. read (Some phase) bytes ≡ o → option_and_then token_begun o ≡ Some token → (phase : Phase) × (t : Option Phase) × (begun_by byte ≡ Some phase) × (read (Some phase) bytes ≡ Some t) × (token_begun t ≡ Some token)) [ None ↦ λ same none. absurd cc | Some t ↦ λ same ends. (phase, t, is, same, ends) ] refl h

pub first_of : (token : Token) (byte : ℕ) (bytes : List ℕ) → token_read (byte ∷ bytes) ≡ Some token → (phase : Phase) × (t : Option Phase) × (begun_by byte ≡ Some phase) × (read (Some phase) bytes ≡ Some t) × (token_begun t ≡ Some token)
unfolding read
first_of token byte bytes is = begun_cases (begun_by byte) token byte bytes refl is

pub spelled_of_read : (token : Token) (bytes : List ℕ) → token_read bytes ≡ Some token → IsSpelled token bytes
unfolding read
spelled_of_read token [] is = absurd cc
spelled_of_read token (byte ∷ bytes) is =
    let k = first_of token byte bytes is in
    let l = rest_of bytes k.0 k.1 token k.3 k.4 in
    subst (λ z. IsSpelled z (byte ∷ bytes)) l.1 (begins byte k.0 bytes k.2 l.0)
