-- What the bytes of each rule lead to, byte by byte.
use Rattle.std.specs.Prelude.{◌≡◌, ◌⊎◌, ◌≤◌, ℕ, zero, suc, true, Option, Some, None, option_and_then, List, [], ◌∷◌, ◌++◌}
use Rattle.std.specs.Char.{is_ascii_hexdigit}
use Rattle.std.specs.Int.{is_in_range}
use Rattle.std.proofs.Common.{arith, refl, ap, sym, subst, inl, inr, ◌∙◌}
use Rattle.std.proofs.lemmas.Bool.Decides.{nat_tests}
use Rattle.fallible_json.proofs.Reading.{token_begun, token_read}
use Rattle.fallible_json.specs.Reading.{read, step}
use Rattle.fallible_json.specs.Spelling.{Rule, Byte, FromTo, From, ◌then◌, ◌or◌, Maybe, Times, Many, OneOrMore, IsDigit, IsInt, IsFrac, IsExp, IsNumber, IsHexDigit, IsUnescaped, IsEscaped, IsChar, IsString, IsLiteral, IsSpelled}
use Rattle.fallible_json.specs.Tokens.{after, begun_by}
use Rattle.fallible_json.specs.declared.token.Phase.{Phase}
use Rattle.fallible_json.specs.declared.token.Phase.TheVariants.{Whole, Inside, Escape, FourDigits, ThreeDigits, TwoDigits, OneDigit, Minus, Zero, Integer, Point, Fraction, Exponent, Sign, Power}
use Rattle.fallible_json.specs.declared.token.Token.{Token}
use Rattle.fallible_json.specs.declared.token.Token.TheVariants.{BeginArray, EndArray, BeginObject, EndObject, NameSeparator, ValueSeparator, Text, Number, Literal}

read_first : (s : Option Phase) (byte : ℕ) (phase : Phase) (bytes : List ℕ) (r : Option (Option Phase)) → step s byte ≡ Some phase → read (Some phase) bytes ≡ r → read s (byte ∷ bytes) ≡ r
unfolding read
read_first s byte phase bytes r is h = rw is h

read_on : (o : Option Phase) (a b : List ℕ) (t : Option Phase) → option_and_then (λ phase. read (Some phase) a) o ≡ Some t → ((phase : Phase) → read (Some phase) a ≡ Some t → read (Some phase) (a ++ b) ≡ read t b) → option_and_then (λ phase. read (Some phase) (a ++ b)) o ≡ read t b
read_on (Some phase) a b t h goes = goes phase h
read_on None a b t h goes = absurd cc

pub read_appended : (a b : List ℕ) (s t : Option Phase) → read s a ≡ Some t → read s (a ++ b) ≡ read t b
unfolding read
read_appended [] b s t h = let same : s ≡ t = cc in ap (λ k. read k b) same
read_appended (x ∷ a) b s t h = read_on (step s x) a b t h (λ phase k. read_appended a b (Some phase) t k)

-- all bytes of a rule lead from here to something of which this holds
record Leads (s : Option Phase) (A : List ℕ → Type 0) (P : Option Phase → Type 0) : Type 0 where
  to : (bytes : List ℕ) → A bytes → (t : Option Phase) × (read s bytes ≡ Some t) × P t

-- what a phase is
abbrev Is : Phase → Option Phase → Type 0
Is phase s = s ≡ Some phase

leads_byte : {s : Option Phase} {phase : Phase} (byte : ℕ) → step s byte ≡ Some phase → Leads s (Byte byte) (Is phase)
unfolding read
leads_byte {phase = phase} byte is = record { to = λ bytes same. (Some phase, rw (same, is) refl, refl) }

leads_from_to : {s : Option Phase} {phase : Phase} (first last : ℕ) → ((byte : ℕ) → is_in_range first last byte ≡ true → step s byte ≡ Some phase) → Leads s (FromTo first last) (Is phase)
unfolding read
leads_from_to {phase = phase} first last is = record { to = λ bytes one. (Some phase, rw (one.2, is one.0 one.1) refl, refl) }

leads_from : {s : Option Phase} {phase : Phase} (first : ℕ) → ((byte : ℕ) → first ≤ byte → step s byte ≡ Some phase) → Leads s (From first) (Is phase)
unfolding read
leads_from {phase = phase} first is = record { to = λ bytes one. (Some phase, rw (one.2, is one.0 one.1) refl, refl) }

leads_then : {P Q : Option Phase → Type 0} {s : Option Phase} {A B : Rule} → Leads s A P → ((t : Option Phase) → P t → Leads t B Q) → Leads s (A then B) Q
leads_then {s = s} first others = record {
  to = λ bytes both.
      let k = first.to both.0 both.3 in
      let l = (others k.0 k.2).to both.1 both.4 in
      (l.0, ap (read s) both.2 ∙ read_appended both.0 both.1 s k.0 k.1 ∙ l.1, l.2);
}

leads_or : {P : Option Phase → Type 0} {s : Option Phase} {A B : Rule} → Leads s A P → Leads s B P → Leads s (A or B) P
leads_or {P = P} {s = s} {A = A} {B = B} one other = record { to = λ bytes either. elim either as (λ e. (t : Option Phase) × (read s bytes ≡ Some t) × P t) [ inl a ↦ one.to bytes a | inr b ↦ other.to bytes b ] }

leads_nowhere : {P : Option Phase → Type 0} (s : Option Phase) → P s → (bytes : List ℕ) → bytes ≡ [] → (t : Option Phase) × (read s bytes ≡ Some t) × P t
unfolding read
leads_nowhere s here bytes same = (s, rw same refl, here)

leads_maybe : {P : Option Phase → Type 0} {s : Option Phase} {A : Rule} → P s → Leads s A P → Leads s (Maybe A) P
leads_maybe {P = P} {s = s} here some = record { to = λ bytes either. elim either as (λ e. (t : Option Phase) × (read s bytes ≡ Some t) × P t) [ inl none ↦ leads_nowhere {P = P} s here bytes none | inr a ↦ some.to bytes a ] }

leads_times : {P : Option Phase → Type 0} {A : Rule} → ((s : Option Phase) → P s → Leads s A P) → (n : ℕ) (s : Option Phase) → P s → Leads s (Times n A) P
unfolding Times
leads_times {P = P} each zero s here = record { to = λ bytes none. leads_nowhere {P = P} s here bytes none }
leads_times {P = P} {A = A} each (suc n) s here = record { to = (leads_then {P = P} {Q = P} {A = A} {B = Times n A} (each s here) (λ t there. leads_times {P = P} {A = A} each n t there)).to }

leads_many : {P : Option Phase → Type 0} {A : Rule} → ((s : Option Phase) → P s → Leads s A P) → (s : Option Phase) → P s → Leads s (Many A) P
leads_many {P = P} {A = A} each s here = record { to = λ bytes more. (leads_times {P = P} {A = A} each more.0 s here).to bytes more.1 }

leads_weaker : {P Q : Option Phase → Type 0} {s : Option Phase} {A : Rule} → Leads s A P → ((t : Option Phase) → P t → Q t) → Leads s A Q
leads_weaker one weaker = record { to = λ bytes a. let k = one.to bytes a in (k.0, k.1, weaker k.0 k.2) }

-- ---- what one byte leads to

digit_of_sign : (byte : ℕ) → is_in_range 48 57 byte ≡ true → after Sign byte ≡ Some Power
digit_of_sign byte is = rw is refl

digit_of_power : (byte : ℕ) → is_in_range 48 57 byte ≡ true → after Power byte ≡ Some Power
digit_of_power byte is = rw is refl

digit_of_exponent : (byte : ℕ) → is_in_range 48 57 byte ≡ true → after Exponent byte ≡ Some Power
digit_of_exponent byte is = grind (arith, nat_tests)

digit_of_point : (byte : ℕ) → is_in_range 48 57 byte ≡ true → after Point byte ≡ Some Fraction
digit_of_point byte is = rw is refl

digit_of_fraction : (byte : ℕ) → is_in_range 48 57 byte ≡ true → after Fraction byte ≡ Some Fraction
digit_of_fraction byte is = rw is refl

digit_of_integer : (byte : ℕ) → is_in_range 48 57 byte ≡ true → after Integer byte ≡ Some Integer
digit_of_integer byte is = rw is refl

digit_of_minus : (byte : ℕ) → is_in_range 49 57 byte ≡ true → after Minus byte ≡ Some Integer
digit_of_minus byte is = grind (arith, nat_tests)

digit_begins : (byte : ℕ) → is_in_range 49 57 byte ≡ true → begun_by byte ≡ Some Integer
digit_begins byte is = grind (arith, nat_tests)

inside_first : (byte : ℕ) → is_in_range 32 33 byte ≡ true → after Inside byte ≡ Some Inside
inside_first byte is = grind (arith, nat_tests)

inside_second : (byte : ℕ) → is_in_range 35 91 byte ≡ true → after Inside byte ≡ Some Inside
inside_second byte is = grind (arith, nat_tests)

inside_third : (byte : ℕ) → 93 ≤ byte → after Inside byte ≡ Some Inside
inside_third byte is = grind (arith, nat_tests)

-- ---- numbers

leads_at : {P : Option Phase → Type 0} {A : Rule} (phase : Phase) (t : Option Phase) → Is phase t → Leads (Some phase) A P → Leads t A P
leads_at {P = P} {A = A} phase t is one = subst (λ k. Leads k A P) (sym is) one

digits_lead : (phase : Phase) → ((byte : ℕ) → is_in_range 48 57 byte ≡ true → after phase byte ≡ Some phase) → Leads (Some phase) (Many IsDigit) (Is phase)
digits_lead phase on = leads_many {P = Is phase} {A = IsDigit} (λ s is. leads_at phase s is (leads_from_to 48 57 on)) (Some phase) refl

some_digits_lead : (s : Option Phase) (phase : Phase) → ((byte : ℕ) → is_in_range 48 57 byte ≡ true → step s byte ≡ Some phase) → ((byte : ℕ) → is_in_range 48 57 byte ≡ true → after phase byte ≡ Some phase) → Leads s (OneOrMore IsDigit) (Is phase)
some_digits_lead s phase first on = leads_then {P = Is phase} {Q = Is phase} {A = IsDigit} {B = Many IsDigit} (leads_from_to 48 57 first) (λ t is. leads_at phase t is (digits_lead phase on))

abbrev MayBegin : Option Phase → Type 0
MayBegin t = Is Exponent t ⊎ Is Sign t

power_leads : (t : Option Phase) → MayBegin t → Leads t (OneOrMore IsDigit) (Is Power)
power_leads t (inl is) = leads_at Exponent t is (some_digits_lead (Some Exponent) Power digit_of_exponent digit_of_power)
power_leads t (inr is) = leads_at Sign t is (some_digits_lead (Some Sign) Power digit_of_sign digit_of_power)

sign_leads : Leads (Some Exponent) (Maybe (Byte 43 or Byte 45)) MayBegin
sign_leads = leads_maybe {P = MayBegin} {A = Byte 43 or Byte 45} (inl refl) (leads_weaker {P = Is Sign} {Q = MayBegin} (leads_or {P = Is Sign} {A = Byte 43} {B = Byte 45} (leads_byte 43 refl) (leads_byte 45 refl)) (λ t is. inr is))

exp_leads : (phase : Phase) → after phase 101 ≡ Some Exponent → after phase 69 ≡ Some Exponent → Leads (Some phase) IsExp (Is Power)
exp_leads phase small great = leads_then {P = Is Exponent} {Q = Is Power} {A = Byte 101 or Byte 69} {B = Maybe (Byte 43 or Byte 45) then OneOrMore IsDigit} (leads_or {P = Is Exponent} {A = Byte 101} {B = Byte 69} (leads_byte 101 small) (leads_byte 69 great)) (λ t is. leads_at Exponent t is (leads_then {P = MayBegin} {Q = Is Power} {A = Maybe (Byte 43 or Byte 45)} {B = OneOrMore IsDigit} sign_leads power_leads))

frac_leads : (phase : Phase) → after phase 46 ≡ Some Point → Leads (Some phase) IsFrac (Is Fraction)
frac_leads phase point = leads_then {P = Is Point} {Q = Is Fraction} {A = Byte 46} {B = OneOrMore IsDigit} (leads_byte 46 point) (λ t is. leads_at Point t is (some_digits_lead (Some Point) Fraction digit_of_point digit_of_fraction))

int_leads : (s : Option Phase) → step s 48 ≡ Some Zero → ((byte : ℕ) → is_in_range 49 57 byte ≡ true → step s byte ≡ Some Integer) → Leads s IsInt (λ t. Is Zero t ⊎ Is Integer t)
int_leads s zero_leads first = leads_or {P = λ t. Is Zero t ⊎ Is Integer t} {A = Byte 48} {B = FromTo 49 57 then Many IsDigit} (leads_weaker {P = Is Zero} {Q = λ t. Is Zero t ⊎ Is Integer t} (leads_byte 48 zero_leads) (λ t is. inl is)) (leads_then {P = Is Integer} {Q = λ t. Is Zero t ⊎ Is Integer t} {A = FromTo 49 57} {B = Many IsDigit} (leads_from_to 49 57 first) (λ t is. leads_weaker {P = Is Integer} {Q = λ t. Is Zero t ⊎ Is Integer t} (leads_at Integer t is (digits_lead Integer digit_of_integer)) (λ t is. inr is)))

abbrev Ends : Token → Option Phase → Type 0
Ends token t = token_begun t ≡ Some token

maybe_exp_leads : (phase : Phase) → token_begun (Some phase) ≡ Some Number → after phase 101 ≡ Some Exponent → after phase 69 ≡ Some Exponent → Leads (Some phase) (Maybe IsExp) (Ends Number)
maybe_exp_leads phase ends small great = leads_maybe {P = Ends Number} {A = IsExp} ends (leads_weaker {P = Is Power} {Q = Ends Number} (exp_leads phase small great) (λ t is. ap token_begun is))

abbrev MayEnd : Phase → Option Phase → Type 0
MayEnd phase t = Is phase t ⊎ Is Fraction t

rest_leads : (phase : Phase) → token_begun (Some phase) ≡ Some Number → after phase 46 ≡ Some Point → after phase 101 ≡ Some Exponent → after phase 69 ≡ Some Exponent → Leads (Some phase) (Maybe IsFrac then Maybe IsExp) (Ends Number)
rest_leads phase ends point small great = leads_then {P = MayEnd phase} {Q = Ends Number} {A = Maybe IsFrac} {B = Maybe IsExp} (leads_maybe {P = MayEnd phase} {A = IsFrac} (inl refl) (leads_weaker {P = Is Fraction} {Q = MayEnd phase} (frac_leads phase point) (λ t is. inr is))) (λ t is. elim is as (λ i. Leads t (Maybe IsExp) (Ends Number)) [ inl same ↦ leads_at phase t same (maybe_exp_leads phase ends small great) | inr same ↦ leads_at Fraction t same (maybe_exp_leads Fraction refl refl refl) ])

unsigned_leads : (s : Option Phase) → step s 48 ≡ Some Zero → ((byte : ℕ) → is_in_range 49 57 byte ≡ true → step s byte ≡ Some Integer) → Leads s (IsInt then Maybe IsFrac then Maybe IsExp) (Ends Number)
unsigned_leads s zero_leads first = leads_then {P = λ t. Is Zero t ⊎ Is Integer t} {Q = Ends Number} {A = IsInt} {B = Maybe IsFrac then Maybe IsExp} (int_leads s zero_leads first) (λ t is. elim is as (λ i. Leads t (Maybe IsFrac then Maybe IsExp) (Ends Number)) [ inl same ↦ leads_at Zero t same (rest_leads Zero refl refl refl refl) | inr same ↦ leads_at Integer t same (rest_leads Integer refl refl refl refl) ])

abbrev MaySign : Option Phase → Type 0
MaySign t = (t ≡ None) ⊎ Is Minus t

number_leads : Leads None IsNumber (Ends Number)
number_leads = leads_then {P = MaySign} {Q = Ends Number} {A = Maybe (Byte 45)} {B = IsInt then Maybe IsFrac then Maybe IsExp} (leads_maybe {P = MaySign} {A = Byte 45} (inl refl) (leads_weaker {P = Is Minus} {Q = MaySign} (leads_byte 45 refl) (λ t is. inr is))) (λ t is. elim is as (λ i. Leads t (IsInt then Maybe IsFrac then Maybe IsExp) (Ends Number)) [ inl same ↦ subst (λ k. Leads k (IsInt then Maybe IsFrac then Maybe IsExp) (Ends Number)) (sym same) (unsigned_leads None refl digit_begins) | inr same ↦ leads_at Minus t same (unsigned_leads (Some Minus) refl digit_of_minus) ])

-- ---- strings

hex_digit_leads : (phase next : Phase) → ((byte : ℕ) → is_ascii_hexdigit byte ≡ true → after phase byte ≡ Some next) → Leads (Some phase) IsHexDigit (Is next)
hex_digit_leads phase next on = leads_or {P = Is next} {A = FromTo 48 57} {B = FromTo 65 70 or FromTo 97 102} (leads_from_to 48 57 (λ byte is. on byte (grind (arith, nat_tests)))) (leads_or {P = Is next} {A = FromTo 65 70} {B = FromTo 97 102} (leads_from_to 65 70 (λ byte is. on byte (grind (arith, nat_tests)))) (leads_from_to 97 102 (λ byte is. on byte (grind (arith, nat_tests)))))

four_digits_lead : Leads (Some FourDigits) (Times 4 IsHexDigit) (Is Inside)
unfolding Times
four_digits_lead = record { to = (leads_then {P = Is ThreeDigits} {Q = Is Inside} {A = IsHexDigit} {B = Times 3 IsHexDigit} (hex_digit_leads FourDigits ThreeDigits (λ byte is. rw is refl)) (λ t is. leads_at ThreeDigits t is (leads_then {P = Is TwoDigits} {Q = Is Inside} {A = IsHexDigit} {B = Times 2 IsHexDigit} (hex_digit_leads ThreeDigits TwoDigits (λ byte is. rw is refl)) (λ t is. leads_at TwoDigits t is (leads_then {P = Is OneDigit} {Q = Is Inside} {A = IsHexDigit} {B = Times 1 IsHexDigit} (hex_digit_leads TwoDigits OneDigit (λ byte is. rw is refl)) (λ t is. leads_at OneDigit t is (leads_then {P = Is Inside} {Q = Is Inside} {A = IsHexDigit} {B = Times 0 IsHexDigit} (hex_digit_leads OneDigit Inside (λ byte is. rw is refl)) (λ t is. record { to = λ bytes none. leads_nowhere {P = Is Inside} t is bytes none })))))))).to }

escaped_leads : Leads (Some Escape) IsEscaped (Is Inside)
escaped_leads = leads_or {P = Is Inside} {A = Byte 34} {B = Byte 92 or Byte 47 or Byte 98 or Byte 102 or Byte 110 or Byte 114 or Byte 116 or Byte 117 then Times 4 IsHexDigit} (leads_byte 34 refl) (leads_or {P = Is Inside} {A = Byte 92} {B = Byte 47 or Byte 98 or Byte 102 or Byte 110 or Byte 114 or Byte 116 or Byte 117 then Times 4 IsHexDigit} (leads_byte 92 refl) (leads_or {P = Is Inside} {A = Byte 47} {B = Byte 98 or Byte 102 or Byte 110 or Byte 114 or Byte 116 or Byte 117 then Times 4 IsHexDigit} (leads_byte 47 refl) (leads_or {P = Is Inside} {A = Byte 98} {B = Byte 102 or Byte 110 or Byte 114 or Byte 116 or Byte 117 then Times 4 IsHexDigit} (leads_byte 98 refl) (leads_or {P = Is Inside} {A = Byte 102} {B = Byte 110 or Byte 114 or Byte 116 or Byte 117 then Times 4 IsHexDigit} (leads_byte 102 refl) (leads_or {P = Is Inside} {A = Byte 110} {B = Byte 114 or Byte 116 or Byte 117 then Times 4 IsHexDigit} (leads_byte 110 refl) (leads_or {P = Is Inside} {A = Byte 114} {B = Byte 116 or Byte 117 then Times 4 IsHexDigit} (leads_byte 114 refl) (leads_or {P = Is Inside} {A = Byte 116} {B = Byte 117 then Times 4 IsHexDigit} (leads_byte 116 refl) (leads_then {P = Is FourDigits} {Q = Is Inside} {A = Byte 117} {B = Times 4 IsHexDigit} (leads_byte 117 refl) (λ t is. leads_at FourDigits t is four_digits_lead)))))))))

unescaped_leads : Leads (Some Inside) IsUnescaped (Is Inside)
unescaped_leads = leads_or {P = Is Inside} {A = FromTo 32 33} {B = FromTo 35 91 or From 93} (leads_from_to 32 33 inside_first) (leads_or {P = Is Inside} {A = FromTo 35 91} {B = From 93} (leads_from_to 35 91 inside_second) (leads_from 93 inside_third))

char_leads : Leads (Some Inside) IsChar (Is Inside)
char_leads = leads_or {P = Is Inside} {A = IsUnescaped} {B = Byte 92 then IsEscaped} unescaped_leads (leads_then {P = Is Escape} {Q = Is Inside} {A = Byte 92} {B = IsEscaped} (leads_byte 92 refl) (λ t is. leads_at Escape t is escaped_leads))

string_leads : Leads None IsString (Ends Text)
string_leads = leads_then {P = Is Inside} {Q = Ends Text} {A = Byte 34} {B = Many IsChar then Byte 34} (leads_byte 34 refl) (λ t is. leads_at Inside t is (leads_then {P = Is Inside} {Q = Ends Text} {A = Many IsChar} {B = Byte 34} (leads_many {P = Is Inside} {A = IsChar} (λ s same. leads_at Inside s same char_leads) (Some Inside) refl) (λ s same. leads_at Inside s same (leads_weaker {P = Is (Whole Text)} {Q = Ends Text} (leads_byte 34 refl) (λ k ends. ap token_begun ends)))))

-- ---- tokens

token_of_led : (token : Token) {A : Rule} (bytes : List ℕ) → Leads None A (Ends token) → A bytes → token_read bytes ≡ Some token
token_of_led token bytes leads is = let k = leads.to bytes is in ap (option_and_then token_begun) k.1 ∙ k.2

literal_read : (bytes : List ℕ) → IsLiteral bytes → token_read bytes ≡ Some Literal
unfolding read
literal_read bytes (inl is) = rw is refl
literal_read bytes (inr (inl is)) = rw is refl
literal_read bytes (inr (inr is)) = rw is refl

pub read_of_spelled : (token : Token) (bytes : List ℕ) → IsSpelled token bytes → token_read bytes ≡ Some token
unfolding read
read_of_spelled BeginArray bytes is = rw is refl
read_of_spelled EndArray bytes is = rw is refl
read_of_spelled BeginObject bytes is = rw is refl
read_of_spelled EndObject bytes is = rw is refl
read_of_spelled NameSeparator bytes is = rw is refl
read_of_spelled ValueSeparator bytes is = rw is refl
read_of_spelled Text bytes is = token_of_led Text {A = IsString} bytes string_leads is
read_of_spelled Number bytes is = token_of_led Number {A = IsNumber} bytes number_leads is
read_of_spelled Literal bytes is = literal_read bytes is
