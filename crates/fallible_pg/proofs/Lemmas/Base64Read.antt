-- Lemmas on what a text in base64 may write.
use Rattle.std.proofs.Common.{inl, inr, ◌≡◌, ◌≢◌, ℕ, ◌+◌, ◌*◌, ◌/◌, ◌%◌, ◌<◌, ◌≤◌, ◌==◌, true, false, List, [], ◌∷◌, ◌++◌, length, drop, slice_index, refl, sym, ap, ◌∙◌, arith, append_assoc, append-nil}
use Rattle.std.proofs.lemmas.Bool.{agree_below, agree_below_at, cases_lt, eqb-true, eqb-false, le-ltb, ne_eqb}
use Rattle.std.proofs.lemmas.List.{drop_more}
use Rattle.fallible_pg.specs.Base64.{base64, bytes_in, number_in, read_loosely, symbol, symbols_of}
use Rattle.fallible_pg.specs.Strings.{before}
use Rattle.fallible_pg.proofs.Lemmas.Base64.{base64-three}
use Rattle.fallible_pg.proofs.Lemmas.String.{before-none, before-other}

-- ---- symbols and numbers

same_below : (f g : ℕ → ℕ) (n b : ℕ) → agree_below (λ k. f k == g k) (λ k. true) n ≡ true → b < n → f b ≡ g b
same_below f g n b each below = eqb-true (f b) (g b) (agree_below_at (λ k. f k == g k) (λ k. true) n b each below)

read_symbol : (n : ℕ) → n < 64 → number_in (symbol n) ≡ n
read_symbol n below = same_below (λ k. number_in (symbol k)) (λ k. k) 64 n refl below

symbol_beyond : (n : ℕ) → 64 ≤ n → symbol n ≡ 47
symbol_beyond n beyond = rw (le-ltb n 26 (omega (arith, beyond)), le-ltb n 52 (omega (arith, beyond)), le-ltb n 62 (omega (arith, beyond)), ne_eqb n 62 (λ e. omega (arith, beyond, e))) refl

read_below : (n : ℕ) → number_in (symbol n) < 64
read_below n =
    elim (cases_lt n 64) [
      | inl below ↦ let is = read_symbol n below in omega (arith, below, is)
      | inr beyond ↦ let is = ap number_in (symbol_beyond n beyond) in omega (arith, is)
    ]

symbol_again : (n : ℕ) → symbol (number_in (symbol n)) ≡ symbol n
symbol_again n =
    elim (cases_lt n 64) [
      | inl below ↦ ap symbol (read_symbol n below)
      | inr beyond ↦ ap (λ s. symbol (number_in s)) (symbol_beyond n beyond) ∙ sym (symbol_beyond n beyond)
    ]

symbol_other : (mark n : ℕ) → agree_below (λ k. symbol k == mark) (λ k. false) 65 ≡ true → symbol n ≢ mark
symbol_other mark n none =
    elim (cases_lt n 65) [
      | inl below ↦ eqb-false (symbol n) mark (agree_below_at (λ k. symbol k == mark) (λ k. false) 65 n none below)
      | inr beyond ↦ λ is. eqb-false (symbol 64) mark (agree_below_at (λ k. symbol k == mark) (λ k. false) 65 64 none (omega arith)) (sym (symbol_beyond n (omega (arith, beyond))) ∙ is)
    ]

symbol_no_sign : (n : ℕ) → (symbol n == 61) ≡ false
symbol_no_sign n = ne_eqb (symbol n) 61 (symbol_other 61 n refl)

-- ---- four symbols

module _ (p q r s : ℕ) (first : p < 64) (second : q < 64) (third : r < 64) (fourth : s < 64) where
  again_first : (p * 4 + q / 16) / 4 ≡ p
  again_first = omega (arith, second)

  again_second : (p * 4 + q / 16) % 4 * 16 + (q % 16 * 16 + r / 4) / 16 ≡ q
  again_second = omega (arith, second, third)

  again_third : (q % 16 * 16 + r / 4) % 16 * 4 + (r % 4 * 64 + s) / 64 ≡ r
  again_third = omega (arith, third, fourth)

  again_fourth : (r % 4 * 64 + s) % 64 ≡ s
  again_fourth = omega (arith, fourth)

symbols_again : (p q r s : ℕ) → p < 64 → q < 64 → r < 64 → s < 64 → symbols_of (p * 4 + q / 16) (q % 16 * 16 + r / 4) (r % 4 * 64 + s) ≡ symbol p ∷ symbol q ∷ symbol r ∷ symbol s ∷ []
symbols_again p q r s first second third fourth = rw (again_first p q r s first second third fourth, again_second p q r s first second third fourth, again_third p q r s first second third fourth, again_fourth p q r s first second third fourth) refl

-- ---- a text

loosely-none : read_loosely [] ≡ []
unfolding read_loosely
loosely-none = refl

loosely-four : (a b c d : ℕ) (rest : List ℕ) → read_loosely (a ∷ b ∷ c ∷ d ∷ rest) ≡ bytes_in a b c d ++ read_loosely rest
unfolding read_loosely
loosely-four a b c d rest = refl

loosely-few : (text : List ℕ) → length text < 4 → read_loosely text ≡ []
unfolding read_loosely
loosely-few [] few = refl
loosely-few (a ∷ []) few = refl
loosely-few (a ∷ b ∷ []) few = refl
loosely-few (a ∷ b ∷ c ∷ []) few = refl
loosely-few (a ∷ b ∷ c ∷ d ∷ rest) few = absurd (omega (arith, few))

-- four symbols off the front
loosely-step : (text : List ℕ) (i j k l m : ℕ) → i + 4 ≤ length text → j ≡ i + 1 → k ≡ i + 2 → l ≡ i + 3 → m ≡ i + 4 → read_loosely (drop i text) ≡ bytes_in (slice_index text i) (slice_index text j) (slice_index text k) (slice_index text l) ++ read_loosely (drop m text)
loosely-step text i j k l m many second third fourth after =
    let a = slice_index text i in
    let b = slice_index text (i + 1) in
    let c = slice_index text (i + 1 + 1) in
    let d = slice_index text (i + 1 + 1 + 1) in
    let two : i + 1 + 1 ≡ k = omega (arith, third) in
    let three : i + 1 + 1 + 1 ≡ l = omega (arith, fourth) in
    let four : i + 1 + 1 + 1 + 1 ≡ m = omega (arith, after) in
    ap read_loosely (drop_more text i 0 (omega (arith, many)) ∙ ap (λ r. a ∷ r) (drop_more text (i + 1) 0 (omega (arith, many)) ∙ ap (λ r. b ∷ r) (drop_more text (i + 1 + 1) 0 (omega (arith, many)) ∙ ap (λ r. c ∷ r) (drop_more text (i + 1 + 1 + 1) 0 (omega (arith, many))))))
    ∙ loosely-four a b c d (drop (i + 1 + 1 + 1 + 1) text)
    ∙ ap (λ (n : ℕ). bytes_in a b c d ++ read_loosely (drop n text)) four
    ∙ ap (λ (n : ℕ). bytes_in a b c (slice_index text n) ++ read_loosely (drop m text)) three
    ∙ ap (λ (n : ℕ). bytes_in a b (slice_index text n) (slice_index text l) ++ read_loosely (drop m text)) two
    ∙ ap (λ (n : ℕ). bytes_in a (slice_index text n) (slice_index text k) (slice_index text l) ++ read_loosely (drop m text)) (sym second)

-- four symbols more
pub symbols_more : {new : List ℕ} (bytes text : List ℕ) (i j k l m : ℕ) → read_loosely text ≡ bytes ++ read_loosely (drop i text) → i + 4 ≤ length text → j ≡ i + 1 → k ≡ i + 2 → l ≡ i + 3 → m ≡ i + 4 → new ≡ bytes ++ bytes_in (slice_index text i) (slice_index text j) (slice_index text k) (slice_index text l) → read_loosely text ≡ new ++ read_loosely (drop m text)
symbols_more bytes text i j k l m before many second third fourth after is =
    let found = bytes_in (slice_index text i) (slice_index text j) (slice_index text k) (slice_index text l) in
    before ∙ ap (λ r. bytes ++ r) (loosely-step text i j k l m many second third fourth after) ∙ sym (append_assoc bytes found (read_loosely (drop m text))) ∙ ap (λ r. r ++ read_loosely (drop m text)) (sym is)

pub symbols_end : (bytes text : List ℕ) (i : ℕ) → read_loosely text ≡ bytes ++ read_loosely (drop i text) → length (drop i text) < 4 → bytes ≡ read_loosely text
symbols_end bytes text i before few = sym (before ∙ ap (λ r. bytes ++ r) (loosely-few (drop i text) few) ∙ append-nil bytes)

-- ---- what was written is written again

base64-one : (a : ℕ) → base64 (a ∷ []) ≡ symbol (a / 4) ∷ symbol (a % 4 * 16) ∷ 61 ∷ 61 ∷ []
unfolding base64
base64-one a = refl

base64-two : (a b : ℕ) → base64 (a ∷ b ∷ []) ≡ symbol (a / 4) ∷ symbol (a % 4 * 16 + b / 16) ∷ symbol (b % 16 * 4) ∷ 61 ∷ []
unfolding base64
base64-two a b = refl

base64-none : base64 [] ≡ []
unfolding base64
base64-none = refl

-- of one byte
one_again : (x y : ℕ) → y < 4 → let n = number_in (symbol x) in base64 ((n * 4 + number_in (symbol (y * 16)) / 16) ∷ []) ≡ symbol x ∷ symbol (y * 16) ∷ 61 ∷ 61 ∷ []
one_again x y below =
    let n = number_in (symbol x) in
    let m = number_in (symbol (y * 16)) in
    let read = read_symbol (y * 16) (omega (arith, below)) in
    let left : (n * 4 + m / 16) / 4 ≡ n = omega (arith, below, read) in
    let right : (n * 4 + m / 16) % 4 * 16 ≡ y * 16 = omega (arith, below, read) in
    base64-one (n * 4 + m / 16) ∙ ap (λ (k : ℕ). symbol k ∷ symbol ((n * 4 + m / 16) % 4 * 16) ∷ 61 ∷ 61 ∷ []) left ∙ ap (λ (k : ℕ). symbol n ∷ symbol k ∷ 61 ∷ 61 ∷ []) right ∙ ap (λ (k : ℕ). k ∷ symbol (y * 16) ∷ 61 ∷ 61 ∷ []) (symbol_again x)

-- of two bytes
two_again : (x y z : ℕ) → z < 16 → let n = number_in (symbol x) in let m = number_in (symbol y) in base64 ((n * 4 + m / 16) ∷ (m % 16 * 16 + number_in (symbol (z * 4)) / 4) ∷ []) ≡ symbol x ∷ symbol y ∷ symbol (z * 4) ∷ 61 ∷ []
two_again x y z below =
    let n = number_in (symbol x) in
    let m = number_in (symbol y) in
    let o = number_in (symbol (z * 4)) in
    let read = read_symbol (z * 4) (omega (arith, below)) in
    let m_below = read_below y in
    let left : (n * 4 + m / 16) / 4 ≡ n = omega (arith, m_below) in
    let middle : (n * 4 + m / 16) % 4 * 16 + (m % 16 * 16 + o / 4) / 16 ≡ m = omega (arith, m_below, below, read) in
    let right : (m % 16 * 16 + o / 4) % 16 * 4 ≡ z * 4 = omega (arith, below, read) in
    base64-two (n * 4 + m / 16) (m % 16 * 16 + o / 4) ∙ rw (left, middle, right, symbol_again x, symbol_again y) refl

bytes_of_one : (a b : ℕ) → bytes_in a b 61 61 ≡ (number_in a * 4 + number_in b / 16) ∷ []
bytes_of_one a b = refl

bytes_of_two : (a b n : ℕ) → bytes_in a b (symbol n) 61 ≡ (number_in a * 4 + number_in b / 16) ∷ (number_in b % 16 * 16 + number_in (symbol n) / 4) ∷ []
bytes_of_two a b n = rw (symbol_no_sign n) refl

bytes_of_three : (a b n m : ℕ) → bytes_in a b (symbol n) (symbol m) ≡ (number_in a * 4 + number_in b / 16) ∷ (number_in b % 16 * 16 + number_in (symbol n) / 4) ∷ (number_in (symbol n) % 4 * 64 + number_in (symbol m)) ∷ []
bytes_of_three a b n m = rw (symbol_no_sign n, symbol_no_sign m) refl

-- What bytes write is written again by the bytes that are read of it.
pub written_again : (bytes : List ℕ) → base64 (read_loosely (base64 bytes)) ≡ base64 bytes
written_again [] = ap (λ t. base64 (read_loosely t)) base64-none ∙ ap base64 loosely-none
written_again (a ∷ []) =
    let x = symbol (a / 4) in
    let y = symbol (a % 4 * 16) in
    let read : read_loosely (base64 (a ∷ [])) ≡ (number_in x * 4 + number_in y / 16) ∷ [] = ap read_loosely (base64-one a) ∙ loosely-four x y 61 61 [] ∙ ap (λ r. bytes_in x y 61 61 ++ r) loosely-none in
    ap base64 read ∙ one_again (a / 4) (a % 4) (omega arith) ∙ sym (base64-one a)
written_again (a ∷ b ∷ []) =
    let x = symbol (a / 4) in
    let y = symbol (a % 4 * 16 + b / 16) in
    let z = symbol (b % 16 * 4) in
    let read = ap read_loosely (base64-two a b) ∙ loosely-four x y z 61 [] ∙ ap (λ r. r ++ read_loosely []) (bytes_of_two x y (b % 16 * 4)) ∙ ap (λ r. ((number_in x * 4 + number_in y / 16) ∷ (number_in y % 16 * 16 + number_in z / 4) ∷ []) ++ r) loosely-none in
    ap base64 read ∙ two_again (a / 4) (a % 4 * 16 + b / 16) (b % 16) (omega arith) ∙ sym (base64-two a b)
written_again (a ∷ b ∷ c ∷ rest) =
    let x = a / 4 in
    let y = a % 4 * 16 + b / 16 in
    let z = b % 16 * 4 + c / 64 in
    let w = c % 64 in
    let n = number_in (symbol x) in
    let m = number_in (symbol y) in
    let o = number_in (symbol z) in
    let p = number_in (symbol w) in
    let more = base64 rest in
    let read = ap read_loosely (base64-three a b c rest) ∙ loosely-four (symbol x) (symbol y) (symbol z) (symbol w) more ∙ ap (λ r. r ++ read_loosely more) (bytes_of_three (symbol x) (symbol y) z w) in
    ap base64 read ∙ base64-three (n * 4 + m / 16) (m % 16 * 16 + o / 4) (o % 4 * 64 + p) (read_loosely more)
    ∙ ap (λ r. r ++ base64 (read_loosely more)) (symbols_again n m o p (read_below x) (read_below y) (read_below z) (read_below w))
    ∙ ap (λ r. (symbol n ∷ symbol m ∷ symbol o ∷ symbol p ∷ []) ++ r) (written_again rest)
    ∙ rw (symbol_again x, symbol_again y, symbol_again z, symbol_again w) refl
    ∙ sym (base64-three a b c rest)

-- A text that isn't written again is not one that bytes write.
pub not_written : {again : List ℕ} (text bytes : List ℕ) → again ≡ base64 (read_loosely text) → (again ≡ text → ⊥) → base64 bytes ≡ text → ⊥
not_written text bytes is other writes = other (is ∙ ap (λ t. base64 (read_loosely t)) (sym writes) ∙ written_again bytes ∙ writes)

-- ---- no comma

before-symbol : (n : ℕ) (rest : List ℕ) → before 44 (symbol n ∷ rest) ≡ symbol n ∷ before 44 rest
before-symbol n rest = before-other 44 (symbol n) rest (symbol_other 44 n refl)

before-sign : (rest : List ℕ) → before 44 (61 ∷ rest) ≡ 61 ∷ before 44 rest
before-sign rest = before-other 44 61 rest (λ e. omega (arith, e))

-- Base64 has no comma.
pub base64_plain : (bytes : List ℕ) → before 44 (base64 bytes) ≡ base64 bytes
base64_plain [] = ap (before 44) base64-none ∙ before-none 44 ∙ sym base64-none
base64_plain (a ∷ []) =
    let x = symbol (a / 4) in
    let y = symbol (a % 4 * 16) in
    ap (before 44) (base64-one a) ∙ before-symbol (a / 4) (y ∷ 61 ∷ 61 ∷ []) ∙ ap (λ r. x ∷ r) (before-symbol (a % 4 * 16) (61 ∷ 61 ∷ []) ∙ ap (λ r. y ∷ r) (before-sign (61 ∷ []) ∙ ap (λ r. 61 ∷ r) (before-sign [] ∙ ap (λ r. 61 ∷ r) (before-none 44)))) ∙ sym (base64-one a)
base64_plain (a ∷ b ∷ []) =
    let x = symbol (a / 4) in
    let y = symbol (a % 4 * 16 + b / 16) in
    let z = symbol (b % 16 * 4) in
    ap (before 44) (base64-two a b) ∙ before-symbol (a / 4) (y ∷ z ∷ 61 ∷ []) ∙ ap (λ r. x ∷ r) (before-symbol (a % 4 * 16 + b / 16) (z ∷ 61 ∷ []) ∙ ap (λ r. y ∷ r) (before-symbol (b % 16 * 4) (61 ∷ []) ∙ ap (λ r. z ∷ r) (before-sign [] ∙ ap (λ r. 61 ∷ r) (before-none 44)))) ∙ sym (base64-two a b)
base64_plain (a ∷ b ∷ c ∷ rest) =
    let x = symbol (a / 4) in
    let y = symbol (a % 4 * 16 + b / 16) in
    let z = symbol (b % 16 * 4 + c / 64) in
    let w = symbol (c % 64) in
    let more = base64 rest in
    ap (before 44) (base64-three a b c rest) ∙ before-symbol (a / 4) (y ∷ z ∷ w ∷ more) ∙ ap (λ r. x ∷ r) (before-symbol (a % 4 * 16 + b / 16) (z ∷ w ∷ more) ∙ ap (λ r. y ∷ r) (before-symbol (b % 16 * 4 + c / 64) (w ∷ more) ∙ ap (λ r. z ∷ r) (before-symbol (c % 64) more ∙ ap (λ r. w ∷ r) (base64_plain rest)))) ∙ sym (base64-three a b c rest)
