-- Lemmas on the words of SCRAM.
use Rattle.std.proofs.Common.{inl, inr, ◌≡◌, ℕ, suc, ◌+◌, ◌^◌, ◌<◌, ◌&&◌, Bool, true, false, cond, if◌then◌else◌, nat_le, nat_lt, List, [], ◌∷◌, ◌++◌, length, take, drop, slice_index, Some, None, IsAscii, IsUtf8, refl, sym, ap, subst, ◌∙◌, arith, append_assoc}
use Rattle.std.proofs.Math.Seq.{drop-append_seam}
use Rattle.std.proofs.lemmas.Bool.{and_from, and_parts, both_ways, cases_eq, eq-eqb, leb-true, lt-ltb, ltb-true, ne_eqb}
use Rattle.std.proofs.lemmas.Str.{IsUtf8-from_ascii}
use Rattle.std.proofs.lemmas.Str.Ascii.{IsAscii-nil, IsAscii-cons}
use Rattle.std.proofs.lemmas.Slice.Eq.{bytes_eq-Decides}
use Rattle.std.specs.Char.{is_ascii_digit}
use Rattle.std.specs.Str.{all_ascii_digits}
use Rattle.std.specs.Str.Parse.{digits_value, without_leading_plus}
use Rattle.program_io.specs.Numbers.{is_number, number_of}
use Rattle.fallible_pg.specs.Base64.{base64}
use Rattle.fallible_pg.specs.Strings.{before}
use Rattle.fallible_pg.proofs.Lemmas.Base64Read.{base64_plain}
use Rattle.fallible_pg.proofs.Lemmas.String.{before-again, before-plain}
use Rattle.std.specs.Int.Bits.{bit_xor}
use Rattle.std.specs.Prelude.{bytes_eq, codes}
use Rattle.fallible_pg.specs.Scram.{Asks, digits_part, nonce_part, rounds_of, salt_part, salted_part, xored}

pub xored-none : (a b : List ℕ) → [] ≡ xored 0 a b
unfolding xored
xored-none a b = refl

xored-suc : (n : ℕ) (a b : List ℕ) → xored (suc n) a b ≡ xored n a b ++ bit_xor (slice_index a n) (slice_index b n) ∷ []
unfolding xored
xored-suc n a b = refl

-- a byte more
pub xored-more : {both new : List ℕ} (n : ℕ) (a b : List ℕ) → both ≡ xored n a b → new ≡ both ++ bit_xor (slice_index a n) (slice_index b n) ∷ [] → new ≡ xored (n + 1) a b
xored-more n a b before is =
    let more : suc n ≡ n + 1 = omega arith in
    is ∙ ap (λ l. l ++ bit_xor (slice_index a n) (slice_index b n) ∷ []) before ∙ sym (xored-suc n a b) ∙ ap (λ (k : ℕ). xored k a b) more

-- the words that a server asks, from the first part on
asked_from : (nonce salt digits : List ℕ) → codes "r=" ++ nonce ++ codes ",s=" ++ salt ++ codes ",i=" ++ digits ≡ codes "r=" ++ (nonce ++ (codes ",s=" ++ (salt ++ (codes ",i=" ++ digits))))
asked_from nonce salt digits =
    let first = codes "r=" ++ nonce in
    append_assoc (first ++ codes ",s=" ++ salt) (codes ",i=") digits ∙ append_assoc (first ++ codes ",s=") salt (codes ",i=" ++ digits) ∙ append_assoc first (codes ",s=") (salt ++ (codes ",i=" ++ digits))

-- the test whether a text that is put together of its parts is the one that came
pub parts_test : (asked : List ℕ) {text rest rest' last last' : List ℕ} {has : Bool} (nonce salt digits : List ℕ) → has ≡ bytes_eq text asked → text ≡ codes "r" ++ codes "=" ++ rest' → rest' ≡ rest → rest ≡ nonce ++ codes ",s=" ++ last' → last' ≡ last → last ≡ salt ++ codes ",i=" ++ digits → has ≡ bytes_eq (codes "r=" ++ nonce ++ codes ",s=" ++ salt ++ codes ",i=" ++ digits) asked
parts_test asked {last' = last'} nonce salt digits is text r rest l last =
    let whole = l ∙ last ∙ append_assoc salt (codes ",i=") digits in
    let after = r ∙ rest ∙ append_assoc nonce (codes ",s=") last' ∙ ap (λ u. nonce ++ (codes ",s=" ++ u)) whole in
    is ∙ ap (λ t. bytes_eq t asked) (text ∙ ap (λ u. codes "r=" ++ u) after ∙ sym (asked_from nonce salt digits))

-- ---- a number's digits

digit_low : (c : ℕ) → is_ascii_digit c ≡ true → c < 128
digit_low c digit = let most = leb-true c 57 (and_parts (nat_le 48 c) (nat_le c 57) digit).1 in omega (arith, most)

digits_ascii : (ds : List ℕ) → all_ascii_digits ds ≡ true → IsAscii ds
digits_ascii [] digits = IsAscii-nil
digits_ascii (c ∷ cs) digits =
    let parts = and_parts (is_ascii_digit c) (all_ascii_digits cs) digits in
    IsAscii-cons c cs (digit_low c parts.0) (digits_ascii cs parts.1)

after_plus_ascii : (bs : List ℕ) → IsAscii (without_leading_plus bs) → IsAscii bs
after_plus_ascii [] ascii = IsAscii-nil
after_plus_ascii (b ∷ bs) ascii =
    elim (cases_eq b 43) [
      | inl is ↦ IsAscii-cons b bs (omega (arith, is)) (subst (λ t. IsAscii (drop (cond t 1 0) (b ∷ bs))) (eq-eqb b 43 is) ascii)
      | inr other ↦ subst (λ t. IsAscii (drop (cond t 1 0) (b ∷ bs))) (ne_eqb b 43 other) ascii
    ]

number_from : (bs : List ℕ) (digits : Bool) → digits ≡ is_number (without_leading_plus bs) → (IsUtf8 bs → ⊥) → None ≡ (if digits then Some (digits_value 10 (without_leading_plus bs)) else None)
number_from bs false is other = refl
number_from bs true is other =
    let ds = without_leading_plus bs in
    let some = and_parts (all_ascii_digits ds && nat_le 1 (length ds)) (nat_lt (digits_value 10 ds) (2 ^ 64)) (sym is) in
    absurd (other (IsUtf8-from_ascii bs (after_plus_ascii bs (digits_ascii ds (and_parts (all_ascii_digits ds) (nat_le 1 (length ds)) some.0).0))))

-- What is no text writes no number.
pub no_number : (bs : List ℕ) → (IsUtf8 bs → ⊥) → None ≡ number_of bs
no_number bs other = number_from bs (is_number (without_leading_plus bs)) refl other

-- ---- what a server asks well

module _ {own asked nonce salt digits : List ℕ} {rounds : ℕ} (a : Asks own asked nonce salt digits rounds) where
  nonce_is : nonce_part asked ≡ nonce
  nonce_is = ap (λ t. before 44 (drop 2 t)) (a.is ∙ asked_from nonce (base64 salt) digits) ∙ before-plain 44 nonce (codes "s=" ++ (base64 salt ++ (codes ",i=" ++ digits))) a.plain

  salted_is : salted_part asked ≡ base64 salt ++ (codes ",i=" ++ digits)
  salted_is =
      ap (λ n. drop 3 (drop (length n) (drop 2 asked))) nonce_is ∙ ap (λ t. drop 3 (drop (length nonce) (drop 2 t))) (a.is ∙ asked_from nonce (base64 salt) digits)
      ∙ ap (drop 3) (drop-append_seam nonce (codes ",s=" ++ (base64 salt ++ (codes ",i=" ++ digits))))

  pub salt_is : salt_part asked ≡ base64 salt
  salt_is = ap (before 44) salted_is ∙ before-plain 44 (base64 salt) (codes "i=" ++ digits) (base64_plain salt)

  pub digits_is : digits_part asked ≡ digits
  digits_is =
      ap (λ s. drop 3 (drop (length s) (salted_part asked))) salt_is ∙ ap (λ t. drop 3 (drop (length (base64 salt)) t)) salted_is
      ∙ ap (drop 3) (drop-append_seam (base64 salt) (codes ",i=" ++ digits))

  -- the text that is put together of its parts is what it asks
  pub asked_parts : {n s d : List ℕ} → n ≡ nonce_part asked → s ≡ salt_part asked → d ≡ digits_part asked → codes "r=" ++ n ++ codes ",s=" ++ s ++ codes ",i=" ++ d ≡ asked
  asked_parts {n} {s} {d} first second third =
      ap (λ u. codes "r=" ++ u ++ codes ",s=" ++ s ++ codes ",i=" ++ d) (first ∙ nonce_is)
      ∙ ap (λ u. codes "r=" ++ nonce ++ codes ",s=" ++ u ++ codes ",i=" ++ d) (second ∙ salt_is)
      ∙ ap (λ u. codes "r=" ++ nonce ++ codes ",s=" ++ base64 salt ++ codes ",i=" ++ u) (third ∙ digits_is)
      ∙ sym a.is

  -- that text begins with the client's own, and goes on
  pub goes_on : {n : List ℕ} → n ≡ nonce_part asked → (nat_lt (length own) (length n) && bytes_eq (take (length own) n) own) ≡ true
  goes_on {n} first =
      let same = first ∙ nonce_is in
      ap (λ k. nat_lt (length own) (length k) && bytes_eq (take (length own) k) own) same
      ∙ and_from (nat_lt (length own) (length nonce)) (bytes_eq (take (length own) nonce) own) (lt-ltb (length own) (length nonce) a.adds) ((bytes_eq-Decides (take (length own) nonce) own).1 a.repeats)

  -- its digits write the number
  pub counts : rounds_of (digits_part asked) ≡ Some rounds
  counts = ap rounds_of digits_is ∙ a.counted

-- A text that isn't what it should be, by a test, is not.
pub test_fails : {xs ys : List ℕ} {test : Bool} → test ≡ bytes_eq xs ys → test ≡ false → xs ≡ ys → ⊥
test_fails {xs} {ys} is fails same = both_ways _ (sym is ∙ fails) ((bytes_eq-Decides xs ys).1 same)

-- The parts of a text that pass the tests are those by which a server asks well.
pub asks_well : {own asked nonce salt64 digits : List ℕ} {salt : List ℕ} {rounds : ℕ} {has goes_on : Bool} → nonce ≡ nonce_part asked → base64 salt ≡ salt64 → rounds_of digits ≡ Some rounds → has ≡ bytes_eq (codes "r=" ++ nonce ++ codes ",s=" ++ salt64 ++ codes ",i=" ++ digits) asked → has ≡ true → goes_on ≡ (nat_lt (length own) (length nonce) && bytes_eq (take (length own) nonce) own) → goes_on ≡ true → Asks own asked nonce salt digits rounds
asks_well {own} {asked} {nonce} {salt64} {digits} nonce_is salt_is counted has_is has goes_is goes =
    let both = and_parts (nat_lt (length own) (length nonce)) (bytes_eq (take (length own) nonce) own) (sym goes_is ∙ goes) in
    record {
      is = sym (ap (λ s. codes "r=" ++ nonce ++ codes ",s=" ++ s ++ codes ",i=" ++ digits) salt_is ∙ (bytes_eq-Decides (codes "r=" ++ nonce ++ codes ",s=" ++ salt64 ++ codes ",i=" ++ digits) asked).0 (sym has_is ∙ has));
      counted = counted;
      repeats = (bytes_eq-Decides (take (length own) nonce) own).0 both.1;
      adds = ltb-true (length own) (length nonce) both.0;
      plain = ap (before 44) nonce_is ∙ before-again 44 (drop 2 asked) ∙ sym nonce_is;
    }
