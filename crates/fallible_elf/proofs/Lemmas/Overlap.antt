-- What marks say of sections that overlap.
use Rattle.std.specs.Prelude.{◌≡◌, ℕ, suc, ◌+◌, ◌<◌, ◌≤◌, List, [], ◌∷◌, ◌++◌, Bool, true, false, Ok, Err, length, take, drop, min, max, nat_le, nat_lt, ◌&&◌, ◌||◌}
use Rattle.std.proofs.Common.{refl, sym, ap, ◌∙◌, inl, inr, get_or, drop-cons, arith}
use Rattle.std.proofs.lemmas.Bool.{le-leb, lt-ltb, leb-true, ltb-true, and_from, and_left, and_parts, or_cases, or_parts, or_from, or_left, or_right, false_from_ne_true, both_ways}
use Rattle.std.proofs.lemmas.List.{drop_all, take_more}
use Rattle.std.specs.List.{list_any}
use Rattle.fallible_elf.specs.Faults.{fault_at}
use Rattle.fallible_elf.specs.Overlaps.{end_of, lies_in, share_a_byte, apart_after, stands_between, has_byte, MarksMore, MarksAre, Claims, ClaimsSection}
use Rattle.fallible_elf.specs.declared.fault.Damage.TheVariants.{SetsOverlap}
use Rattle.fallible_elf.specs.declared.section.Section.{Section}

-- ---- bytes of sections

module _ (bytes : List ℕ) (s : Section) where
  -- a byte that both have
  shares_of_byte : (at : ℕ) (x : Section) → lies_in bytes s ≡ true → s.offset ≤ at → at < end_of s → has_byte bytes at x ≡ true → share_a_byte bytes s x ≡ true
  shares_of_byte at x lies from to has =
      let parts = and_parts (lies_in bytes x) _ has in
      let places = and_parts (nat_le x.offset at) (nat_lt at (end_of x)) parts.1 in
      let low = leb-true x.offset at places.0 in
      let high = ltb-true at (end_of x) places.1 in
      and_from _ _ (and_from _ _ lies parts.0) (lt-ltb (max s.offset x.offset) (min (end_of s) (end_of x)) (omega (arith, low, high, from, to)))

  pub any_shares_of_byte : (at : ℕ) (before : List Section) → lies_in bytes s ≡ true → s.offset ≤ at → at < end_of s → list_any (has_byte bytes at) before ≡ true → list_any (share_a_byte bytes s) before ≡ true
  any_shares_of_byte at [] lies from to has = has
  any_shares_of_byte at (x ∷ xs) lies from to has = elim (or_cases (has_byte bytes at x) (list_any (has_byte bytes at) xs) has) [
    | inl here ↦ or_left _ _ (shares_of_byte at x lies from to here)
    | inr later ↦ or_right _ _ (any_shares_of_byte at xs lies from to later)
  ]

  -- where no byte of it is had, it shares none
  shares_no_byte : (x : Section) → ((at : ℕ) → s.offset ≤ at → at < end_of s → has_byte bytes at x ≡ false) → share_a_byte bytes s x ≡ false
  shares_no_byte x none = false_from_ne_true _ (λ share.
      let parts = and_parts _ _ share in
      let lies = and_parts (lies_in bytes s) (lies_in bytes x) parts.0 in
      let below = ltb-true (max s.offset x.offset) (min (end_of s) (end_of x)) parts.1 in
      let at = max s.offset x.offset in
      both_ways (has_byte bytes at x) (none at (omega (arith, below)) (omega (arith, below))) (and_from _ _ lies.1 (and_from _ _ (le-leb x.offset at (omega arith)) (lt-ltb at (end_of x) (omega (arith, below))))))

  pub any_shares_no_byte : (before : List Section) → ((at : ℕ) → s.offset ≤ at → at < end_of s → list_any (has_byte bytes at) before ≡ false) → list_any (share_a_byte bytes s) before ≡ false
  any_shares_no_byte [] none = refl
  any_shares_no_byte (x ∷ xs) none = or_from _ _ (shares_no_byte x (λ at from to. (or_parts _ _ (none at from to)).0)) (any_shares_no_byte xs (λ at from to. (or_parts (has_byte bytes at x) _ (none at from to)).1))

  -- nor where it lies outside the file
  pub any_shares_outside : (before : List Section) → lies_in bytes s ≡ false → list_any (share_a_byte bytes s) before ≡ false
  any_shares_outside [] outside = refl
  any_shares_outside (x ∷ xs) outside = or_from _ _ (and_left _ _ (and_left _ _ outside)) (any_shares_outside xs outside)

-- ---- marks

or_false : (b : Bool) → (b || false) ≡ b
or_false true = refl
or_false false = refl

or_assoc : (a b c : Bool) → (a || (b || c)) ≡ ((a || b) || c)
or_assoc true b c = refl
or_assoc false b c = refl

any_append : {A : Type 0} (test : A → Bool) (xs : List A) (y : A) → list_any test (xs ++ y ∷ []) ≡ (list_any test xs || test y)
any_append test [] y = or_false (test y)
any_append test (x ∷ xs) y = ap (λ b. test x || b) (any_append test xs y) ∙ or_assoc (test x) (list_any test xs) (test y)

module _ (bytes : List ℕ) (before : List Section) (s : Section) (marks : List Bool) where
  pub marks_are_with_section : (marks' : List Bool) → lies_in bytes s ≡ true → MarksAre bytes before marks → MarksMore marks s.offset (end_of s) marks' → MarksAre bytes (before ++ s ∷ []) marks'
  marks_are_with_section marks' lies are more = (more.0 ∙ are.0, (λ at. more.1 at ∙ ap (λ b. b || stands_between s.offset (end_of s) at) (are.1 at) ∙ ap (λ b. list_any (has_byte bytes at) before || (b && stands_between s.offset (end_of s) at)) (sym lies) ∙ sym (any_append (has_byte bytes at) before s)))

  pub marks_are_without_section : lies_in bytes s ≡ false → MarksAre bytes before marks → MarksAre bytes (before ++ s ∷ []) marks
  marks_are_without_section outside are = (are.0, (λ at. are.1 at ∙ sym (or_false _) ∙ ap (λ b. list_any (has_byte bytes at) before || (b && stands_between s.offset (end_of s) at)) (sym outside) ∙ sym (any_append (has_byte bytes at) before s)))

-- what was claimed of a section
pub claims_section : (bytes : List ℕ) (s : Section) (old new : List Bool) (fresh : Bool) → lies_in bytes s ≡ true → Claims old s.offset (end_of s) fresh new → ClaimsSection bytes s old fresh new
claims_section bytes s old new true lies claims = λ before are. (marks_are_with_section bytes before s old new lies are claims.0, any_shares_no_byte bytes s before (λ at from to. sym (are.1 at) ∙ claims.1 at from to))
claims_section bytes s old new false lies claims = λ before are. any_shares_of_byte bytes s claims.1.0 before lies claims.1.1 claims.1.2 (sym (are.1 claims.1.0) ∙ claims.1.3)

pub claims_outside : (bytes : List ℕ) (s : Section) (marks : List Bool) → lies_in bytes s ≡ false → ClaimsSection bytes s marks true marks
claims_outside bytes s marks outside = λ before are. (marks_are_without_section bytes before s marks outside are, any_shares_outside bytes s before outside)

-- ---- the sections one after the other

module _ (bytes : List ℕ) (sections : List Section) (k : ℕ) (d : Section) where
  first_left : k < length sections → drop k sections ≡ get_or sections k d ∷ drop (k + 1) sections
  first_left below = let next : suc k ≡ k + 1 = omega arith in drop-cons sections k d below ∙ ap (λ n. get_or sections k d ∷ drop n sections) next

  pub apart_next : k < length sections → list_any (share_a_byte bytes (get_or sections k d)) (take k sections) ≡ false → apart_after bytes (take k sections) (drop k sections) ≡ apart_after bytes (take (k + 1) sections) (drop (k + 1) sections)
  unfolding apart_after
  apart_next below none = rw (first_left below, none, take_more sections k d below) refl

  pub apart_fault : k < length sections → list_any (share_a_byte bytes (get_or sections k d)) (take k sections) ≡ true → apart_after bytes (take k sections) (drop k sections) ≡ Err (fault_at (get_or sections k d).offset SetsOverlap)
  unfolding apart_after
  apart_fault below one = rw (first_left below, one) refl

-- after the last one
pub apart_all : (bytes : List ℕ) (sections : List Section) (k : ℕ) → length sections ≤ k → apart_after bytes (take k sections) (drop k sections) ≡ Ok tt
unfolding apart_after
apart_all bytes sections k past = rw (drop_all k sections past) refl

-- fewer than two
pub apart_few : (bytes : List ℕ) (sections : List Section) → length sections < 2 → apart_after bytes [] sections ≡ Ok tt
unfolding apart_after
apart_few bytes [] few = refl
apart_few bytes (x ∷ []) few = refl
apart_few bytes (x ∷ y ∷ xs) few = absurd (omega (arith, few))
