use Rattle.std.proofs.Common.{◌≡◌, ◌≢◌, ℕ, ◌-◌, List, [], ◌∷◌, ◌++◌, length, Some, inl, inr, subst, arith, append_assoc, ap, ◌∙◌, sym}
use Rattle.std.specs.Int.{IsInRange}
use Rattle.std.proofs.lemmas.List.{length_push}
use Rattle.fallible_rows.specs.Rows.{row_number}
use Rattle.fallible_rows.specs.Digits.{TellsOf}
use Rattle.fallible_rows.proofs.Lemmas.Row.{row_number-first, row_number-more, row_number-other_byte, row_number-too_long, row_number-too_great}
use Rattle.fallible_rows.specs.declared.digits.Digits.{Digits}
use Rattle.fallible_rows.specs.declared.digits.Digits.TheVariants.{Number, Refused}
use Rattle.fallible_rows.proofs.digits.Digits.followed_by.Goals as goal

not_none : (bytes : List ℕ) (byte : ℕ) → bytes ++ byte ∷ [] ≢ []
not_none bytes byte e = let l = length_push bytes byte in let n : length (bytes ++ byte ∷ []) ≡ 0 = ap length e in omega (arith, l, n)

first : (bytes : List ℕ) (byte digit : ℕ) → IsInRange 48 57 byte → digit ≡ byte - 48 → bytes ≡ [] → TellsOf (Number 1 digit) (bytes ++ byte ∷ [])
first bytes byte digit h is none = (ap row_number (ap (λ l. l ++ byte ∷ []) none) ∙ row_number-first byte h ∙ ap (λ d. Some d) (sym is), ap length (ap (λ l. l ++ byte ∷ []) none))

refused_more : (bytes : List ℕ) (byte : ℕ) → TellsOf Refused bytes → TellsOf Refused (bytes ++ byte ∷ [])
refused_more bytes byte h = (not_none bytes byte, λ more. ap row_number (append_assoc bytes (byte ∷ []) more) ∙ h.1 (byte ∷ more))

pub returns-then-not-is_ascii_digit : goal.returns-then-not-is_ascii_digit
returns-then-not-is_ascii_digit c =
    let outside = c.if-not-is_ascii_digit.ensures.cases in
    λ bytes tells. (not_none bytes _, λ more. row_number-other_byte bytes _ more (λ inside. elim outside as (λ _. ⊥) [ inl below ↦ omega arith | inr above ↦ omega arith ]))

pub returns-in-Empty : goal.returns-in-Empty
returns-in-Empty c =
    let inside = c.if-not-is_ascii_digit.ensures.cases in
    λ bytes tells. first bytes _ _ inside (omega arith) (subst (λ (d : Digits). TellsOf d bytes) c.in-Empty.is tells)

pub returns-then-count-ge-MAX_DIGITS : goal.returns-then-count-ge-MAX_DIGITS
returns-then-count-ge-MAX_DIGITS c =
    λ bytes tells. let t = subst (λ (d : Digits). TellsOf d bytes) c.in-Number.is tells in (not_none bytes _, λ more. row_number-too_long bytes _ more (omega (arith, t.1)))

pub returns-in-Some : goal.returns-in-Some
returns-in-Some c =
    let inside = c.if-not-is_ascii_digit.ensures.cases in
    let made = c.in-Some.ensures in
    λ bytes tells. let t = subst (λ (d : Digits). TellsOf d bytes) c.in-Number.is tells in
    (row_number-more bytes _ _ t.0 (omega (arith, t.1)) inside (omega (arith, made.0, made.1)) ∙ ap (λ v. Some v) (sym (omega (arith, made.0))), omega (arith, t.1, length_push bytes c.args.byte))

pub returns-in-None : goal.returns-in-None
returns-in-None c =
    let inside = c.if-not-is_ascii_digit.ensures.cases in
    let great = c.in-None.ensures in
    λ bytes tells. let t = subst (λ (d : Digits). TellsOf d bytes) c.in-Number.is tells in
    (not_none bytes _, λ more. row_number-too_great bytes _ _ more t.0 inside (omega (arith, great)))

pub returns-in-Refused : goal.returns-in-Refused
returns-in-Refused c = λ bytes tells. refused_more bytes _ (subst (λ (d : Digits). TellsOf d bytes) c.in-Refused.is tells)
