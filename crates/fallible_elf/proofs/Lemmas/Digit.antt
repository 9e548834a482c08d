-- Digits that are put before others.
use Rattle.std.specs.Prelude.{◌≡◌, ℕ, zero, suc, ◌+◌, ◌-◌, ◌/◌, ◌%◌, ◌<◌, ◌≤◌, List, [], ◌∷◌, Bool, true, false, ◌==◌, if◌then◌else◌, length, drop}
use Rattle.std.specs.Fmt.{digit_glyph, digits_onto, digits}
use Rattle.std.proofs.Common.{refl, ap, ◌∙◌, set, arith}
use Rattle.std.proofs.lemmas.Bool.{eq-eqb, ne_eqb}
use Rattle.std.proofs.lemmas.List.{drop-set}

-- before none
pub digits_onto_none : (base n : ℕ) → digits_onto 64 base false n [] ≡ digits base false n
unfolding digits
digits_onto_none base n = refl

module _ (base n : ℕ) (behind : List ℕ) where
  by_test : (k : ℕ) (t : Bool) → (n / base == 0) ≡ t → digits_onto (suc k) base false n behind ≡ (if t then digit_glyph false (n % base) ∷ behind else digits_onto k base false (n / base) (digit_glyph false (n % base) ∷ behind))
  by_test k t e = ap (λ (b : Bool). if b then digit_glyph false (n % base) ∷ behind else digits_onto k base false (n / base) (digit_glyph false (n % base) ∷ behind)) e

  -- the first digit
  pub digits_onto_first : (k : ℕ) → 0 < k → n / base ≡ 0 → digits_onto k base false n behind ≡ digit_glyph false (n % base) ∷ behind
  digits_onto_first zero h e = absurd (omega arith)
  digits_onto_first (suc k) h e = by_test k true (eq-eqb _ 0 e)

  -- another digit
  pub digits_onto_next : (k : ℕ) → 0 < k → (n / base ≡ 0 → ⊥) → digits_onto k base false n behind ≡ digits_onto (k - 1) base false (n / base) (digit_glyph false (n % base) ∷ behind)
  digits_onto_next zero h e = absurd (omega arith)
  digits_onto_next (suc k) h e = by_test k false (ne_eqb _ 0 e) ∙ ap (λ (j : ℕ). digits_onto j base false (n / base) (digit_glyph false (n % base) ∷ behind)) {x = k} {y = suc k - 1} (omega arith)

-- what stands from a place on, where a byte was put
pub drop_at_put : (room : List ℕ) (at x : ℕ) {digit : ℕ} → 0 < at → at ≤ length room → x ≡ digit → drop (at - 1) (set room (at - 1) x) ≡ digit ∷ drop at room
drop_at_put room at x {digit} some within is = let next : at - 1 + 1 ≡ at = omega (arith, some) in drop-set room (at - 1) x (omega (arith, some, within)) ∙ ap (λ n. x ∷ drop n room) next ∙ ap (λ y. y ∷ drop at room) is
