-- Lemmas on the bytes before a mark.
use Rattle.std.proofs.Common.{inl, inr, ◌≡◌, ◌≢◌, ℕ, ◌+◌, ◌<◌, ◌≤◌, List, [], ◌∷◌, ◌++◌, length, take, drop, slice_index, refl, sym, ap, ◌∙◌, arith, append_assoc, append-nil, drop_of_length-le}
use Rattle.std.proofs.lemmas.Bool.{cases_eq, eq-eqb, ne_eqb}
use Rattle.std.proofs.lemmas.List.{take_more, drop_more, take_all}
use Rattle.fallible_pg.specs.Strings.{before}

before-mark : (mark b : ℕ) (bs : List ℕ) → b ≡ mark → before mark (b ∷ bs) ≡ []
unfolding before
before-mark mark b bs is = rw (eq-eqb b mark is) refl

pub before-other : (mark b : ℕ) (bs : List ℕ) → b ≢ mark → before mark (b ∷ bs) ≡ b ∷ before mark bs
unfolding before
before-other mark b bs other = rw (ne_eqb b mark other) refl

pub before-none : (mark : ℕ) → before mark [] ≡ []
unfolding before
before-none mark = refl

module _ (mark : ℕ) (bytes : List ℕ) (i : ℕ) (so_far : before mark bytes ≡ take i bytes ++ before mark (drop i bytes)) where
  pub mark_next : i < length bytes → slice_index bytes i ≢ mark → before mark bytes ≡ take (i + 1) bytes ++ before mark (drop (i + 1) bytes)
  mark_next inside other =
      let b = slice_index bytes i in
      let rest = before mark (drop (i + 1) bytes) in
      so_far ∙ ap (λ l. take i bytes ++ before mark l) (drop_more bytes i 0 inside) ∙ ap (λ l. take i bytes ++ l) (before-other mark b (drop (i + 1) bytes) other) ∙ sym (append_assoc (take i bytes) (b ∷ []) rest) ∙ ap (λ l. l ++ rest) (sym (take_more bytes i 0 inside))

  pub takes_up_to_mark : i < length bytes → slice_index bytes i ≡ mark → take i bytes ≡ before mark bytes
  takes_up_to_mark inside is = sym (so_far ∙ ap (λ l. take i bytes ++ before mark l) (drop_more bytes i 0 inside) ∙ ap (λ l. take i bytes ++ l) (before-mark mark (slice_index bytes i) (drop (i + 1) bytes) is) ∙ append-nil (take i bytes))

  pub no_mark : length bytes ≤ i → bytes ≡ before mark bytes
  no_mark all_read = sym (so_far ∙ ap (λ l. take i bytes ++ before mark l) (drop_of_length-le bytes all_read) ∙ ap (λ l. take i bytes ++ l) (before-none mark) ∙ append-nil (take i bytes) ∙ take_all i bytes all_read)

-- ---- a text without the mark

abbrev rest_of : List ℕ → List ℕ
rest_of [] = []
rest_of (x ∷ xs) = xs

-- a text without the mark, up to the mark after it
pub before-plain : (mark : ℕ) (xs rest : List ℕ) → before mark xs ≡ xs → before mark (xs ++ mark ∷ rest) ≡ xs
before-plain mark [] rest plain = before-mark mark mark rest refl
before-plain mark (x ∷ xs) rest plain =
    elim (cases_eq x mark) [
      | inl is ↦ absurd (omega (arith, ap length (sym (before-mark mark x xs is) ∙ plain)))
      | inr other ↦ before-other mark x (xs ++ mark ∷ rest) other ∙ ap (λ l. x ∷ l) (before-plain mark xs rest (ap rest_of (sym (before-other mark x xs other) ∙ plain)))
    ]

-- what is before the mark has none
pub before-again : (mark : ℕ) (xs : List ℕ) → before mark (before mark xs) ≡ before mark xs
before-again mark [] = ap (before mark) (before-none mark)
before-again mark (x ∷ xs) =
    elim (cases_eq x mark) [
      | inl is ↦ let none = before-mark mark x xs is in ap (before mark) none ∙ before-none mark ∙ sym none
      | inr other ↦ let one = before-other mark x xs other in ap (before mark) one ∙ before-other mark x (before mark xs) other ∙ ap (λ l. x ∷ l) (before-again mark xs) ∙ sym one
    ]
