-- Lemmas on the fields of a refusal.
use Rattle.std.proofs.Common.{◌≡◌, ◌≢◌, ℕ, ◌+◌, ◌<◌, ◌≤◌, ◌==◌, Bool, true, false, List, [], ◌∷◌, length, drop, slice_index, refl, sym, ap, ◌∙◌, drop_of_length-le}
use Rattle.std.proofs.lemmas.Bool.{eq-eqb, ne_eqb}
use Rattle.std.proofs.lemmas.List.{drop_more}
use Rattle.fallible_pg.specs.Faults.{field_from}
use Rattle.fallible_pg.specs.Strings.{before_zero}

-- ---- fields

field_of_other_byte : (begins : Bool) (letter b : ℕ) (bs : List ℕ) → (begins ≡ true → b ≢ letter) → field_from begins letter (b ∷ bs) ≡ field_from (b == 0) letter bs
unfolding field_from
field_of_other_byte true letter b bs other = rw (ne_eqb b letter (other refl)) refl
field_of_other_byte false letter b bs other = refl

field_found : (letter b : ℕ) (bs : List ℕ) → b ≡ letter → field_from true letter (b ∷ bs) ≡ before_zero bs
unfolding field_from
field_found letter b bs is = rw (eq-eqb b letter is) refl

field_none : (begins : Bool) (letter : ℕ) → field_from begins letter [] ≡ []
unfolding field_from
field_none true letter = refl
field_none false letter = refl

module _ (fields : List ℕ) (letter i : ℕ) (begins : Bool) (so_far : field_from true letter fields ≡ field_from begins letter (drop i fields)) where
  pub field_next : i < length fields → (begins ≡ true → slice_index fields i ≢ letter) → field_from true letter fields ≡ field_from (slice_index fields i == 0) letter (drop (i + 1) fields)
  field_next inside other = so_far ∙ ap (field_from begins letter) (drop_more fields i 0 inside) ∙ field_of_other_byte begins letter (slice_index fields i) (drop (i + 1) fields) other

  pub field_is_text_after_letter : i < length fields → begins ≡ true → slice_index fields i ≡ letter → before_zero (drop (i + 1) fields) ≡ field_from true letter fields
  field_is_text_after_letter inside starts is = sym (so_far ∙ ap (λ (b : Bool). field_from b letter (drop i fields)) starts ∙ ap (field_from true letter) (drop_more fields i 0 inside) ∙ field_found letter (slice_index fields i) (drop (i + 1) fields) is)

  pub no_field : length fields ≤ i → [] ≡ field_from true letter fields
  no_field all_read = sym (so_far ∙ ap (field_from begins letter) (drop_of_length-le fields all_read) ∙ field_none begins letter)
