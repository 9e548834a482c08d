-- Lemmas on fields of CSV.
use Rattle.std.proofs.Common.{◌≡◌, ℕ, ◌+◌, ◌<◌, ◌≤◌, Bool, true, false, ◌||◌, List, [], ◌∷◌, ◌++◌, length, take, drop, slice_index, refl, sym, ap, ◌∙◌, append_assoc, append-nil, drop_of_length-le, take-append-drop}
use Rattle.std.proofs.lemmas.List.{take_more, drop_more}
use Rattle.fallible_pg.specs.Csv.{is_special, has_special, within_quotes, doubled}

has_special-cons : (b : ℕ) (bs : List ℕ) → has_special (b ∷ bs) ≡ is_special b || has_special bs
unfolding has_special
has_special-cons b bs = refl

has_special-none : has_special [] ≡ false
unfolding has_special
has_special-none = refl

module _ (field : List ℕ) (i : ℕ) (so_far : has_special field ≡ has_special (drop i field)) where
  special_step : i < length field → has_special field ≡ is_special (slice_index field i) || has_special (drop (i + 1) field)
  special_step inside = so_far ∙ ap has_special (drop_more field i 0 inside) ∙ has_special-cons (slice_index field i) (drop (i + 1) field)

  pub special_next : i < length field → is_special (slice_index field i) ≡ false → has_special field ≡ has_special (drop (i + 1) field)
  special_next inside plain = special_step inside ∙ ap (λ (b : Bool). b || has_special (drop (i + 1) field)) plain

  pub special_found : i < length field → is_special (slice_index field i) ≡ true → true ≡ has_special field
  special_found inside is = sym (special_step inside ∙ ap (λ (b : Bool). b || has_special (drop (i + 1) field)) is)

  pub special_none : length field ≤ i → false ≡ has_special field
  special_none all_read = sym (so_far ∙ ap has_special (drop_of_length-le field all_read) ∙ has_special-none)

pub doubled-append : (xs ys : List ℕ) → doubled (xs ++ ys) ≡ doubled xs ++ doubled ys
unfolding doubled
doubled-append [] ys = refl
doubled-append (x ∷ xs) ys = ap (λ l. within_quotes x ++ l) (doubled-append xs ys) ∙ sym (append_assoc (within_quotes x) (doubled xs) (doubled ys))

pub doubled-one : (b : ℕ) → doubled (b ∷ []) ≡ within_quotes b
unfolding doubled
doubled-one b = append-nil (within_quotes b)

pub doubled-none : doubled [] ≡ []
unfolding doubled
doubled-none = refl

-- one byte more
pub doubled-more : (field : List ℕ) (i : ℕ) → i < length field → doubled (take (i + 1) field) ≡ doubled (take i field) ++ within_quotes (slice_index field i)
doubled-more field i inside = ap doubled (take_more field i 0 inside) ∙ doubled-append (take i field) (slice_index field i ∷ []) ∙ ap (λ l. doubled (take i field) ++ l) (doubled-one (slice_index field i))

doubled-cons : (b : ℕ) (bs : List ℕ) → doubled (b ∷ bs) ≡ within_quotes b ++ doubled bs
unfolding doubled
doubled-cons b bs = refl

-- around one byte
pub doubled-around : (field : List ℕ) (i : ℕ) → i < length field → doubled field ≡ doubled (take i field) ++ (within_quotes (slice_index field i) ++ doubled (drop (i + 1) field))
doubled-around field i inside =
    ap doubled (sym (take-append-drop i field))
    ∙ doubled-append (take i field) (drop i field)
    ∙ ap (λ l. doubled (take i field) ++ doubled l) (drop_more field i 0 inside)
    ∙ ap (λ l. doubled (take i field) ++ l) (doubled-cons (slice_index field i) (drop (i + 1) field))
