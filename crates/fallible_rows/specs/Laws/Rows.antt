-- Lemmas on the rows of bytes, one after another.
use Rattle.std.proofs.Common.{◌≡◌, ◌≢◌, ℕ, ◌-◌, ◌<◌, Bool, true, false, List, [], ◌∷◌, ◌++◌, length, get_or, eqb, refl, sym, ap, ◌∙◌, arith, append_assoc, inl, inr}
use Rattle.std.specs.List.{All, slice_split}
use Rattle.std.proofs.lemmas.Bool.{cond-false, ne_eqb, eqb-true, eqb-false}
use Rattle.std.proofs.lemmas.List.Splits.{slice_split_at, slice_split_none, length-slice_split}
use Rattle.std.proofs.lemmas.List.Elements.{All-nil, All-cons}
use Rattle.std.proofs.lemmas.List.{get_or_push, take_at, length_push}
use Rattle.fallible_rows.specs.Rows.{rows, is_newline, without_empty_last}
use Rattle.fallible_rows.specs.RowTraces.{IsOneRow, IsClosed}

-- a byte that is no newline
abbrev pub not_newline : ℕ → Type 0
not_newline byte = byte ≢ 10

is_newline_false : (byte : ℕ) → byte ≢ 10 → is_newline byte ≡ false
is_newline_false byte other = ne_eqb byte 10 other

-- a list of one element or more ends in one
record EndsWithItem {X : Type 0} (xs : List X) : Type 0 where
  prefix : List X
  last : X
  is : xs ≡ prefix ++ last ∷ []

ends_with_item_cons : {X : Type 0} (x : X) (xs : List X) → EndsWithItem xs → EndsWithItem (x ∷ xs)
ends_with_item_cons x xs e = record { prefix = x ∷ e.prefix; last = e.last; is = ap (λ l. x ∷ l) e.is }

ends_with_item_of_cons : {X : Type 0} (x : X) (xs : List X) → EndsWithItem (x ∷ xs)
ends_with_item_of_cons x [] = record { prefix = []; last = x; is = refl }
ends_with_item_of_cons x (y ∷ ys) = ends_with_item_cons x (y ∷ ys) (ends_with_item_of_cons y ys)

-- a list of pieces whose last one is an empty one, or is not
without_empty_last-empty : (pieces : List (List ℕ)) → without_empty_last (pieces ++ [] ∷ []) ≡ pieces
without_empty_last-empty pieces =
    let n : length (pieces ++ [] ∷ []) - 1 ≡ length pieces = omega (arith, length_push pieces []) in
    rw (n, get_or_push pieces [] [] (length pieces) refl) (take_at pieces ([] ∷ []) (length pieces) refl)

without_empty_last-full : (pieces : List (List ℕ)) (last : List ℕ) → 0 < length last → without_empty_last (pieces ++ last ∷ []) ≡ pieces ++ last ∷ []
without_empty_last-full pieces last full =
    let n : length (pieces ++ last ∷ []) - 1 ≡ length pieces = omega (arith, length_push pieces last) in
    let ne : eqb (length last) 0 ≡ false = ne_eqb _ _ (λ e. omega arith) in
    rw (n, get_or_push pieces last [] (length pieces) refl) (cond-false _ _ _ ne)

-- a piece before others
without_empty_last-onto : (piece : List ℕ) (prefix : List (List ℕ)) (last : List ℕ) → without_empty_last (piece ∷ (prefix ++ last ∷ [])) ≡ piece ∷ without_empty_last (prefix ++ last ∷ [])
without_empty_last-onto piece prefix [] = without_empty_last-empty (piece ∷ prefix) ∙ ap (λ l. piece ∷ l) (sym (without_empty_last-empty prefix))
without_empty_last-onto piece prefix (x ∷ xs) = without_empty_last-full (piece ∷ prefix) (x ∷ xs) (omega arith) ∙ ap (λ l. piece ∷ l) (sym (without_empty_last-full prefix (x ∷ xs) (omega arith)))

without_empty_last-cons : (piece : List ℕ) (pieces : List (List ℕ)) → 0 < length pieces → without_empty_last (piece ∷ pieces) ≡ piece ∷ without_empty_last pieces
without_empty_last-cons piece [] some = absurd (omega arith)
without_empty_last-cons piece (p ∷ ps) some =
    let e = ends_with_item_of_cons p ps in
    ap (λ l. without_empty_last (piece ∷ l)) e.is ∙ without_empty_last-onto piece e.prefix e.last ∙ ap (λ l. piece ∷ without_empty_last l) (sym e.is)

all_no_newlines : (row : List ℕ) → IsOneRow row → All (λ byte. is_newline byte ≡ false) row
all_no_newlines row one i d l = is_newline_false (get_or row i d) (one i d l)

-- the rows of no bytes, of a row and more, and of one row
pub rows-none : rows [] ≡ []
rows-none = without_empty_last-empty []

pub rows-row : (row rest : List ℕ) → IsOneRow row → rows (row ++ 10 ∷ rest) ≡ row ∷ rows rest
rows-row row rest one =
    ap without_empty_last (slice_split_at is_newline row 10 rest (all_no_newlines row one) refl) ∙ without_empty_last-cons row (slice_split is_newline rest) (omega (arith, length-slice_split is_newline rest))

pub rows-one : (row : List ℕ) → IsOneRow row → row ≢ [] → rows row ≡ row ∷ []
rows-one [] one some = absurd (some refl)
rows-one (x ∷ xs) one some = ap without_empty_last (slice_split_none is_newline (x ∷ xs) (all_no_newlines (x ∷ xs) one)) ∙ without_empty_last-full [] (x ∷ xs) (omega arith)

-- ---- closed bytes

-- closed bytes, row by row
pub data ClosedRows : List ℕ → Type 0 where
  no_rows : {bytes : List ℕ} → bytes ≡ [] → ClosedRows bytes
  row_then : {bytes : List ℕ} (row rest : List ℕ) → bytes ≡ row ++ 10 ∷ rest → IsOneRow row → ClosedRows rest → ClosedRows bytes

IsClosed-tail : (x y : ℕ) (ys : List ℕ) → IsClosed (x ∷ y ∷ ys) → IsClosed (y ∷ ys)
IsClosed-tail x y ys (inl e) = absurd cc
IsClosed-tail x y ys (inr ([], e)) = absurd cc
IsClosed-tail x y ys (inr (z ∷ zs, e)) = inr (zs, cc)

last_byte_is_newline : (x : ℕ) → IsClosed (x ∷ []) → x ≡ 10
last_byte_is_newline x (inl e) = absurd cc
last_byte_is_newline x (inr ([], e)) = cc
last_byte_is_newline x (inr (z ∷ [], e)) = absurd cc
last_byte_is_newline x (inr (z ∷ w ∷ zs, e)) = absurd cc

closed_rows_cons : (x y : ℕ) (ys : List ℕ) → ClosedRows (y ∷ ys) → (b : Bool) → is_newline x ≡ b → ClosedRows (x ∷ y ∷ ys)
closed_rows_cons x y ys h true is = row_then [] (y ∷ ys) (ap (λ b. b ∷ y ∷ ys) (eqb-true x 10 is)) (All-nil not_newline) h
closed_rows_cons x y ys (no_rows e) false other = absurd cc
closed_rows_cons x y ys (row_then row rest e one h) false other = row_then (x ∷ row) rest (ap (λ l. x ∷ l) e) (All-cons not_newline x row (eqb-false x 10 other) one) h

pub closed_rows_of_bytes : (bytes : List ℕ) → IsClosed bytes → ClosedRows bytes
closed_rows_of_bytes [] h = no_rows refl
closed_rows_of_bytes (x ∷ []) h = row_then [] [] (ap (λ b. b ∷ []) (last_byte_is_newline x h)) (All-nil not_newline) (no_rows refl)
closed_rows_of_bytes (x ∷ y ∷ ys) h = closed_rows_cons x y ys (closed_rows_of_bytes (y ∷ ys) (IsClosed-tail x y ys h)) (is_newline x) refl

-- a row before closed bytes
pub IsClosed-row : (row rest : List ℕ) → IsClosed rest → IsClosed (row ++ 10 ∷ rest)
IsClosed-row row rest (inl e) = inr (row, ap (λ l. row ++ 10 ∷ l) e)
IsClosed-row row rest (inr (prefix, e)) = inr (row ++ 10 ∷ prefix, ap (λ l. row ++ 10 ∷ l) e ∙ sym (append_assoc row (10 ∷ prefix) (10 ∷ [])))

-- the rows of closed bytes and more
rows-closed_rows : (bytes more : List ℕ) → ClosedRows bytes → rows (bytes ++ more) ≡ rows bytes ++ rows more
rows-closed_rows bytes more (no_rows e) = ap (λ l. rows (l ++ more)) e ∙ ap (λ l. l ++ rows more) (sym rows-none) ∙ ap (λ l. rows l ++ rows more) (sym e)
rows-closed_rows bytes more (row_then row rest e one h) =
    ap (λ l. rows (l ++ more)) e ∙ ap rows (append_assoc row (10 ∷ rest) more) ∙ rows-row row (rest ++ more) one ∙ ap (λ l. row ∷ l) (rows-closed_rows rest more h)
    ∙ ap (λ l. l ++ rows more) (sym (rows-row row rest one)) ∙ ap (λ l. rows l ++ rows more) (sym e)

pub rows-closed : (bytes more : List ℕ) → IsClosed bytes → rows (bytes ++ more) ≡ rows bytes ++ rows more
rows-closed bytes more h = rows-closed_rows bytes more (closed_rows_of_bytes bytes h)
