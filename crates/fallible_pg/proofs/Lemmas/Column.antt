-- Lemmas on the columns that a message describes.
use Rattle.std.proofs.Common.{◌≡◌, ℕ, suc, ◌+◌, ◌<◌, ◌≤◌, List, [], ◌∷◌, length, drop, Option, Some, None, Ok, Err, refl, sym, ap, subst, ◌∙◌, arith}
use Rattle.std.specs.Borrow.{Bor}
use Rattle.std.proofs.lemmas.Bool.{le-leb, lt-leb}
use Rattle.fallible_pg.specs.Columns.{Described, described, first_column, column_then, columns_from, columns_of, said_of, FindsColumn, TakesColumn}
use Rattle.fallible_pg.specs.Numbers.{u16_at}
use Rattle.fallible_pg.specs.Strings.{before_zero}
use Rattle.fallible_pg.specs.declared.columns.Column.{Column}
use Rattle.fallible_pg.specs.declared.fault.Damage.TheVariants.{Columns}

-- ---- the first column

pub finds_no_column : (bytes : List ℕ) → length bytes < length (before_zero bytes) + 19 → FindsColumn (first_column bytes) None
unfolding first_column
finds_no_column bytes few = rw (lt-leb (length (before_zero bytes) + 19) (length bytes) few) tt

pub finds_column : (bytes fixed : List ℕ) (column : Column) (rest : Bor (List ℕ)) → length (before_zero bytes) + 19 ≤ length bytes → fixed ≡ drop (length (before_zero bytes) + 1) bytes → said_of column ≡ described (before_zero bytes) fixed → rest.now ≡ drop 18 fixed → FindsColumn (first_column bytes) (Some (column, rest))
unfolding first_column
finds_column bytes fixed column rest enough is said after = rw (le-leb (length (before_zero bytes) + 19) (length bytes) enough) (said ∙ ap (described (before_zero bytes)) is, after ∙ ap (drop 18) is)

-- ---- one draw

pub takes_column_end : (k : ℕ) (bytes : List ℕ) → k ≡ 0 → length bytes ≡ 0 → TakesColumn (columns_from k bytes) (Ok None) (columns_from k bytes)
unfolding columns_from
takes_column_end k [] none empty = rw none (refl, refl)
takes_column_end k (b ∷ bs) none empty = absurd (omega (arith, empty))

pub takes_bytes_after_columns : (k : ℕ) (bytes bytes' : List ℕ) → k ≡ 0 → 0 < length bytes → bytes' ≡ [] → TakesColumn (columns_from k bytes) (Err Columns) (columns_from k bytes')
unfolding columns_from
takes_bytes_after_columns k [] bytes' none some empty = absurd (omega (arith, some))
takes_bytes_after_columns k (b ∷ bs) bytes' none some empty = rw (none, empty) (refl, refl)

takes_column_first : (k : ℕ) (found : Option (Described × List ℕ)) (o : Column) (rest : Bor (List ℕ)) → FindsColumn found (Some (o, rest)) → TakesColumn (column_then found (columns_from k)) (Ok (Some o)) (columns_from k rest.now)
takes_column_first k None o rest h = absurd h
takes_column_first k (Some (column, after)) o rest h = (h.0, ap (columns_from k) h.1)

takes_column_none : (k : ℕ) (found : Option (Described × List ℕ)) → FindsColumn found None → TakesColumn (column_then found (columns_from k)) (Err Columns) []
takes_column_none k None h = (refl, refl)
takes_column_none k (Some column) h = absurd h

columns_from-suc : (k : ℕ) (bytes : List ℕ) → columns_from (suc k) bytes ≡ column_then (first_column bytes) (columns_from k)
unfolding columns_from
columns_from-suc k bytes = refl

columns_from-none : columns_from 0 [] ≡ []
unfolding columns_from
columns_from-none = refl

pub takes_column : (k j : ℕ) (bytes : List ℕ) (o : Column) (rest : Bor (List ℕ)) → j + 1 ≡ k → FindsColumn (first_column bytes) (Some (o, rest)) → TakesColumn (columns_from k bytes) (Ok (Some o)) (columns_from j rest.now)
takes_column k j bytes o rest less h =
    let is : k ≡ suc j = omega (arith, less) in
    subst (λ l. TakesColumn l (Ok (Some o)) (columns_from j rest.now)) (sym (ap (λ n. columns_from n bytes) is ∙ columns_from-suc j bytes)) (takes_column_first j (first_column bytes) o rest h)

pub takes_column_damaged : (k j : ℕ) (bytes : List ℕ) → j + 1 ≡ k → FindsColumn (first_column bytes) None → TakesColumn (columns_from k bytes) (Err Columns) (columns_from 0 [])
takes_column_damaged k j bytes less h =
    let is : k ≡ suc j = omega (arith, less) in
    subst (λ l. TakesColumn l (Err Columns) (columns_from 0 [])) (sym (ap (λ n. columns_from n bytes) is ∙ columns_from-suc j bytes)) (subst (λ l. TakesColumn (column_then (first_column bytes) (columns_from j)) (Err Columns) l) (sym columns_from-none) (takes_column_none j (first_column bytes) h))

-- ---- the message

pub columns_of-short : (message : List ℕ) → 5 ≤ length message → length message < 7 → columns_from 0 message ≡ columns_of message
unfolding columns_of columns_from
columns_of-short [] some few = absurd (omega (arith, some))
columns_of-short (b ∷ bs) some few = rw (lt-leb 7 (length (b ∷ bs)) few) refl

pub columns_of-long : (message bytes : List ℕ) (n : ℕ) → 7 ≤ length message → n ≡ u16_at message 5 → bytes ≡ drop 7 message → columns_from n bytes ≡ columns_of message
unfolding columns_of
columns_of-long message bytes n long is is_tail = rw (le-leb 7 (length message) long, is, is_tail) refl
