-- Lemmas on the cells of a row.
use Rattle.std.proofs.Common.{◌≡◌, ◌≢◌, ℕ, suc, ◌+◌, ◌<◌, ◌≤◌, Bool, true, false, List, [], ◌∷◌, length, take, drop, Option, Some, None, Result, Ok, Err, refl, sym, ap, subst, ◌∙◌, arith}
use Rattle.std.specs.Borrow.{Bor}
use Rattle.std.proofs.lemmas.Bool.{le-leb, lt-leb, eq-eqb, ne_eqb}
use Rattle.fallible_pg.specs.Cells.{first_cell, cell_then, cells_from, cells_of, are_whole, FindsCell, TakesCell}
use Rattle.fallible_pg.specs.Numbers.{u16_at, u32_at}
use Rattle.fallible_pg.specs.declared.fault.Damage.{Damage}
use Rattle.fallible_pg.specs.declared.fault.Damage.TheVariants.{Row}

abbrev Cell : Type 0
Cell = Option (Bor (List ℕ))

-- ---- the first cell

pub finds_short : (bytes : List ℕ) → length bytes < 4 → FindsCell (first_cell bytes) None
unfolding first_cell
finds_short bytes few = rw (lt-leb 4 (length bytes) few) tt

-- these bytes begin with this length, and these come after it
pub record HasLength (bytes tail : List ℕ) (n : ℕ) : Type 0 where
  pub long : 4 ≤ length bytes
  pub is : n ≡ u32_at bytes 0
  pub is_tail : tail ≡ drop 4 bytes

module _ {bytes tail : List ℕ} {n : ℕ} (begins : HasLength bytes tail n) where
  pub finds_null : (rest : Bor (List ℕ)) → n ≡ 4294967295 → rest.now ≡ tail → FindsCell (first_cell bytes) (Some (None, rest))
  unfolding first_cell
  finds_null rest null after = rw (le-leb 4 (length bytes) begins.long, sym begins.is, eq-eqb n 4294967295 null) (tt, after ∙ begins.is_tail)

  pub finds_few : n ≢ 4294967295 → length tail < n → FindsCell (first_cell bytes) None
  unfolding first_cell
  finds_few some few = rw (le-leb 4 (length bytes) begins.long, sym begins.is, ne_eqb n 4294967295 some, sym begins.is_tail, lt-leb n (length tail) few) tt

  pub finds_cell : (cell rest : Bor (List ℕ)) → n ≢ 4294967295 → n ≤ length tail → cell.now ≡ take n tail → rest.now ≡ drop n tail → FindsCell (first_cell bytes) (Some (Some cell, rest))
  unfolding first_cell
  finds_cell cell rest some enough at after = rw (le-leb 4 (length bytes) begins.long, sym begins.is, ne_eqb n 4294967295 some, sym begins.is_tail, le-leb n (length tail) enough) (at, after)

-- ---- one draw

pub takes_cell_end : (k : ℕ) (bytes : List ℕ) → k ≡ 0 → length bytes ≡ 0 → TakesCell (cells_from k bytes) (Ok None) (cells_from k bytes)
unfolding cells_from
takes_cell_end k [] none empty = rw none (refl, refl)
takes_cell_end k (b ∷ bs) none empty = absurd (omega (arith, empty))

pub takes_bytes_after_cells : (k : ℕ) (bytes bytes' : List ℕ) → k ≡ 0 → 0 < length bytes → bytes' ≡ [] → TakesCell (cells_from k bytes) (Err Row) (cells_from k bytes')
unfolding cells_from
takes_bytes_after_cells k [] bytes' none some empty = absurd (omega (arith, some))
takes_bytes_after_cells k (b ∷ bs) bytes' none some empty = rw (none, empty) (refl, refl)

takes_cell_first : (k : ℕ) (found : Option (Option (List ℕ) × List ℕ)) (o : Cell) (rest : Bor (List ℕ)) → FindsCell found (Some (o, rest)) → TakesCell (cell_then found (cells_from k)) (Ok (Some o)) (cells_from k rest.now)
takes_cell_first k None o rest h = absurd h
takes_cell_first k (Some (cell, after)) o rest h = (h.0, ap (cells_from k) h.1)

takes_cell_none : (k : ℕ) (found : Option (Option (List ℕ) × List ℕ)) → FindsCell found None → TakesCell (cell_then found (cells_from k)) (Err Row) []
takes_cell_none k None h = (refl, refl)
takes_cell_none k (Some cell) h = absurd h

cells_from-suc : (k : ℕ) (bytes : List ℕ) → cells_from (suc k) bytes ≡ cell_then (first_cell bytes) (cells_from k)
unfolding cells_from
cells_from-suc k bytes = refl

cells_from-none : cells_from 0 [] ≡ []
unfolding cells_from
cells_from-none = refl

pub takes_cell : (k j : ℕ) (bytes : List ℕ) (o : Cell) (rest : Bor (List ℕ)) → j + 1 ≡ k → FindsCell (first_cell bytes) (Some (o, rest)) → TakesCell (cells_from k bytes) (Ok (Some o)) (cells_from j rest.now)
takes_cell k j bytes o rest less h =
    let is : k ≡ suc j = omega (arith, less) in
    subst (λ l. TakesCell l (Ok (Some o)) (cells_from j rest.now)) (sym (ap (λ n. cells_from n bytes) is ∙ cells_from-suc j bytes)) (takes_cell_first j (first_cell bytes) o rest h)

pub takes_cell_damaged : (k j : ℕ) (bytes : List ℕ) → j + 1 ≡ k → FindsCell (first_cell bytes) None → TakesCell (cells_from k bytes) (Err Row) (cells_from 0 [])
takes_cell_damaged k j bytes less h =
    let is : k ≡ suc j = omega (arith, less) in
    subst (λ l. TakesCell l (Err Row) (cells_from 0 [])) (sym (ap (λ n. cells_from n bytes) is ∙ cells_from-suc j bytes)) (subst (λ l. TakesCell (cell_then (first_cell bytes) (cells_from j)) (Err Row) l) (sym cells_from-none) (takes_cell_none j (first_cell bytes) h))

-- ---- the message

pub cells_of-short : (message : List ℕ) → 5 ≤ length message → length message < 7 → cells_from 0 message ≡ cells_of message
unfolding cells_of cells_from
cells_of-short [] some few = absurd (omega (arith, some))
cells_of-short (b ∷ bs) some few = rw (lt-leb 7 (length (b ∷ bs)) few) refl

pub cells_of-long : (message bytes : List ℕ) (n : ℕ) → 7 ≤ length message → n ≡ u16_at message 5 → bytes ≡ drop 7 message → cells_from n bytes ≡ cells_of message
unfolding cells_of
cells_of-long message bytes n long is is_tail = rw (le-leb 7 (length message) long, is, is_tail) refl

-- whether no cell is damaged, after a draw

pub whole_after_item : (cells rest : List (Result (Option (List ℕ)) Damage)) (o : Cell) → TakesCell cells (Ok (Some o)) rest → are_whole cells ≡ are_whole rest
whole_after_item [] rest o h = absurd (let e = h.0 in cc)
whole_after_item (Ok cell ∷ cells) rest o h = ap are_whole (sym h.1)
whole_after_item (Err damage ∷ cells) rest o h = absurd (let e = h.0 in cc)

pub whole_at_end : (cells rest : List (Result (Option (List ℕ)) Damage)) → TakesCell cells (Ok None) rest → true ≡ are_whole cells
whole_at_end [] rest h = refl
whole_at_end (Ok cell ∷ cells) rest h = absurd h.0
whole_at_end (Err damage ∷ cells) rest h = absurd (let e = h.0 in cc)

pub damaged_at_failure : (cells rest : List (Result (Option (List ℕ)) Damage)) (damage : Damage) → TakesCell cells (Err damage) rest → false ≡ are_whole cells
damaged_at_failure [] rest damage h = absurd (let e = h.0 in cc)
damaged_at_failure (Ok cell ∷ cells) rest damage h = absurd h.0
damaged_at_failure (Err d ∷ cells) rest damage h = refl

pub whole_without_cells : (k : ℕ) (bytes : List ℕ) (b : Bool) → k ≡ 0 → (b ≡ true → length bytes ≡ 0) → (b ≡ false → length bytes ≢ 0) → b ≡ are_whole (cells_from k bytes)
unfolding cells_from
whole_without_cells k [] true none empty some = rw none refl
whole_without_cells k [] false none empty some = absurd (some refl refl)
whole_without_cells k (b ∷ bs) true none empty some = absurd (let e = empty refl in cc)
whole_without_cells k (b ∷ bs) false none empty some = rw none refl
