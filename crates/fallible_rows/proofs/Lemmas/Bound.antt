-- At most as many rows are numbers as bytes may be read.
use Rattle.std.proofs.Common.{Bool, ◌≡◌, ℕ, ◌+◌, ◌≤◌, inl, inr, List, [], ◌∷◌, Option, Some, None, Ok, Err, ap, arith}
use Rattle.fallible_iterator.specs.Traces.{Answered, Run, items_in}
use Rattle.fallible_iterator.specs.Contract.{BoundsRuns}
use Rattle.fallible_rows.specs.RowTraces.{begun, DrawsRow, row_step}
use Rattle.fallible_rows.specs.declared.fault.RowFault.{RowFault}
use Rattle.fallible_rows.specs.declared.rows.Ahead.{Ahead}

-- how many bytes may be read
abbrev bytes_ahead : Option Ahead → ℕ
bytes_ahead (Some a) = a.left
bytes_ahead None = 0

at_most_one : (answer : Answered ℕ RowFault) → items_in (answer ∷ []) ≤ 1
at_most_one (Ok (Some x)) = omega arith
at_most_one (Ok None) = omega arith
at_most_one (Err e) = omega arith

first_and_rest : (answer : Answered ℕ RowFault) (rest : List (Answered ℕ RowFault)) → items_in (answer ∷ rest) ≡ items_in (answer ∷ []) + items_in rest
first_and_rest (Ok (Some x)) rest = omega arith
first_and_rest (Ok None) rest = omega arith
first_and_rest (Err e) rest = omega arith

module _ {B : Type 0} (left : B → Option (List ℕ)) (stays : Bool → B → B → Type 0) where
  -- each item takes a byte at least
  drawn_row_lowers : (r : B) (a : Ahead) (answer : Answered ℕ RowFault) (p : B × Option Ahead) → DrawsRow left stays r a answer p → items_in (answer ∷ []) + bytes_ahead p.1 ≤ a.left
  drawn_row_lowers r a answer p d = elim d.ended [
    | inl e ↦ let limit = e.limit in let after = ap bytes_ahead e.is_left in omega (arith, at_most_one answer, limit, after)
    | inr g ↦ elim g [
      | inl e ↦ let limit = e.limit in let after = ap bytes_ahead e.is_left in omega (arith, at_most_one answer, limit, after)
      | inr e ↦ let none : items_in (answer ∷ []) ≡ 0 = ap (λ (r : Answered ℕ RowFault). items_in (r ∷ [])) e.answered in let after = ap bytes_ahead e.is_left in omega (arith, none, after)
    ]
  ]

  row_step_lowers : (s : B × Option Ahead) (answer : Answered ℕ RowFault) (p : B × Option Ahead) → row_step left stays s answer p → items_in (answer ∷ []) + bytes_ahead p.1 ≤ bytes_ahead s.1
  row_step_lowers (r, Some a) answer p d = drawn_row_lowers r a answer p d
  row_step_lowers (r, None) answer p w =
      let none : items_in (answer ∷ []) ≡ 0 = ap (λ (q : Answered ℕ RowFault). items_in (q ∷ [])) w.0 in
      let after : bytes_ahead p.1 ≡ 0 = ap (λ (q : B × Option Ahead). bytes_ahead q.1) w.1 in
      omega (arith, none, after)

  items_within : (trace : List (Answered ℕ RowFault)) (s p : B × Option Ahead) → Run (row_step left stays) s trace p → items_in trace + bytes_ahead p.1 ≤ bytes_ahead s.1
  items_within [] s p ran = let same : bytes_ahead s.1 ≡ bytes_ahead p.1 = ap (λ (q : B × Option Ahead). bytes_ahead q.1) ran in omega (arith, same)
  items_within (answer ∷ rest) s p ran =
      let first = row_step_lowers s answer ran.0 ran.1 in
      let more = items_within rest ran.0 p ran.2 in
      omega (arith, first_and_rest answer rest, first, more)

  pub bounds_rows : (s : B × Option Ahead) (reader : B) (limit : ℕ) → s ≡ begun reader limit → BoundsRuns (row_step left stays) s limit
  bounds_rows s reader limit is = record { at = λ trace t ran. let within = items_within trace s t ran in let from : bytes_ahead s.1 ≡ limit = ap (λ (q : B × Option Ahead). bytes_ahead q.1) is in omega (arith, within, from) }
