-- A read that failed, by what the rows of a reader returned.
use Rattle.std.proofs.Common.{Bool, true, ◌≡◌, ℕ, zero, suc, ◌⊎◌, inl, inr, List, [], ◌∷◌, ◌++◌, length, map, refl, sym, subst, ◌∙◌, append-nil, Option, Some, None, Result, Ok, Err}
use Rattle.std.specs.Prelude.{replicate}
use Rattle.std.specs.Io.KnownBytes.{Consumes}
use Rattle.fallible_iterator.specs.Traces.{Answered, item, failure, end}
use Rattle.fallible_iterator.specs.Folds.{CountExit}
use Rattle.fallible_iterator.proofs.Lemmas.Callers.{no_item_end, items_then_last}
use Rattle.fallible_rows.specs.Rows.{rows}
use Rattle.fallible_rows.specs.Run.{byte_limit, FailsReading}
use Rattle.fallible_rows.specs.RowTraces.{row_answers, StopsAtEnd, ReadsRows}
use Rattle.fallible_rows.proofs.Lemmas.Report.{refused_rows}
use Rattle.fallible_rows.proofs.Lemmas.Chain.{ReadsAtMost}
use Rattle.fallible_rows.proofs.Lemmas.Prefix.{consumes_given}
use Rattle.fallible_rows.specs.declared.fault.RowFault.{RowFault}
use Rattle.fallible_rows.specs.declared.fault.RowFault.TheVariants.{Read}
use Rattle.program_io.specs.declared.reading.Lent.{Lent}
use Rattle.fallible_rows.specs.declared.rows.Ahead.{Ahead}

-- no row is answered by a read that failed
rows_never_fail_to_read : (place : ℕ) (rs : List (List ℕ)) (xs : List ℕ) → row_answers place rs ≡ map item xs ++ failure Read ∷ [] → ⊥
rows_never_fail_to_read place rs xs e = let other = (refused_rows place rs xs Read e).fault in absurd cc

module _ {B : Type 0} {left : B → Option (List ℕ)} {stays : Bool → B → B → Type 0} {r : B} {a : Ahead} {p : B × Option Ahead} (most : a.left ≡ byte_limit) (xs : List ℕ) where
  fails_by_rows : (trace : List (Answered ℕ RowFault)) → trace ≡ map item xs ++ failure Read ∷ [] → ReadsRows left stays r a trace p → FailsReading left stays r p.0
  fails_by_rows trace are h = elim h.stopped [
    | inl s ↦ absurd (rows_never_fail_to_read a.place (rows h.closed) xs (sym s.answers ∙ are))
    | inr k ↦ elim k [
      | inl s ↦ absurd (at_end s s.ends s.answers)
      | inr s ↦ (h.closed ++ h.unclosed, h.last, consumes_given left stays (h.closed ++ h.unclosed) r h.last h.given, elim s.missed [ inl m ↦ inl (m.0 ∙ most) | inr m ↦ inr m.1.1 ])
    ]
  ]
    where
      at_end : StopsAtEnd left stays h.last a h.closed h.unclosed trace p → (n : ℕ) → trace ≡ row_answers a.place (rows (h.closed ++ h.unclosed)) ++ replicate n end → ⊥
      at_end s zero d = rows_never_fail_to_read a.place (rows (h.closed ++ h.unclosed)) xs (sym (append-nil (row_answers a.place (rows (h.closed ++ h.unclosed)))) ∙ sym d ∙ are)
      at_end s (suc n) d = absurd (let m = (items_then_last (row_answers a.place (rows (h.closed ++ h.unclosed))) (replicate n end) end (failure Read) xs no_item_end (sym d ∙ are)).1 in cc)

  -- the count of a chain over the first rows, where it is `Read`
  pub fails_of_result : {n : ℕ} (count : ℕ) (last : Answered ℕ RowFault) (result : Result ℕ RowFault) → ReadsAtMost left stays r a n xs last p → CountExit count last result → result ≡ Err Read → FailsReading left stays r p.0
  fails_of_result count (Ok None) result d exit is = absurd cc
  fails_of_result count (Ok (Some x)) result d exit is = absurd exit
  fails_of_result count (Err e) result (inl d) exit is =
      let same : e ≡ Read = cc in
      fails_by_rows (map item xs ++ failure Read ∷ []) refl (subst (λ (f : RowFault). ReadsRows left stays r a (map item xs ++ failure f ∷ []) p) same d.0)
  fails_of_result count (Err e) result (inr d) exit is = absurd (let other = d.1 in cc)

-- of a reader that is lent
pub fails_lent : {R : Type 0} (left : R → Option (List ℕ)) (stays : Bool → R → R → Type 0) (r : R) (last t : Lent R) (bytes : List ℕ) → Consumes (left r) (left last.reader.now) bytes → (length bytes ≡ byte_limit) ⊎ ((t.reader.ghost_name ≡ last.reader.ghost_name) × stays true last.reader.now t.reader.now) → FailsReading left stays r t.reader.now
fails_lent left stays r last t bytes taken (inl full) = (bytes, last.reader.now, taken, inl full)
fails_lent left stays r last t bytes taken (inr failed) = (bytes, last.reader.now, taken, inr failed.1)
