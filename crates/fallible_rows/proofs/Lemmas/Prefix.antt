-- What was read, by what the rows of a reader returned.
use Rattle.std.proofs.Common.{Bool, true, false, ◌≡◌, ℕ, zero, suc, ◌+◌, ◌-◌, ◌<◌, ◌≤◌, ◌⊎◌, inl, inr, List, [], ◌∷◌, ◌++◌, length, map, refl, sym, ap, subst, ◌∙◌, arith, append-nil, Option, Some, None, Result, Ok, Err, count_by}
use Rattle.std.specs.Prelude.{replicate}
use Rattle.std.specs.Io.KnownBytes.{Consumes, IsAtEnd}
use Rattle.std.proofs.KnownBytes.{Consumes-nil, Consumes-trans, Consumes-kept}
use Rattle.std.proofs.lemmas.List.Elements.{All-take}
use Rattle.fallible_iterator.specs.Traces.{Answered, item, failure, end}
use Rattle.fallible_iterator.specs.Folds.{CountExit}
use Rattle.fallible_iterator.proofs.Lemmas.Callers.{no_item_end, no_item-failure, items_then_last, not_items_with}
use Rattle.program_io.specs.Bytes.{GivesBytes, GivesEnd}
use Rattle.fallible_rows.specs.Rows.{rows}
use Rattle.fallible_rows.specs.Report.{row_limit, line_of_count}
use Rattle.fallible_rows.specs.Run.{byte_limit}
use Rattle.fallible_rows.specs.RowTraces.{told_place, row_answers, IsClosed, IsOneRow, MissesByte, StopsBetween, StopsAtEnd, ReadsRows}
use Rattle.fallible_rows.specs.Counting.{CountsPrefix}
use Rattle.fallible_rows.proofs.Lemmas.Report.{row_limit-is, is_above_100, is_taken, item_rows_of_answers, refused_rows, row_answers_no_end, tally-numbers, tally-refused, reads_prefix_at_end, reads_prefix_full, reads_prefix_refused, reads_prefix_refused_at_end}
use Rattle.fallible_rows.proofs.Lemmas.Chain.{ReadsAtMost}
use Rattle.fallible_rows.specs.declared.fault.RowFault.{RowFault}
use Rattle.fallible_rows.specs.declared.fault.RowFault.TheVariants.{Row, Read}
use Rattle.fallible_rows.specs.declared.rows.Ahead.{Ahead}

abbrev RowAnswers : Type 0
RowAnswers = List (Answered ℕ RowFault)

module _ {B : Type 0} (left : B → Option (List ℕ)) (stays : Bool → B → B → Type 0) where
  pub consumes_given : (bytes : List ℕ) (r q : B) → GivesBytes left stays r bytes q → Consumes (left r) (left q) bytes
  consumes_given [] r q h = subst (λ (z : B). Consumes (left r) (left z) []) h (Consumes-nil (left r))
  consumes_given (x ∷ xs) r q h = Consumes-trans (left r) (left h.0) (left q) (x ∷ []) xs h.1.0 (consumes_given xs h.0 q h.2)

  pub consumes_to_end : (bytes : List ℕ) (r q t : B) → GivesBytes left stays r bytes q → GivesEnd left stays q t → Consumes (left r) (left t) bytes
  consumes_to_end bytes r q t h e = subst (Consumes (left r) (left t)) (append-nil bytes) (Consumes-trans (left r) (left q) (left t) bytes [] (consumes_given bytes r q h) e.0)

  consumes_missed : (bytes : List ℕ) (limit count : ℕ) (r q t : B) → GivesBytes left stays r bytes q → MissesByte left stays limit count q t → Consumes (left r) (left t) bytes
  consumes_missed bytes limit count r q t h (inl m) = subst (λ (z : B). Consumes (left r) (left z) bytes) (sym m.1) (consumes_given bytes r q h)
  consumes_missed bytes limit count r q t h (inr m) = Consumes-kept (left r) (left q) (left t) bytes (consumes_given bytes r q h) m.1.0

  -- what every read keeps, all of them keep
  module _ {N : Type 0} (name : B → N) (kept : (failed : Bool) (r q : B) → stays failed r q → name q ≡ name r) where
    name_kept_by_bytes : (bytes : List ℕ) (r q : B) → GivesBytes left stays r bytes q → name q ≡ name r
    name_kept_by_bytes [] r q h = ap name (sym h)
    name_kept_by_bytes (x ∷ xs) r q h = name_kept_by_bytes xs h.0 q h.2 ∙ kept false r h.0 h.1.1

    name_kept_by_rows : (r : B) (a : Ahead) (trace : RowAnswers) (p : B × Option Ahead) → ReadsRows left stays r a trace p → name p.0 ≡ name r
    name_kept_by_rows r a trace p h = let before = name_kept_by_bytes (h.closed ++ h.unclosed) r h.last h.given in elim h.stopped [
      | inl s ↦ ap (λ (q : B × Option Ahead). name q.0) s.is_left ∙ before
      | inr k ↦ elim k [
        | inl s ↦ kept false h.last p.0 s.met_end.2 ∙ before
        | inr s ↦ elim s.missed [ inl m ↦ ap name m.1 ∙ before | inr m ↦ kept true h.last p.0 m.1.1 ∙ before ]
      ]
    ]

  module _ (r : B) (a : Ahead) (p : B × Option Ahead) (first : a.place ≡ 1) (most : a.left ≡ byte_limit) (xs : List ℕ) (count : ℕ) (counted : count ≡ count_by is_above_100 xs) where
    abbrev CountsPrefixOf : Result ℕ RowFault → Type 0
    CountsPrefixOf result = CountsPrefix (left r) (left p.0) result

    -- the end was met within the limit
    abbrev MeetsEnd : List ℕ → Type 0
    MeetsEnd bytes = IsAtEnd (left p.0) × (length bytes < byte_limit)

    meets_end_of_bytes : (last : B) (closed unclosed : List ℕ) (trace : RowAnswers) → StopsAtEnd left stays last a closed unclosed trace p → MeetsEnd (closed ++ unclosed)
    meets_end_of_bytes last closed unclosed trace s = let limit = s.limit in (s.met_end.1, omega (arith, limit, most))

    closed_within_limit : (last : B) (closed unclosed : List ℕ) (trace : RowAnswers) → StopsBetween left stays last a closed unclosed trace p → length closed ≤ byte_limit
    closed_within_limit last closed unclosed trace s = let limit = s.limit in omega (arith, limit, most)

    count_within_limit : (count : ℕ) (q t : B) → MissesByte left stays a.left count q t → count ≤ byte_limit
    count_within_limit count q t (inl m) = let limit = m.0 in omega (arith, limit, most)
    count_within_limit count q t (inr m) = let limit = m.0 in omega (arith, limit, most)

    -- all rows are numbers
    counts_prefix_of_numbers : (bytes : List ℕ) → row_answers a.place (rows bytes) ≡ map item xs → Consumes (left r) (left p.0) bytes → MeetsEnd bytes ⊎ ((length bytes ≤ byte_limit) × IsClosed bytes × (length xs ≡ row_limit)) → length xs ≤ row_limit → CountsPrefixOf (Ok count)
    counts_prefix_of_numbers bytes are taken how few =
        let rs = item_rows_of_answers a.place (rows bytes) xs are in
        let long = rs.long in
        let not_more : length (rows bytes) ≤ row_limit = omega (arith, long, few) in (
          bytes,
          elim how [
            | inl met ↦ reads_prefix_at_end bytes taken met (All-take is_taken (length (rows bytes) - 1) (rows bytes) rs.numbers) not_more
            | inr full ↦ reads_prefix_full bytes taken full.0 full.1 rs.numbers (let e = full.2 in omega (arith, long, e))
          ],
          tally-numbers bytes rs.numbers not_more ∙ ap (λ n. Ok n) (rs.count ∙ sym counted),
        )

    -- the last row alone is refused
    counts_prefix_refused : (bytes : List ℕ) (e : RowFault) → row_answers a.place (rows bytes) ≡ map item xs ++ failure e ∷ [] → Consumes (left r) (left p.0) bytes → MeetsEnd bytes ⊎ ((length bytes ≤ byte_limit) × IsClosed bytes) → length xs < row_limit → CountsPrefixOf (Err e)
    counts_prefix_refused bytes e are taken how few =
        let rs = refused_rows a.place (rows bytes) xs e are in
        let long = rs.long in
        let fewer : length rs.good < row_limit = omega (arith, long, few) in
        let place : told_place (a.place + length rs.good) ≡ length rs.good + 1 = omega (arith, first, fewer, row_limit-is) in
        subst (λ (f : RowFault). CountsPrefixOf (Err f)) (sym (rs.fault ∙ ap (λ k. Row k) place)) (
          bytes,
          elim how [
            | inl met ↦ reads_prefix_refused_at_end bytes taken rs met fewer
            | inr closed ↦ reads_prefix_refused bytes taken rs closed.0 closed.1 fewer
          ],
          ap line_of_count (tally-refused bytes rs.good rs.bad [] rs.are rs.numbers rs.refused fewer),
        )

    -- a read failed after rows that are all numbers
    counts_prefix_read_failure : (closed unclosed : List ℕ) → IsClosed closed → IsOneRow unclosed → row_answers a.place (rows closed) ≡ map item xs → Consumes (left r) (left p.0) (closed ++ unclosed) → length (closed ++ unclosed) ≤ byte_limit → length xs < row_limit → CountsPrefixOf (Err Read)
    counts_prefix_read_failure closed unclosed are_closed one are taken not_more few =
        let rs = item_rows_of_answers a.place (rows closed) xs are in
        let long = rs.long in
        record { closed = closed; unclosed = unclosed; taken = taken; within = not_more; are_closed = are_closed; one = one; numbers = rs.numbers; few = omega (arith, long, few) }

    -- by the last answer, where it was drawn
    counts_by_end : (trace : RowAnswers) → trace ≡ map item xs ++ end ∷ [] → ReadsRows left stays r a trace p → length xs < row_limit → CountsPrefixOf (Ok count)
    counts_by_end trace are h few = elim h.stopped [
      | inl s ↦ absurd (row_answers_no_end a.place (rows h.closed) xs (sym s.answers ∙ are))
      | inr k ↦ elim k [
        | inl s ↦ counts_by_ends s s.ends s.answers
        | inr s ↦ absurd (let e = (items_then_last (row_answers a.place (rows h.closed)) (replicate s.ends end) (failure Read) end xs (no_item-failure Read) (sym s.answers ∙ are)).1 in cc)
      ]
    ]
      where
        counts_by_ends : StopsAtEnd left stays h.last a h.closed h.unclosed trace p → (n : ℕ) → trace ≡ row_answers a.place (rows (h.closed ++ h.unclosed)) ++ replicate n end → CountsPrefixOf (Ok count)
        counts_by_ends s zero e = absurd (row_answers_no_end a.place (rows (h.closed ++ h.unclosed)) xs (sym (append-nil (row_answers a.place (rows (h.closed ++ h.unclosed)))) ∙ sym e ∙ are))
        counts_by_ends s (suc n) e =
            let m = items_then_last (row_answers a.place (rows (h.closed ++ h.unclosed))) (replicate n end) end end xs no_item_end (sym e ∙ are) in
            counts_prefix_of_numbers (h.closed ++ h.unclosed) m.0 (consumes_to_end (h.closed ++ h.unclosed) r h.last p.0 h.given s.met_end) (inl (meets_end_of_bytes h.last h.closed h.unclosed trace s)) (omega arith)

    counts_by_failure : (trace : RowAnswers) (e : RowFault) → trace ≡ map item xs ++ failure e ∷ [] → ReadsRows left stays r a trace p → length xs < row_limit → CountsPrefixOf (Err e)
    counts_by_failure trace e are h few = elim h.stopped [
      | inl s ↦ counts_prefix_refused h.closed e (sym s.answers ∙ are) (consumes_between s) (inr (closed_within_limit h.last h.closed h.unclosed trace s, h.are_closed)) few
      | inr k ↦ elim k [
        | inl s ↦ counts_by_ends s s.ends s.answers
        | inr s ↦ let m = items_then_last (row_answers a.place (rows h.closed)) (replicate s.ends end) (failure Read) (failure e) xs (no_item-failure Read) (sym s.answers ∙ are) in
            let q = m.1 in
            let same : Read ≡ e = cc in
            subst (λ (f : RowFault). CountsPrefixOf (Err f)) same (counts_prefix_read_failure h.closed h.unclosed h.are_closed h.one m.0 (consumes_missed (h.closed ++ h.unclosed) a.left (length (h.closed ++ h.unclosed)) r h.last p.0 h.given s.missed) (count_within_limit (length (h.closed ++ h.unclosed)) h.last p.0 s.missed) few)
      ]
    ]
      where
        consumes_between : StopsBetween left stays h.last a h.closed h.unclosed trace p → Consumes (left r) (left p.0) h.closed
        consumes_between s =
            let whole : h.closed ++ h.unclosed ≡ h.closed = ap (λ l. h.closed ++ l) s.none_unclosed ∙ append-nil h.closed in
            subst (λ (q : B × Option Ahead). Consumes (left r) (left q.0) h.closed) (sym s.is_left) (subst (Consumes (left r) (left h.last)) whole (consumes_given (h.closed ++ h.unclosed) r h.last h.given))

        counts_by_ends : StopsAtEnd left stays h.last a h.closed h.unclosed trace p → (n : ℕ) → trace ≡ row_answers a.place (rows (h.closed ++ h.unclosed)) ++ replicate n end → CountsPrefixOf (Err e)
        counts_by_ends s zero d = counts_prefix_refused (h.closed ++ h.unclosed) e (sym (append-nil (row_answers a.place (rows (h.closed ++ h.unclosed)))) ∙ sym d ∙ are) (consumes_to_end (h.closed ++ h.unclosed) r h.last p.0 h.given s.met_end) (inl (meets_end_of_bytes h.last h.closed h.unclosed trace s)) few
        counts_by_ends s (suc n) d = absurd (let m = (items_then_last (row_answers a.place (rows (h.closed ++ h.unclosed))) (replicate n end) end (failure e) xs no_item_end (sym d ∙ are)).1 in cc)

    -- where as many rows as are looked at were returned
    counts_by_limit : (trace : RowAnswers) → trace ≡ map item xs → ReadsRows left stays r a trace p → length xs ≡ row_limit → CountsPrefixOf (Ok count)
    counts_by_limit trace are h long = elim h.stopped [
      | inl s ↦ counts_prefix_of_numbers h.closed (sym s.answers ∙ are) (consumes_between s) (inr (closed_within_limit h.last h.closed h.unclosed trace s, h.are_closed, long)) (omega (arith, long))
      | inr k ↦ elim k [
        | inl s ↦ counts_by_ends s s.ends s.answers
        | inr s ↦ absurd (not_items_with (row_answers a.place (rows h.closed)) (replicate s.ends end) (failure Read) xs (no_item-failure Read) (sym s.answers ∙ are))
      ]
    ]
      where
        consumes_between : StopsBetween left stays h.last a h.closed h.unclosed trace p → Consumes (left r) (left p.0) h.closed
        consumes_between s =
            let whole : h.closed ++ h.unclosed ≡ h.closed = ap (λ l. h.closed ++ l) s.none_unclosed ∙ append-nil h.closed in
            subst (λ (q : B × Option Ahead). Consumes (left r) (left q.0) h.closed) (sym s.is_left) (subst (Consumes (left r) (left h.last)) whole (consumes_given (h.closed ++ h.unclosed) r h.last h.given))

        counts_by_ends : StopsAtEnd left stays h.last a h.closed h.unclosed trace p → (n : ℕ) → trace ≡ row_answers a.place (rows (h.closed ++ h.unclosed)) ++ replicate n end → CountsPrefixOf (Ok count)
        counts_by_ends s zero d = counts_prefix_of_numbers (h.closed ++ h.unclosed) (sym (append-nil (row_answers a.place (rows (h.closed ++ h.unclosed)))) ∙ sym d ∙ are) (consumes_to_end (h.closed ++ h.unclosed) r h.last p.0 h.given s.met_end) (inl (meets_end_of_bytes h.last h.closed h.unclosed trace s)) (omega (arith, long))
        counts_by_ends s (suc n) d = absurd (not_items_with (row_answers a.place (rows (h.closed ++ h.unclosed))) (replicate n end) end xs no_item_end (sym d ∙ are))

    counts_prefix : (n : ℕ) → row_limit ≡ n → (last : Answered ℕ RowFault) (result : Result ℕ RowFault) → ReadsAtMost left stays r a n xs last p → CountExit count last result → CountsPrefixOf result
    counts_prefix n limit (Ok None) result (inl d) exit = let few = d.1 in subst CountsPrefixOf (sym exit) (counts_by_end (map item xs ++ end ∷ []) refl d.0 (omega (arith, few, limit)))
    counts_prefix n limit (Ok None) result (inr d) exit = subst CountsPrefixOf (sym exit) (counts_by_limit (map item xs) refl d.0 (d.2 ∙ sym limit))
    counts_prefix n limit (Ok (Some x)) result d exit = absurd exit
    counts_prefix n limit (Err e) result (inl d) exit = let few = d.1 in subst CountsPrefixOf (sym exit) (counts_by_failure (map item xs ++ failure e ∷ []) e refl d.0 (omega (arith, few, limit)))
    counts_prefix n limit (Err e) result (inr d) exit = absurd (let is = d.1 in cc)

-- ---- what was read of the rows up to the last answer

module _ {B : Type 0} {left : B → Option (List ℕ)} {stays : Bool → B → B → Type 0} {r : B} {a : Ahead} {n : ℕ} {last : Answered ℕ RowFault} {p : B × Option Ahead} where
  pub name_kept_by_reads : {N : Type 0} (name : B → N) → ((failed : Bool) (r q : B) → stays failed r q → name q ≡ name r) → (xs : List ℕ) → ReadsAtMost left stays r a n xs last p → name p.0 ≡ name r
  name_kept_by_reads name kept xs (inl d) = name_kept_by_rows left stays name kept r a (map item xs ++ last ∷ []) p d.0
  name_kept_by_reads name kept xs (inr d) = name_kept_by_rows left stays name kept r a (map item xs) p d.0

  -- the count of a chain over the first rows
  pub counts_prefix_of_result : {count : ℕ} (xs : List ℕ) → a.place ≡ 1 → a.left ≡ byte_limit → count ≡ count_by is_above_100 xs → row_limit ≡ n → (result : Result ℕ RowFault) → ReadsAtMost left stays r a n xs last p → CountExit count last result → CountsPrefix (left r) (left p.0) result
  counts_prefix_of_result {count = count} xs first most counted limit result reads exit = counts_prefix left stays r a p first most xs count counted n limit last result reads exit
