-- Runs of the rows of a reader are the traces that their definition names, and their contract is lawful.
use Rattle.std.proofs.Common.{Bool, ◌≡◌, ◌≢◌, ℕ, zero, suc, ◌+◌, ◌-◌, ◌<◌, ◌≤◌, ◌⊎◌, inl, inr, List, [], ◌∷◌, ◌++◌, length, Option, Some, None, Err, refl, sym, ap, subst, ◌∙◌, arith, append_assoc}
use Rattle.std.specs.Prelude.{replicate}
use Rattle.std.proofs.lemmas.List.{length-append}
use Rattle.std.proofs.lemmas.List.Elements.{All-nil}
use Rattle.fallible_iterator.specs.Traces.{Answered, Run, failure, end}
use Rattle.fallible_iterator.specs.Contract.{Lawful}
use Rattle.fallible_iterator.specs.Laws.BoundsRuns.{lawful_unbounded}
use Rattle.fallible_iterator.specs.Laws.Closures.{folds_to_in_turn}
use Rattle.fallible_iterator.specs.Laws.Contract.{lawful_with_traces}
use Rattle.fallible_iterator.specs.Laws.LawForm.{IsTraced}
use Rattle.fallible_iterator.proofs.Lemmas.Callers.{turns_split}
use Rattle.program_io.specs.Bytes.{GivesByte, GivesBytes}
use Rattle.fallible_rows.specs.Rows.{rows, row_number}
use Rattle.fallible_rows.specs.RowTraces.{told_place, place_after, answer_of_number, row_answer, row_answers, IsOneRow, EndsByEnd, EndsByFailure, DrawsRow, row_step, StopsBetween, StopsAtEnd, StopsAtFailure, ReadsRows, RowsTrace, rows_contract}
use Rattle.fallible_rows.specs.Laws.Rows.{not_newline, rows-none, rows-row, rows-one, ClosedRows, no_rows, row_then, closed_rows_of_bytes, IsClosed-row}
use Rattle.fallible_rows.specs.declared.fault.RowFault.{RowFault}
use Rattle.fallible_rows.specs.declared.fault.RowFault.TheVariants.{Row, Read}
use Rattle.fallible_rows.specs.declared.rows.Ahead.{Ahead}

abbrev RowAnswers : Type 0
RowAnswers = List (Answered ℕ RowFault)

-- ---- places

answer_of_number_told : (place : ℕ) (o : Option ℕ) → answer_of_number (told_place place) o ≡ answer_of_number place o
answer_of_number_told place (Some n) = refl
answer_of_number_told place None = let e : told_place (told_place place) ≡ told_place place = omega arith in ap {B = Answered ℕ RowFault} (λ p. Err (Row p)) e

-- a place that is told has the answers of the place
pub row_answers_told : (place : ℕ) (rs : List (List ℕ)) → row_answers (told_place place) rs ≡ row_answers place rs
row_answers_told place [] = refl
row_answers_told place (row ∷ rest) =
    let next : told_place (told_place place + 1) ≡ told_place (place + 1) = omega arith in
    let rests : row_answers (told_place place + 1) rest ≡ row_answers (place + 1) rest = sym (row_answers_told (told_place place + 1) rest) ∙ ap (λ k. row_answers k rest) next ∙ row_answers_told (place + 1) rest in
    ap {B = RowAnswers} (λ x. x ∷ row_answers (told_place place + 1) rest) (answer_of_number_told place (row_number row)) ∙ ap {B = RowAnswers} (λ l. row_answer place row ∷ l) rests

module _ {B : Type 0} (left : B → Option (List ℕ)) (stays : Bool → B → B → Type 0) where
  abbrev RowStep : B × Option Ahead → Answered ℕ RowFault → B × Option Ahead → Type 0
  RowStep = row_step left stays

  abbrev StopsReading : B → Ahead → List ℕ → List ℕ → RowAnswers → B × Option Ahead → Type 0
  StopsReading last a closed unclosed trace p = StopsBetween left stays last a closed unclosed trace p ⊎ (StopsAtEnd left stays last a closed unclosed trace p ⊎ StopsAtFailure left stays last a closed unclosed trace p)

  -- ---- exhausted

  ends_alone_after_rows : (trace : RowAnswers) (r : B) (o : Option Ahead) (p : B × Option Ahead) → o ≡ None → Run RowStep (r, o) trace p → ((n : ℕ) × (trace ≡ replicate n end)) × (p ≡ (r, None))
  ends_alone_after_rows [] r o p is ran = ((0, refl), sym ran ∙ ap (λ u. (r, u)) is)
  ends_alone_after_rows (x ∷ rest) r None p is ran = let h = ends_alone_after_rows rest r None p refl (subst (λ (u : B × Option Ahead). Run RowStep u rest p) ran.1.1 ran.2) in ((suc h.0.0, (λ i. ran.1.0 i ∷ h.0.1 i)), h.1)
  ends_alone_after_rows (x ∷ rest) r (Some a) p is ran = absurd cc

  run_of_ends : (n : ℕ) (r : B) → Run RowStep (r, None) (replicate n end) (r, None)
  run_of_ends zero r = refl
  run_of_ends (suc n) r = ((r, None), (refl, refl), run_of_ends n r)

  -- ends after a draw that exhausted them
  run_of_ends_after : (n : ℕ) (p : B × Option Ahead) → p.1 ≡ None → Run RowStep p (replicate n end) p
  run_of_ends_after n p is = subst (λ (o : Option Ahead). Run RowStep (p.0, o) (replicate n end) (p.0, o)) (sym is) (run_of_ends n p.0)

  -- ---- a row before others

  gives_bytes_before : (r q last : B) (row closed unclosed : List ℕ) (mid : B) → GivesBytes left stays r row mid → GivesByte left stays mid 10 q → GivesBytes left stays q (closed ++ unclosed) last → GivesBytes left stays r ((row ++ 10 ∷ closed) ++ unclosed) last
  gives_bytes_before r q last row closed unclosed mid given newline others =
      subst (λ l. GivesBytes left stays r l last) (sym (append_assoc row (10 ∷ closed) unclosed)) (folds_to_in_turn (GivesByte left stays) row (10 ∷ (closed ++ unclosed)) r mid last given (q, newline, others))

  -- the answers of a row and of the others
  row_answers_first : (place place' : ℕ) (row bytes : List ℕ) → IsOneRow row → place' ≡ told_place (place + 1) → row_answer place row ∷ row_answers place' (rows bytes) ≡ row_answers place (rows (row ++ 10 ∷ bytes))
  row_answers_first place place' row bytes one next =
      ap {B = RowAnswers} (λ l. row_answer place row ∷ l) (ap (λ k. row_answers k (rows bytes)) next ∙ row_answers_told (place + 1) (rows bytes)) ∙ ap (row_answers place) (sym (rows-row row bytes one))

  -- the place after a row and the others
  place_after_first : (place place' : ℕ) (row bytes : List ℕ) → IsOneRow row → place' ≡ told_place (place + 1) → place_after place' (rows bytes) ≡ place_after place (rows (row ++ 10 ∷ bytes))
  place_after_first place place' row bytes one next = ap (λ k. place_after k (rows bytes)) next ∙ ap (place_after place) (sym (rows-row row bytes one))

  -- after is where one more row leaves a
  module _ (a after : Ahead) (row : List ℕ) (one : IsOneRow row) (limit : after.left + length row + 1 ≡ a.left) (next : after.place ≡ told_place (a.place + 1)) where
    stops_reading_later : (last : B) (closed unclosed : List ℕ) (trace : RowAnswers) (p : B × Option Ahead) → StopsReading last after closed unclosed trace p → StopsReading last a (row ++ 10 ∷ closed) unclosed (row_answer a.place row ∷ trace) p
    stops_reading_later last closed unclosed trace p (inl s) =
        let long = length-append row (10 ∷ closed) in
        let here = s.limit in
        inl (record {
          after = s.after;
          none_unclosed = s.none_unclosed;
          limit = omega (arith, long, here, limit);
          place = s.place ∙ place_after_first a.place after.place row closed one next;
          is_left = s.is_left;
          answers = ap {B = RowAnswers} (λ l. row_answer a.place row ∷ l) s.answers ∙ row_answers_first a.place after.place row closed one next;
        })
    stops_reading_later last closed unclosed trace p (inr (inl s)) =
        let long = length-append row (10 ∷ (closed ++ unclosed)) in
        let joined : (row ++ 10 ∷ closed) ++ unclosed ≡ row ++ 10 ∷ (closed ++ unclosed) = append_assoc row (10 ∷ closed) unclosed in
        let same : length ((row ++ 10 ∷ closed) ++ unclosed) ≡ length (row ++ 10 ∷ (closed ++ unclosed)) = ap length joined in
        let here = s.limit in
        inr (inl (record {
          ends = s.ends;
          met_end = s.met_end;
          limit = omega (arith, long, same, here, limit);
          is_left = s.is_left;
          answers = ap {B = RowAnswers} (λ l. row_answer a.place row ∷ l) s.answers ∙ ap (λ l. l ++ replicate s.ends end) (row_answers_first a.place after.place row (closed ++ unclosed) one next) ∙ ap (λ l. row_answers a.place (rows l) ++ replicate s.ends end) (sym joined);
          ended = s.ended;
        }))
    stops_reading_later last closed unclosed trace p (inr (inr s)) =
        let long = length-append row (10 ∷ (closed ++ unclosed)) in
        let joined : (row ++ 10 ∷ closed) ++ unclosed ≡ row ++ 10 ∷ (closed ++ unclosed) = append_assoc row (10 ∷ closed) unclosed in
        let same : length ((row ++ 10 ∷ closed) ++ unclosed) ≡ length (closed ++ unclosed) + length row + 1 = ap length joined ∙ omega (arith, long) in
        inr (inr (record {
          ends = s.ends;
          missed = elim s.missed [ inl h ↦ inl (let e = h.0 in omega (arith, same, e, limit), h.1) | inr h ↦ inr (let e = h.0 in omega (arith, same, e, limit), h.1) ];
          is_left = s.is_left;
          answers = ap {B = RowAnswers} (λ l. row_answer a.place row ∷ l) s.answers ∙ ap (λ l. l ++ failure Read ∷ replicate s.ends end) (row_answers_first a.place after.place row closed one next);
        }))

    reads_rows_with_row_before : (r q mid : B) (trace : RowAnswers) (p : B × Option Ahead) → GivesBytes left stays r row mid → GivesByte left stays mid 10 q → ReadsRows left stays q after trace p → ReadsRows left stays r a (row_answer a.place row ∷ trace) p
    reads_rows_with_row_before r q mid trace p given newline h = record {
      closed = row ++ 10 ∷ h.closed;
      unclosed = h.unclosed;
      last = h.last;
      given = gives_bytes_before r q h.last row h.closed h.unclosed mid given newline h.given;
      are_closed = IsClosed-row row h.closed h.are_closed;
      one = h.one;
      stopped = stops_reading_later h.last h.closed h.unclosed trace p h.stopped;
    }

  -- ---- from runs to traces

  reads_rows-none : (r : B) (a : Ahead) (p : B × Option Ahead) → (r, Some a) ≡ p → ReadsRows left stays r a [] p
  reads_rows-none r a p is = record {
    closed = [];
    unclosed = [];
    last = r;
    given = refl;
    are_closed = inl refl;
    one = All-nil not_newline;
    stopped = inl (record { after = a; none_unclosed = refl; limit = omega arith; place = ap (place_after a.place) (sym rows-none); is_left = sym is; answers = ap (row_answers a.place) (sym rows-none) });
  }

  -- the bytes of one row were read, and then the rows were exhausted
  reads_rows_in_one_row : (r : B) (a : Ahead) (row : List ℕ) (last : B) (trace : RowAnswers) (p : B × Option Ahead) → IsOneRow row → GivesBytes left stays r row last → StopsAtEnd left stays last a [] row trace p ⊎ StopsAtFailure left stays last a [] row trace p → ReadsRows left stays r a trace p
  reads_rows_in_one_row r a row last trace p one given stopped = record { closed = []; unclosed = row; last = last; given = given; are_closed = inl refl; one = one; stopped = inr stopped }

  reads_rows_at_end : (r : B) (a : Ahead) (row : List ℕ) (last : B) (n : ℕ) (x : Answered ℕ RowFault) (mid : B × Option Ahead) → IsOneRow row → GivesBytes left stays r row last → EndsByEnd left stays last a row x mid → ReadsRows left stays r a (x ∷ replicate n end) mid
  reads_rows_at_end r a row last n x mid one given e = reads_rows_in_one_row r a row last (x ∷ replicate n end) mid one given (inl (elim e.answered [
    | inl h ↦ record {
      ends = suc n;
      met_end = e.met_end;
      limit = e.limit;
      is_left = e.is_left;
      answers = ap {B = RowAnswers} (λ y. y ∷ replicate n end) h.1 ∙ ap (λ l. row_answers a.place l ++ replicate (suc n) end) (sym rows-none ∙ ap rows (sym h.0));
      ended = λ _. omega arith;
    }
    | inr h ↦ record {
      ends = n;
      met_end = e.met_end;
      limit = e.limit;
      is_left = e.is_left;
      answers = ap {B = RowAnswers} (λ y. y ∷ replicate n end) h.1 ∙ ap (λ l. row_answers a.place l ++ replicate n end) (sym (rows-one row one h.0));
      ended = λ none. absurd (h.0 none);
    }
  ]))

  reads_rows_at_failure : (r : B) (a : Ahead) (row : List ℕ) (last : B) (n : ℕ) (x : Answered ℕ RowFault) (mid : B × Option Ahead) → IsOneRow row → GivesBytes left stays r row last → EndsByFailure left stays last a row x mid → ReadsRows left stays r a (x ∷ replicate n end) mid
  reads_rows_at_failure r a row last n x mid one given e = reads_rows_in_one_row r a row last (x ∷ replicate n end) mid one given (inr (record { ends = n; missed = e.missed; is_left = e.is_left; answers = ap {B = RowAnswers} (λ y. y ∷ replicate n end) e.answered ∙ ap (λ l. row_answers a.place l ++ failure Read ∷ replicate n end) (sym rows-none) }))

  pub reads_rows_of_run : (trace : RowAnswers) (r : B) (a : Ahead) (p : B × Option Ahead) → Run RowStep (r, Some a) trace p → ReadsRows left stays r a trace p
  reads_rows_of_run [] r a p ran = reads_rows-none r a p ran
  reads_rows_of_run (x ∷ rest) r a p ran = let d : DrawsRow left stays r a x ran.0 = ran.1 in elim d.ended [
    | inl e ↦
        let others = reads_rows_of_run rest ran.0.0 e.after p (subst (λ (o : Option Ahead). Run RowStep (ran.0.0, o) rest p) e.is_left ran.2) in
        subst (λ (y : Answered ℕ RowFault). ReadsRows left stays r a (y ∷ rest) p) (sym e.answered) (reads_rows_with_row_before a e.after d.row d.one e.limit e.place r ran.0.0 d.last rest p d.given e.newline others)
    | inr s ↦ elim s [
      | inl e ↦ let h = ends_alone_after_rows rest ran.0.0 ran.0.1 p e.is_left ran.2 in
          let same : p ≡ ran.0 = h.1 ∙ ap (λ (o : Option Ahead). (ran.0.0, o)) (sym e.is_left) in
          subst (λ (l : RowAnswers). ReadsRows left stays r a (x ∷ l) p) (sym h.0.1) (subst (λ (q : B × Option Ahead). ReadsRows left stays r a (x ∷ replicate h.0.0 end) q) (sym same) (reads_rows_at_end r a d.row d.last h.0.0 x ran.0 d.one d.given e))
      | inr e ↦ let h = ends_alone_after_rows rest ran.0.0 ran.0.1 p e.is_left ran.2 in
          let same : p ≡ ran.0 = h.1 ∙ ap (λ (o : Option Ahead). (ran.0.0, o)) (sym e.is_left) in
          subst (λ (l : RowAnswers). ReadsRows left stays r a (x ∷ l) p) (sym h.0.1) (subst (λ (q : B × Option Ahead). ReadsRows left stays r a (x ∷ replicate h.0.0 end) q) (sym same) (reads_rows_at_failure r a d.row d.last h.0.0 x ran.0 d.one d.given e))
    ]
  ]

  -- ---- from traces to runs

  -- how many bytes were read and closed
  length_closed_within : (last : B) (a : Ahead) (closed unclosed : List ℕ) (trace : RowAnswers) (p : B × Option Ahead) → StopsReading last a closed unclosed trace p → length closed ≤ a.left
  length_closed_within last a closed unclosed trace p (inl s) = let e = s.limit in omega (arith, e)
  length_closed_within last a closed unclosed trace p (inr (inl s)) = let e = s.limit in let long = length-append closed unclosed in omega (arith, e, long)
  length_closed_within last a closed unclosed trace p (inr (inr s)) = let long = length-append closed unclosed in elim s.missed [ inl h ↦ let e = h.0 in omega (arith, e, long) | inr h ↦ let e = h.0 in omega (arith, e, long) ]

  -- the same after the first row
  pub record StopsAfterRow (last : B) (a after : Ahead) (row closed unclosed : List ℕ) (trace : RowAnswers) (p : B × Option Ahead) : Type 0 where
    pub rest : RowAnswers
    pub is : trace ≡ row_answer a.place row ∷ rest
    pub stopped : StopsReading last after closed unclosed rest p

  stops_after_row_of_run : (last : B) (a after : Ahead) (row closed unclosed : List ℕ) (trace : RowAnswers) (p : B × Option Ahead) → IsOneRow row → after.left + length row + 1 ≡ a.left → after.place ≡ told_place (a.place + 1) → StopsReading last a (row ++ 10 ∷ closed) unclosed trace p → StopsAfterRow last a after row closed unclosed trace p
  stops_after_row_of_run last a after row closed unclosed trace p one limit next (inl s) =
      let long = length-append row (10 ∷ closed) in
      let here = s.limit in
      record {
        rest = row_answers after.place (rows closed);
        is = s.answers ∙ sym (row_answers_first a.place after.place row closed one next);
        stopped = inl (record { after = s.after; none_unclosed = s.none_unclosed; limit = omega (arith, long, here, limit); place = s.place ∙ sym (place_after_first a.place after.place row closed one next); is_left = s.is_left; answers = refl });
      }
  stops_after_row_of_run last a after row closed unclosed trace p one limit next (inr (inl s)) =
      let long = length-append row (10 ∷ (closed ++ unclosed)) in
      let joined : (row ++ 10 ∷ closed) ++ unclosed ≡ row ++ 10 ∷ (closed ++ unclosed) = append_assoc row (10 ∷ closed) unclosed in
      let same : length ((row ++ 10 ∷ closed) ++ unclosed) ≡ length (row ++ 10 ∷ (closed ++ unclosed)) = ap length joined in
      let here = s.limit in
      record {
        rest = row_answers after.place (rows (closed ++ unclosed)) ++ replicate s.ends end;
        is = s.answers ∙ ap (λ l. row_answers a.place (rows l) ++ replicate s.ends end) joined ∙ ap (λ l. l ++ replicate s.ends end) (sym (row_answers_first a.place after.place row (closed ++ unclosed) one next));
        stopped = inr (inl (record { ends = s.ends; met_end = s.met_end; limit = omega (arith, long, same, here, limit); is_left = s.is_left; answers = refl; ended = s.ended }));
      }
  stops_after_row_of_run last a after row closed unclosed trace p one limit next (inr (inr s)) =
      let long = length-append row (10 ∷ (closed ++ unclosed)) in
      let joined : (row ++ 10 ∷ closed) ++ unclosed ≡ row ++ 10 ∷ (closed ++ unclosed) = append_assoc row (10 ∷ closed) unclosed in
      let same : length ((row ++ 10 ∷ closed) ++ unclosed) ≡ length (closed ++ unclosed) + length row + 1 = ap length joined ∙ omega (arith, long) in
      record {
        rest = row_answers after.place (rows closed) ++ failure Read ∷ replicate s.ends end;
        is = s.answers ∙ ap (λ l. l ++ failure Read ∷ replicate s.ends end) (sym (row_answers_first a.place after.place row closed one next));
        stopped = inr (inr (record {
          ends = s.ends;
          missed = elim s.missed [ inl h ↦ inl (let e = h.0 in omega (arith, same, e, limit), h.1) | inr h ↦ inr (let e = h.0 in omega (arith, same, e, limit), h.1) ];
          is_left = s.is_left;
          answers = refl;
        }));
      }

  ahead_same_of_parts : (a b : Ahead) → a.left ≡ b.left → a.place ≡ b.place → a ≡ b
  ahead_same_of_parts a b e d = ap (λ (n : ℕ). record { left = n; place = a.place }) e ∙ ap (λ (n : ℕ). record { left = b.left; place = n }) d

  -- where no row was closed
  run_of_last_draw : (r last : B) (a : Ahead) (unclosed : List ℕ) (trace : RowAnswers) (p : B × Option Ahead) → GivesBytes left stays r unclosed last → IsOneRow unclosed → StopsReading last a [] unclosed trace p → Run RowStep (r, Some a) trace p
  run_of_last_draw r last a unclosed trace p given one (inl s) =
      let e = s.limit in
      let same : a ≡ s.after = ahead_same_of_parts a s.after (omega (arith, e)) (sym (s.place ∙ ap (place_after a.place) rows-none)) in
      let here : r ≡ last = subst (λ l. GivesBytes left stays r l last) s.none_unclosed given in
      let is : trace ≡ [] = s.answers ∙ ap (row_answers a.place) rows-none in
      subst (λ (l : RowAnswers). Run RowStep (r, Some a) l p) (sym is) (ap (λ (b : B). (b, Some a)) here ∙ ap (λ (b : Ahead). (last, Some b)) same ∙ sym s.is_left)
  run_of_last_draw r last a [] trace p given one (inr (inl s)) = run_from_end s.ends s.answers (s.ended refl)
    where
      run_from_end : (n : ℕ) → trace ≡ row_answers a.place (rows []) ++ replicate n end → 0 < n → Run RowStep (r, Some a) trace p
      run_from_end zero e some = absurd (omega arith)
      run_from_end (suc n) e some =
          let is : trace ≡ end ∷ replicate n end = e ∙ ap (λ l. row_answers a.place l ++ replicate (suc n) end) rows-none in
          let d : DrawsRow left stays r a end p = record { row = []; one = one; last = last; given = given; ended = inr (inl (record { met_end = s.met_end; limit = s.limit; is_left = s.is_left; answered = inl (refl, refl) })) } in
          subst (λ (l : RowAnswers). Run RowStep (r, Some a) l p) (sym is) (p, d, run_of_ends_after n p s.is_left)
  run_of_last_draw r last a (x ∷ xs) trace p given one (inr (inl s)) =
      let some : (x ∷ xs) ≢ [] = λ e. cc in
      let is : trace ≡ row_answer a.place (x ∷ xs) ∷ replicate s.ends end = s.answers ∙ ap (λ l. row_answers a.place l ++ replicate s.ends end) (rows-one (x ∷ xs) one some) in
      let d : DrawsRow left stays r a (row_answer a.place (x ∷ xs)) p = record { row = x ∷ xs; one = one; last = last; given = given; ended = inr (inl (record { met_end = s.met_end; limit = s.limit; is_left = s.is_left; answered = inr (some, refl) })) } in
      subst (λ (l : RowAnswers). Run RowStep (r, Some a) l p) (sym is) (p, d, run_of_ends_after s.ends p s.is_left)
  run_of_last_draw r last a unclosed trace p given one (inr (inr s)) =
      let is : trace ≡ failure Read ∷ replicate s.ends end = s.answers ∙ ap (λ l. row_answers a.place l ++ failure Read ∷ replicate s.ends end) rows-none in
      let d : DrawsRow left stays r a (failure Read) p = record { row = unclosed; one = one; last = last; given = given; ended = inr (inr (record { missed = s.missed; is_left = s.is_left; answered = refl })) } in
      subst (λ (l : RowAnswers). Run RowStep (r, Some a) l p) (sym is) (p, d, run_of_ends_after s.ends p s.is_left)

  run_from_closed_rows : (closed : List ℕ) → ClosedRows closed → (r last : B) (a : Ahead) (unclosed : List ℕ) (trace : RowAnswers) (p : B × Option Ahead) → GivesBytes left stays r (closed ++ unclosed) last → IsOneRow unclosed → StopsReading last a closed unclosed trace p → Run RowStep (r, Some a) trace p
  run_from_closed_rows closed (no_rows e) r last a unclosed trace p given one s =
      run_of_last_draw r last a unclosed trace p (subst (λ l. GivesBytes left stays r (l ++ unclosed) last) e given) one (subst (λ l. StopsReading last a l unclosed trace p) e s)
  run_from_closed_rows closed (row_then row rest e is_one h) r last a unclosed trace p given one s =
      let joined : closed ++ unclosed ≡ row ++ 10 ∷ (rest ++ unclosed) = ap (λ l. l ++ unclosed) e ∙ append_assoc row (10 ∷ rest) unclosed in
      let parts = turns_split (GivesByte left stays) row (10 ∷ (rest ++ unclosed)) r last (subst (λ l. GivesBytes left stays r l last) joined given) in
      let stopped : StopsReading last a (row ++ 10 ∷ rest) unclosed trace p = subst (λ l. StopsReading last a l unclosed trace p) e s in
      let within = length_closed_within last a (row ++ 10 ∷ rest) unclosed trace p stopped in
      let long = length-append row (10 ∷ rest) in
      let after : Ahead = record { left = a.left - length row - 1; place = told_place (a.place + 1) } in
      let limit : after.left + length row + 1 ≡ a.left = omega (arith, long, within) in
      let t = stops_after_row_of_run last a after row rest unclosed trace p is_one limit refl stopped in
      let q = parts.2.0 in
      let d : DrawsRow left stays r a (row_answer a.place row) (q, Some after) = record { row = row; one = is_one; last = parts.0; given = parts.1; ended = inl (record { after = after; newline = parts.2.1; limit = limit; place = refl; is_left = refl; answered = refl }) } in
      subst (λ (l : RowAnswers). Run RowStep (r, Some a) l p) (sym t.is) ((q, Some after), d, run_from_closed_rows rest h q last after unclosed t.rest p parts.2.2 one t.stopped)

  pub run_of_reads_rows : (trace : RowAnswers) (r : B) (a : Ahead) (p : B × Option Ahead) → ReadsRows left stays r a trace p → Run RowStep (r, Some a) trace p
  run_of_reads_rows trace r a p h = run_from_closed_rows h.closed (closed_rows_of_bytes h.closed h.are_closed) r h.last a h.unclosed trace p h.given h.one h.stopped

  pub rows_run_iff_trace : IsTraced RowStep (RowsTrace left stays)
  rows_run_iff_trace (r, Some a) trace q = (reads_rows_of_run trace r a q, run_of_reads_rows trace r a q)
  rows_run_iff_trace (r, None) trace q = (ends_alone_after_rows trace r None q refl, (λ h. subst (λ (l : RowAnswers). Run RowStep (r, None) l q) (sym h.0.1) (subst (λ (u : B × Option Ahead). Run RowStep (r, None) (replicate h.0.0 end) u) (sym h.1) (run_of_ends h.0.0 r))))

  pub lawful_rows : Lawful (rows_contract left stays)
  lawful_rows = lawful_with_traces (RowsTrace left stays) rows_run_iff_trace (lawful_unbounded RowStep)
