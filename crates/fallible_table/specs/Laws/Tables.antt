-- Draws from the bytes of a table take its records.
use Rattle.std.specs.Prelude.{◌≡◌, ℕ, zero, suc, ◌+◌, ◌*◌, ◌/◌, ◌<◌, ◌≤◌, List, [], ◌∷◌, length, drop, Some, None, Ok, Err}
use Rattle.std.proofs.Common.{refl, sym, ap, subst, ◌∙◌, arith}
use Rattle.std.proofs.lemmas.List.{length-drop, drop-drop, drop_all}
use Rattle.fallible_iterator.specs.Traces.{Answered, Run, end, failure, item}
use Rattle.fallible_iterator.specs.Laws.LawForm.{IsTraced}
use Rattle.fallible_iterator.specs.Showing.{first_answers}
use Rattle.fallible_table.specs.Tables.{record_of, records_then, records, DrawsRecord, TakesRecords}
use Rattle.fallible_table.specs.declared.table.Record.{Record}
use Rattle.fallible_table.specs.declared.table.CutShort.{CutShort}

-- ---- one draw

pub end_of_nil : (r : Answered Record CutShort) (rest : List ℕ) → DrawsRecord [] r rest → (r ≡ end) × (rest ≡ [])
end_of_nil (Ok (Some x)) rest w = absurd (let h = w.0 in omega (arith, h))
end_of_nil (Ok None) rest w = (refl, w.1)
end_of_nil (Err e) rest w = absurd (let h = w.0 in omega (arith, h))

pub failure_of_cut : (bytes : List ℕ) (r : Answered Record CutShort) (rest : List ℕ) → 0 < length bytes → length bytes < 8 → DrawsRecord bytes r rest → (r ≡ failure (record {})) × (rest ≡ [])
failure_of_cut bytes (Ok (Some x)) rest some short w = absurd (let h = w.0 in omega (arith, h, short))
failure_of_cut bytes (Ok None) rest some short w = absurd (let h = ap length w.0 in omega (arith, h, some))
failure_of_cut bytes (Err e) rest some short w = (refl, w.2)

pub record_of_whole : (bytes : List ℕ) (r : Answered Record CutShort) (rest : List ℕ) → 8 ≤ length bytes → DrawsRecord bytes r rest → (r ≡ item (record_of bytes)) × (rest ≡ drop 8 bytes)
record_of_whole bytes (Ok (Some x)) rest long w = (ap (λ y. Ok (Some y)) w.1, w.2)
record_of_whole bytes (Ok None) rest long w = absurd (let h = ap length w.0 in omega (arith, h, long))
record_of_whole bytes (Err e) rest long w = absurd (let h = w.1 in omega (arith, h, long))

-- a draw from these bytes returns the first of their records, and leaves what follows its bytes
record DrawsFirst (bytes : List ℕ) : Type 0 where
  first : Answered Record CutShort
  drawn : DrawsRecord bytes first (drop 8 bytes)
  alone : (r : Answered Record CutShort) (rest : List ℕ) → DrawsRecord bytes r rest → (r ≡ first) × (rest ≡ drop 8 bytes)
  firsts : (n : ℕ) → first_answers (suc n) (records bytes) ≡ first ∷ first_answers n (records (drop 8 bytes))

draws_first_of_so_many : (n : ℕ) (bytes : List ℕ) → n ≡ length bytes / 8 → DrawsFirst bytes
unfolding records
draws_first_of_so_many zero [] e = record { first = end; drawn = (refl, refl); alone = end_of_nil; firsts = λ n. refl }
draws_first_of_so_many zero (byte ∷ bytes) e =
    let short : length (byte ∷ bytes) < 8 = omega (arith, e) in
    let none : drop 8 (byte ∷ bytes) ≡ [] = drop_all 8 (byte ∷ bytes) (omega (arith, short)) in
    record {
      first = failure (record {});
      drawn = (omega arith, short, none);
      alone = λ r rest w. let h = failure_of_cut (byte ∷ bytes) r rest (omega arith) short w in (h.0, h.1 ∙ sym none);
      firsts = λ n. ap (λ k. first_answers (suc n) (records_then k (byte ∷ bytes))) (sym e) ∙ ap (λ l. failure (record {}) ∷ first_answers n (records l)) (sym none);
    }
draws_first_of_so_many (suc m) bytes e =
    let long : 8 ≤ length bytes = omega (arith, e) in
    let more : suc m ≡ suc (length (drop 8 bytes) / 8) = omega (arith, e, length-drop 8 bytes) in
    record {
      first = item (record_of bytes);
      drawn = (long, refl, refl);
      alone = λ r rest w. record_of_whole bytes r rest long w;
      firsts = λ n. ap (λ k. first_answers (suc n) (records_then k bytes)) (sym e ∙ more);
    }

draws_first : (bytes : List ℕ) → DrawsFirst bytes
draws_first bytes = draws_first_of_so_many (length bytes / 8) bytes refl

-- ---- all draws

eight_more : (n : ℕ) (bytes : List ℕ) → drop (8 * n) (drop 8 bytes) ≡ drop (8 * suc n) bytes
eight_more n bytes = let e : 8 + 8 * n ≡ 8 * suc n = omega arith in drop-drop (8 * n) 8 bytes ∙ ap (λ k. drop k bytes) e

takes_records_of_run : (trace : List (Answered Record CutShort)) (bytes rest : List ℕ) → Run DrawsRecord bytes trace rest → TakesRecords bytes trace rest
takes_records_of_run [] bytes rest ran = (refl, sym ran)
takes_records_of_run (r ∷ trace) bytes rest ran =
    let f = draws_first bytes in
    let one = f.alone r ran.0 ran.1 in
    let h = takes_records_of_run trace ran.0 rest ran.2 in
    let others : trace ≡ first_answers (length trace) (records (drop 8 bytes)) = h.0 ∙ ap (λ l. first_answers (length trace) (records l)) one.1 in
    (rw one.0 (ap (λ l. f.first ∷ l) others) ∙ sym (f.firsts (length trace)), h.1 ∙ ap (drop (8 * length trace)) one.1 ∙ eight_more (length trace) bytes)

run_of_takes_records : (trace : List (Answered Record CutShort)) (bytes rest : List ℕ) → TakesRecords bytes trace rest → Run DrawsRecord bytes trace rest
run_of_takes_records [] bytes rest d = sym d.1
run_of_takes_records (r ∷ trace) bytes rest d =
    let f = draws_first bytes in
    let is : r ∷ trace ≡ f.first ∷ first_answers (length trace) (records (drop 8 bytes)) = d.0 ∙ f.firsts (length trace) in
    let one : f.first ≡ r = cc in
    (drop 8 bytes, subst (λ (q : Answered Record CutShort). DrawsRecord bytes q (drop 8 bytes)) one f.drawn, run_of_takes_records trace (drop 8 bytes) rest (let others = is in cc, d.1 ∙ sym (eight_more (length trace) bytes)))

pub records_traced : IsTraced DrawsRecord TakesRecords
records_traced bytes trace rest = (takes_records_of_run trace bytes rest, run_of_takes_records trace bytes rest)
