-- What a std iterator lists.
use Rattle.std.specs.Prelude.{◌≡◌, ◌≤◌, ◌-◌, suc, List, [], ◌∷◌, map, length, reverse, slice_index_or, Option, Some, None, Result, Ok, Err, true, false}
use Rattle.std.specs.Iterator.{Count}
use Rattle.std.specs.Iterator.Runs as runs
use Rattle.std.proofs.Common.{refl, sym, ap, subst, ◌∙◌, arith, true≢false}
use Rattle.std.proofs.lemmas.List.{length-reverse, get_or-reverse}
use Rattle.std.proofs.iter.runs.Made.{run, took, seen, at-is}
use Rattle.fallible_contract.specs.Traces.{Answered}
use Rattle.fallible_contract.specs.Lists.{AlwaysGives, RunsRead, RunsReadBack, result_answer}
use Rattle.fallible_iterator.specs.Sources.Std.{std_step, std_element}

-- ---- what it lists

module _ {S Z X : Type 0} (gives : S → Option Z → S → Type 0) (h : X → Z) where
  -- the run of one call
  abbrev one_call : (s t : S) (z : Z) → gives s (Some z) t → runs.Run gives
  one_call s t z w = run gives s (z ∷ []) false (t, (t, w, refl), λ e. absurd (true≢false (sym e)))

  abbrev no_more_calls : (s t : S) → gives s None t → runs.Run gives
  no_more_calls s t w = run gives s [] true (s, refl, λ e. (t, w))

  reads_no_item : (s t : S) (z : Z) → RunsRead gives h s [] → gives s (Some z) t → ⊥
  reads_no_item s t z reads w = let few : 1 ≤ 0 = (reads (one_call s t z w) (seen 1) refl).0 in omega (arith, few)

  reads_no_end_before_item : (s t : S) (x : X) (l : List X) → RunsRead gives h s (x ∷ l) → gives s None t → ⊥
  reads_no_end_before_item s t x l reads w = let all : 0 ≡ suc (length l) = (reads (no_more_calls s t w) (seen 0) refl).1 refl in omega (arith, all)

  first_read_is_mapped_first : (s t : S) (z : Z) (x : X) (l : List X) → RunsRead gives h s (x ∷ l) → gives s (Some z) t → z ≡ h x
  first_read_is_mapped_first s t z x l reads w = let at_0 : Some z ≡ Some (h x) = (reads (one_call s t z w) (seen 1) refl).2 0 x (omega arith) in cc

  -- what is read after the first call
  runs_read_rest : (s t : S) (z : Z) (x : X) (l : List X) → RunsRead gives h s (x ∷ l) → gives s (Some z) t → RunsRead gives h t l
  runs_read_rest s t z x l reads w p _ e =
      let q = reads (run gives s (z ∷ p.items) p.whole ((took p).0, (p.from, subst (gives s (Some z)) (sym e) w, (took p).1), (took p).2)) (seen _) refl in
      let few : suc (length p.items) ≤ suc (length l) = q.0 in
      (omega (arith, few, p.long), (λ whole. let all : suc (length p.items) ≡ suc (length l) = q.1 whole in omega (arith, all, p.long)), (λ k d lt. at-is p k ∙ q.2 (suc k) d (omega (arith, lt, p.long))))

module _ {S A E Z X : Type 0} (of_item : A → Z) (of_failure : E → Z) (can : S → Type 0) (gives : S → Option Z → S → Type 0) (remaining : S → Count) (h : X → Z) (to : X → Result A E)
    (back : (r : Answered A E) (x : X) → std_element of_item of_failure r ≡ Some (h x) → r ≡ result_answer (to x)) where
  abbrev GivesRead : S → List (Result A E) → Type 0
  GivesRead s l = AlwaysGives (std_step of_item of_failure can gives remaining) s l

  answer_is_end_where_none_read : (r : Answered A E) (s t : S) → RunsRead gives h s [] → gives s (std_element of_item of_failure r) t → r ≡ Ok None
  answer_is_end_where_none_read (Ok (Some x)) s t reads w = absurd (reads_no_item gives h s t (of_item x) reads w)
  answer_is_end_where_none_read (Err e) s t reads w = absurd (reads_no_item gives h s t (of_failure e) reads w)
  answer_is_end_where_none_read (Ok None) s t reads w = refl

  -- one call at an element
  pub answer_is_first_and_rest_is_read : (r : Answered A E) (s t : S) (x : X) (l : List X) → RunsRead gives h s (x ∷ l) → gives s (std_element of_item of_failure r) t → (r ≡ result_answer (to x)) × RunsRead gives h t l
  answer_is_first_and_rest_is_read (Ok (Some y)) s t x l reads w = (back (Ok (Some y)) x (ap Some (first_read_is_mapped_first gives h s t (of_item y) x l reads w)), runs_read_rest gives h s t (of_item y) x l reads w)
  answer_is_first_and_rest_is_read (Err e) s t x l reads w = (back (Err e) x (ap Some (first_read_is_mapped_first gives h s t (of_failure e) x l reads w)), runs_read_rest gives h s t (of_failure e) x l reads w)
  answer_is_first_and_rest_is_read (Ok None) s t x l reads w = absurd (reads_no_end_before_item gives h s t x l reads w)

  pub gives_read : (l : List X) (s : S) → RunsRead gives h s l → GivesRead s (map to l)
  gives_read [] s reads = λ r t w. answer_is_end_where_none_read r s t reads w.0
  gives_read (x ∷ l) s reads = λ r t w. let d = answer_is_first_and_rest_is_read r s t x l reads w.0 in (d.0, gives_read l t d.1)

-- runs with the same items read the same list
pub runs_read_alike : {S T X Z : Type 0} (gives : S → Option Z → S → Type 0) (others : T → Option Z → T → Type 0) (h : X → Z) (s : S) (t : T) (l : List X) → runs.EachRunFrom others t (λ p. runs.SomeRun gives s (λ q. runs.IsIdenticalRun p q)) → RunsRead gives h s l → RunsRead others h t l
runs_read_alike gives others h s t l same reads p trigger from =
    let same_run = same p trigger from in
    let q = reads same_run.0 (seen _) same_run.1 in
    let long : same_run.0.len ≡ p.len = same_run.2.0.0 in
    let few : same_run.0.len ≤ length l = q.0 in
    (omega (arith, few, long), (λ whole. sym long ∙ q.1 (same_run.2.1 ∙ whole)), (λ k d lt. sym (same_run.2.0.2 k) ∙ q.2 k d (omega (arith, lt, long))))

-- what is read from the back is the list reversed
pub runs_read_back : {S X Z : Type 0} (back : S → Option Z → S → Type 0) (h : X → Z) (s : S) (l : List X) → RunsReadBack back h s l → RunsRead back h s (reverse l)
runs_read_back back h s l reads p seen at = let q = reads p seen at in let long = length-reverse l in (
  omega (arith, q.0, long),
  (λ whole. let all : p.len ≡ length l = q.1 whole in omega (arith, all, long)),
  (λ k d lt. let le : p.len ≤ length l = q.0 in let j = length l - 1 - k in let same : length l - 1 - j ≡ k = omega (arith, lt, le) in
      let there : p.at (length l - 1 - j) ≡ Some (h (slice_index_or l j d)) = q.2 j d (omega (arith, lt, le)) (omega (arith, lt, le)) in
      ap p.at (sym same) ∙ there ∙ ap (λ x. Some (h x)) (sym (get_or-reverse l k d (omega (arith, lt, le))))),
)
