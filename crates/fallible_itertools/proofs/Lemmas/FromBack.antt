-- What a call from the back returns and leaves of what is listed from both ends.
use Rattle.std.specs.Prelude.{◌≡◌, ℕ, ◌+◌, zero, suc, length, Bool, true, false, cond, is_some, Option, Some, None, Result, Ok, Err, List, [], ◌∷◌, ◌++◌, map, reverse}
use Rattle.std.specs.List.{FoldsTo}
use Rattle.std.proofs.Common.{refl, sym, ap, subst, ◌∙◌, arith, inr}
use Rattle.fallible_iterator.specs.Traces.{Answered, Run, item}
use Rattle.fallible_iterator.specs.Folds.{goes_on, DriveExit, Driven, CountExit, CountedBy, Drained, NthDrains, NthExit}
use Rattle.fallible_iterator.specs.Searching.{WentOn, SearchDecides, SearchExit, SearchDrains, any_pick, find_pick}
use Rattle.fallible_iterator.specs.Comparing.{read_as}
use Rattle.fallible_iterator.specs.Lists.{Acts, on_value, any_of, found, counted, nth_of, rest_nth, stopped_or, rest_answer, rest_stop, rest_true}
use Rattle.fallible_iterator.specs.BothEnds.{ListsBothEnds}
use Rattle.fallible_iterator.specs.Contract.{Contract, AtMost, KeptByDraws}
use Rattle.fallible_iterator.specs.Ends.{Ends, LawfulEnds, from_front, from_back}
use Rattle.fallible_iterator.specs.Laws.Contract.{kept_by_draws_run, kept_by_draws_transitive}
use Rattle.fallible_iterator.proofs.Lemmas.Contract.{bound_at_most_of_at_most}
use Rattle.fallible_iterator.proofs.Lemmas.Folds.{drained_by_implication}
use Rattle.fallible_iterator.proofs.Lemmas.BothEnds.{lists_both_ends_swapped, lists_first}
use Rattle.fallible_iterator.proofs.Lemmas.Lists.Drawn.{counted_of_lists, nth_of_lists}
use Rattle.fallible_iterator.proofs.Lemmas.Lists.Searched.{any_of_lists, found_of_lists}
use Rattle.fallible_iterator.proofs.Lemmas.Ends.{draws_list, draws_list_runs_where_front_runs}
use Rattle.fallible_itertools.specs.FromBack.{CountedWhere, PlacedFromBack, before_last_true, last_position_in, rest_where, rest_position}
use Rattle.fallible_itertools.specs.Partition.{rest_failure}
use Rattle.fallible_iterator.proofs.Lemmas.Lists.Rest.{is_some_of_any_pick_is_answer, is_some_of_find_pick_is_answer}
use Rattle.std.specs.declared.ops.ControlFlow.{ControlFlow}
use Rattle.std.specs.declared.ops.ControlFlow.TheVariants.{Continue}

-- ---- nth

nth_exit_of_zero_never_after_item : {A E : Type 0} (k : ℕ) (r : Answered A E) → NthExit zero (suc k) r → ⊥
nth_exit_of_zero_never_after_item k (Ok (Some x)) h = omega (arith, h)
nth_exit_of_zero_never_after_item k (Ok None) h = omega (arith, h)
nth_exit_of_zero_never_after_item k (Err e) h = omega (arith, h)

nth_exit_of_one_less : {A E : Type 0} (n k : ℕ) (r : Answered A E) → NthExit (suc n) (suc k) r → NthExit n k r
nth_exit_of_one_less n k (Ok (Some x)) h = omega (arith, h)
nth_exit_of_one_less n k (Ok None) h = omega (arith, h)
nth_exit_of_one_less n k (Err e) h = omega (arith, h)

module _ {A E : Type 0} where
  rest_nth_is_left_where_drawn : (items : List A) (r : Answered A E) (n : ℕ) (l k : List (Result A E)) → Run draws_list l (map item items ++ r ∷ []) k → NthExit n (length items) r → rest_nth n l ≡ k
  unfolding rest_nth
  rest_nth_is_left_where_drawn [] r n [] k ran exit = ran.1.1 ∙ ran.2
  rest_nth_is_left_where_drawn [] r n (Ok x ∷ l) k ran exit = let e : 0 ≡ n = subst (λ (q : Answered A E). NthExit n 0 q) ran.1.0 exit in ap (λ (j : ℕ). rest_nth j (Ok x ∷ l)) (sym e) ∙ ran.1.1 ∙ ran.2
  rest_nth_is_left_where_drawn [] r zero (Err e ∷ l) k ran exit = ran.1.1 ∙ ran.2
  rest_nth_is_left_where_drawn [] r (suc n) (Err e ∷ l) k ran exit = ran.1.1 ∙ ran.2
  rest_nth_is_left_where_drawn (x ∷ items) r n [] k ran exit = absurd (let q = ran.1.0 in cc)
  rest_nth_is_left_where_drawn (x ∷ items) r zero (Ok y ∷ l) k ran exit = absurd (nth_exit_of_zero_never_after_item (length items) r exit)
  rest_nth_is_left_where_drawn (x ∷ items) r (suc n) (Ok y ∷ l) k ran exit = rest_nth_is_left_where_drawn items r n l k (subst (λ (u : List (Result A E)). Run draws_list u (map item items ++ r ∷ []) k) (sym ran.1.1) ran.2) (nth_exit_of_one_less n (length items) r exit)
  rest_nth_is_left_where_drawn (x ∷ items) r n (Err y ∷ l) k ran exit = absurd (let q = ran.1.0 in cc)

-- ---- searches

module _ {A E F V R : Type 0} (call : F → A → Result V E → F → Type 0) (pick : ℕ → A → V → Option R) (none : R) (stops : V → Bool) (fits : (n : ℕ) (x : A) (v : V) → is_some (pick n x v) ≡ stops v) (h : A → Result V E) (f : F) (acts : Acts call f h) where
  rest_stop_item : (n : ℕ) (x : A) (r : Result R E) (g : F) (l : List (Result A E)) → SearchDecides call pick n f x r g → rest_stop stops h (Ok x ∷ l) ≡ l
  unfolding rest_stop
  rest_stop_item n x (Ok z) g l d = let a = acts x (Ok d.0) g d.1 in ap (λ (w : Result V E). rest_answer stops w l (rest_stop stops h l)) (sym a.1) ∙ ap (λ (b : Bool). stopped_or b l (rest_stop stops h l)) (sym (fits n x d.0) ∙ ap is_some d.2)
  rest_stop_item n x (Err e) g l d = let a = acts x (Err e) g d in ap (λ (w : Result V E). rest_answer stops w l (rest_stop stops h l)) (sym a.1)

  rest_stop_is_left_where_drawn : (items : List A) (last : Answered A E) (n : ℕ) (r : Result R E) (g j : F) (l k : List (Result A E)) → Run draws_list l (map item items ++ last ∷ []) k → FoldsTo (WentOn call pick) f items g → SearchExit call pick none n g last r j → rest_stop stops h l ≡ k
  unfolding rest_stop
  rest_stop_is_left_where_drawn [] last n r g j [] k ran went exit = ran.1.1 ∙ ran.2
  rest_stop_is_left_where_drawn [] last n r g j (Ok x ∷ l) k ran went exit =
      let d : SearchDecides call pick n f x r j = subst (λ (c : F). SearchExit call pick none n c (item x) r j) (sym went) (subst (λ (q : Answered A E). SearchExit call pick none n g q r j) ran.1.0 exit) in
      rest_stop_item n x r j l d ∙ ran.1.1 ∙ ran.2
  rest_stop_is_left_where_drawn [] last n r g j (Err e ∷ l) k ran went exit = ran.1.1 ∙ ran.2
  rest_stop_is_left_where_drawn (x ∷ items) last n r g j [] k ran went exit = absurd (let q = ran.1.0 in cc)
  rest_stop_is_left_where_drawn (x ∷ items) last n r g j (Err y ∷ l) k ran went exit = absurd (let q = ran.1.0 in cc)
  rest_stop_is_left_where_drawn (x ∷ items) last n r g j (Ok y ∷ l) k ran went exit =
      let same : y ≡ x = (let q = ran.1.0 in cc) in
      let a = acts x (Ok went.1.0) went.0 went.1.1 in
      let goes : stops went.1.0 ≡ false = sym (fits 0 x went.1.0) ∙ ap is_some (went.1.2 0) in
      let rest = rest_stop_is_left_where_drawn items last n r g j l k (subst (λ (u : List (Result A E)). Run draws_list u (map item items ++ last ∷ []) k) (sym ran.1.1) ran.2) (subst (λ (c : F). FoldsTo (WentOn call pick) c items g) a.0 went.2) exit in
      ap (λ (z : A). rest_stop stops h (Ok z ∷ l)) same ∙ ap (λ (w : Result V E). rest_answer stops w l (rest_stop stops h l)) (sym a.1) ∙ ap (λ (b : Bool). stopped_or b l (rest_stop stops h l)) goes ∙ rest

-- ---- a count

rest_failure_is_left_where_drawn : {A E : Type 0} (items : List A) (last : Answered A E) (n : ℕ) (r : Result ℕ E) (l k : List (Result A E)) → Run draws_list l (map item items ++ last ∷ []) k → CountExit n last r → rest_failure l ≡ k
unfolding rest_failure
rest_failure_is_left_where_drawn [] last n r [] k ran exit = ran.1.1 ∙ ran.2
rest_failure_is_left_where_drawn [] last n r (Ok x ∷ l) k ran exit = absurd (subst (λ q. CountExit n q r) ran.1.0 exit)
rest_failure_is_left_where_drawn [] last n r (Err e ∷ l) k ran exit = ran.1.1 ∙ ran.2
rest_failure_is_left_where_drawn (x ∷ items) last n r [] k ran exit = absurd (let q = ran.1.0 in cc)
rest_failure_is_left_where_drawn (x ∷ items) last n r (Err y ∷ l) k ran exit = absurd (let q = ran.1.0 in cc)
rest_failure_is_left_where_drawn {A = A} {E = E} (x ∷ items) last n r (Ok y ∷ l) k ran exit = rest_failure_is_left_where_drawn items last n r l k (subst (λ (u : List (Result A E)). Run draws_list u (map item items ++ last ∷ []) k) (sym ran.1.1) ran.2) exit

-- ---- over what is listed from both ends

module _ {S A E : Type 0} {front back : S → Answered A E → S → Type 0} {s t : S} (l : List (Result A E)) (i : ListsBothEnds front back s l) where
  -- what draws from the front leave is what they leave of the list
  lists_both_ends_of_left : (trace : List (Answered A E)) (k : List (Result A E)) → Run front s trace t → ((left : List (Result A E)) → Run draws_list l trace left → k ≡ left) → ListsBothEnds front back t k
  lists_both_ends_of_left trace k ran is = let d = draws_list_runs_where_front_runs front back trace s t l i ran in subst (λ (j : List (Result A E)). ListsBothEnds front back t j) (sym (is d.0 d.1)) d.2

  lists_both_ends_rest_nth : {n : ℕ} {r : Answered A E} → NthDrains front s n r t → ListsBothEnds front back t (rest_nth n l)
  lists_both_ends_rest_nth {n = n} {r = r} c = lists_both_ends_of_left _ (rest_nth n l) c.ran (λ left ran. rest_nth_is_left_where_drawn c.items c.last n l left ran (subst (λ (q : Answered A E). NthExit n (length c.items) q) (sym c.at.is) c.at.exit))

  lists_both_ends_rest_failure : {n : Result ℕ E} → Drained front (CountedBy n) s t → ListsBothEnds front back t (rest_failure l)
  lists_both_ends_rest_failure {n = n} c = lists_both_ends_of_left _ (rest_failure l) c.ran (λ left ran. rest_failure_is_left_where_drawn c.items c.last (length c.items) n l left ran c.at.exit)

  module _ {F : Type 0} {f g : F} {call : F → A → Result Bool E → F → Type 0} (h : A → Result Bool E) (acts : Acts call f h) where
    lists_both_ends_rest_true : {r : Result Bool E} → SearchDrains call any_pick front false s f r t g → ListsBothEnds front back t (rest_true h l)
    unfolding rest_true
    lists_both_ends_rest_true {r = r} c = lists_both_ends_of_left _ (rest_stop (λ v. v) h l) c.ran (λ left ran. rest_stop_is_left_where_drawn call any_pick false (λ v. v) is_some_of_any_pick_is_answer h f acts c.items c.last (length c.items) r c.at.closure g l left ran c.at.went c.at.exit)

    lists_both_ends_rest_true_found : {r : Result (Option A) E} → SearchDrains call find_pick front None s f r t g → ListsBothEnds front back t (rest_true h l)
    unfolding rest_true
    lists_both_ends_rest_true_found {r = r} c = lists_both_ends_of_left _ (rest_stop (λ v. v) h l) c.ran (λ left ran. rest_stop_is_left_where_drawn call find_pick None (λ v. v) is_some_of_find_pick_is_answer h f acts c.items c.last (length c.items) r c.at.closure g l left ran c.at.went c.at.exit)

-- the same of draws from the back, with what is returned
module _ {S A E : Type 0} {front back : S → Answered A E → S → Type 0} {s t : S} (l : List (Result A E)) (i : ListsBothEnds front back s l) where
  pub nth_at_back_is_nth_of_reversed : {n : ℕ} {r : Answered A E} → NthDrains back s n r t → (r ≡ nth_of n (reverse l)) × ListsBothEnds front back t (reverse (rest_nth n (reverse l)))
  nth_at_back_is_nth_of_reversed c = let j = lists_both_ends_swapped i in (nth_of_lists (reverse l) c (lists_first j), lists_both_ends_swapped (lists_both_ends_rest_nth (reverse l) j c))

  module _ {F : Type 0} {f g : F} {call : F → A → Result Bool E → F → Type 0} (h : A → Result Bool E) (acts : Acts call f h) where
    pub find_at_back_is_found_of_reversed : {r : Result (Option A) E} → SearchDrains call find_pick back None s f r t g → (r ≡ found h (reverse l)) × ListsBothEnds front back t (reverse (rest_true h (reverse l)))
    find_at_back_is_found_of_reversed c = let j = lists_both_ends_swapped i in (found_of_lists (reverse l) (lists_first j) {call = call} h acts c, lists_both_ends_swapped (lists_both_ends_rest_true_found (reverse l) j {call = call} h acts c))

    any_at_back_is_any_of_reversed : {r : Result Bool E} → SearchDrains call any_pick back false s f r t g → (r ≡ any_of h (reverse l)) × ListsBothEnds front back t (before_last_true h l)
    unfolding before_last_true
    any_at_back_is_any_of_reversed c = let j = lists_both_ends_swapped i in (any_of_lists (reverse l) (lists_first j) {call = call} h acts c, lists_both_ends_swapped (lists_both_ends_rest_true (reverse l) j {call = call} h acts c))

-- ---- rposition

abbrev by_found : {A E : Type 0} → (A → Result Bool E) → List (Result A E) → Result Bool E → Result (Option ℕ) E
by_found h l w = on_value w (λ is. cond is (read_as (λ n. Some n) (counted (before_last_true h l))) (Ok None))

module _ {S A E : Type 0} (front back : S → Answered A E → S → Type 0) (t : S) (l : List (Result A E)) (h : A → Result Bool E) where
  abbrev LeftBy : Result Bool E → Type 0
  LeftBy w = ListsBothEnds front back t (rest_where w (before_last_true h l))

  by_found_and_left_by_where_counted : (found : Result Bool E) (r : Result (Option ℕ) E) (u : S) → ListsBothEnds front back u (before_last_true h l) → CountedWhere front found u r t → (r ≡ by_found h l found) × LeftBy found
  by_found_and_left_by_where_counted (Ok true) r u j c = (c.2 ∙ ap (read_as (λ n. Some n)) (counted_of_lists (before_last_true h l) c.1 (lists_first j)), lists_both_ends_rest_failure (before_last_true h l) j c.1)
  by_found_and_left_by_where_counted (Ok false) r u j c = (c.0, subst (λ (v : S). ListsBothEnds front back v (before_last_true h l)) (sym c.1) j)
  by_found_and_left_by_where_counted (Err e) r u j c = (c.0, subst (λ (v : S). ListsBothEnds front back v (before_last_true h l)) (sym c.1) j)

pub last_position_in_of_lists : {S A E F : Type 0} {front back : S → Answered A E → S → Type 0} {s t : S} (l : List (Result A E)) (h : A → Result Bool E) (call : F → A → Result Bool E → F → Type 0) {f : F} {r : Result (Option ℕ) E} → Acts call f h → ListsBothEnds front back s l → PlacedFromBack front back call s f r t → (r ≡ last_position_in h l) × ListsBothEnds front back t (rest_position h l)
unfolding last_position_in rest_position
last_position_in_of_lists {front = front} {back = back} {t = t} l h call {r = r} acts i c = let p = any_at_back_is_any_of_reversed l i {call = call} h acts c.searched in let d = by_found_and_left_by_where_counted front back t l h c.found r c.before p.1 c.counts in (d.0 ∙ ap (by_found h l) p.0, subst (LeftBy front back t l h) p.0 d.1)

-- ---- what stays

module _ {S A E : Type 0} {m : Contract S A E} {e : Ends S A E} (law : LawfulEnds m e) where
  kept_by_draws_at_back : {s t : S} → KeptByDraws (from_back m e) s t → KeptByDraws (from_front m e) s t
  kept_by_draws_at_back h = record { can_next = h.can_next; is_finite = h.is_finite; bound = h.bound; remaining = h.remaining; may_give = h.may_give; may_fail = h.may_fail; lenders = h.lenders }

  -- draws from the back
  pub kept_by_draws_run_at_back : {s t : S} (trace : List (Answered A E)) → e.can_next s → Run e.steps s trace t → KeptByDraws (from_front m e) s t
  kept_by_draws_run_at_back {s = s} {t = t} trace can ran = kept_by_draws_at_back (kept_by_draws_run law.back s trace t can ran)

  -- and a count of what is left
  pub kept_by_draws_counted : {s t u : S} (found : Result Bool E) (r : Result (Option ℕ) E) → KeptByDraws (from_front m e) s t → CountedWhere m.steps found t r u → KeptByDraws (from_front m e) s u
  kept_by_draws_counted {t = t} {u = u} (Ok true) r h c = kept_by_draws_transitive h (kept_by_draws_run law.front t (map item c.1.items ++ c.1.last ∷ []) u h.can_next c.1.ran)
  kept_by_draws_counted {s = s} (Ok false) r h c = subst (λ (v : S). KeptByDraws (from_front m e) s v) (sym c.1) h
  kept_by_draws_counted {s = s} (Err d) r h c = subst (λ (v : S). KeptByDraws (from_front m e) s v) (sym c.1) h

  pub at_most_kept_after_draws : {s t : S} (n : ℕ) → KeptByDraws (from_front m e) s t → AtMost m s n → AtMost m t n
  at_most_kept_after_draws {s = s} n h fits = let b = bound_at_most_of_at_most m s n fits in let k = h.bound b.0 b.1 in inr (k.0, k.1, omega (arith, k.2, b.2))

-- ---- a count that borrows: the fold whose state is the number of items

abbrev CountsUp : {A : Type 0} (R : Type 0) → ℕ → A → ControlFlow R (Unit {0}) → ℕ → Type 0
CountsUp R n x r k = (r ≡ Continue tt) × (k ≡ n + 1)

number_counted_up : {A : Type 0} (R : Type 0) (items : List A) (n k : ℕ) → FoldsTo (goes_on (CountsUp R)) n items k → k ≡ n + length items
number_counted_up R [] n k e = omega (arith, e)
number_counted_up R (x ∷ items) n k w = let e = number_counted_up R items w.0 k w.2 in let one : w.0 ≡ n + 1 = w.1.1 in omega (arith, e, one)

module _ {A E : Type 0} (R : Type 0) where
  count_exit_end : (last : Answered A E) (n k : ℕ) → DriveExit (CountsUp R) n last (Ok None) k → CountExit n last (Ok k)
  count_exit_end (Ok None) n k h = ap Ok h.1
  count_exit_end (Ok (Some x)) n k h = absurd (let e = h.1.0 in cc)
  count_exit_end (Err e) n k h = absurd (let f = h.0 in cc)

  count_exit_failure : (last : Answered A E) (n k : ℕ) (e : E) → DriveExit (CountsUp R) n last (Err e) k → CountExit n last (Err e)
  count_exit_failure (Ok None) n k e h = absurd (let f = h.0 in cc)
  count_exit_failure (Ok (Some x)) n k e h = absurd (let f = h.1.0 in cc)
  count_exit_failure (Err d) n k e h = let same : e ≡ d = (let f = h.0 in cc) in ap Err same

module _ {S A E : Type 0} {steps : S → Answered A E → S → Type 0} {s t : S} (found : Result Bool E) (is : found ≡ Ok true) where
  counted_where_found : (r : Result ℕ E) → Drained steps (CountedBy r) s t → CountedWhere steps found s (read_as (λ k. Some k) r) t
  counted_where_found r d = subst (λ (w : Result Bool E). CountedWhere steps w s (read_as (λ k. Some k) r) t) (sym is) (r, d, refl)

  module _ {R : Type 0} {n : ℕ} where
    pub counted_where_to_end : Driven steps (CountsUp R) s 0 (Ok None) t n → CountedWhere steps found s (Ok (Some n)) t
    counted_where_to_end w = counted_where_found (Ok n) (drained_by_implication (λ items last h. record { exit = subst (λ (k : ℕ). CountExit k last (Ok n)) (let e = number_counted_up R items 0 h.carried h.went in omega (arith, e)) (count_exit_end R last h.carried n h.exit) }) w)

    pub counted_where_to_failure : {e : E} → Driven steps (CountsUp R) s 0 (Err e) t n → CountedWhere steps found s (Err e) t
    counted_where_to_failure {e = e} w = counted_where_found (Err e) (drained_by_implication (λ items last h. record { exit = subst (λ (k : ℕ). CountExit k last (Err e)) (let q = number_counted_up R items 0 h.carried h.went in omega (arith, q)) (count_exit_failure R last h.carried n e h.exit) }) w)
