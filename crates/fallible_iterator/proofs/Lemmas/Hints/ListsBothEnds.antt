-- Hints of what lists a list.
use Rattle.std.specs.Prelude.{◌≡◌, ℕ, suc, ◌+◌, ◌≤◌, Bool, List, [], ◌∷◌, length, map, reverse, Option, Result, Ok, Err, IfSome}
use Rattle.std.specs.List.{filter_map, cons_option}
use Rattle.std.specs.Borrow.{Bor}
use Rattle.std.proofs.Common.{refl, sym, ap, subst, ◌∙◌, arith}
use Rattle.std.proofs.lemmas.List.{length-reverse}
use Rattle.fallible_contract.specs.Traces.{Answered, Yields, item, end}
use Rattle.fallible_contract.specs.Lists.{AlwaysGives, Lists}
use Rattle.fallible_contract.specs.BothEnds.{ListsBothEnds, item_listed, items_listed, failure_listed, failures_listed, source_list, outcome_listed, passed_list}
use Rattle.fallible_contract.specs.Hints.{hint_sum}
use Rattle.fallible_contract.proofs.Lemmas.Lists.Passing.{passed}
use Rattle.fallible_contract.proofs.Lemmas.BothEnds.{lists_first, lists_from_back}
use Rattle.fallible_contract.proofs.Lemmas.BothEnds.Passing.{filter_map-reverse, with_answer, source_list_of_with_answer_is_same, passed_list_of_with_answer_is_passed}
use Rattle.fallible_core.specs.OneToOne.Map.{mapped, map_outcome}
use Rattle.fallible_core.specs.OneToOne.Inspect.{inspected, inspect_outcome}
use Rattle.fallible_core.specs.Filtering.Filter.{filtered, tested_outcome}
use Rattle.fallible_core.specs.Filtering.FilterMap.{filter_mapped, filter_map_outcome}
use Rattle.fallible_core.proofs.Lemmas.OneToOne.Map.{map_outcome_is_never_end, passed_is_mapped, leaves_none_out_of_map}
use Rattle.fallible_core.proofs.Lemmas.OneToOne.Inspect.{inspect_outcome_is_never_end, passed_is_inspected, leaves_none_out_of_inspect}
use Rattle.fallible_core.proofs.Lemmas.Filtering.Filter.{tested_outcome_is_never_end, passed_is_filtered}
use Rattle.fallible_core.proofs.Lemmas.Filtering.FilterMap.{filter_map_outcome_is_never_end, passed_is_filter_mapped}
use Rattle.fallible_contract.specs.Failing.{failures_mapped}
use Rattle.fallible_core.specs.OneToOne.Cloned.{pointed_to}
use Rattle.fallible_core.specs.Joining.Chain.{chained}
use Rattle.fallible_iterator.specs.SoundHints.{Brackets, Bounds}
use Rattle.fallible_core.specs.Laws.Hints.Drawn.{if_some_at_least_of_smaller}
use Rattle.fallible_core.specs.Laws.Hints.Joining.{if_some_fitting_sum_at_least_both}
use Rattle.fallible_contract.specs.Passing.{LeavesNoneOut}
use Rattle.fallible_contract.proofs.Lemmas.Passing.{not_left_out}
use Rattle.fallible_contract.specs.declared.passing.Outcome.{Outcome}
use Rattle.fallible_contract.specs.declared.passing.Outcome.TheVariants.{Kept, LeftOut, Failure, End}

-- ---- runs of what lists a list

module _ {S A E : Type 0} (steps : S → Answered A E → S → Type 0) where
  -- a run of items takes as many of the list
  yields_length_at_most_items_listed : (xs : List A) (s t : S) (l : List (Result A E)) → AlwaysGives steps s l → Yields steps s xs t → length xs ≤ length (items_listed l)
  yields_length_at_most_items_listed [] s t l g ran = omega arith
  yields_length_at_most_items_listed (x ∷ xs) s t [] g ran = absurd (let e = g (item x) ran.0 ran.1 in cc)
  yields_length_at_most_items_listed (x ∷ xs) s t (Ok y ∷ l) g ran = let le = yields_length_at_most_items_listed xs ran.0 t l (g (item x) ran.0 ran.1).1 ran.2 in omega (arith, le)
  yields_length_at_most_items_listed (x ∷ xs) s t (Err e ∷ l) g ran = absurd (let d = (g (item x) ran.0 ran.1).0 in cc)

  -- and with an end all of it
  no_failures_and_all_items_at_end : (xs : List A) (s t u : S) (l : List (Result A E)) → AlwaysGives steps s l → Yields steps s xs t → steps t end u → (failures_listed l ≡ []) × (length l ≡ length xs)
  no_failures_and_all_items_at_end [] s t u [] g ran step = (refl, refl)
  no_failures_and_all_items_at_end [] s t u (Ok y ∷ l) g ran step = absurd (let d = (g end u (subst (λ (v : S). steps v end u) (sym ran) step)).0 in cc)
  no_failures_and_all_items_at_end [] s t u (Err e ∷ l) g ran step = absurd (let d = (g end u (subst (λ (v : S). steps v end u) (sym ran) step)).0 in cc)
  no_failures_and_all_items_at_end (x ∷ xs) s t u [] g ran step = absurd (let e = g (item x) ran.0 ran.1 in cc)
  no_failures_and_all_items_at_end (x ∷ xs) s t u (Ok y ∷ l) g ran step = let d = no_failures_and_all_items_at_end xs ran.0 t u l (g (item x) ran.0 ran.1).1 ran.2 step in (d.0, omega (arith, d.1))
  no_failures_and_all_items_at_end (x ∷ xs) s t u (Err e ∷ l) g ran step = absurd (let d = (g (item x) ran.0 ran.1).0 in cc)

  -- Law: A hint that bounds the list which a value lists brackets what comes from the value.
  pub brackets_of_list_bounds : (s : S) (l : List (Result A E)) (h : ℕ × Option ℕ) → Lists steps s l → Bounds h l → Brackets steps s h
  brackets_of_list_bounds s l h i b = record {
    above = λ xs t ran. if_some_at_least_of_smaller h.1 (length xs) (length (items_listed l)) (yields_length_at_most_items_listed xs s t l i.runs ran) b.above;
    below = λ xs t u ran step. let d = no_failures_and_all_items_at_end xs s t u l i.runs ran step in let le = b.below d.0 in omega (arith, le, d.1);
  }

-- ---- the list reversed

nil_of_length_zero : {X : Type 0} (xs : List X) → length xs ≡ 0 → xs ≡ []
nil_of_length_zero [] e = refl
nil_of_length_zero (x ∷ xs) e = absurd (omega (arith, e))

module _ {A E : Type 0} where
  length_filter_map_reversed : {X : Type 0} (h : Result A E → Option X) (l : List (Result A E)) → length (filter_map h (reverse l)) ≡ length (filter_map h l)
  length_filter_map_reversed h l = ap length (filter_map-reverse h l) ∙ length-reverse (filter_map h l)

  -- Law: A hint that bounds a list bounds its reverse. So each hint of `Rev`, which is its source's, bounds its list wherever it bounds the source's.
  pub bounds_reversed : (h : ℕ × Option ℕ) (l : List (Result A E)) → Bounds h l → Bounds h (reverse l)
  bounds_reversed h l b = record {
    above = subst (λ (n : ℕ). IfSome h.1 (λ m. n ≤ m)) (sym (length_filter_map_reversed item_listed l)) b.above;
    below = λ none.
        let fewer : length (failures_listed l) ≡ 0 = sym (length_filter_map_reversed failure_listed l) ∙ ap length none in
        let le = b.below (nil_of_length_zero (failures_listed l) fewer) in
        omega (arith, le, length-reverse l);
  }

-- Law: A hint that bounds what a value lists from both ends brackets what comes from the front.
pub brackets_front_of_list_bounds : {S A E : Type 0} {front back : S → Answered A E → S → Type 0} (s : S) (l : List (Result A E)) (h : ℕ × Option ℕ) → ListsBothEnds front back s l → Bounds h l → Brackets front s h
brackets_front_of_list_bounds {front = front} s l h i b = brackets_of_list_bounds front s l h (lists_first i) b

-- Law: A hint that bounds what a value lists from both ends brackets what comes from the back.
pub brackets_back_of_list_bounds : {S A E : Type 0} {front back : S → Answered A E → S → Type 0} (s : S) (l : List (Result A E)) (h : ℕ × Option ℕ) → ListsBothEnds front back s l → Bounds h l → Brackets back s h
brackets_back_of_list_bounds {back = back} s l h i b = brackets_of_list_bounds back s (reverse l) h (lists_from_back i) (bounds_reversed h l b)

-- ---- lists of as many items, or of fewer

-- a list is made of another: it has no more items
bounds_upper_alone_of_fewer_items : {A E B D : Type 0} (h : ℕ × Option ℕ) (l : List (Result A E)) (k : List (Result B D)) → length (items_listed k) ≤ length (items_listed l) → Bounds h l → Bounds (0, h.1) k
bounds_upper_alone_of_fewer_items h l k le b = record { above = if_some_at_least_of_smaller h.1 (length (items_listed k)) (length (items_listed l)) le b.above; below = λ none. omega arith }

-- and is as long, and where it has no failure the other has none
bounds_of_as_long_list : {A E B D : Type 0} (h : ℕ × Option ℕ) (l : List (Result A E)) (k : List (Result B D)) → length (items_listed k) ≤ length (items_listed l) → length k ≡ length l → (failures_listed k ≡ [] → failures_listed l ≡ []) → Bounds h l → Bounds h k
bounds_of_as_long_list h l k le same none b = record {
  above = if_some_at_least_of_smaller h.1 (length (items_listed k)) (length (items_listed l)) le b.above;
  below = λ sure. let low = b.below (none sure) in omega (arith, low, same);
}

-- ---- what lets items pass

module _ {X R B E : Type 0} (outcome : X → R → Outcome B E) where
  items_at_most_one_more_by_outcome : (o : Outcome B E) (l : List (Result B E)) → length (items_listed (cons_option (outcome_listed o) l)) ≤ length (items_listed l) + 1
  items_at_most_one_more_by_outcome (Kept y) l = omega arith
  items_at_most_one_more_by_outcome LeftOut l = omega arith
  items_at_most_one_more_by_outcome (Failure e) l = omega arith
  items_at_most_one_more_by_outcome End l = omega arith

  length_items_passed_at_most_source : (asked : List (Result (X × R) E)) → length (items_listed (passed_list outcome asked)) ≤ length (items_listed (source_list asked))
  length_items_passed_at_most_source [] = omega arith
  length_items_passed_at_most_source (Ok c ∷ asked) = let le = items_at_most_one_more_by_outcome (outcome c.0 c.1) (passed_list outcome asked) in let rest = length_items_passed_at_most_source asked in omega (arith, le, rest)
  length_items_passed_at_most_source (Err e ∷ asked) = length_items_passed_at_most_source asked

  -- Law: The upper bound of a hint that bounds a list bounds what passes of it by a closure, whatever that returns, and so does a lower bound of 0. So each hint of `Filter` and `FilterMap` bounds its list wherever a hint of its source bounds the source's list.
  pub bounds_upper_passed : (asked : List (Result (X × R) E)) (h : ℕ × Option ℕ) → Bounds h (source_list asked) → Bounds (0, h.1) (passed_list outcome asked)
  bounds_upper_passed asked h b = bounds_upper_alone_of_fewer_items h (source_list asked) (passed_list outcome asked) (length_items_passed_at_most_source asked) b

  module _ (leaves_none_out : LeavesNoneOut outcome) (never_ends : (x : X) (v : R) → outcome x v ≡ End → ⊥) where
    length_one_more_by_outcome : (o : Outcome B E) → (o ≡ LeftOut → ⊥) → (o ≡ End → ⊥) → (l : List (Result B E)) → length (cons_option (outcome_listed o) l) ≡ suc (length l)
    length_one_more_by_outcome (Kept y) a b l = refl
    length_one_more_by_outcome LeftOut a b l = absurd (a refl)
    length_one_more_by_outcome (Failure e) a b l = refl
    length_one_more_by_outcome End a b l = absurd (b refl)

    length_of_passed_list_is_of_source : (asked : List (Result (X × R) E)) → length (passed_list outcome asked) ≡ length (source_list asked)
    length_of_passed_list_is_of_source [] = refl
    length_of_passed_list_is_of_source (Ok c ∷ asked) = length_one_more_by_outcome (outcome c.0 c.1) (not_left_out outcome leaves_none_out c.0 c.1) (never_ends c.0 c.1) (passed_list outcome asked) ∙ ap suc (length_of_passed_list_is_of_source asked)
    length_of_passed_list_is_of_source (Err e ∷ asked) = ap suc (length_of_passed_list_is_of_source asked)

    no_failures_in_rest_of_outcome : (o : Outcome B E) (l : List (Result B E)) → failures_listed (cons_option (outcome_listed o) l) ≡ [] → failures_listed l ≡ []
    no_failures_in_rest_of_outcome (Kept y) l e = e
    no_failures_in_rest_of_outcome LeftOut l e = e
    no_failures_in_rest_of_outcome (Failure d) l e = absurd cc
    no_failures_in_rest_of_outcome End l e = e

    no_source_failures_where_none_passed : (asked : List (Result (X × R) E)) → failures_listed (passed_list outcome asked) ≡ [] → failures_listed (source_list asked) ≡ []
    no_source_failures_where_none_passed [] e = refl
    no_source_failures_where_none_passed (Ok c ∷ asked) e = no_source_failures_where_none_passed asked (no_failures_in_rest_of_outcome (outcome c.0 c.1) (passed_list outcome asked) e)
    no_source_failures_where_none_passed (Err d ∷ asked) e = absurd cc

    -- Law: Where nothing is left out, a hint that bounds a list bounds what passes of it by a closure, whatever that returns. So each hint of `Map` and `Inspect` bounds its list wherever it bounds the source's.
    pub bounds_passed : (asked : List (Result (X × R) E)) (h : ℕ × Option ℕ) → Bounds h (source_list asked) → Bounds h (passed_list outcome asked)
    bounds_passed asked h b = bounds_of_as_long_list h (source_list asked) (passed_list outcome asked) (length_items_passed_at_most_source asked) (length_of_passed_list_is_of_source asked) (no_source_failures_where_none_passed asked) b

-- ---- a closure that acts as a function

module _ {X R B E : Type 0} (outcome : X → R → Outcome B E) (never_ends : (x : X) (v : R) → outcome x v ≡ End → ⊥) (f : X → R) where
  bounds_asked : (h : ℕ × Option ℕ) (l : List (Result X E)) → Bounds h l → Bounds h (source_list (map (with_answer f) l))
  bounds_asked h l b = subst (λ (k : List (Result X E)). Bounds h k) (sym (source_list_of_with_answer_is_same f l)) b

  -- the same of the adapter's list by its name
  bounds_upper_acting : (l : List (Result X E)) (k : List (Result B E)) (h : ℕ × Option ℕ) → passed outcome (λ (p : Unit {0}) x. f x) (λ p x. p) tt l ≡ k → Bounds h l → Bounds (0, h.1) k
  bounds_upper_acting l k h is b = subst (λ (j : List (Result B E)). Bounds (0, h.1) j) (passed_list_of_with_answer_is_passed outcome never_ends f l ∙ is) (bounds_upper_passed outcome (map (with_answer f) l) h (bounds_asked h l b))

  pub bounds_acting : LeavesNoneOut outcome → (l : List (Result X E)) (k : List (Result B E)) (h : ℕ × Option ℕ) → passed outcome (λ (p : Unit {0}) x. f x) (λ p x. p) tt l ≡ k → Bounds h l → Bounds h k
  bounds_acting leaves_none_out l k h is b = subst (λ (j : List (Result B E)). Bounds h j) (passed_list_of_with_answer_is_passed outcome never_ends f l ∙ is) (bounds_passed outcome leaves_none_out never_ends (map (with_answer f) l) h (bounds_asked h l b))

-- the list word of `Map`
pub bounds_mapped : {X B E : Type 0} (f : X → Result B E) (l : List (Result X E)) (h : ℕ × Option ℕ) → Bounds h l → Bounds h (mapped f l)
bounds_mapped f l h b = bounds_acting map_outcome map_outcome_is_never_end f leaves_none_out_of_map l _ h (passed_is_mapped f l) b

-- of `Inspect`
pub bounds_inspected : {X E : Type 0} (f : X → Result (Unit {0}) E) (l : List (Result X E)) (h : ℕ × Option ℕ) → Bounds h l → Bounds h (inspected f l)
bounds_inspected f l h b = bounds_acting inspect_outcome inspect_outcome_is_never_end f leaves_none_out_of_inspect l _ h (passed_is_inspected f l) b

-- of `Filter`
pub bounds_filtered : {X E : Type 0} (f : X → Result Bool E) (l : List (Result X E)) (h : ℕ × Option ℕ) → Bounds h l → Bounds (0, h.1) (filtered f l)
bounds_filtered f l h b = bounds_upper_acting tested_outcome tested_outcome_is_never_end f l _ h (passed_is_filtered f l) b

-- of `FilterMap`
pub bounds_filter_mapped : {X B E : Type 0} (f : X → Result (Option B) E) (l : List (Result X E)) (h : ℕ × Option ℕ) → Bounds h l → Bounds (0, h.1) (filter_mapped f l)
bounds_filter_mapped f l h b = bounds_upper_acting filter_map_outcome filter_map_outcome_is_never_end f l _ h (passed_is_filter_mapped f l) b

-- ---- `Cloned`

-- the items beside others
length_items_asked_is_of_source : {X R E : Type 0} (asked : List (Result (X × R) E)) → length (items_listed asked) ≡ length (items_listed (source_list asked))
length_items_asked_is_of_source [] = refl
length_items_asked_is_of_source (Ok c ∷ asked) = ap suc (length_items_asked_is_of_source asked)
length_items_asked_is_of_source (Err e ∷ asked) = length_items_asked_is_of_source asked

length_asked_is_of_source : {X R E : Type 0} (asked : List (Result (X × R) E)) → length asked ≡ length (source_list asked)
length_asked_is_of_source [] = refl
length_asked_is_of_source (Ok c ∷ asked) = ap suc (length_asked_is_of_source asked)
length_asked_is_of_source (Err e ∷ asked) = ap suc (length_asked_is_of_source asked)

failures_asked_are_of_source : {X R E : Type 0} (asked : List (Result (X × R) E)) → failures_listed asked ≡ failures_listed (source_list asked)
failures_asked_are_of_source [] = refl
failures_asked_are_of_source (Ok c ∷ asked) = failures_asked_are_of_source asked
failures_asked_are_of_source (Err e ∷ asked) = ap (λ l. e ∷ l) (failures_asked_are_of_source asked)

bounds_asked_of_source_bounds : {X R E : Type 0} (asked : List (Result (X × R) E)) (h : ℕ × Option ℕ) → Bounds h (source_list asked) → Bounds h asked
bounds_asked_of_source_bounds asked h b = bounds_of_as_long_list h (source_list asked) asked (omega (arith, length_items_asked_is_of_source asked)) (length_asked_is_of_source asked) (λ none. sym (failures_asked_are_of_source asked) ∙ none) b

-- Law: A hint that bounds a list bounds clones of its items, each beside what it is a clone of. So each hint of `Cloned` bounds its list wherever it bounds the source's.
pub bounds_clones : {T E : Type 0} (asked : List (Result (Bor T × T) E)) (h : ℕ × Option ℕ) → Bounds h (source_list asked) → Bounds h (mapped (λ c. Ok c.1) asked)
bounds_clones asked h b = bounds_mapped (λ c. Ok c.1) asked h (bounds_asked_of_source_bounds asked h b)

mapped_is_pointed_to : {T E : Type 0} (l : List (Result (Bor T) E)) → mapped (λ (x : Bor T). Ok x.now) l ≡ pointed_to l
unfolding mapped pointed_to
mapped_is_pointed_to [] = refl
mapped_is_pointed_to (Ok x ∷ l) = ap (λ k. Ok x.now ∷ k) (mapped_is_pointed_to l)
mapped_is_pointed_to (Err e ∷ l) = ap (λ k. Err e ∷ k) (mapped_is_pointed_to l)

-- Law: A hint that bounds a list bounds what its items point to. So each hint of `Copied`, and of `Cloned` where a clone equals its original, bounds its list wherever it bounds the source's.
pub bounds_pointed_to : {T E : Type 0} (l : List (Result (Bor T) E)) (h : ℕ × Option ℕ) → Bounds h l → Bounds h (pointed_to l)
bounds_pointed_to l h b = subst (λ (k : List (Result _ _)). Bounds h k) (mapped_is_pointed_to l) (bounds_mapped (λ x. Ok x.now) l h b)

-- ---- `MapErr`

module _ {A D E : Type 0} (f : D → E) where
  length_items_of_failures_mapped : (l : List (Result A D)) → length (items_listed (failures_mapped f l)) ≡ length (items_listed l)
  unfolding failures_mapped
  length_items_of_failures_mapped [] = refl
  length_items_of_failures_mapped (Ok x ∷ l) = ap suc (length_items_of_failures_mapped l)
  length_items_of_failures_mapped (Err e ∷ l) = length_items_of_failures_mapped l

  length_failures_mapped : (l : List (Result A D)) → length (failures_mapped f l) ≡ length l
  unfolding failures_mapped
  length_failures_mapped [] = refl
  length_failures_mapped (Ok x ∷ l) = ap suc (length_failures_mapped l)
  length_failures_mapped (Err e ∷ l) = ap suc (length_failures_mapped l)

  length_failures_of_mapped : (l : List (Result A D)) → length (failures_listed (failures_mapped f l)) ≡ length (failures_listed l)
  unfolding failures_mapped
  length_failures_of_mapped [] = refl
  length_failures_of_mapped (Ok x ∷ l) = length_failures_of_mapped l
  length_failures_of_mapped (Err e ∷ l) = ap suc (length_failures_of_mapped l)

  -- Law: A hint that bounds a list bounds it with another failure in each failure's place. So each hint of `MapErr`, `ErrInto` and `InspectErr` bounds its list wherever it bounds the source's.
  pub bounds_failures_mapped : (l : List (Result A D)) (h : ℕ × Option ℕ) → Bounds h l → Bounds h (failures_mapped f l)
  bounds_failures_mapped l h b = bounds_of_as_long_list h l (failures_mapped f l) (omega (arith, length_items_of_failures_mapped l)) (length_failures_mapped l) (λ none. nil_of_length_zero (failures_listed l) (sym (length_failures_of_mapped l) ∙ ap length none)) b

  bounds_before_mapping : (l : List (Result A D)) (h : ℕ × Option ℕ) → Bounds h (failures_mapped f l) → Bounds h l
  bounds_before_mapping l h b = bounds_of_as_long_list h (failures_mapped f l) l (omega (arith, length_items_of_failures_mapped l)) (sym (length_failures_mapped l)) (λ none. nil_of_length_zero (failures_listed (failures_mapped f l)) (length_failures_of_mapped l ∙ ap length none)) b

-- where the closure's answer to each failure stands beside the failure
pub bounds_failures_answered : {A D E : Type 0} (asked : List (Result A (D × E))) (h : ℕ × Option ℕ) → Bounds h (failures_mapped (λ c. c.0) asked) → Bounds h (failures_mapped (λ c. c.1) asked)
bounds_failures_answered asked h b = bounds_failures_mapped (λ c. c.1) asked h (bounds_before_mapping (λ c. c.0) asked h b)

-- ---- `Chain`

module _ {A E : Type 0} where
  length_items_chained : (a b : List (Result A E)) → length (items_listed (chained a b)) ≡ length (items_listed a) + length (items_listed b)
  unfolding chained
  length_items_chained [] b = omega arith
  length_items_chained (Ok x ∷ a) b = let e = length_items_chained a b in omega (arith, e)
  length_items_chained (Err d ∷ a) b = length_items_chained a b

  length_chained : (a b : List (Result A E)) → length (chained a b) ≡ length a + length b
  unfolding chained
  length_chained [] b = omega arith
  length_chained (y ∷ a) b = let e = length_chained a b in omega (arith, e)

  no_failures_in_either_of_chained : (a b : List (Result A E)) → failures_listed (chained a b) ≡ [] → (failures_listed a ≡ []) × (failures_listed b ≡ [])
  unfolding chained
  no_failures_in_either_of_chained [] b e = (refl, e)
  no_failures_in_either_of_chained (Ok x ∷ a) b e = no_failures_in_either_of_chained a b e
  no_failures_in_either_of_chained (Err d ∷ a) b e = absurd cc

  -- Law: The sums of the bounds of two hints bound two lists together, where each hint bounds its own. So each hint of `Chain` bounds its list wherever the hints of its sides bound theirs.
  pub bounds_chained : (a b : List (Result A E)) (f g : ℕ × Option ℕ) → Bounds f a → Bounds g b → Bounds (hint_sum f g) (chained a b)
  bounds_chained a b f g i j = record {
    above = if_some_fitting_sum_at_least_both f.1 g.1 (length (items_listed a)) (length (items_listed b)) (length (items_listed (chained a b))) (length_items_chained a b) i.above j.above;
    below = λ none. let d = no_failures_in_either_of_chained a b none in let le = i.below d.0 in let ge = j.below d.1 in omega (arith, le, ge, length_chained a b);
  }
