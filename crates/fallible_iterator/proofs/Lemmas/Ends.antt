-- Draws from both ends.
use Rattle.std.specs.Borrow.{MutBor}
use Rattle.std.specs.Prelude.{◌≡◌, ◌↔◌, ℕ, Bool, Option, Result, None, Ok, Err, List, [], ◌∷◌, ◌++◌, reverse}
use Rattle.std.proofs.Common.{refl, sym, ◌∙◌, ap, subst}
use Rattle.std.proofs.lemmas.List.{reverse-reverse, reverse-append}
use Rattle.fallible_contract.specs.Traces.{Answered, Run, end}
use Rattle.fallible_contract.specs.Contract.{Contract, parts_as}
use Rattle.fallible_contract.specs.Ends.{Ends, ends_of, ends_parts_as, from_back, from_front}
use Rattle.fallible_contract.specs.Folds.{NthDrains}
use Rattle.fallible_contract.specs.LawForm.{TracesAre}
use Rattle.fallible_contract.specs.Laws.LawForm.{traces_are_of_parts}
use Rattle.fallible_contract.specs.Searching.{SearchDrains, find_pick}
use Rattle.fallible_contract.specs.Lists.{AlwaysGives, Lists, Acts, result_answer, rest_nth, rest_true}
use Rattle.fallible_contract.specs.BothEnds.{TakesFirst, RunAtEnds, ListsBothEnds}
use Rattle.fallible_contract.proofs.Lemmas.BothEnds.{lists_both_ends_at_view, lists_both_ends_swapped, lists_both_ends_through_view, takes_first_front, takes_first_back}
use Rattle.fallible_contract.proofs.Lemmas.Lists.Rest.{lists_rest_nth, lists_rest_find}
use Rattle.fallible_core.specs.Borrowed.{borrowed, boxed}
use Rattle.fallible_core.specs.Ends.Rev.{rev_contract, rev_parts}
use Rattle.fallible_core.proofs.Lemmas.Joining.Chain.{item_not_end}
use Rattle.std.specs.declared.alloc.Global.{Global}
use Rattle.std.specs.declared.boxed.Box.{Box}
use Rattle.fallible_contract.specs.declared.answers.Side.{Side}
use Rattle.fallible_contract.specs.declared.answers.Side.TheVariants.{Front, Back}
use Rattle.fallible_core.specs.declared.ends.rev.Rev.{Rev}

-- ---- of values that are seen by their parts, of which each names one value

module _ {V P A E : Type 0} (parts : V → P) (make : P → V) (made : (s : V) → make (parts s) ≡ s) (has : (p : P) → parts (make p) ≡ p) (front back : P → Answered A E → P → Type 0) where
  abbrev seen_front : V → Answered A E → V → Type 0
  seen_front u r v = front (parts u) r (parts v)

  abbrev seen_back : V → Answered A E → V → Type 0
  seen_back u r v = back (parts u) r (parts v)

  run_at_ends_to_parts : (drawn : List (Side × Answered A E)) (s t : V) → RunAtEnds seen_front seen_back s drawn t → RunAtEnds front back (parts s) drawn (parts t)
  run_at_ends_to_parts [] s t e = ap parts e
  run_at_ends_to_parts ((Front, r) ∷ rest) s t h = (parts h.0, h.1, run_at_ends_to_parts rest h.0 t h.2)
  run_at_ends_to_parts ((Back, r) ∷ rest) s t h = (parts h.0, h.1, run_at_ends_to_parts rest h.0 t h.2)

  run_at_ends_of_parts : (drawn : List (Side × Answered A E)) (s t : V) → RunAtEnds front back (parts s) drawn (parts t) → RunAtEnds seen_front seen_back s drawn t
  run_at_ends_of_parts [] s t e = sym (made s) ∙ ap make e ∙ made t
  run_at_ends_of_parts ((Front, r) ∷ rest) s t h = let e = has h.0 in (make h.0, subst (λ (p : P). front (parts s) r p) (sym e) h.1, run_at_ends_of_parts rest (make h.0) t (subst (λ (p : P). RunAtEnds front back p rest (parts t)) (sym e) h.2))
  run_at_ends_of_parts ((Back, r) ∷ rest) s t h = let e = has h.0 in (make h.0, subst (λ (p : P). back (parts s) r p) (sym e) h.1, run_at_ends_of_parts rest (make h.0) t (subst (λ (p : P). RunAtEnds front back p rest (parts t)) (sym e) h.2))

  -- they are draws of the parts
  run_at_ends_same_on_parts : (s : V) (drawn : List (Side × Answered A E)) (t : V) → RunAtEnds seen_front seen_back s drawn t ↔ RunAtEnds front back (parts s) drawn (parts t)
  run_at_ends_same_on_parts s drawn t = (run_at_ends_to_parts drawn s t, run_at_ends_of_parts drawn s t)

-- ---- what a `Rev`, a reference and a box list, their source lists

module _ {S A E : Type 0} (m : Contract S A E) (e : Ends S A E) where
  abbrev rev_front : Contract (Rev S) A E
  rev_front = parts_as rev_parts (rev_contract m e)

  abbrev rev_ends : Ends (Rev S) A E
  rev_ends = ends_parts_as rev_parts (ends_of (from_front m e))

  -- Law: What a `Rev` lists from both ends, its source lists reversed.
  pub source_lists_reversed : (s : Rev S) (l : List (Result A E)) → ListsBothEnds rev_front.steps rev_ends.steps s l → ListsBothEnds m.steps e.steps (rev_parts s) (reverse l)
  source_lists_reversed s l i = lists_both_ends_swapped (lists_both_ends_at_view rev_parts e.steps m.steps (λ u r q step. (record u { it = q }, refl, step)) (λ u r q step. (record u { it = q }, refl, step)) i)

  -- Law: What a `&mut I` lists from both ends, the value lists that it points to.
  pub value_lists_as_reference : (s : MutBor S) (l : List (Result A E)) → ListsBothEnds (borrowed m).steps (ends_of (borrowed (from_back m e))).steps s l → ListsBothEnds m.steps e.steps s.now l
  value_lists_as_reference s l i = lists_both_ends_at_view (λ u. u.now) _ _ (λ u r q step. (record u { now = q }, refl, (step, refl))) (λ u r q step. (record u { now = q }, refl, (step, refl))) i

  -- Law: What a `Box<I>` lists from both ends, the value lists that it holds.
  pub value_lists_as_box : (s : Box S Global) (l : List (Result A E)) → ListsBothEnds (boxed m).steps (ends_of (boxed (from_back m e))).steps s l → ListsBothEnds m.steps e.steps s.value l
  value_lists_as_box s l i = lists_both_ends_at_view (λ u. u.value) _ _ (λ u r q step. (record u { value = q }, refl, step)) (λ u r q step. (record u { value = q }, refl, step)) i

-- ---- a `Rev` of a `Rev`

module _ {S A E : Type 0} (m : Contract S A E) (e : Ends S A E) where
  abbrev rev_rev_front : Contract (Rev (Rev S)) A E
  rev_rev_front = rev_front (rev_front m e) (rev_ends m e)

  abbrev rev_rev_ends : Ends (Rev (Rev S)) A E
  rev_rev_ends = rev_ends (rev_front m e) (rev_ends m e)

  abbrev rev_rev_source : Rev (Rev S) → S
  rev_rev_source s = rev_parts (rev_parts s)

  -- Law: A `Rev` of a `Rev` is its source: a trace of it from either end is one of its source from that end, and draws from both are draws of its source.
  pub rev_rev_traces : TracesAre rev_rev_source rev_rev_front.steps (Run m.steps)
  rev_rev_traces = traces_are_of_parts rev_rev_source (λ p. record { it = record { it = p } }) (λ s. refl) (λ p. refl) _ _ (λ p trace q. ((λ ran. ran), (λ ran. ran)))

  -- from the back
  pub rev_rev_traces_back : TracesAre rev_rev_source rev_rev_ends.steps (Run e.steps)
  rev_rev_traces_back = traces_are_of_parts rev_rev_source (λ p. record { it = record { it = p } }) (λ s. refl) (λ p. refl) _ _ (λ p trace q. ((λ ran. ran), (λ ran. ran)))

  -- draws from both ends, in any order
  pub rev_rev_draws : (s : Rev (Rev S)) (drawn : List (Side × Answered A E)) (t : Rev (Rev S)) → RunAtEnds rev_rev_front.steps rev_rev_ends.steps s drawn t ↔ RunAtEnds m.steps e.steps (rev_rev_source s) drawn (rev_rev_source t)
  rev_rev_draws = run_at_ends_same_on_parts rev_rev_source (λ p. record { it = record { it = p } }) (λ s. refl) (λ p. refl) _ _

  -- Law: A `Rev` of a `Rev` lists from both ends just what its source lists.
  pub rev_rev_lists : (s : Rev (Rev S)) (l : List (Result A E)) → ListsBothEnds rev_rev_front.steps rev_rev_ends.steps s l ↔ ListsBothEnds m.steps e.steps (rev_rev_source s) l
  rev_rev_lists s l = (
    (λ i. lists_both_ends_at_view rev_rev_source _ _ (λ u r q step. (record { it = record { it = q } }, refl, step)) (λ u r q step. (record { it = record { it = q } }, refl, step)) i),
    (λ i. lists_both_ends_through_view rev_rev_source i),
  )

-- ---- what one draw takes

module _ {S A E : Type 0} {front back : S → Answered A E → S → Type 0} {s t : S} {r : Answered A E} (y : Result A E) (l : List (Result A E)) where
  pub lists_both_ends_after_first : ListsBothEnds front back s (y ∷ l) → front s r t → (r ≡ result_answer y) × ListsBothEnds front back t l
  lists_both_ends_after_first i step = takes_first_front i step

  pub lists_both_ends_after_last : ListsBothEnds front back s (l ++ y ∷ []) → back s r t → (r ≡ result_answer y) × ListsBothEnds front back t l
  lists_both_ends_after_last i step = let d = subst (λ (k : List (Result A E)). TakesFirst (λ j. ListsBothEnds front back t (reverse j)) r k) (reverse-append l (y ∷ [])) (takes_first_back i step) in
      (d.0, subst (λ (k : List (Result A E)). ListsBothEnds front back t k) (reverse-reverse l) d.1)

-- ---- what a call from the front leaves: its draws are seen as draws of the list itself

module _ {A E : Type 0} where
  abbrev pub draws_list : List (Result A E) → Answered A E → List (Result A E) → Type 0
  draws_list l r k = TakesFirst (λ j. j ≡ k) r l

  always_gives_itself : (l : List (Result A E)) → AlwaysGives draws_list l l
  always_gives_itself [] = λ r t w. w.0
  always_gives_itself (y ∷ l) = λ r t w. (w.0, subst (λ (k : List (Result A E)). AlwaysGives draws_list k l) w.1 (always_gives_itself l))

  lists_itself : (l : List (Result A E)) → Lists draws_list l l
  lists_itself l = record { runs = always_gives_itself l }

  pub result_answer_injective : (x y : Result A E) → result_answer x ≡ result_answer y → x ≡ y
  result_answer_injective (Ok x) (Ok y) e = cc
  result_answer_injective (Ok x) (Err y) e = absurd cc
  result_answer_injective (Err x) (Ok y) e = absurd cc
  result_answer_injective (Err x) (Err y) e = cc

  list_given_is_unique : (l k : List (Result A E)) → AlwaysGives draws_list l k → l ≡ k
  list_given_is_unique [] [] a = refl
  list_given_is_unique [] (y ∷ k) a = absurd (item_not_end y (a end [] (refl, refl)).0)
  list_given_is_unique (x ∷ l) [] a = absurd (item_not_end x (sym (a (result_answer x) l (refl, refl))))
  list_given_is_unique (x ∷ l) (y ∷ k) a = let h = a (result_answer x) l (refl, refl) in let same = result_answer_injective x y h.0 in let rest = list_given_is_unique l k h.1 in cc

module _ {S A E : Type 0} (front back : S → Answered A E → S → Type 0) where
  draws_list_of_takes_first : (r : Answered A E) (t : S) (l : List (Result A E)) → TakesFirst (λ k. ListsBothEnds front back t k) r l → (k : List (Result A E)) × draws_list l r k × ListsBothEnds front back t k
  draws_list_of_takes_first r t [] w = ([], (w.0, refl), w.1)
  draws_list_of_takes_first r t (y ∷ l) w = (l, (w.0, refl), w.1)

  pub draws_list_runs_where_front_runs : (trace : List (Answered A E)) (s t : S) (l : List (Result A E)) → ListsBothEnds front back s l → Run front s trace t → (k : List (Result A E)) × Run draws_list l trace k × ListsBothEnds front back t k
  draws_list_runs_where_front_runs [] s t l i ran = (l, refl, subst (λ (u : S). ListsBothEnds front back u l) ran i)
  draws_list_runs_where_front_runs (r ∷ trace) s t l i ran = let d = draws_list_of_takes_first r ran.0 l (takes_first_front i ran.1) in let others = draws_list_runs_where_front_runs trace ran.0 t d.0 d.2 ran.2 in (others.0, (d.0, d.1, others.1), others.2)

module _ {S A E : Type 0} {front back : S → Answered A E → S → Type 0} {s t : S} (l : List (Result A E)) (i : ListsBothEnds front back s l) where
  lists_both_ends_of_run : (trace : List (Answered A E)) (k : List (Result A E)) → Run front s trace t → ((left : List (Result A E)) → Run draws_list l trace left → Lists draws_list left k) → ListsBothEnds front back t k
  lists_both_ends_of_run trace k ran lists = let d = draws_list_runs_where_front_runs front back trace s t l i ran in subst (λ (j : List (Result A E)). ListsBothEnds front back t j) (list_given_is_unique d.0 k (lists d.0 d.1).runs) d.2

  pub lists_both_ends_rest_nth : {n : ℕ} {r : Answered A E} → NthDrains front s n r t → ¬ (r ≡ Ok None) → ListsBothEnds front back t (rest_nth n l)
  lists_both_ends_rest_nth {n = n} c no_end = lists_both_ends_of_run _ (rest_nth n l) c.ran (λ left ran. lists_rest_nth l (record { items = c.items; last = c.last; ran = ran; at = c.at }) (lists_itself l) no_end)

  module _ {F : Type 0} {f g : F} {call : F → A → Result Bool E → F → Type 0} (h : A → Result Bool E) (acts : Acts call f h) where
    pub lists_both_ends_rest_true : {r : Result (Option A) E} → SearchDrains call find_pick front None s f r t g → ¬ (r ≡ Ok None) → ListsBothEnds front back t (rest_true h l)
    lists_both_ends_rest_true c no_end = lists_both_ends_of_run _ (rest_true h l) c.ran (λ left ran. lists_rest_find l (lists_itself l) {call = call} h acts (record { items = c.items; last = c.last; ran = ran; at = c.at }) no_end)
