-- What sources list from both ends.
use Rattle.std.specs.Prelude.{◌≡◌, Option, Some, None, MatchOption, Result, Ok, Err, List, [], ◌∷◌, map, reverse}
use Rattle.std.specs.Iterator.{Count}
use Rattle.std.proofs.Common.{refl, sym, ap, subst, ◌∙◌}
use Rattle.fallible_contract.specs.Traces.{Answered, item, failure}
use Rattle.fallible_contract.specs.Contract.{parts_as}
use Rattle.fallible_contract.specs.Held.{once_step}
use Rattle.fallible_contract.specs.Lists.{result_answer, results, items}
use Rattle.fallible_contract.specs.BothEnds.{TakesFirst, ListsBothEnds}
use Rattle.fallible_contract.proofs.Lemmas.BothEnds.{lists_both_ends_by_draws, lists_both_ends_where_view_lists}
use Rattle.fallible_iterator.specs.Listing.{ListsElements, ListsOne, by_calls, by_state}
use Rattle.fallible_iterator.specs.Sources.Std.{std_element, std_step}
use Rattle.fallible_iterator.specs.Sources.Convert.{convert_parts}
use Rattle.fallible_iterator.specs.Sources.Empty.{empty_contract}
use Rattle.fallible_iterator.specs.Sources.IntoFallible.{into_fallible_parts, never}
use Rattle.fallible_iterator.specs.Sources.Once.{once_parts, once_contract}
use Rattle.fallible_iterator.specs.Sources.OnceErr.{once_err_parts, once_err_contract}
use Rattle.fallible_iterator.specs.Laws.Sources.StdListed.{lists_both_ends_rest}
use Rattle.std.specs.declared.convert.Infallible.{Infallible}
use Rattle.fallible_iterator.specs.declared.sources.convert.Convert.{Convert}
use Rattle.fallible_iterator.specs.declared.sources.empty.Empty.{Empty}
use Rattle.fallible_iterator.specs.declared.sources.into_fallible.IntoFallible.{IntoFallible}
use Rattle.fallible_iterator.specs.declared.sources.once.Once.{Once}
use Rattle.fallible_iterator.specs.declared.sources.once_err.OnceErr.{OnceErr}

-- ---- sources over a std iterator

module _ {V S A E Z : Type 0} (parts : V → S) (of_item : A → Z) (of_failure : E → Z) (list : List Z → List (Result A E)) (can can_back : S → Type 0) (gives gives_back : S → Option Z → S → Type 0) (remaining : S → Count)
    (to : Z → Result A E) (answered : (r : Answered A E) (z : Z) → std_element of_item of_failure r ≡ Some z → r ≡ result_answer (to z)) (none : (r : Answered A E) → std_element of_item of_failure r ≡ None → r ≡ Ok None) (same : (l : List Z) → map to l ≡ list l) where
  -- each draw is a call of the std iterator, with its progress; and what is left is what is listed
  elements_listed : (s : V) (l : List (Result A E)) → ListsElements parts of_item of_failure list gives gives_back s l → ListsBothEnds (λ u r v. std_step of_item of_failure can gives remaining (parts u) r (parts v)) (λ u r v. std_step of_item of_failure can_back gives_back remaining (parts u) r (parts v)) s l
  elements_listed s l (by_calls i) = lists_both_ends_where_view_lists parts _ _ (λ u r v step. step.0) (λ u r v step. step.0) i
  elements_listed s _ (by_state rest first last) = lists_both_ends_where_view_lists parts _ _ (λ u r v step. step.0) (λ u r v step. step.0) (subst (λ (k : List (Result A E)). ListsBothEnds (λ a r b. gives a (std_element of_item of_failure r) b) (λ a r b. gives_back a (std_element of_item of_failure r) b) (parts s) k) (same (rest (parts s))) (lists_both_ends_rest of_item of_failure gives gives_back rest to answered none first last (parts s)))

pub map_id_is_results : {A E : Type 0} (l : List (Result A E)) → map (λ y. y) l ≡ results l
unfolding results
map_id_is_results [] = refl
map_id_is_results (y ∷ l) = ap (λ t. y ∷ t) (map_id_is_results l)

pub map_is_items : {A E : Type 0} (l : List A) → map (λ x. Ok x) l ≡ items {E = E} l
unfolding items
map_is_items [] = refl
map_is_items {E = E} (x ∷ l) = ap (λ (t : List (Result _ E)). Ok x ∷ t) (map_is_items l)

module _ {A E : Type 0} where
  pub answer_of_first_result : (r : Answered A E) (y : Result A E) → std_element {A = A} {E = E} Ok Err r ≡ Some y → r ≡ result_answer y
  answer_of_first_result (Ok (Some x)) (Ok y) e = cc
  answer_of_first_result (Ok (Some x)) (Err y) e = absurd cc
  answer_of_first_result (Err d) (Ok y) e = absurd cc
  answer_of_first_result (Err d) (Err y) e = cc
  answer_of_first_result (Ok None) (Ok y) e = absurd cc
  answer_of_first_result (Ok None) (Err y) e = absurd cc

  pub answer_is_end_where_no_element : (r : Answered A E) → std_element {A = A} {E = E} Ok Err r ≡ None → r ≡ Ok None
  answer_is_end_where_no_element (Ok (Some x)) e = absurd cc
  answer_is_end_where_no_element (Ok None) e = refl
  answer_is_end_where_no_element (Err d) e = absurd cc

pub convert_listed : {S A E : Type 0} (can can_back : S → Type 0) (gives gives_back : S → Option (Result A E) → S → Type 0) (remaining : S → Count) (s : Convert S) (l : List (Result A E)) → ListsElements convert_parts Ok Err results gives gives_back s l
    → ListsBothEnds (λ u r v. std_step Ok Err can gives remaining (convert_parts u) r (convert_parts v)) (λ u r v. std_step Ok Err can_back gives_back remaining (convert_parts u) r (convert_parts v)) s l
convert_listed can can_back gives gives_back remaining = elements_listed convert_parts Ok Err results can can_back gives gives_back remaining (λ y. y) (λ r z e. answer_of_first_result r z e) answer_is_end_where_no_element map_id_is_results

pub answer_is_item_where_element_given : {A : Type 0} (r : Answered A Infallible) (x : A) → std_element (λ y. y) never r ≡ Some x → r ≡ result_answer (Ok x)
answer_is_item_where_element_given (Ok (Some y)) x e = cc
answer_is_item_where_element_given (Ok None) x e = absurd cc
answer_is_item_where_element_given (Err d) x e = elim d [ ]

pub answer_is_end_where_none_given : {A : Type 0} (r : Answered A Infallible) → std_element (λ y. y) never r ≡ None → r ≡ Ok None
answer_is_end_where_none_given (Ok (Some y)) e = absurd cc
answer_is_end_where_none_given (Ok None) e = refl
answer_is_end_where_none_given (Err d) e = elim d [ ]

pub into_fallible_listed : {S A : Type 0} (can can_back : S → Type 0) (gives gives_back : S → Option A → S → Type 0) (remaining : S → Count) (s : IntoFallible S) (l : List (Result A Infallible)) → ListsElements into_fallible_parts (λ x. x) never items gives gives_back s l
    → ListsBothEnds (λ u r v. std_step (λ x. x) never can gives remaining (into_fallible_parts u) r (into_fallible_parts v)) (λ u r v. std_step (λ x. x) never can_back gives_back remaining (into_fallible_parts u) r (into_fallible_parts v)) s l
into_fallible_listed can can_back gives gives_back remaining = elements_listed into_fallible_parts (λ x. x) never items can can_back gives gives_back remaining (λ x. Ok x) (λ r x e. answer_is_item_where_element_given r x e) answer_is_end_where_none_given map_is_items

-- ---- sources of one, and of none

module _ {V A B E : Type 0} (f : B → Answered A E) (to : B → Result A E) (same : (x : B) → f x ≡ result_answer (to x)) (parts : V → Option B) where
  -- what is held, as a list
  abbrev held_list : Option B → List (Result A E)
  held_list (Some x) = to x ∷ []
  held_list None = []

  abbrev StepOfHeld : V → Answered A E → V → Type 0
  StepOfHeld s r t = once_step f (parts s) r (parts t)

  takes_held_front : (v w : Option B) (r : Answered A E) (l : List (Result A E)) → l ≡ held_list v → once_step f v r w → TakesFirst (λ k. k ≡ held_list w) r l
  takes_held_front (Some x) w r l is step = subst (λ (k : List (Result A E)). TakesFirst (λ j. j ≡ held_list w) r k) (sym is) (step.0 ∙ same x, sym (ap held_list step.1))
  takes_held_front None w r l is step = subst (λ (k : List (Result A E)). TakesFirst (λ j. j ≡ held_list w) r k) (sym is) (step.0, sym (ap held_list step.1))

  takes_held_back : (v w : Option B) (r : Answered A E) (l : List (Result A E)) → l ≡ held_list v → once_step f v r w → TakesFirst (λ k. reverse k ≡ held_list w) r (reverse l)
  takes_held_back (Some x) w r l is step = subst (λ (k : List (Result A E)). TakesFirst (λ j. reverse j ≡ held_list w) r (reverse k)) (sym is) (step.0 ∙ same x, sym (ap held_list step.1))
  takes_held_back None w r l is step = subst (λ (k : List (Result A E)). TakesFirst (λ j. reverse j ≡ held_list w) r (reverse k)) (sym is) (step.0, sym (ap held_list step.1))

  lists_both_ends_held : (s : V) (l : List (Result A E)) → l ≡ held_list (parts s) → ListsBothEnds StepOfHeld StepOfHeld s l
  lists_both_ends_held s l is = lists_both_ends_by_draws StepOfHeld StepOfHeld (λ t k. k ≡ held_list (parts t))
      (λ u k says r t step. takes_held_front (parts u) (parts t) r k says step)
      (λ u k says r t step. takes_held_back (parts u) (parts t) r k says step) s l is

  held_list_is : (v : Option B) (l : List (Result A E)) → MatchOption v (l ≡ []) (λ x. l ≡ to x ∷ []) → l ≡ held_list v
  held_list_is None l is = is
  held_list_is (Some x) l is = is

  one_listed : (s : V) (l : List (Result A E)) → ListsOne parts to s l → ListsBothEnds StepOfHeld StepOfHeld s l
  one_listed s l is = lists_both_ends_held s l (held_list_is (parts s) l is)

pub once_listed : {A E : Type 0} (s : Once A E) (l : List (Result A E)) → ListsOne once_parts (λ x. Ok x) s l → ListsBothEnds (parts_as once_parts (once_contract {A = A} {E = E})).steps (parts_as once_parts (once_contract {A = A} {E = E})).steps s l
once_listed {A} {E} = one_listed {A = A} {E = E} item (λ x. Ok x) (λ x. refl) once_parts

pub once_err_listed : {A E : Type 0} (s : OnceErr A E) (l : List (Result A E)) → ListsOne once_err_parts (λ e. Err e) s l → ListsBothEnds (parts_as once_err_parts (once_err_contract {A = A} {E = E})).steps (parts_as once_err_parts (once_err_contract {A = A} {E = E})).steps s l
once_err_listed {A} {E} = one_listed {A = A} {E = E} failure (λ e. Err e) (λ e. refl) once_err_parts

-- an end takes nothing of the list, from either end
lists_both_ends_empty : {A E : Type 0} (s : Empty A E) → ListsBothEnds (empty_contract {S = Empty A E} {A = A} {E = E}).steps (empty_contract {S = Empty A E} {A = A} {E = E}).steps s []
lists_both_ends_empty {A} {E} s = lists_both_ends_by_draws (empty_contract {S = Empty A E} {A = A} {E = E}).steps (empty_contract {S = Empty A E} {A = A} {E = E}).steps (λ t k. k ≡ [])
    (λ u k says r t step. subst (λ (j : List (Result A E)). TakesFirst (λ i. i ≡ []) r j) (sym says) (step, refl))
    (λ u k says r t step. subst (λ (j : List (Result A E)). TakesFirst (λ i. reverse i ≡ []) r (reverse j)) (sym says) (step, refl)) s [] refl

pub empty_listed : {A E : Type 0} (s : Empty A E) (l : List (Result A E)) → l ≡ [] → ListsBothEnds (empty_contract {S = Empty A E} {A = A} {E = E}).steps (empty_contract {S = Empty A E} {A = A} {E = E}).steps s l
empty_listed s l is = rw is (lists_both_ends_empty s)
