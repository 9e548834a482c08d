-- What a std iterator lists from both ends whose state shows the list of what is left.
use Rattle.std.specs.Prelude.{◌≡◌, Option, Some, None, Result, Ok, List, [], ◌∷◌, map, reverse}
use Rattle.std.proofs.Common.{refl, sym, ap, subst, ◌∙◌}
use Rattle.std.proofs.lemmas.List.{reverse-append, reverse-reverse}
use Rattle.std.specs.Iterator.{YieldsFirst, YieldsLast}
use Rattle.fallible_contract.specs.Traces.{Answered}
use Rattle.fallible_contract.specs.Lists.{result_answer}
use Rattle.fallible_contract.specs.BothEnds.{TakesFirst, ListsBothEnds}
use Rattle.fallible_contract.proofs.Lemmas.BothEnds.{lists_both_ends_by_swapping}
use Rattle.fallible_contract.proofs.Lemmas.BothEnds.Passing.{map-reverse}
use Rattle.fallible_iterator.specs.Sources.Std.{std_element}

module _ {S A E Z : Type 0} (of_item : A → Z) (of_failure : E → Z) (rest : S → List Z) (to : Z → Result A E)
    (answered : (r : Answered A E) (z : Z) → std_element of_item of_failure r ≡ Some z → r ≡ result_answer (to z)) (none : (r : Answered A E) → std_element of_item of_failure r ≡ None → r ≡ Ok None) where
  -- one call that returns an element, or none where nothing is left
  takes_first_of_results : (o : Option Z) (r : Answered A E) (xs ys : List Z) → std_element of_item of_failure r ≡ o → (o ≡ None → (xs ≡ []) × (ys ≡ [])) → ((z : Z) → o ≡ Some z → xs ≡ z ∷ ys) → TakesFirst (λ k. k ≡ map to ys) r (map to xs)
  takes_first_of_results None r xs ys is ends gives = let left = ends refl in subst (λ (l : List Z). TakesFirst (λ k. k ≡ map to ys) r (map to l)) (sym left.0) (none r is, ap (map to) (sym left.1))
  takes_first_of_results (Some z) r xs ys is ends gives = subst (λ (l : List Z). TakesFirst (λ k. k ≡ map to ys) r (map to l)) (sym (gives z refl)) (answered r z is, refl)

module _ {S Z : Type 0} (rest : S → List Z) where
  rest_nil_at_front : (s t : S) (o : Option Z) → YieldsFirst rest s o t → o ≡ None → (rest s ≡ []) × (rest t ≡ [])
  rest_nil_at_front s t None h e = h
  rest_nil_at_front s t (Some z) h e = absurd cc

  rest_cons_at_front : (s t : S) (o : Option Z) → YieldsFirst rest s o t → (z : Z) → o ≡ Some z → rest s ≡ z ∷ rest t
  rest_cons_at_front s t None h z e = absurd cc
  rest_cons_at_front s t (Some y) h z e = let same : y ≡ z = cc in subst (λ (x : Z). rest s ≡ x ∷ rest t) same h

  rest_nil_at_back : (s t : S) (o : Option Z) → YieldsLast rest s o t → o ≡ None → (reverse (rest s) ≡ []) × (reverse (rest t) ≡ [])
  rest_nil_at_back s t None h e = (ap reverse h.0, ap reverse h.1)
  rest_nil_at_back s t (Some z) h e = absurd cc

  rest_cons_at_back : (s t : S) (o : Option Z) → YieldsLast rest s o t → (z : Z) → o ≡ Some z → reverse (rest s) ≡ z ∷ reverse (rest t)
  rest_cons_at_back s t None h z e = absurd cc
  rest_cons_at_back s t (Some y) h z e = let same : y ≡ z = cc in subst (λ (x : Z). reverse (rest s) ≡ x ∷ reverse (rest t)) same (ap reverse h ∙ reverse-append (rest t) (y ∷ []))

-- Where a call of `next` returns the first of what is left, and one of `next_back` the last, what is left is what both ends list.
module _ {S A E Z : Type 0} (of_item : A → Z) (of_failure : E → Z) (next next_back : S → Option Z → S → Type 0) (rest : S → List Z) (to : Z → Result A E)
    (answered : (r : Answered A E) (z : Z) → std_element of_item of_failure r ≡ Some z → r ≡ result_answer (to z)) (none : (r : Answered A E) → std_element of_item of_failure r ≡ None → r ≡ Ok None)
    (first : (s : S) (o : Option Z) (t : S) → next s o t → YieldsFirst rest s o t) (last : (s : S) (o : Option Z) (t : S) → next_back s o t → YieldsLast rest s o t) where
  abbrev front_step : S → Answered A E → S → Type 0
  front_step s r t = next s (std_element of_item of_failure r) t

  abbrev back_step : S → Answered A E → S → Type 0
  back_step s r t = next_back s (std_element of_item of_failure r) t

  takes_first_front : (s : S) (l : List (Result A E)) → l ≡ map to (rest s) → (r : Answered A E) (t : S) → front_step s r t → TakesFirst (λ k. k ≡ map to (rest t)) r l
  takes_first_front s l is r t step = let o = std_element of_item of_failure r in subst (λ (k : List (Result A E)). TakesFirst (λ j. j ≡ map to (rest t)) r k) (sym is)
      (takes_first_of_results of_item of_failure rest to answered none o r (rest s) (rest t) refl (rest_nil_at_front rest s t o (first s o t step)) (rest_cons_at_front rest s t o (first s o t step)))

  takes_first_back : (s : S) (l : List (Result A E)) → l ≡ map to (reverse (rest s)) → (r : Answered A E) (t : S) → back_step s r t → TakesFirst (λ k. k ≡ map to (reverse (rest t))) r l
  takes_first_back s l is r t step = let o = std_element of_item of_failure r in subst (λ (k : List (Result A E)). TakesFirst (λ j. j ≡ map to (reverse (rest t))) r k) (sym is)
      (takes_first_of_results of_item of_failure rest to answered none o r (reverse (rest s)) (reverse (rest t)) refl (rest_nil_at_back rest s t o (last s o t step)) (rest_cons_at_back rest s t o (last s o t step)))

  pub lists_both_ends_rest : (s : S) → ListsBothEnds front_step back_step s (map to (rest s))
  lists_both_ends_rest s = lists_both_ends_by_swapping front_step back_step (λ t k. k ≡ map to (rest t)) (λ t k. k ≡ map to (reverse (rest t)))
      (λ t k is. ap reverse is ∙ sym (map-reverse to (rest t)))
      (λ t k is. ap reverse is ∙ sym (map-reverse to (reverse (rest t))) ∙ ap (map to) (reverse-reverse (rest t)))
      takes_first_front takes_first_back s (map to (rest s)) refl
