-- What a value lists whose items and failures are exchanged.
use Rattle.std.specs.Prelude.{◌≡◌, Result, Ok, Err, List, [], ◌∷◌, map, reverse}
use Rattle.std.proofs.Common.{refl, sym, ap, subst, ◌∙◌}
use Rattle.fallible_contract.specs.Traces.{Answered}
use Rattle.fallible_contract.specs.Exchange.{exchanged, exchanged_result, steps_exchanged}
use Rattle.fallible_contract.specs.Lists.{AlwaysGives}
use Rattle.fallible_contract.specs.BothEnds.{TakesFirst, ListsBothEnds}
use Rattle.fallible_contract.specs.Laws.Exchange.{exchanged_twice}
use Rattle.fallible_contract.proofs.Lemmas.BothEnds.{takes_first_front, takes_first_back, lists_both_ends_by_draws}
use Rattle.fallible_contract.proofs.Lemmas.BothEnds.Passing.{map-reverse}

answer_is_exchanged_of_exchanged : {A E : Type 0} (r : Answered E A) {a : Answered A E} → exchanged r ≡ a → r ≡ exchanged a
answer_is_exchanged_of_exchanged r e = sym (exchanged_twice r) ∙ ap exchanged e

-- it lists the results exchanged
pub always_gives_exchanged : {S A E : Type 0} (steps : S → Answered A E → S → Type 0) (l : List (Result A E)) (s : S) → AlwaysGives steps s l → AlwaysGives (steps_exchanged steps) s (map exchanged_result l)
always_gives_exchanged steps [] s a = λ r t w. answer_is_exchanged_of_exchanged r (a (exchanged r) t w)
always_gives_exchanged steps (Ok x ∷ l) s a = λ r t w. let h = a (exchanged r) t w in (answer_is_exchanged_of_exchanged r h.0, always_gives_exchanged steps l t h.1)
always_gives_exchanged steps (Err e ∷ l) s a = λ r t w. let h = a (exchanged r) t w in (answer_is_exchanged_of_exchanged r h.0, always_gives_exchanged steps l t h.1)

-- the same from both ends
takes_first_exchanged : {A E : Type 0} {P : List (Result A E) → Type 0} (Q : List (Result E A) → Type 0) → ((k : List (Result A E)) → P k → Q (map exchanged_result k)) → (r : Answered E A) (l : List (Result A E)) → TakesFirst P (exchanged r) l → TakesFirst Q r (map exchanged_result l)
takes_first_exchanged Q rest r [] h = (answer_is_exchanged_of_exchanged r h.0, rest [] h.1)
takes_first_exchanged Q rest r (Ok x ∷ l) h = (answer_is_exchanged_of_exchanged r h.0, rest l h.1)
takes_first_exchanged Q rest r (Err e ∷ l) h = (answer_is_exchanged_of_exchanged r h.0, rest l h.1)

module _ {S A E : Type 0} (front back : S → Answered A E → S → Type 0) where
  abbrev ListsExchanged : S → List (Result E A) → Type 0
  ListsExchanged s k = (l : List (Result A E)) × (k ≡ map exchanged_result l) × ListsBothEnds front back s l

  takes_first_at_front : (s : S) (k : List (Result E A)) → ListsExchanged s k → (r : Answered E A) (t : S) → steps_exchanged front s r t → TakesFirst (λ j. ListsExchanged t j) r k
  takes_first_at_front s k h r t step = subst (λ (j : List (Result E A)). TakesFirst (λ i. ListsExchanged t i) r j) (sym h.1) (takes_first_exchanged (λ j. ListsExchanged t j) (λ j i. (j, refl, i)) r h.0 (takes_first_front h.2 step))

  takes_first_of_reversed_at_back : (s : S) (k : List (Result E A)) → ListsExchanged s k → (r : Answered E A) (t : S) → steps_exchanged back s r t → TakesFirst (λ j. ListsExchanged t (reverse j)) r (reverse k)
  takes_first_of_reversed_at_back s k h r t step = subst (λ (j : List (Result E A)). TakesFirst (λ i. ListsExchanged t (reverse i)) r j) (map-reverse exchanged_result h.0 ∙ ap reverse (sym h.1))
      (takes_first_exchanged (λ j. ListsExchanged t (reverse j)) (λ j i. (reverse j, sym (map-reverse exchanged_result j), i)) r (reverse h.0) (takes_first_back h.2 step))

  pub lists_both_ends_of_exchanged_results : (s : S) (l : List (Result A E)) → ListsBothEnds front back s l → ListsBothEnds (steps_exchanged front) (steps_exchanged back) s (map exchanged_result l)
  lists_both_ends_of_exchanged_results s l i = lists_both_ends_by_draws (steps_exchanged front) (steps_exchanged back) ListsExchanged takes_first_at_front takes_first_of_reversed_at_back s (map exchanged_result l) (l, refl, i)

pub map_exchanged_twice_is_same : {A E : Type 0} (l : List (Result A E)) → map exchanged_result (map exchanged_result l) ≡ l
map_exchanged_twice_is_same [] = refl
map_exchanged_twice_is_same (Ok x ∷ l) = ap {B = List (Result _ _)} (λ k. Ok x ∷ k) (map_exchanged_twice_is_same l)
map_exchanged_twice_is_same (Err e ∷ l) = ap {B = List (Result _ _)} (λ k. Err e ∷ k) (map_exchanged_twice_is_same l)
