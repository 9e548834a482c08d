-- What `Interleave` lists.
use Rattle.std.specs.Prelude.{ℕ, zero, suc, ◌≡◌, Bool, true, false, not, List, [], ◌∷◌, ◌++◌, Option, Result, Ok, Err, drop, length, zip}
use Rattle.std.specs.List.{flat_map}
use Rattle.std.proofs.Common.{refl, sym, ap, subst, inl, inr, ◌∙◌}
use Rattle.fallible_iterator.specs.Contract.{Contract, seen_as}
use Rattle.fallible_iterator.specs.Cutting.Fuse.{fuse_parts}
use Rattle.fallible_iterator.specs.Lists.{GivesForGood, Lists, result_answer, ListsForGood}
use Rattle.fallible_iterator.specs.Traces.{Answered, end, is_end}
use Rattle.fallible_iterator.specs.Fuse.{Fuse}
use Rattle.fallible_iterator.proofs.Lemmas.Lists.ForGood.{lists_once, lists_for_good_seen}
use Rattle.fallible_iterator.specs.Interleaved.{Interleaved, interleaved_nil, of_first, of_second}
use Rattle.fallible_itertools_joins.specs.Interleave.{TakesTurn, TakesTurnOf, interleave_contract, interleave_parts, interleaved, turns}
use Rattle.fallible_itertools_joins.specs.Sides.{DrawsIf, fused_contract, join_step}
use Rattle.fallible_itertools_joins.specs.declared.interleave.Interleave.{Interleave}
use Rattle.fallible_itertools_joins.proofs.Lemmas.Sides.{first_answer, answers_first_where_gives_for_good, gives_for_good_of_fresh, gives_for_good_where_each_answers_first, rest_of}

-- ---- the list

module _ {A E : Type 0} where
  -- what is listed where the second list waits, or the first
  abbrev by_turn : Bool → List (Result A E) → List (Result A E) → List (Result A E)
  by_turn false a b = interleaved a b
  by_turn true a b = interleaved b a

  interleaved_with_empty_is_same : (a : List (Result A E)) → interleaved a [] ≡ a
  unfolding interleaved
  interleaved_with_empty_is_same [] = refl
  interleaved_with_empty_is_same (x ∷ a) = refl

  -- after an answer of the first list it is the second one's turn
  interleaved_of_cons_is_first_and_swapped : (x : Result A E) (a b : List (Result A E)) → interleaved (x ∷ a) b ≡ x ∷ interleaved b a
  unfolding interleaved
  interleaved_of_cons_is_first_and_swapped x a [] = refl
  interleaved_of_cons_is_first_and_swapped x [] (y ∷ b) = refl
  interleaved_of_cons_is_first_and_swapped x (z ∷ a) (y ∷ b) = ap {B = List (Result A E)} (λ l. x ∷ y ∷ l) (interleaved_of_cons_is_first_and_swapped z a b)

  drop_of_empty_is_empty : (n : ℕ) → ◌≡◌ {A = List (Result A E)} (drop n []) []
  drop_of_empty_is_empty zero = refl
  drop_of_empty_is_empty (suc n) = refl

  list_is_append_of_empty : (l : List (Result A E)) → l ≡ l ++ []
  list_is_append_of_empty [] = refl
  list_is_append_of_empty (x ∷ l) = ap {B = List (Result A E)} (λ k. x ∷ k) (list_is_append_of_empty l)

  -- Law: `interleaved` takes both lists two by two, the first list's before the second's, and then the rest of the longer one.
  pub interleaved_is_zip_before_dropped : (a b : List (Result A E)) → interleaved a b ≡ flat_map (λ p. p.0 ∷ p.1 ∷ []) (zip a b) ++ (drop (length b) a ++ drop (length a) b)
  unfolding interleaved
  interleaved_is_zip_before_dropped [] b = ap {B = List (Result A E)} (λ l. l ++ b) (sym (drop_of_empty_is_empty (length b)))
  interleaved_is_zip_before_dropped (x ∷ a) [] = list_is_append_of_empty (x ∷ a) ∙ ap {B = List (Result A E)} (λ l. (x ∷ a) ++ l) (sym (drop_of_empty_is_empty (length (x ∷ a))))
  interleaved_is_zip_before_dropped (x ∷ a) (y ∷ b) = ap {B = List (Result A E)} (λ l. x ∷ y ∷ l) (interleaved_is_zip_before_dropped a b)

  interleaved_all_of_first : (a : List (Result A E)) → Interleaved a [] a
  interleaved_all_of_first [] = interleaved_nil
  interleaved_all_of_first (x ∷ a) = of_first x (interleaved_all_of_first a)

  interleaved_all_of_second : (b : List (Result A E)) → Interleaved [] b b
  interleaved_all_of_second [] = interleaved_nil
  interleaved_all_of_second (y ∷ b) = of_second y (interleaved_all_of_second b)

  -- `interleaved` has the answers of both lists, each list's in their order.
  pub interleaved_of_both : (a b : List (Result A E)) → Interleaved a b (interleaved a b)
  unfolding interleaved
  interleaved_of_both [] b = interleaved_all_of_second b
  interleaved_of_both (x ∷ a) [] = interleaved_all_of_first (x ∷ a)
  interleaved_of_both (x ∷ a) (y ∷ b) = of_first x (of_second y (interleaved_of_both a b))

-- ---- what it lists

-- a result is no end
result_is_no_end : {A E : Type 0} (y : Result A E) → result_answer y ≡ end → ⊥
result_is_no_end (Ok x) is = absurd cc
result_is_no_end (Err e) is = absurd cc

module _ {S U A E : Type 0} (steps : S → Answered A E → S → Type 0) (others : U → Answered A E → U → Type 0) where
  -- what is listed after a turn, once it is the other side's
  abbrev LeftAfterTurn : S → U → List (Result A E) → Type 0
  LeftAfterTurn t v l = (c : List (Result A E)) × (d : List (Result A E)) × GivesForGood steps t c × GivesForGood others v d × (interleaved d c ≡ l)

  -- the side whose turn it is yields the answer
  first_by_itself : (r : Answered A E) (s t : S) (u v : U) (a b : List (Result A E)) → GivesForGood steps s a → GivesForGood others u b → steps s r t → v ≡ u → is_end r ≡ false → (r ≡ first_answer (interleaved a b)) × LeftAfterTurn t v (rest_of (interleaved a b))
  unfolding interleaved
  first_by_itself r s t u v [] b i k m n item_or_failure = absurd (let ends = (answers_first_where_gives_for_good steps [] s t r i m).0 in let is : is_end r ≡ true = ap is_end ends in cc)
  first_by_itself r s t u v (z ∷ a) b i k m n item_or_failure = let w = answers_first_where_gives_for_good steps (z ∷ a) s t r i m in let e = interleaved_of_cons_is_first_and_swapped z a b in (w.0 ∙ sym (ap first_answer e), (a, b, w.1, subst (λ (c : U). GivesForGood others c b) (sym n) k, sym (ap rest_of e)))

  -- it ends, and the other side yields the answer
  first_by_other : (r : Answered A E) (s t : S) (u v : U) (a b : List (Result A E)) → GivesForGood steps s a → GivesForGood others u b → steps s end t → others u r v → (r ≡ first_answer (interleaved a b)) × LeftAfterTurn t v (rest_of (interleaved a b))
  unfolding interleaved
  first_by_other r s t u v [] b i k m n = let w = answers_first_where_gives_for_good steps [] s t end i m in let o = answers_first_where_gives_for_good others b u v r k n in (o.0, ([], rest_of b, w.1, o.1, interleaved_with_empty_is_same (rest_of b)))
  first_by_other r s t u v (z ∷ a) b i k m n = let no = (answers_first_where_gives_for_good steps (z ∷ a) s t end i m).0 in absurd (result_is_no_end z (sym no))

  -- one turn of a side that lists a, beside one that lists b
  turn_answers_first_of_interleaved : (x y : Option (Answered A E)) (r : Answered A E) (s t : S) (u v : U) (a b : List (Result A E)) → GivesForGood steps s a → GivesForGood others u b → DrawsIf steps s x t → DrawsIf others u y v → TakesTurn x y r → (r ≡ first_answer (interleaved a b)) × LeftAfterTurn t v (rest_of (interleaved a b))
  turn_answers_first_of_interleaved x y r s t u v a b i k m n w = elim w [
    | inl h ↦ first_by_itself r s t u v a b i k (subst (λ (z : Option (Answered A E)). DrawsIf steps s z t) h.0 m) (subst (λ (z : Option (Answered A E)). DrawsIf others u z v) h.1 n) h.2
    | inr h ↦ first_by_other r s t u v a b i k (subst (λ (z : Option (Answered A E)). DrawsIf steps s z t) h.0 m) (subst (λ (z : Option (Answered A E)). DrawsIf others u z v) h.1 n)
  ]

  -- the sides list a and b, and this is what is listed of both at this turn
  abbrev ListInTurn : S × U × Bool → List (Result A E) → Type 0
  ListInTurn p l = (a : List (Result A E)) × (b : List (Result A E)) × GivesForGood steps p.0 a × GivesForGood others p.1 b × (by_turn p.2 a b ≡ l)

  abbrev TurnStep : S × U × Bool → Answered A E → S × U × Bool → Type 0
  TurnStep = join_step turns steps others

module _ {S U A E : Type 0} (steps : S → Answered A E → S → Type 0) (others : U → Answered A E → U → Type 0) where
  turn_answers_first : (b : Bool) (x y : Option (Answered A E)) (r : Answered A E) (s t : S) (u v : U) (l : List (Result A E)) → ListInTurn steps others (s, u, b) l → DrawsIf steps s x t → DrawsIf others u y v → TakesTurnOf b x y r → (r ≡ first_answer l) × ListInTurn steps others (t, v, not b) (rest_of l)
  turn_answers_first false x y r s t u v l i m n w = let d = turn_answers_first_of_interleaved steps others x y r s t u v i.0 i.1 i.2 i.3 m n w in rw (← i.4) (d.0, d.1)
  turn_answers_first true x y r s t u v l i m n w = let d = turn_answers_first_of_interleaved others steps y x r u v s t i.1 i.0 i.3 i.2 n m w in rw (← i.4) (d.0, (d.1.1, d.1.0, d.1.3, d.1.2, d.1.4))

  step_in_turn_answers_first : (p q : S × U × Bool) (r : Answered A E) (l : List (Result A E)) → ListInTurn steps others p l → TurnStep steps others p r q → (r ≡ first_answer l) × ListInTurn steps others q (rest_of l)
  step_in_turn_answers_first (s, u, b) (t, v, c) r l i (x, y, m, n, w) = rw w.0 (turn_answers_first b x y r s t u v l i m n w.1)

  gives_for_good_in_turn : (s : S) (u : U) (a b : List (Result A E)) → GivesForGood steps s a → GivesForGood others u b → GivesForGood (TurnStep steps others) (s, u, false) (interleaved a b)
  gives_for_good_in_turn s u a b i k = gives_for_good_where_each_answers_first (TurnStep steps others) (ListInTurn steps others) (λ p q r l d w. step_in_turn_answers_first p q r l d w) (interleaved a b) (s, u, false) (a, b, i, k, refl)

module _ {S U A E : Type 0} (left : Contract S A E) (right : Contract U A E) (c : Interleave S U) {p : Fuse S} {q : Fuse U} (s : S) (u : U) (a b : List (Result A E)) where
  pub lists_for_good_interleaved : interleave_parts c ≡ (p, q, false) → fuse_parts p ≡ (s, false) → fuse_parts q ≡ (u, false) → Lists left.steps s a → Lists right.steps u b → ListsForGood (seen_as interleave_parts (interleave_contract (fused_contract left) (fused_contract right))).steps c (interleaved a b)
  lists_for_good_interleaved parts fresh also i k = lists_for_good_seen interleave_parts (interleave_contract (fused_contract left) (fused_contract right)).steps c parts refl (gives_for_good_in_turn (fused_contract left).steps (fused_contract right).steps p q a b (gives_for_good_of_fresh left p s a fresh i) (gives_for_good_of_fresh right q u b also k))

  pub lists_interleaved : interleave_parts c ≡ (p, q, false) → fuse_parts p ≡ (s, false) → fuse_parts q ≡ (u, false) → Lists left.steps s a → Lists right.steps u b → Lists (seen_as interleave_parts (interleave_contract (fused_contract left) (fused_contract right))).steps c (interleaved a b)
  lists_interleaved parts fresh also i k = lists_once _ (lists_for_good_interleaved parts fresh also i k)
