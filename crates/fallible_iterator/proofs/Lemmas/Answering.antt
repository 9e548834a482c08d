-- What draws tell of a list, and what they leave of it.
use Rattle.std.specs.Prelude.{◌≡◌, ℕ, zero, suc, ◌-◌, ◌≤◌, List, [], ◌∷◌, ◌++◌, map, length, reverse, take, drop, Result, Ok, Err, ◌⊎◌}
use Rattle.std.proofs.Common.{refl, sym, ◌∙◌, ap, subst, arith, inl, inr}
use Rattle.std.proofs.lemmas.List.{reverse-reverse, reverse-append, take-append-le, length-append, length-reverse}
use Rattle.std.proofs.Math.Seq.{drop-nil, take-length}
use Rattle.fallible_contract.specs.Traces.{Answered, Run}
use Rattle.fallible_contract.specs.ShownTraces.{answer_of, IsAnswers, IsAnswersAt}
use Rattle.fallible_contract.specs.Lists.{AlwaysGives, Lists, result_answer, nth_of, rest_first}
use Rattle.fallible_contract.specs.BothEnds.{step_at, RunAtEnds, ListsBothEnds}
use Rattle.fallible_core.proofs.Lemmas.RestAtEnds.{answers_first_and_lists_rest_at_front, answers_last_and_lists_rest_at_back}
use Rattle.fallible_iterator.specs.Answering.{fronts, backs, told, by_sides, answers_at_ends, rest_ends}
use Rattle.fallible_contract.specs.declared.answers.Answer.{Answer}
use Rattle.fallible_contract.specs.declared.answers.Answer.TheVariants.{End}
use Rattle.fallible_contract.specs.declared.answers.Side.{Side}
use Rattle.fallible_contract.specs.declared.answers.Side.TheVariants.{Front, Back}

module _ {S A E : Type 0} (steps : S → Answered A E → S → Type 0) where
  always_gives_rest_of_list : (trace : List (Answered A E)) (l : List (Result A E)) (s t : S) → AlwaysGives steps s l → Run steps s trace t → length trace ≤ length l → AlwaysGives steps t (drop (length trace) l)
  always_gives_rest_of_list [] l s t a ran within = subst (λ (u : S). AlwaysGives steps u l) ran a
  always_gives_rest_of_list (r ∷ trace) [] s t a ran within = absurd (omega (arith, within))
  always_gives_rest_of_list (r ∷ trace) (y ∷ l) s t a ran within = always_gives_rest_of_list trace l ran.0 t (a r ran.0 ran.1).1 ran.2 (omega (arith, within))

  pub lists_rest_after_answers : {s t : S} {n : ℕ} {values : List (Answer A E)} (l : List (Result A E)) → IsAnswers steps s n values t → n ≤ length l → Lists steps s l → Lists steps t (drop n l)
  lists_rest_after_answers {s} {t} {n} l p within i = record { runs = subst (λ (k : ℕ). AlwaysGives steps t (drop k l)) p.count (always_gives_rest_of_list p.trace l s t i.runs p.ran (let c = p.count in omega (arith, c, within))) }

-- ---- sides

-- the answer of one draw at a side of a list: its first at the front, its last at the back, and an end where it is empty
abbrev answer_of_side : {A E : Type 0} → Side → List (Result A E) → Answer A E
answer_of_side Front l = answer_of (nth_of 0 l)
answer_of_side Back l = answer_of (nth_of 0 (reverse l))

-- what such a draw leaves: the list without its first, or without its last
abbrev rest_after_side : {A E : Type 0} → Side → List (Result A E) → List (Result A E)
rest_after_side Front l = rest_first l
rest_after_side Back l = reverse (rest_first (reverse l))

module _ {A E : Type 0} where
  -- a list is empty, or has a last
  nil_or_last : (l : List (Result A E)) → (l ≡ []) ⊎ ((k : List (Result A E)) × (y : Result A E) × (l ≡ k ++ y ∷ []))
  nil_or_last l = nil_or_last_by_reversed (reverse l) refl
    where
      nil_or_last_by_reversed : (r : List (Result A E)) → reverse l ≡ r → (l ≡ []) ⊎ ((k : List (Result A E)) × (y : Result A E) × (l ≡ k ++ y ∷ []))
      nil_or_last_by_reversed [] e = inl (sym (reverse-reverse l) ∙ ap reverse e)
      nil_or_last_by_reversed (y ∷ k) e = inr (reverse k, y, sym (reverse-reverse l) ∙ ap reverse e ∙ reverse-append (y ∷ []) k)

  told-append : (a b : List (Result A E)) → told (a ++ b) ≡ told a ++ told b
  unfolding told
  told-append [] b = refl
  told-append (y ∷ a) b = ap (λ l. answer_of (result_answer y) ∷ l) (told-append a b)

  told-length : (a : List (Result A E)) → length (told a) ≡ length a
  unfolding told
  told-length [] = refl
  told-length (y ∷ a) = ap suc (told-length a)

  -- more values after a list from which no more are taken than it has
  by_sides_ignores_back_surplus : (sides : List Side) (a b c : List (Answer A E)) → backs sides ≤ length b → by_sides sides a (b ++ c) ≡ by_sides sides a b
  unfolding by_sides
  by_sides_ignores_back_surplus [] a b c few = refl
  by_sides_ignores_back_surplus (Front ∷ sides) [] b c few = ap (λ l. End ∷ l) (by_sides_ignores_back_surplus sides [] b c (omega (arith, few)))
  by_sides_ignores_back_surplus (Front ∷ sides) (x ∷ a) b c few = ap (λ l. x ∷ l) (by_sides_ignores_back_surplus sides a b c (omega (arith, few)))
  by_sides_ignores_back_surplus (Back ∷ sides) a [] c few = absurd (omega (arith, few))
  by_sides_ignores_back_surplus (Back ∷ sides) a (x ∷ b) c few = ap (λ l. x ∷ l) (by_sides_ignores_back_surplus sides a b c (omega (arith, few)))

  by_sides_ignores_front_surplus : (sides : List Side) (a b c : List (Answer A E)) → fronts sides ≤ length a → by_sides sides (a ++ c) b ≡ by_sides sides a b
  unfolding by_sides
  by_sides_ignores_front_surplus [] a b c few = refl
  by_sides_ignores_front_surplus (Back ∷ sides) a [] c few = ap (λ l. End ∷ l) (by_sides_ignores_front_surplus sides a [] c (omega (arith, few)))
  by_sides_ignores_front_surplus (Back ∷ sides) a (x ∷ b) c few = ap (λ l. x ∷ l) (by_sides_ignores_front_surplus sides a b c (omega (arith, few)))
  by_sides_ignores_front_surplus (Front ∷ sides) [] b c few = absurd (omega (arith, few))
  by_sides_ignores_front_surplus (Front ∷ sides) (x ∷ a) b c few = ap (λ l. x ∷ l) (by_sides_ignores_front_surplus sides a b c (omega (arith, few)))

fronts_of_take_at_most_number : (n : ℕ) (sides : List Side) → fronts (take n sides) ≤ n
fronts_of_take_at_most_number zero sides = omega arith
fronts_of_take_at_most_number (suc n) [] = omega arith
fronts_of_take_at_most_number (suc n) (Front ∷ sides) = let h = fronts_of_take_at_most_number n sides in omega (arith, h)
fronts_of_take_at_most_number (suc n) (Back ∷ sides) = let h = fronts_of_take_at_most_number n sides in omega (arith, h)

backs_of_take_at_most_number : (n : ℕ) (sides : List Side) → backs (take n sides) ≤ n
backs_of_take_at_most_number zero sides = omega arith
backs_of_take_at_most_number (suc n) [] = omega arith
backs_of_take_at_most_number (suc n) (Front ∷ sides) = let h = backs_of_take_at_most_number n sides in omega (arith, h)
backs_of_take_at_most_number (suc n) (Back ∷ sides) = let h = backs_of_take_at_most_number n sides in omega (arith, h)

suc_minus_is_suc_or_both_zero : (b n : ℕ) → (suc n - b ≡ suc (n - b)) ⊎ ((suc n - b ≡ 0) × (n - b ≡ 0))
suc_minus_is_suc_or_both_zero zero n = inl (omega arith)
suc_minus_is_suc_or_both_zero (suc b) zero = inr (omega arith, omega arith)
suc_minus_is_suc_or_both_zero (suc b) (suc n) = elim (suc_minus_is_suc_or_both_zero b n) [ inl e ↦ inl (omega (arith, e)) | inr e ↦ inr (omega (arith, e.0), omega (arith, e.1)) ]

-- ---- one draw more

module _ {A E : Type 0} where
  answer_of_nth_of_zero_is_of_first : (y : Result A E) (l : List (Result A E)) → answer_of (nth_of 0 (y ∷ l)) ≡ answer_of (result_answer y)
  unfolding nth_of
  answer_of_nth_of_zero_is_of_first (Ok x) l = refl
  answer_of_nth_of_zero_is_of_first (Err e) l = refl

  -- the answers of one side more
  answers_at_ends_front : (sides : List Side) (y : Result A E) (l : List (Result A E)) → answers_at_ends (Front ∷ sides) (y ∷ l) ≡ answer_of (result_answer y) ∷ answers_at_ends sides l
  unfolding answers_at_ends by_sides told
  answers_at_ends_front sides y l =
      let few : backs (take (length l) sides) ≤ length (told (reverse l)) = (let h = backs_of_take_at_most_number (length l) sides in let e = told-length (reverse l) in let r = length-reverse l in omega (arith, h, e, r)) in
      ap (λ k. answer_of (result_answer y) ∷ (k ++ map (λ _. End) (drop (length l) sides)))
      (ap (by_sides (take (length l) sides) (told l)) (ap told (reverse-append (y ∷ []) l) ∙ told-append (reverse l) (y ∷ []))
      ∙ by_sides_ignores_back_surplus (take (length l) sides) (told l) (told (reverse l)) (told (y ∷ [])) few)

  answers_at_ends_back : (sides : List Side) (k : List (Result A E)) (y : Result A E) → answers_at_ends (Back ∷ sides) (k ++ y ∷ []) ≡ answer_of (result_answer y) ∷ answers_at_ends sides k
  unfolding answers_at_ends by_sides told
  answers_at_ends_back sides k y =
      let len : length (k ++ y ∷ []) ≡ suc (length k) = omega (arith, length-append k (y ∷ [])) in
      let few : fronts (take (length k) sides) ≤ length (told k) = (let h = fronts_of_take_at_most_number (length k) sides in let e = told-length k in omega (arith, h, e)) in
      ap (λ n. by_sides (take n (Back ∷ sides)) (told (k ++ y ∷ [])) (told (reverse (k ++ y ∷ []))) ++ map (λ _. End) (drop n (Back ∷ sides))) len
      ∙ ap (λ b. by_sides (Back ∷ take (length k) sides) (told (k ++ y ∷ [])) (told b) ++ map (λ _. End) (drop (length k) sides)) (reverse-append k (y ∷ []))
      ∙ ap (λ a. answer_of (result_answer y) ∷ (by_sides (take (length k) sides) a (told (reverse k)) ++ map (λ _. End) (drop (length k) sides))) (told-append k (y ∷ []))
      ∙ ap (λ b. answer_of (result_answer y) ∷ (b ++ map (λ _. End) (drop (length k) sides))) (by_sides_ignores_front_surplus (take (length k) sides) (told k) (told (reverse k)) (told (y ∷ [])) few)

  drop_take_cons : (i : ℕ) (y : Result A E) (l : List (Result A E)) (m n : ℕ) → (m ≡ suc n) ⊎ ((m ≡ 0) × (n ≡ 0)) → drop (suc i) (take m (y ∷ l)) ≡ drop i (take n l)
  drop_take_cons i y l m n (inl more) = ap (λ k. drop (suc i) (take k (y ∷ l))) more
  drop_take_cons i y l m n (inr none) = ap (λ k. drop (suc i) (take k (y ∷ l))) none.0 ∙ sym (drop-nil i) ∙ sym (ap (λ k. drop i (take k l)) none.1)

  -- what one side more leaves
  rest_ends_front : (sides : List Side) (y : Result A E) (l : List (Result A E)) → rest_ends (Front ∷ sides) (y ∷ l) ≡ rest_ends sides l
  unfolding rest_ends
  rest_ends_front sides y l = drop_take_cons (fronts sides) y l (suc (length l) - backs sides) (length l - backs sides) (suc_minus_is_suc_or_both_zero (backs sides) (length l))

  rest_ends_back : (sides : List Side) (k : List (Result A E)) (y : Result A E) → rest_ends (Back ∷ sides) (k ++ y ∷ []) ≡ rest_ends sides k
  unfolding rest_ends
  rest_ends_back sides k y =
      let less : length (k ++ y ∷ []) - suc (backs sides) ≡ length k - backs sides = (let e = length-append k (y ∷ []) in omega (arith, e)) in
      ap (λ n. drop (fronts sides) (take n (k ++ y ∷ []))) less
      ∙ ap (drop (fronts sides)) (take-append-le (length k - backs sides) k (y ∷ []) (omega arith))

  drop_take_nil : (i n : ℕ) → ◌≡◌ {A = List (Result A E)} (drop i (take n [])) []
  drop_take_nil i zero = drop-nil i
  drop_take_nil i (suc n) = drop-nil i

  -- what is drawn at the back of a list with a last
  answer_and_rest_at_back : (k : List (Result A E)) (y : Result A E) → (answer_of_side Back (k ++ y ∷ []) ≡ answer_of (result_answer y)) × (rest_after_side Back (k ++ y ∷ []) ≡ k)
  unfolding rest_first
  answer_and_rest_at_back k y = let last = reverse-append k (y ∷ []) in
      (ap (λ l. answer_of (nth_of 0 l)) last ∙ answer_of_nth_of_zero_is_of_first y (reverse k), ap (λ l. reverse (rest_first l)) last ∙ reverse-reverse k)

  answers_at_ends_nil : (l : List (Result A E)) → [] ≡ answers_at_ends [] l
  unfolding answers_at_ends by_sides
  answers_at_ends_nil [] = refl
  answers_at_ends_nil (y ∷ l) = refl

  rest_ends_nil : (l : List (Result A E)) → rest_ends [] l ≡ l
  unfolding rest_ends
  rest_ends_nil l = let all : length l - 0 ≡ length l = omega arith in ap (λ n. take n l) all ∙ take-length l

  abbrev AnswersAfterOneSide : Side → List Side → List (Result A E) → Type 0
  AnswersAfterOneSide side sides l = (answers_at_ends (side ∷ sides) l ≡ answer_of_side side l ∷ answers_at_ends sides (rest_after_side side l)) × (rest_ends (side ∷ sides) l ≡ rest_ends sides (rest_after_side side l))

  answers_after_one_side_of_nil : (side : Side) (sides : List Side) → AnswersAfterOneSide side sides []
  unfolding answers_at_ends rest_ends nth_of rest_first by_sides told
  answers_after_one_side_of_nil Front sides = (refl, drop_take_nil (suc (fronts sides)) (0 - backs sides) ∙ sym (drop_take_nil (fronts sides) (0 - backs sides)))
  answers_after_one_side_of_nil Back sides = (refl, drop_take_nil (fronts sides) (0 - suc (backs sides)) ∙ sym (drop_take_nil (fronts sides) (0 - backs sides)))

  -- a side more is one draw and then the others, whatever the list
  one_more : (side : Side) (sides : List Side) (l : List (Result A E)) → AnswersAfterOneSide side sides l
  unfolding rest_first
  one_more Front sides [] = answers_after_one_side_of_nil Front sides
  one_more Front sides (y ∷ l) = (answers_at_ends_front sides y l ∙ ap (λ a. a ∷ answers_at_ends sides l) (sym (answer_of_nth_of_zero_is_of_first y l)), rest_ends_front sides y l)
  one_more Back sides l = elim (nil_or_last l) [
    | inl none ↦ subst (AnswersAfterOneSide Back sides) (sym none) (answers_after_one_side_of_nil Back sides)
    | inr s ↦ let d = answer_and_rest_at_back s.0 s.1 in subst (AnswersAfterOneSide Back sides) (sym s.2) (answers_at_ends_back sides s.0 s.1 ∙ ap (λ a. a ∷ answers_at_ends sides s.0) (sym d.0) ∙ ap (λ k. answer_of_side Back (s.0 ++ s.1 ∷ []) ∷ answers_at_ends sides k) (sym d.1), rest_ends_back sides s.0 s.1 ∙ ap (rest_ends sides) (sym d.1))
  ]

module _ {S A E : Type 0} (front back : S → Answered A E → S → Type 0) where
  answer_and_rest_at_side : (side : Side) (s t : S) (r : Answered A E) (l : List (Result A E)) → ListsBothEnds front back s l → step_at front back side s r t → (answer_of r ≡ answer_of_side side l) × ListsBothEnds front back t (rest_after_side side l)
  answer_and_rest_at_side Front s t r l i step = let d = answers_first_and_lists_rest_at_front l i step in (ap answer_of d.0, d.1)
  answer_and_rest_at_side Back s t r l i step = let d = answers_last_and_lists_rest_at_back l i step in (ap answer_of d.0, d.1)

  run_at_ends_gives_answers_at_ends : (pairs : List (Side × Answered A E)) (l : List (Result A E)) (s t : S) → ListsBothEnds front back s l → RunAtEnds front back s pairs t → (map (λ p. answer_of p.1) pairs ≡ answers_at_ends (map (λ p. p.0) pairs) l) × ListsBothEnds front back t (rest_ends (map (λ p. p.0) pairs) l)
  run_at_ends_gives_answers_at_ends [] l s t i ran = (answers_at_ends_nil l, subst (λ (u : S). ListsBothEnds front back u (rest_ends [] l)) ran (subst (λ (k : List (Result A E)). ListsBothEnds front back s k) (sym (rest_ends_nil l)) i))
  run_at_ends_gives_answers_at_ends (p ∷ pairs) l s t i ran = let d = answer_and_rest_at_side p.0 s ran.0 p.1 l i ran.1 in let rest = run_at_ends_gives_answers_at_ends pairs (rest_after_side p.0 l) ran.0 t d.1 ran.2 in let more = one_more p.0 (map (λ q. q.0) pairs) l in
      (ap (λ a. a ∷ map (λ q. answer_of q.1) pairs) d.0 ∙ ap (λ k. answer_of_side p.0 l ∷ k) rest.0 ∙ sym more.0, subst (λ (k : List (Result A E)). ListsBothEnds front back t k) (sym more.1) rest.1)

  pub values_are_answers_at_ends : {s t : S} {sides : List Side} {values : List (Answer A E)} (l : List (Result A E)) → IsAnswersAt front back s sides values t → ListsBothEnds front back s l → (values ≡ answers_at_ends sides l) × ListsBothEnds front back t (rest_ends sides l)
  values_are_answers_at_ends {s} {t} {sides} l p i = let d = run_at_ends_gives_answers_at_ends p.pairs l s t i p.ran in
      (p.values_are ∙ d.0 ∙ ap (λ (k : List Side). answers_at_ends k l) p.sides_are, subst (λ (k : List Side). ListsBothEnds front back t (rest_ends k l)) p.sides_are d.1)
