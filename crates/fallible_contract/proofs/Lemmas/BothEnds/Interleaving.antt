-- The law of interleaving: what came from both ends, and what is left, make the list.
use Rattle.std.specs.Prelude.{◌≡◌, Result, Ok, Err, List, [], ◌∷◌, ◌++◌, reverse}
use Rattle.std.proofs.Common.{refl, sym, ap, subst, ◌∙◌, append_assoc}
use Rattle.std.proofs.lemmas.List.{append-nil, reverse-append, reverse-reverse}
use Rattle.fallible_contract.specs.Traces.{Answered, end}
use Rattle.fallible_contract.specs.Lists.{result_answer}
use Rattle.fallible_contract.specs.BothEnds.{TakesFirst, ListsBothEnds, step_at, RunAtEnds, answer_came, came_from_front, came_from_back, Interleaves}
use Rattle.fallible_contract.proofs.Lemmas.BothEnds.{takes_first_front, takes_first_back}
use Rattle.fallible_contract.specs.declared.answers.Side.{Side}
use Rattle.fallible_contract.specs.declared.answers.Side.TheVariants.{Front, Back}

module _ {A E : Type 0} where
  -- an answer that isn't an end came before the others
  answer_came_of_result_is_cons : (y : Result A E) (r : Answered A E) (m : List (Result A E)) → r ≡ result_answer y → answer_came r m ≡ y ∷ m
  answer_came_of_result_is_cons (Ok x) r m e = ap (λ q. answer_came q m) e
  answer_came_of_result_is_cons (Err d) r m e = ap (λ q. answer_came q m) e

  result_answer_never_end : (y : Result A E) → result_answer y ≡ end → ⊥
  result_answer_never_end (Ok x) e = absurd cc
  result_answer_never_end (Err d) e = absurd cc

  -- the answer of one draw, before what comes from the front later, and before what comes from the back later
  abbrev with_front : Side → Answered A E → List (Result A E) → List (Result A E)
  with_front Front r m = answer_came r m
  with_front Back r m = m

  abbrev with_back : Side → Answered A E → List (Result A E) → List (Result A E)
  with_back Front r n = n
  with_back Back r n = answer_came r n

  came_from_front_of_cons_is_with_front : (side : Side) (r : Answered A E) (drawn : List (Side × Answered A E)) → with_front side r (came_from_front drawn) ≡ came_from_front ((side, r) ∷ drawn)
  came_from_front_of_cons_is_with_front Front r drawn = refl
  came_from_front_of_cons_is_with_front Back r drawn = refl

  came_from_back_of_cons_is_with_back : (side : Side) (r : Answered A E) (drawn : List (Side × Answered A E)) → with_back side r (came_from_back drawn) ≡ came_from_back ((side, r) ∷ drawn)
  came_from_back_of_cons_is_with_back Front r drawn = refl
  came_from_back_of_cons_is_with_back Back r drawn = refl

  -- What one draw took from the list l: what makes the rest makes l with its answer, and only the empty list yields an end.
  record OneTaken (l : List (Result A E)) (side : Side) (r : Answered A E) (rest : List (Result A E)) : Type 0 where
    makes : (m w n : List (Result A E)) → rest ≡ m ++ w ++ reverse n → l ≡ with_front side r m ++ w ++ reverse (with_back side r n)
    at_end : r ≡ end → l ≡ []

  one_taken_of_nil_by_end : (l : List (Result A E)) (side : Side) (r : Answered A E) → l ≡ [] → r ≡ end → OneTaken l side r []
  one_taken_of_nil_by_end l Front r empty e = record { makes = λ m w n k. empty ∙ k ∙ ap (λ q. answer_came q m ++ w ++ reverse n) (sym e); at_end = λ d. empty }
  one_taken_of_nil_by_end l Back r empty e = record { makes = λ m w n k. empty ∙ k ∙ ap (λ q. m ++ w ++ reverse (answer_came q n)) (sym e); at_end = λ d. empty }

  one_taken_at_front : (y : Result A E) (l : List (Result A E)) (r : Answered A E) → r ≡ result_answer y → OneTaken (y ∷ l) Front r l
  one_taken_at_front y l r e = record {
    makes = λ m w n k. ap {B = List (Result A E)} (λ j. y ∷ j) k ∙ ap (λ j. j ++ w ++ reverse n) (sym (answer_came_of_result_is_cons y r m e));
    at_end = λ d. absurd (result_answer_never_end y (sym e ∙ d));
  }

  one_taken_at_back : (l : List (Result A E)) (y : Result A E) (k : List (Result A E)) (r : Answered A E) → l ≡ reverse (y ∷ k) → r ≡ result_answer y → OneTaken l Back r (reverse k)
  one_taken_at_back l y k r at e = record {
    makes = λ m w n is. at ∙ reverse-append (y ∷ []) k ∙ ap (λ j. j ++ y ∷ []) is ∙ append_assoc (m ++ w) (reverse n) (y ∷ []) ∙ ap (λ j. m ++ w ++ j) (sym (reverse-append (y ∷ []) n)) ∙ ap (λ j. m ++ w ++ reverse j) (sym (answer_came_of_result_is_cons y r n e));
    at_end = λ d. absurd (result_answer_never_end y (sym e ∙ d));
  }

module _ {S A E : Type 0} (front back : S → Answered A E → S → Type 0) where
  -- what one draw leaves of the list
  abbrev LeavesAtSide : S → List (Result A E) → Side → Answered A E → Type 0
  LeavesAtSide t l side r = (rest : List (Result A E)) × ListsBothEnds front back t rest × OneTaken l side r rest

  leaves_at_front_side : (t : S) (r : Answered A E) (l : List (Result A E)) → TakesFirst (λ k. ListsBothEnds front back t k) r l → LeavesAtSide t l Front r
  leaves_at_front_side t r [] h = ([], h.1, one_taken_of_nil_by_end [] Front r refl h.0)
  leaves_at_front_side t r (y ∷ l) h = (l, h.1, one_taken_at_front y l r h.0)

  leaves_at_back_side : (t : S) (r : Answered A E) (l k : List (Result A E)) → l ≡ reverse k → TakesFirst (λ j. ListsBothEnds front back t (reverse j)) r k → LeavesAtSide t l Back r
  leaves_at_back_side t r l [] at h = ([], h.1, one_taken_of_nil_by_end l Back r at h.0)
  leaves_at_back_side t r l (y ∷ k) at h = (reverse k, h.1, one_taken_at_back l y k r at h.0)

  leaves_at_each_side : (side : Side) (s t : S) (r : Answered A E) (l : List (Result A E)) → ListsBothEnds front back s l → step_at front back side s r t → LeavesAtSide t l side r
  leaves_at_each_side Front s t r l i step = leaves_at_front_side t r l (takes_first_front i step)
  leaves_at_each_side Back s t r l i step = leaves_at_back_side t r l (reverse l) (sym (reverse-reverse l)) (takes_first_back i step)

  nil_never_append_of_cons : (before after : List (Side × Answered A E)) (d : Side × Answered A E) → [] ≡ before ++ d ∷ after → ⊥
  nil_never_append_of_cons [] after d e = absurd cc
  nil_never_append_of_cons (c ∷ before) after d e = absurd cc

  -- where an end was returned, later or at once, nothing was left
  list_is_came_from_ends_where_ended : (l rest : List (Result A E)) (side : Side) (r : Answered A E) (drawn : List (Side × Answered A E)) → OneTaken l side r rest
      → ((before after : List (Side × Answered A E)) (at : Side) → drawn ≡ before ++ (at, end) ∷ after → rest ≡ came_from_front before ++ reverse (came_from_back before))
      → (before after : List (Side × Answered A E)) (at : Side) → (side, r) ∷ drawn ≡ before ++ (at, end) ∷ after → l ≡ came_from_front before ++ reverse (came_from_back before)
  list_is_came_from_ends_where_ended l rest side r drawn one later [] after at e = let same : (side, r) ≡ (at, end) = cc in one.at_end (ap (λ (d : Side × Answered A E). d.1) same)
  list_is_came_from_ends_where_ended l rest side r drawn one later (d ∷ before) after at e =
      let same : (side, r) ≡ d = cc in
      let others : drawn ≡ before ++ (at, end) ∷ after = cc in
      let made = one.makes (came_from_front before) [] (came_from_back before) (later before after at others ∙ ap (λ j. j ++ reverse (came_from_back before)) (sym (append-nil (came_from_front before)))) in
      subst (λ (c : Side × Answered A E). l ≡ came_from_front (c ∷ before) ++ reverse (came_from_back (c ∷ before))) same
      (made ∙ ap (λ j. j ++ reverse (with_back side r (came_from_back before))) (append-nil (with_front side r (came_from_front before))) ∙ ap (λ j. j ++ reverse (with_back side r (came_from_back before))) (came_from_front_of_cons_is_with_front side r before) ∙ ap (λ j. came_from_front ((side, r) ∷ before) ++ reverse j) (came_from_back_of_cons_is_with_back side r before))

  interleaves_by_draws : (drawn : List (Side × Answered A E)) (s t : S) (l : List (Result A E)) → ListsBothEnds front back s l → RunAtEnds front back s drawn t → Interleaves front back l drawn t
  interleaves_by_draws [] s t l i mixed = record { after = l; lists_after = subst (λ (u : S). ListsBothEnds front back u l) mixed i; makes = sym (append-nil l); lists_before_end = λ before after side e. absurd (nil_never_append_of_cons before after (side, end) e) }
  interleaves_by_draws ((side, r) ∷ drawn) s t l i mixed =
      let one = leaves_at_each_side side s mixed.0 r l i mixed.1 in
      let rest = interleaves_by_draws drawn mixed.0 t one.0 one.1 mixed.2 in
      record {
        after = rest.after;
        lists_after = rest.lists_after;
        makes = one.2.makes (came_from_front drawn) rest.after (came_from_back drawn) rest.makes ∙ ap (λ j. j ++ rest.after ++ reverse (with_back side r (came_from_back drawn))) (came_from_front_of_cons_is_with_front side r drawn) ∙ ap (λ j. came_from_front ((side, r) ∷ drawn) ++ rest.after ++ reverse j) (came_from_back_of_cons_is_with_back side r drawn);
        lists_before_end = list_is_came_from_ends_where_ended l one.0 side r drawn one.2 rest.lists_before_end;
      }

-- Draws from both ends of what lists l interleave l.
pub interleaves_of_run_at_ends : {S A E : Type 0} {front back : S → Answered A E → S → Type 0} {s t : S} {l : List (Result A E)} (drawn : List (Side × Answered A E)) → ListsBothEnds front back s l → RunAtEnds front back s drawn t → Interleaves front back l drawn t
interleaves_of_run_at_ends {front = front} {back = back} {s = s} {t = t} {l = l} drawn i mixed = interleaves_by_draws front back drawn s t l i mixed
