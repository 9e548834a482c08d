-- Loops by hand over draws from both ends: what their invariants say, and what each draw makes of it.
use Rattle.std.specs.Prelude.{◌≡◌, ℕ, ◌+◌, List, [], ◌∷◌, ◌++◌, reverse, Result, Some, None, Ok}
use Rattle.std.proofs.Common.{sym, ap, ◌∙◌, arith}
use Rattle.std.proofs.lemmas.List.{reverse-reverse, reverse-append}
use Rattle.fallible_contract.specs.Traces.{Answered}
use Rattle.fallible_contract.specs.Contract.{Contract, Stays}
use Rattle.fallible_contract.specs.Ends.{Ends, LawfulEnds, from_front, from_back}
use Rattle.fallible_contract.specs.Lists.{result_answer}
use Rattle.fallible_contract.specs.BothEnds.{TakesFirst, ListsBothEnds}
use Rattle.fallible_contract.proofs.Lemmas.BothEnds.{takes_first_front, takes_first_back}
use Rattle.fallible_core.proofs.Lemmas.Joining.Chain.{item_not_end}
use Rattle.fallible_iterator.proofs.Lemmas.Ends.{result_answer_injective}
use Rattle.fallible_iterator.proofs.Lemmas.Loops.{CountsDown}

module _ {S A E R : Type 0} where
  -- What `of_whole` makes of the whole that s0 lists from both ends is what `of_rest` makes of the rest that s lists.
  pub record AnswersFromBetweenEnds (front back : S → Answered A E → S → Type 0) (of_whole : List (Result A E) → R) (s0 : S) (of_rest : List (Result A E) → R) (s : S) : Type 0 where
    pub at : (whole : List (Result A E)) → ListsBothEnds front back s0 whole → (rest : List (Result A E)) × ListsBothEnds front back s rest × (of_whole whole ≡ of_rest rest)

-- An item from the front and a draw from the back count the number down by one.
pub counts_down_after_turn : {S A E : Type 0} {m : Contract S A E} {e : Ends S A E} {s t u : S} {x : A} {left less : ℕ} → LawfulEnds m e → CountsDown (from_front m e) s left → m.steps s (Ok (Some x)) t → Stays (from_back m e) t u → less + 1 ≡ left → CountsDown (from_front m e) u less
counts_down_after_turn {m = m} {s = s} {t = t} {x = x} law counts step stays one =
    let n = counts.1 in
    let fewer = (law.front.kept_by_draw s (Ok (Some x)) t counts.0 step).answer.1 n.0 n.1 in
    let still = stays.bound fewer.0 fewer.1 in
    let within = n.2 in let j = fewer.2 in let k = still.2 in (stays.can_next, (still.0, still.1, omega (arith, within, j, k, one)))

module _ {A E : Type 0} (P : List (Result A E) → Type 0) (r : Answered A E) where
  -- what an answer takes that tells a result, and what one takes that is an end
  takes_first_item : (y : Result A E) (l : List (Result A E)) → r ≡ result_answer y → TakesFirst P r l → (k : List (Result A E)) × (l ≡ y ∷ k) × P k
  takes_first_item y [] is w = absurd (item_not_end y (sym w.0 ∙ is))
  takes_first_item y (z ∷ l) is w = let same = result_answer_injective z y (sym w.0 ∙ is) in (l, ap (λ x. x ∷ l) same, w.1)

  takes_first_none : (l : List (Result A E)) → r ≡ Ok None → TakesFirst P r l → l ≡ []
  takes_first_none [] is w = cc
  takes_first_none (z ∷ l) is w = absurd (item_not_end z (sym is ∙ w.0))

last_of_reverse : {X : Type 0} (y : X) (l k : List X) → reverse l ≡ y ∷ k → l ≡ reverse k ++ y ∷ []
last_of_reverse y l k e = sym (reverse-reverse l) ∙ ap reverse e ∙ reverse-append (y ∷ []) k

list_nil_at_back : {X : Type 0} (l : List X) → reverse l ≡ [] → l ≡ []
list_nil_at_back l e = sym (reverse-reverse l) ∙ ap reverse e

module _ {S A E R : Type 0} {front back : S → Answered A E → S → Type 0} {of_whole of_rest : List (Result A E) → R} {s0 s t : S} {r : Answered A E} where
  -- after a draw from the front that took the result y, which the loop goes on with
  pub answers_between_in_front : (y : Result A E) {of_left : List (Result A E) → R} → AnswersFromBetweenEnds front back of_whole s0 of_rest s → front s r t → r ≡ result_answer y → ((l : List (Result A E)) → of_rest (y ∷ l) ≡ of_left l) → AnswersFromBetweenEnds front back of_whole s0 of_left t
  answers_between_in_front y here drawn is same = record { at = λ whole i. let k = here.at whole i in let d = takes_first_item (λ j. ListsBothEnds front back t j) r y k.0 is (takes_first_front k.1 drawn) in (d.0, d.2, k.2 ∙ ap of_rest d.1 ∙ same d.0) }

  -- the same from the back
  pub answers_between_at_back : (y : Result A E) {of_left : List (Result A E) → R} → AnswersFromBetweenEnds front back of_whole s0 of_rest s → back s r t → r ≡ result_answer y → ((l : List (Result A E)) → of_rest (l ++ y ∷ []) ≡ of_left l) → AnswersFromBetweenEnds front back of_whole s0 of_left t
  answers_between_at_back y here drawn is same = record { at = λ whole i. let k = here.at whole i in let d = takes_first_item (λ j. ListsBothEnds front back t (reverse j)) r y (reverse k.0) is (takes_first_back k.1 drawn) in (reverse d.0, d.2, k.2 ∙ ap of_rest (last_of_reverse y k.0 d.0 d.1) ∙ same (reverse d.0)) }

  -- at a result from the front with which the loop is left
  pub answer_at_stop_in_front : (y : Result A E) {v : R} → AnswersFromBetweenEnds front back of_whole s0 of_rest s → front s r t → r ≡ result_answer y → ((l : List (Result A E)) → v ≡ of_rest (y ∷ l)) → (whole : List (Result A E)) → ListsBothEnds front back s0 whole → v ≡ of_whole whole
  answer_at_stop_in_front y here drawn is same whole i = let k = here.at whole i in let d = takes_first_item (λ j. ListsBothEnds front back t j) r y k.0 is (takes_first_front k.1 drawn) in same d.0 ∙ sym (k.2 ∙ ap of_rest d.1)

  -- the same from the back
  pub answer_at_stop_at_back : (y : Result A E) {v : R} → AnswersFromBetweenEnds front back of_whole s0 of_rest s → back s r t → r ≡ result_answer y → ((l : List (Result A E)) → v ≡ of_rest (l ++ y ∷ [])) → (whole : List (Result A E)) → ListsBothEnds front back s0 whole → v ≡ of_whole whole
  answer_at_stop_at_back y here drawn is same whole i = let k = here.at whole i in let d = takes_first_item (λ j. ListsBothEnds front back t (reverse j)) r y (reverse k.0) is (takes_first_back k.1 drawn) in same (reverse d.0) ∙ sym (k.2 ∙ ap of_rest (last_of_reverse y k.0 d.0 d.1))

  -- at an end, from either side
  pub answer_at_end_in_front : {v : R} → AnswersFromBetweenEnds front back of_whole s0 of_rest s → front s r t → r ≡ Ok None → v ≡ of_rest [] → (whole : List (Result A E)) → ListsBothEnds front back s0 whole → v ≡ of_whole whole
  answer_at_end_in_front here drawn is same whole i = let k = here.at whole i in same ∙ sym (k.2 ∙ ap of_rest (takes_first_none (λ j. ListsBothEnds front back t j) r k.0 is (takes_first_front k.1 drawn)))

  pub answer_at_end_at_back : {v : R} → AnswersFromBetweenEnds front back of_whole s0 of_rest s → back s r t → r ≡ Ok None → v ≡ of_rest [] → (whole : List (Result A E)) → ListsBothEnds front back s0 whole → v ≡ of_whole whole
  answer_at_end_at_back here drawn is same whole i = let k = here.at whole i in same ∙ sym (k.2 ∙ ap of_rest (list_nil_at_back k.0 (takes_first_none (λ j. ListsBothEnds front back t (reverse j)) r (reverse k.0) is (takes_first_back k.1 drawn))))
