-- Traces as values: one more answer, and the answers that a list tells.
use Rattle.std.specs.Prelude.{◌≡◌, ℕ, ◌+◌, ◌≤◌, List, [], ◌∷◌, ◌++◌, map, length, take, Result}
use Rattle.std.proofs.Common.{refl, sym, ◌∙◌, ap, length-append, arith}
use Rattle.std.proofs.lemmas.List.{map-append}
use Rattle.fallible_contract.specs.Traces.{Answered, Run}
use Rattle.fallible_contract.specs.ShownTraces.{answer_of, IsAnswers, IsAnswersAt, answers_of}
use Rattle.fallible_contract.specs.Lists.{AlwaysGives, Lists}
use Rattle.fallible_contract.specs.BothEnds.{step_at}
use Rattle.fallible_contract.specs.Laws.Closures.{folds_to_in_turn}
use Rattle.fallible_contract.specs.declared.answers.Answer.{Answer}
use Rattle.fallible_contract.specs.declared.answers.Side.{Side}

pub is_answers_one_more : {S A E : Type 0} {steps : S → Answered A E → S → Type 0} {s t u : S} {n : ℕ} {values : List (Answer A E)} {r : Answered A E} → IsAnswers steps s n values t → steps t r u → IsAnswers steps s (n + 1) (values ++ answer_of r ∷ []) u
is_answers_one_more {s = s} {t = t} {u = u} {n = n} {r = r} p step = record {
  trace = p.trace ++ r ∷ [];
  ran = folds_to_in_turn _ p.trace (r ∷ []) s t u p.ran (u, step, refl);
  values_are = ap (λ l. l ++ answer_of r ∷ []) p.values_are ∙ sym (map-append answer_of p.trace (r ∷ []));
  count = length-append p.trace (r ∷ []) ∙ ap (λ k. k + 1) p.count;
}

-- draws from both ends

pub is_answers_at_one_draw_more : {S A E : Type 0} {front back : S → Answered A E → S → Type 0} {s t u : S} {sides : List Side} {values : List (Answer A E)} (side : Side) (r : Answered A E) → IsAnswersAt front back s sides values t → step_at front back side t r u → IsAnswersAt front back s (sides ++ side ∷ []) (values ++ answer_of r ∷ []) u
is_answers_at_one_draw_more {s = s} {t = t} {u = u} side r p step = record {
  pairs = p.pairs ++ (side, r) ∷ [];
  ran = folds_to_in_turn _ p.pairs ((side, r) ∷ []) s t u p.ran (u, step, refl);
  sides_are = map-append (λ d. d.0) p.pairs ((side, r) ∷ []) ∙ ap (λ l. l ++ side ∷ []) p.sides_are;
  values_are = ap (λ l. l ++ answer_of r ∷ []) p.values_are ∙ sym (map-append (λ d. answer_of d.1) p.pairs ((side, r) ∷ []));
}

module _ {S A E : Type 0} (steps : S → Answered A E → S → Type 0) where
  map_answer_of_run_is_take_of_list : (trace : List (Answered A E)) (l : List (Result A E)) (s t : S) → AlwaysGives steps s l → Run steps s trace t → length trace ≤ length l + 1 → map answer_of trace ≡ take (length trace) (answers_of l)
  unfolding answers_of
  map_answer_of_run_is_take_of_list [] l s t a ran within = refl
  map_answer_of_run_is_take_of_list (r ∷ []) [] s t a ran within = ap (λ q. answer_of q ∷ []) (a r ran.0 ran.1)
  map_answer_of_run_is_take_of_list (r ∷ q ∷ trace) [] s t a ran within = absurd (omega (arith, within))
  map_answer_of_run_is_take_of_list (r ∷ trace) (y ∷ l) s t a ran within = let h = a r ran.0 ran.1 in let rest = map_answer_of_run_is_take_of_list trace l ran.0 t h.1 ran.2 (omega (arith, within)) in let first = ap answer_of h.0 in cc

  pub answers_are_take_of_answers_of_list : {s t : S} {n : ℕ} {values : List (Answer A E)} (l : List (Result A E)) → IsAnswers steps s n values t → n ≤ length l + 1 → Lists steps s l → values ≡ take n (answers_of l)
  answers_are_take_of_answers_of_list {s} {t} {n} l p within i = p.values_are ∙ map_answer_of_run_is_take_of_list p.trace l s t i.runs p.ran (let c = p.count in omega (arith, c, within)) ∙ ap (λ (k : ℕ). take k (answers_of l)) p.count
