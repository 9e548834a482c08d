-- The runs of an adapter whose closure is called on failures are its traces, and what it lists.
use Rattle.std.specs.Prelude.{◌≡◌, List, [], ◌∷◌, map, Result, Some, None, Ok, Err}
use Rattle.std.proofs.Common.{refl, sym, ap, subst, ◌∙◌}
use Rattle.fallible_contract.specs.Traces.{Answered}
use Rattle.fallible_contract.specs.Closures.{Steady}
use Rattle.fallible_contract.specs.Exchange.{exchanged, exchanged_result, steps_exchanged}
use Rattle.fallible_contract.specs.Failing.{failing_outcome, FailingTrace, failing_step, FailingAnswer, failures_mapped}
use Rattle.fallible_contract.specs.Passing.{passing_step}
use Rattle.fallible_contract.specs.Lists.{AlwaysGives, Acts}
use Rattle.fallible_contract.specs.BothEnds.{ListsBothEnds, items_listed, failures_listed, source_list, passed_list}
use Rattle.fallible_contract.proofs.Lemmas.Passing.{pass_trace_answer}
use Rattle.fallible_contract.proofs.Lemmas.Exchange.{always_gives_exchanged, lists_both_ends_of_exchanged_results, map_exchanged_twice_is_same}
use Rattle.fallible_contract.proofs.Lemmas.Lists.Passing.{passed, gives_all}
use Rattle.fallible_contract.proofs.Lemmas.BothEnds.Passing.{lists_both_ends_passed, lists_both_ends_by_function}
use Rattle.fallible_contract.specs.declared.passing.Outcome.TheVariants.{End}

-- what it makes of one answer of its source is its trace of one answer
pub failing_trace_of_failing_answer : {S F X D E : Type 0} (steps : S → Answered X D → S → Type 0) {call : F → D → E → F → Type 0} {s t : S} {f g : F} (r : Answered X E) (drawn : Answered X D) → steps s drawn t → FailingAnswer call f drawn r g → FailingTrace steps call (s, f) (r ∷ []) (t, g)
failing_trace_of_failing_answer steps r (Ok (Some x)) step made = pass_trace_answer (Err x) step (ap exchanged made.0, made.1)
failing_trace_of_failing_answer steps r (Ok None) step made = pass_trace_answer (Ok None) step (ap exchanged made.0, made.1)
failing_trace_of_failing_answer steps r (Err d) step made = pass_trace_answer (Ok (Some d)) step (made.0, made.1, ap (λ q. Some (exchanged q)) (sym made.2))

-- ---- what it lists is what an adapter that is called on items does, exchanged

failing_outcome_is_never_end : {X D E : Type 0} (d : D) (e : E) → failing_outcome {X = X} d e ≡ End → ⊥
failing_outcome_is_never_end d e is = absurd cc

-- What replaces the items of a list and nothing else replaces the failures of the list exchanged.
module _ {X D E : Type 0} (k : List (Result D X) → List (Result E X)) (h : D → E) (none : k [] ≡ []) (at_item : (d : D) (l : List (Result D X)) → k (Ok d ∷ l) ≡ Ok (h d) ∷ k l) (at_failure : (x : X) (l : List (Result D X)) → k (Err x ∷ l) ≡ Err x ∷ k l) where
  mapped_of_exchanged_is_exchanged_mapped : (l : List (Result X D)) → k (map exchanged_result l) ≡ map exchanged_result (failures_mapped h l)
  unfolding failures_mapped
  mapped_of_exchanged_is_exchanged_mapped [] = none
  mapped_of_exchanged_is_exchanged_mapped (Ok x ∷ l) = at_failure x (map exchanged_result l) ∙ ap {B = List (Result E X)} (λ j. Err x ∷ j) (mapped_of_exchanged_is_exchanged_mapped l)
  mapped_of_exchanged_is_exchanged_mapped (Err d ∷ l) = at_item d (map exchanged_result l) ∙ ap {B = List (Result E X)} (λ j. Ok (h d) ∷ j) (mapped_of_exchanged_is_exchanged_mapped l)

exchanged_passed_is_failures_mapped : {X D E : Type 0} (h : D → E) (l : List (Result X D)) → map exchanged_result (passed failing_outcome (λ (p : Unit {0}) d. h d) (λ p d. p) tt (map exchanged_result l)) ≡ failures_mapped h l
exchanged_passed_is_failures_mapped h l = ap (map exchanged_result) (mapped_of_exchanged_is_exchanged_mapped (passed failing_outcome (λ (p : Unit {0}) d. h d) (λ p d. p) tt) h refl (λ d k. refl) (λ x k. refl) l) ∙ map_exchanged_twice_is_same (failures_mapped h l)

-- The closure's answers, where each call from a state of which `At` holds answers h d on d and leaves such a state.
pub always_gives_failures_mapped : {S F X D E : Type 0} (call : F → D → E → F → Type 0) (At : F → Type 0) (h : D → E) → ((f : F) (d : D) (e : E) (g : F) → At f → call f d e g → At g × (e ≡ h d)) → (steps : S → Answered X D → S → Type 0) (s : S) (f : F) (l : List (Result X D)) → At f → AlwaysGives steps s l → AlwaysGives (failing_step steps call) (s, f) (failures_mapped h l)
always_gives_failures_mapped {X = X} {E = E} call At h acts steps s f l at a = subst (λ (k : List (Result X E)). AlwaysGives (failing_step steps call) (s, f) k) (exchanged_passed_is_failures_mapped h l)
    (always_gives_exchanged (passing_step (steps_exchanged steps) call failing_outcome) _ (s, f)
    (gives_all (steps_exchanged steps) call failing_outcome (λ g p. At g) (λ (p : Unit {0}) d. h d) (λ p d. p) (λ g p d e k at called. acts g d e k at called) (map exchanged_result l) s f tt at (always_gives_exchanged steps l s a)))

-- the failures of a list are the items of the list exchanged
items_of_exchanged_is_failures_listed : {A E : Type 0} (l : List (Result A E)) → items_listed (map exchanged_result l) ≡ failures_listed l
items_of_exchanged_is_failures_listed [] = refl
items_of_exchanged_is_failures_listed (Ok x ∷ l) = items_of_exchanged_is_failures_listed l
items_of_exchanged_is_failures_listed (Err e ∷ l) = ap (λ k. e ∷ k) (items_of_exchanged_is_failures_listed l)

module _ {S F X D E : Type 0} (front back : S → Answered X D → S → Type 0) (call : F → D → E → F → Type 0) (s : S) (f : F) where
  abbrev ListsMapped : List (Result X E) → Type 0
  ListsMapped l = ListsBothEnds (failing_step front call) (failing_step back call) (s, f) l

  lists_mapped_where_exchanged_lists : (k : List (Result E X)) (l : List (Result X E)) → map exchanged_result k ≡ l → ListsBothEnds (passing_step (steps_exchanged front) call failing_outcome) (passing_step (steps_exchanged back) call failing_outcome) (s, f) k → ListsMapped l
  lists_mapped_where_exchanged_lists k l is i = subst (λ (j : List (Result X E)). ListsMapped j) is (lists_both_ends_of_exchanged_results (passing_step (steps_exchanged front) call failing_outcome) (passing_step (steps_exchanged back) call failing_outcome) (s, f) k i)

  -- the closure's answers on the failures, where it is steady on them
  pub lists_mapped_of_steady_answers : (asked : List (Result X (D × E))) → Steady call f (failures_listed asked) → ListsBothEnds front back s (failures_mapped (λ c. c.0) asked) → ListsMapped (failures_mapped (λ c. c.1) asked)
  lists_mapped_of_steady_answers asked steady i = lists_mapped_where_exchanged_lists _ _ (ap (map exchanged_result) (mapped_of_exchanged_is_exchanged_mapped (passed_list failing_outcome) (λ c. c.1) refl (λ c k. refl) (λ x k. refl) asked) ∙ map_exchanged_twice_is_same (failures_mapped (λ c. c.1) asked))
      (lists_both_ends_passed (steps_exchanged front) (steps_exchanged back) call failing_outcome failing_outcome_is_never_end (map exchanged_result asked) s f (subst (λ (c : List (D × E)). Steady call f c) (sym (items_of_exchanged_is_failures_listed asked)) steady)
      (subst (λ (k : List (Result D X)). ListsBothEnds (steps_exchanged front) (steps_exchanged back) s k) (sym (mapped_of_exchanged_is_exchanged_mapped source_list (λ c. c.0) refl (λ c k. refl) (λ x k. refl) asked)) (lists_both_ends_of_exchanged_results front back s (failures_mapped (λ c. c.0) asked) i)))

  -- the same, where it acts as a function
  pub lists_mapped_by_function : (h : D → E) → Acts call f h → (l : List (Result X D)) → ListsBothEnds front back s l → ListsMapped (failures_mapped h l)
  lists_mapped_by_function h acts l i = lists_mapped_where_exchanged_lists _ _ (exchanged_passed_is_failures_mapped h l) (lists_both_ends_by_function call failing_outcome failing_outcome_is_never_end f h acts (steps_exchanged front) (steps_exchanged back) s (map exchanged_result l) (lists_both_ends_of_exchanged_results front back s l i))
