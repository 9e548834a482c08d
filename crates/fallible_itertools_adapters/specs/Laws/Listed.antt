-- Both ends of an adapter list what its definition says.
use Rattle.std.specs.Prelude.{◌≡◌, Option, Result, Some, None, Ok, Err, List, [], ◌∷◌, map}
use Rattle.std.specs.Borrow.{Bor}
use Rattle.std.specs.Fn.{Mut}
use Rattle.std.proofs.Common.{refl, ap, sym, subst, ◌∙◌}
use Rattle.fallible_iterator.specs.BothEnds.{ListsBothEnds}
use Rattle.fallible_iterator.specs.Closures.{call_by_value}
use Rattle.fallible_iterator.specs.Exchange.{exchanged_result, steps_exchanged}
use Rattle.fallible_iterator.specs.Failing.{FailingAnswer, failing_step, outcome_exchanged, recovering_step}
use Rattle.fallible_iterator.specs.Filtering.FilterMap.{cons_some}
use Rattle.fallible_iterator.specs.Laws.Failing.{drawn_once_of_trace}
use Rattle.fallible_iterator.specs.Listing.{ListsChanged}
use Rattle.fallible_iterator.specs.Lists.{Acts, Converts}
use Rattle.fallible_iterator.specs.OneToOne.Cloned.{pointed_to}
use Rattle.fallible_iterator.specs.Outcome.{Outcome}
use Rattle.fallible_iterator.specs.Outcome.TheVariants.{End}
use Rattle.fallible_iterator.specs.Passing.{passing_step}
use Rattle.fallible_iterator.specs.Traces.{Answered}
use Rattle.fallible_iterator.proofs.Lemmas.BothEnds.{lists_both_ends_by_draws, lists_both_ends_of_parts, takes_first_back, takes_first_front}
use Rattle.fallible_iterator.proofs.Lemmas.BothEnds.Passing.{lists_both_ends_by_function}
use Rattle.fallible_iterator.proofs.Lemmas.Exchange.{lists_both_ends_of_exchanged_results}
use Rattle.fallible_iterator.proofs.Lemmas.Failing.{lists_mapped_by_function}
use Rattle.fallible_iterator.proofs.Lemmas.Lists.Passing.{passed, by_outcome}
use Rattle.fallible_itertools_adapters.specs.Copied.{copied_call, copied_outcome, copied_parts, copied_source}
use Rattle.fallible_itertools_adapters.specs.Failing.{ListsConverted, ListsRecovered, convert_call, err_into_parts, err_into_source, inspect_err_parts, inspect_err_source, or_else_closure, or_else_outcome, or_else_parts, or_else_source, recovered, seen_call}
use Rattle.fallible_itertools_adapters.specs.declared.copied.Copied.{Copied}
use Rattle.fallible_itertools_adapters.specs.declared.failing.ErrInto.{ErrInto}
use Rattle.fallible_itertools_adapters.specs.declared.failing.InspectErr.{InspectErr}
use Rattle.fallible_itertools_adapters.specs.declared.failing.OrElse.{OrElse}

-- ---- `Copied`

-- no item makes an end
pub copied_outcome_is_never_end : {T E : Type 0} (x : Bor T) (u : Unit {0}) → copied_outcome {E = E} x u ≡ End → ⊥
copied_outcome_is_never_end x u e = cc

pub passed_of_copied_is_pointed_to : {T E : Type 0} (l : List (Result (Bor T) E)) → passed copied_outcome (λ (p : Unit {0}) (x : Bor T). tt) (λ p x. p) tt l ≡ pointed_to l
unfolding pointed_to
passed_of_copied_is_pointed_to [] = refl
passed_of_copied_is_pointed_to (Ok x ∷ l) = ap (λ k. Ok x.now ∷ k) (passed_of_copied_is_pointed_to l)
passed_of_copied_is_pointed_to (Err e ∷ l) = ap (λ k. Err e ∷ k) (passed_of_copied_is_pointed_to l)

lists_both_ends_copies : {S T E : Type 0} (front back : S → Answered (Bor T) E → S → Type 0) (l : List (Result (Bor T) E)) (s : S) → ListsBothEnds front back s l
    → ListsBothEnds (passing_step front copied_call copied_outcome) (passing_step back copied_call copied_outcome) (s, tt) (passed copied_outcome (λ (p : Unit {0}) (x : Bor T). tt) (λ p x. p) tt l)
lists_both_ends_copies front back l s i = lists_both_ends_by_function copied_call copied_outcome copied_outcome_is_never_end tt (λ x. tt) (λ x v g called. (refl, refl)) front back s l i

pub copied_listed : {S T E : Type 0} (front back : S → Answered (Bor T) E → S → Type 0) (s : Copied S) (l : List (Result T E)) → ListsChanged copied_source pointed_to (ListsBothEnds front back) s l
    → ListsBothEnds (λ u r v. passing_step front copied_call copied_outcome (copied_parts u) r (copied_parts v)) (λ u r v. passing_step back copied_call copied_outcome (copied_parts u) r (copied_parts v)) s l
copied_listed front back s l h = rw h.2 (lists_both_ends_of_parts copied_parts s refl (passed_of_copied_is_pointed_to h.0) (lists_both_ends_copies front back h.0 (copied_source s) h.1))

-- ---- `InspectErr`

inspected_answer_same : {F X D : Type 0} (g : Mut F (Bor D × Unit {0}) (Unit {0})) (f h : F) (drawn r : Answered X D) → FailingAnswer (seen_call g) f drawn r h → r ≡ drawn
inspected_answer_same g f h (Ok v) r made = made.0
inspected_answer_same g f h (Err d) r made = made.2 ∙ ap (λ e. Err e) made.1.1

module _ {S F X D : Type 0} (g : Mut F (Bor D × Unit {0}) (Unit {0})) where
  -- each draw is one of the source, with the same answer
  source_step_of_seen_step : (steps : S → Answered X D → S → Type 0) (p q : S × F) (r : Answered X D) → failing_step steps (seen_call g) p r q → steps p.0 r q.0
  source_step_of_seen_step steps p q r step = let d = drawn_once_of_trace steps (seen_call g) p q r step in subst (λ (a : Answered X D). steps p.0 a q.0) (sym (inspected_answer_same g p.1 q.1 d.0 r d.2)) d.1

  lists_both_ends_inspected_failures : (front back : S → Answered X D → S → Type 0) (p : S × F) (l : List (Result X D)) → ListsBothEnds front back p.0 l → ListsBothEnds (failing_step front (seen_call g)) (failing_step back (seen_call g)) p l
  lists_both_ends_inspected_failures front back p l i = lists_both_ends_by_draws (failing_step front (seen_call g)) (failing_step back (seen_call g)) (λ q k. ListsBothEnds front back q.0 k)
      (λ q k listed r u step. takes_first_front listed (source_step_of_seen_step front q u r step)) (λ q k listed r u step. takes_first_back listed (source_step_of_seen_step back q u r step)) p l i

pub inspect_err_listed : {S F X D : Type 0} (g : Mut F (Bor D × Unit {0}) (Unit {0})) (front back : S → Answered X D → S → Type 0) (s : InspectErr S F) (l : List (Result X D)) → ListsBothEnds front back (inspect_err_source s) l
    → ListsBothEnds (λ u r v. failing_step front (seen_call g) (inspect_err_parts u) r (inspect_err_parts v)) (λ u r v. failing_step back (seen_call g) (inspect_err_parts u) r (inspect_err_parts v)) s l
inspect_err_listed g front back s l i = lists_both_ends_of_parts inspect_err_parts s refl refl (lists_both_ends_inspected_failures g front back (inspect_err_parts s) l i)

-- ---- `ErrInto`

-- a conversion that acts as a function does so as the call of a closure
pub acts_by_convert_call_where_converts : {D E : Type 0} (from : D → E → Type 0) (convert : D → E) → Converts from convert → Acts (convert_call from) tt convert
acts_by_convert_call_where_converts from convert converts d e v called = (refl, converts d e called)

pub err_into_listed : {S X D E : Type 0} (from : D → E → Type 0) (front back : S → Answered X D → S → Type 0) (s : ErrInto S E) (l : List (Result X E)) → ListsConverted from (ListsBothEnds front back) s l
    → ListsBothEnds (λ u r v. failing_step front (convert_call from) (err_into_parts u) r (err_into_parts v)) (λ u r v. failing_step back (convert_call from) (err_into_parts u) r (err_into_parts v)) s l
err_into_listed from front back s l h = rw h.2.2 (lists_both_ends_of_parts err_into_parts s refl refl (lists_mapped_by_function front back (convert_call from) (err_into_source s) tt h.0 (acts_by_convert_call_where_converts from h.0 h.1) h.2.0 h.2.1))

-- ---- `OrElse`

-- what becomes of a failure, with item and failure exchanged
abbrev pub failure_outcome : {X D E : Type 0} → D → Result (Option X) E → Outcome E X
failure_outcome d v = outcome_exchanged (or_else_outcome d v)

exchanged_by_outcome_is_cons_some : {X D E : Type 0} (d : D) (v : Result (Option X) E) (l : List (Result E X)) → map exchanged_result (by_outcome (failure_outcome d v) l) ≡ cons_some v (map exchanged_result l)
exchanged_by_outcome_is_cons_some d (Ok (Some x)) l = refl
exchanged_by_outcome_is_cons_some d (Ok None) l = refl
exchanged_by_outcome_is_cons_some d (Err e) l = refl

pub exchanged_passed_is_recovered : {X D E : Type 0} (h : D → Result (Option X) E) (l : List (Result X D)) → map exchanged_result (passed failure_outcome (λ (p : Unit {0}) d. h d) (λ p d. p) tt (map exchanged_result l)) ≡ recovered h l
unfolding recovered
exchanged_passed_is_recovered h [] = refl
exchanged_passed_is_recovered h (Ok x ∷ l) = ap (λ k. Ok x ∷ k) (exchanged_passed_is_recovered h l)
exchanged_passed_is_recovered h (Err d ∷ l) = exchanged_by_outcome_is_cons_some d (h d) _ ∙ ap (λ k. cons_some (h d) k) (exchanged_passed_is_recovered h l)

-- no answer of the closure makes an end
failure_outcome_is_never_end : {X D E : Type 0} (d : D) (v : Result (Option X) E) → failure_outcome d v ≡ End → ⊥
failure_outcome_is_never_end d (Ok (Some x)) e = absurd cc
failure_outcome_is_never_end d (Ok None) e = absurd cc
failure_outcome_is_never_end d (Err x) e = absurd cc

lists_both_ends_recovered : {S F X D E : Type 0} (front back : S → Answered X D → S → Type 0) (g : Mut F (D × Unit {0}) (Result (Option X) E)) (s : S) (f : F) (h : D → Result (Option X) E) → Acts (call_by_value g) f h → (l : List (Result X D)) → ListsBothEnds front back s l
    → ListsBothEnds (recovering_step front (call_by_value g) or_else_outcome) (recovering_step back (call_by_value g) or_else_outcome) (s, f) (map exchanged_result (passed failure_outcome (λ (p : Unit {0}) d. h d) (λ p d. p) tt (map exchanged_result l)))
lists_both_ends_recovered front back g s f h acts l i = lists_both_ends_of_exchanged_results (passing_step (steps_exchanged front) (call_by_value g) failure_outcome) (passing_step (steps_exchanged back) (call_by_value g) failure_outcome) (s, f) _
    (lists_both_ends_by_function (call_by_value g) failure_outcome failure_outcome_is_never_end f h acts (steps_exchanged front) (steps_exchanged back) s (map exchanged_result l) (lists_both_ends_of_exchanged_results front back s l i))

pub or_else_listed : {S F X D E : Type 0} (g : Mut F (D × Unit {0}) (Result (Option X) E)) (front back : S → Answered X D → S → Type 0) (s : OrElse S F) (l : List (Result X E)) → ListsRecovered (call_by_value g) (ListsBothEnds front back) s l
    → ListsBothEnds (λ u r v. recovering_step front (call_by_value g) or_else_outcome (or_else_parts u) r (or_else_parts v)) (λ u r v. recovering_step back (call_by_value g) or_else_outcome (or_else_parts u) r (or_else_parts v)) s l
or_else_listed g front back s l h = rw h.2.2 (lists_both_ends_of_parts or_else_parts s refl (exchanged_passed_is_recovered h.0 h.2.0) (lists_both_ends_recovered front back g (or_else_source s) (or_else_closure s) h.0 h.1 h.2.0 h.2.1))
