-- What `TakeWhile` lists.
use Rattle.std.specs.Prelude.{◌≡◌, Bool, true, false, List, [], ◌∷◌, Result, Ok, Err}
use Rattle.std.specs.Fn.{Mut}
use Rattle.std.specs.Borrow.{Bor}
use Rattle.std.proofs.Common.{refl, sym, ap, subst, ◌∙◌}
use Rattle.fallible_contract.specs.Contract.{Contract, parts_as}
use Rattle.fallible_contract.specs.Lists.{AlwaysGives, Lists, Acts, result_answer}
use Rattle.fallible_contract.proofs.Lemmas.Lists.Passing.{passed, by_outcome, lists_seen, always_gives_passed}
use Rattle.fallible_contract.specs.Traces.{Answered}
use Rattle.fallible_contract.specs.Closures.{call_by_reference}
use Rattle.fallible_contract.specs.Passing.{LeavesNoneOut, Place, asked, failure_at, end_at, passing_step}
use Rattle.fallible_contract.specs.Closing.{closing_step}
use Rattle.fallible_core.specs.Cutting.TakeWhile.{cons_while, taken_while, take_while_outcome, taken_answer, is_refused, place_drawn, take_while_parts, take_while_contract}
use Rattle.fallible_core.specs.declared.cutting.take_while.TakeWhile.{TakeWhile}

-- ---- what it lists

module _ {S F X E : Type 0} (steps : S → Answered X E → S → Type 0) (call : F → X → Result Bool E → F → Type 0) where
  abbrev once_drawn : S × F → Answered X E → S × F → Type 0
  once_drawn = passing_step steps call take_while_outcome

  abbrev step_until_refused : (S × F) × Bool → Answered X E → (S × F) × Bool → Type 0
  step_until_refused = closing_step (place_drawn steps call) taken_answer is_refused

  -- while no item was rejected, a draw is one that lets items pass
  once_drawn_of_pass : (x : Place X (Result Bool E) E) (p q : S × F) (r : Answered X E) → place_drawn steps call p x q → r ≡ taken_answer x → once_drawn p r q
  once_drawn_of_pass (asked x (Ok true)) p q r d e = record { places = asked x (Ok true) ∷ []; drawn = (q.0, d.0, refl); called = d.1; answers = ap (λ k. k ∷ []) e; last_kept = refl }
  once_drawn_of_pass (asked x (Ok false)) p q r d e = record { places = asked x (Ok false) ∷ []; drawn = (q.0, d.0, refl); called = d.1; answers = ap (λ k. k ∷ []) e; last_kept = refl }
  once_drawn_of_pass (asked x (Err c)) p q r d e = record { places = asked x (Err c) ∷ []; drawn = (q.0, d.0, refl); called = d.1; answers = ap (λ k. k ∷ []) e; last_kept = refl }
  once_drawn_of_pass (failure_at c) p q r d e = record { places = failure_at c ∷ []; drawn = (q.0, d.0, refl); called = d.1; answers = ap (λ k. k ∷ []) e; last_kept = refl }
  once_drawn_of_pass end_at p q r d e = record { places = end_at ∷ []; drawn = (q.0, d.0, refl); called = d.1; answers = ap (λ k. k ∷ []) e; last_kept = refl }

  -- what isn't an end is no rejection
  is_refused_is_false_of_taken_result : (x : Place X (Result Bool E) E) (y : Result X E) → taken_answer x ≡ result_answer y → is_refused x ≡ false
  is_refused_is_false_of_taken_result (asked x (Ok true)) y e = refl
  is_refused_is_false_of_taken_result (asked x (Ok false)) (Ok y) e = absurd cc
  is_refused_is_false_of_taken_result (asked x (Ok false)) (Err c) e = absurd cc
  is_refused_is_false_of_taken_result (asked x (Err c)) y e = refl
  is_refused_is_false_of_taken_result (failure_at c) y e = refl
  is_refused_is_false_of_taken_result end_at y e = refl

  always_gives_until_refused : (l : List (Result X E)) (p : S × F) → AlwaysGives once_drawn p l → AlwaysGives step_until_refused (p, false) l
  always_gives_until_refused [] p a = λ r t w. a r t.0 (once_drawn_of_pass w.0 p t.0 r w.1 w.2)
  always_gives_until_refused (y ∷ l) p a = λ r t w. let d = a r t.0 (once_drawn_of_pass w.0 p t.0 r w.1 w.2) in
      (d.0, subst (λ (b : Bool). AlwaysGives step_until_refused (t.0, b) l) (sym (w.3 ∙ is_refused_is_false_of_taken_result w.0 y (sym w.2 ∙ d.0))) (always_gives_until_refused l t.0 d.1))

by_outcome_of_take_while_is_cons_while : {X E : Type 0} (x : X) (v : Result Bool E) (l : List (Result X E)) → by_outcome (take_while_outcome x v) l ≡ cons_while x v l
by_outcome_of_take_while_is_cons_while x (Ok true) l = refl
by_outcome_of_take_while_is_cons_while x (Ok false) l = refl
by_outcome_of_take_while_is_cons_while x (Err e) l = refl

passed_is_taken_while : {X E : Type 0} (h : X → Result Bool E) (l : List (Result X E)) → passed take_while_outcome (λ (p : Unit {0}) x. h x) (λ p x. p) tt l ≡ taken_while h l
unfolding taken_while
passed_is_taken_while h [] = refl
passed_is_taken_while h (Ok x ∷ l) = by_outcome_of_take_while_is_cons_while x (h x) _ ∙ ap (λ t. cons_while x (h x) t) (passed_is_taken_while h l)
passed_is_taken_while h (Err e ∷ l) = ap (λ t. Err e ∷ t) (passed_is_taken_while h l)

pub lists_taken_while : {S F X E : Type 0} (m : Contract S X E) (g : Mut F (Bor X × Unit {0}) (Result Bool E)) (s : TakeWhile S F) (f : F) (h : X → Result Bool E) (l : List (Result X E)) → take_while_parts s ≡ ((s.it, f), false) → Acts (call_by_reference g) f h → Lists m.steps s.it l
    → Lists (parts_as take_while_parts (take_while_contract m g)).steps s (taken_while h l)
lists_taken_while m g s f h l parts a i = lists_seen take_while_parts (take_while_contract m g).steps s parts (passed_is_taken_while h l)
    (always_gives_until_refused m.steps (call_by_reference g) _ (s.it, f) (always_gives_passed (call_by_reference g) f h a m.steps take_while_outcome s.it l i.runs))

-- it leaves nothing out
pub leaves_none_out_of_take_while : {X E : Type 0} → LeavesNoneOut {X = X} {B = X} {E = E} take_while_outcome
leaves_none_out_of_take_while x (Ok true) = refl
leaves_none_out_of_take_while x (Ok false) = refl
leaves_none_out_of_take_while x (Err e) = refl
