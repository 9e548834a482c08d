-- What `Fuse` lists.
use Rattle.std.specs.Prelude.{◌≡◌, Bool, true, false, List, [], ◌∷◌, Result, Ok, Err}
use Rattle.std.proofs.Common.{refl, sym, ap, subst, ◌∙◌}
use Rattle.fallible_contract.specs.Contract.{Contract, parts_as}
use Rattle.fallible_contract.specs.Lists.{AlwaysGives, Lists, GivesForGood, ListsForGood, result_answer}
use Rattle.fallible_contract.proofs.Lemmas.Lists.Passing.{lists_seen}
use Rattle.fallible_contract.proofs.Lemmas.Lists.ForGood.{lists_for_good_seen}
use Rattle.fallible_contract.specs.Traces.{Answered, Run, end, is_end}
use Rattle.fallible_contract.specs.Closing.{closing_step}
use Rattle.fallible_core.specs.Cutting.Fuse.{fuse_parts, fuse_contract}
use Rattle.fallible_core.specs.declared.cutting.fuse.Fuse.{Fuse}

-- ---- what it lists

result_answer_is_not_end : {A E : Type 0} (y : Result A E) → is_end (result_answer y) ≡ false
result_answer_is_not_end (Ok x) = refl
result_answer_is_not_end (Err e) = refl

module _ {S A E : Type 0} (steps : S → Answered A E → S → Type 0) where
  abbrev fused_step : S × Bool → Answered A E → S × Bool → Type 0
  fused_step = closing_step steps (λ r. r) is_end

  always_gives_fused : (l : List (Result A E)) (s : S) → AlwaysGives steps s l → AlwaysGives fused_step (s, false) l
  always_gives_fused [] s a = λ r t w. w.2 ∙ a w.0 t.0 w.1
  always_gives_fused (y ∷ l) s a = λ r t w. let d = a w.0 t.0 w.1 in (w.2 ∙ d.0, subst (λ (b : Bool). AlwaysGives fused_step (t.0, b) l) (sym (w.3 ∙ ap is_end d.0 ∙ result_answer_is_not_end y)) (always_gives_fused l t.0 d.1))

pub lists_fused : {S A E : Type 0} (m : Contract S A E) (s : Fuse S) (l : List (Result A E)) → fuse_parts s ≡ (s.it, false) → Lists m.steps s.it l → Lists (parts_as fuse_parts (fuse_contract m)).steps s l
lists_fused m s l parts i = lists_seen fuse_parts (fuse_contract m).steps s parts refl (always_gives_fused m.steps l s.it i.runs)

-- ---- what it lists, fused

module _ {S A E : Type 0} (steps : S → Answered A E → S → Type 0) where
  -- once closed, each answer is an end
  ends_after_run_where_closed : (trace : List (Answered A E)) (p t u : S × Bool) (r : Answered A E) → p.1 ≡ true → Run (fused_step steps) p trace t → fused_step steps t r u → r ≡ end
  ends_after_run_where_closed [] (s, true) t u r is ran w = (subst (λ (q : S × Bool). fused_step steps q r u) (sym ran) w).0
  ends_after_run_where_closed [] (s, false) t u r is ran w = absurd cc
  ends_after_run_where_closed (y ∷ trace) (s, true) t u r is ran w = ends_after_run_where_closed trace ran.0 t u r ran.1.2 ran.2 w
  ends_after_run_where_closed (y ∷ trace) (s, false) t u r is ran w = absurd cc

  -- where the source returns an end first, each further answer is an end
  ends_after_run_where_source_empty : (trace : List (Answered A E)) (s : S) (t u : S × Bool) (r : Answered A E) → AlwaysGives {A = A} {E = E} steps s [] → Run (fused_step steps) (s, false) trace t → fused_step steps t r u → r ≡ end
  ends_after_run_where_source_empty [] s t u r a ran w = let first = subst (λ (q : S × Bool). fused_step steps q r u) (sym ran) w in first.2 ∙ a first.0 u.0 first.1
  ends_after_run_where_source_empty (y ∷ trace) s t u r a ran w = let first = ran.1 in ends_after_run_where_closed trace ran.0 t u r (first.3 ∙ ap is_end (a first.0 (ran.0).0 first.1)) ran.2 w

  gives_for_good_fused : (l : List (Result A E)) (s : S) → AlwaysGives steps s l → GivesForGood (fused_step steps) (s, false) l
  gives_for_good_fused [] s a = record { each = λ trace t u r ran w. ends_after_run_where_source_empty trace s t u r a ran w }
  gives_for_good_fused (y ∷ l) s a = λ r t w. let d = a w.0 t.0 w.1 in (w.2 ∙ d.0, subst (λ (b : Bool). GivesForGood (fused_step steps) (t.0, b) l) (sym (w.3 ∙ ap is_end d.0 ∙ result_answer_is_not_end y)) (gives_for_good_fused l t.0 d.1))

pub lists_for_good_fused : {S A E : Type 0} (m : Contract S A E) (s : Fuse S) (l : List (Result A E)) → fuse_parts s ≡ (s.it, false) → Lists m.steps s.it l → ListsForGood (parts_as fuse_parts (fuse_contract m)).steps s l
lists_for_good_fused m s l parts i = lists_for_good_seen fuse_parts (fuse_contract m).steps s parts refl (gives_for_good_fused m.steps l s.it i.runs)
