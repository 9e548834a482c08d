-- After an item `SkipWhile` calls its predicate no more: from there on a fold of the source is one of it.
use Rattle.std.specs.Prelude.{◌≡◌, Bool, true, false, Some, None, List, [], ◌∷◌, Result, Ok, Err}
use Rattle.std.specs.Fn.{Mut}
use Rattle.std.specs.Borrow.{Bor}
use Rattle.std.proofs.Common.{refl, ap, subst, sym, ◌∙◌}
use Rattle.fallible_contract.specs.Traces.{Answered, item}
use Rattle.fallible_contract.specs.Closures.{call_by_reference}
use Rattle.fallible_contract.specs.Contract.{Contract, parts_as}
use Rattle.fallible_contract.specs.Folds.{HoldsAtEachTurn, Drained}
use Rattle.fallible_contract.specs.Laws.Passing.{Passes, done, end_passes, failure_passes, keeps, refuses, closes, leaves_out, passes_of_pass_trace, pass_trace_of_passes}
use Rattle.fallible_contract.proofs.Lemmas.Folding.{holds_at_each_turn_of_held, drained_of_holder}
use Rattle.fallible_core.specs.Filtering.SkipWhile.{skip_call, skip_while_outcome, skip_while_contract, skip_while_parts}
use Rattle.fallible_core.specs.Laws.Hints.Filtering.{runs_without_calls_after_false}
use Rattle.fallible_core.specs.Laws.Filtering.SkipWhile.{skip_passes_of_run_after_false}
use Rattle.fallible_core.specs.declared.filtering.skip_while.SkipWhile.{SkipWhile}

module _ {S F X E : Type 0} (steps_of_skip_while_folds : S → Answered X E → S → Type 0) (call : F → X → Result Bool E → F → Type 0) where
  -- where an item is the answer, the predicate has returned false
  flag_is_true_after_item_passes : (s t : S) (p q : Bool × F) (trace : List (Answered X E)) (x : X) → trace ≡ item x ∷ [] → Passes steps_of_skip_while_folds (skip_call call) skip_while_outcome s p trace t q → q.0 ≡ true
  flag_is_true_after_item_passes s _ p _ _ x e done = absurd cc
  flag_is_true_after_item_passes s t p q _ x e (end_passes step h) = absurd cc
  flag_is_true_after_item_passes s t p q _ x e (failure_passes d step h) = absurd cc
  flag_is_true_after_item_passes s t p q _ x e (keeps {u = u} {h = j} {trace = rest} y None z step called is h) = let on : j.0 ≡ true = ap (λ (k : Bool × F). k.0) called.1 ∙ called.0 in ap (λ (k : Bool × F). k.0) (runs_without_calls_after_false steps_of_skip_while_folds call u t j q rest on h).same ∙ on
  flag_is_true_after_item_passes s t p q _ x e (keeps {u = u} {h = j} {trace = rest} y (Some (Ok false)) z step called is h) = ap (λ (k : Bool × F). k.0) (runs_without_calls_after_false steps_of_skip_while_folds call u t j q rest called.2 h).same ∙ called.2
  flag_is_true_after_item_passes s t p q _ x e (keeps y (Some (Ok true)) z step called is h) = absurd cc
  flag_is_true_after_item_passes s t p q _ x e (keeps y (Some (Err d)) z step called is h) = absurd cc
  flag_is_true_after_item_passes s t p q _ x e (refuses y v d step called is h) = absurd cc
  flag_is_true_after_item_passes s t p q _ x e (closes y v step called is h) = absurd cc
  flag_is_true_after_item_passes s t p q _ x e (leaves_out y None step called is h) = absurd cc
  flag_is_true_after_item_passes s t p q _ x e (leaves_out y (Some (Ok false)) step called is h) = absurd cc
  flag_is_true_after_item_passes s t p q _ x e (leaves_out {u = u} {h = j} {r = r} {trace = rest} y (Some (Ok true)) step called is h) = flag_is_true_after_item_passes u t j q (r ∷ rest) x e h
  flag_is_true_after_item_passes s t p q _ x e (leaves_out y (Some (Err d)) step called is h) = absurd cc

module _ {S F X E : Type 0} (m : Contract S X E) (g : Mut F (Bor X × Unit {0}) (Result Bool E)) where
  abbrev steps_of_skip_while_folds : SkipWhile S F → Answered X E → SkipWhile S F → Type 0
  steps_of_skip_while_folds = (parts_as skip_while_parts (skip_while_contract m g)).steps

  -- the predicate has returned false
  abbrev past_of_skip_while_folds : F → S → SkipWhile S F
  past_of_skip_while_folds f s = record { it = s; skipping = (true, f) }

  step_of_source_past : (f : F) (s t : S) (r : Answered X E) → m.steps s r t → steps_of_skip_while_folds (past_of_skip_while_folds f s) r (past_of_skip_while_folds f t)
  step_of_source_past f s t r step = pass_trace_of_passes (skip_passes_of_run_after_false m.steps (call_by_reference g) (r ∷ []) s t f (t, step, refl))

  pub skipping_flag_is_true_after_item : (s t : SkipWhile S F) (x : X) → steps_of_skip_while_folds s (item x) t → t.skipping.0 ≡ true
  skipping_flag_is_true_after_item s t x step = flag_is_true_after_item_passes m.steps (call_by_reference g) s.it t.it s.skipping t.skipping (item x ∷ []) x refl (passes_of_pass_trace step)

  module _ {s : SkipWhile S F} (at : s.skipping.0 ≡ true) where
    -- a draw of the source is one of it
    pub step_of_source_skipping : {r : Answered X E} {t : S} → m.steps s.it r t → steps_of_skip_while_folds s r (record { it = t; skipping = s.skipping })
    step_of_source_skipping {r = r} {t = t} step = subst (λ (b : Bool). steps_of_skip_while_folds (record { it = s.it; skipping = (b, s.skipping.1) }) r (record { it = t; skipping = (b, s.skipping.1) })) (sym at) (step_of_source_past s.skipping.1 s.it t r step)

    -- what holds at each turn of it holds at each of the source
    pub holds_each_turn_past : {C : Type 0} {goes : C → X → C → Type 0} {P : C → X → Type 0} {c : C} → HoldsAtEachTurn steps_of_skip_while_folds goes P s c → HoldsAtEachTurn m.steps goes P s.it c
    holds_each_turn_past {goes = goes} {P = P} {c = c} h = holds_at_each_turn_of_held {held = steps_of_skip_while_folds} (past_of_skip_while_folds s.skipping.1) (λ p x q step. step_of_source_past s.skipping.1 p q (item x) step) (subst (λ (b : Bool). HoldsAtEachTurn steps_of_skip_while_folds goes P (record { it = s.it; skipping = (b, s.skipping.1) }) c) at h)

    -- and draws of the source are draws of it
    pub drained_past : {came : List X → Answered X E → Type 0} {t : S} → Drained m.steps came s.it t → Drained steps_of_skip_while_folds came s (record { it = t; skipping = s.skipping })
    drained_past {came = came} {t = t} w = subst (λ (b : Bool). Drained steps_of_skip_while_folds came (record { it = s.it; skipping = (b, s.skipping.1) }) (record { it = t; skipping = (b, s.skipping.1) })) (sym at) (drained_of_holder {held = steps_of_skip_while_folds} (past_of_skip_while_folds s.skipping.1) (λ p r q step. step_of_source_past s.skipping.1 p q r step) w)
