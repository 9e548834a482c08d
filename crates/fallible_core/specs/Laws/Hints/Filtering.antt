-- Hints of `SkipWhile`.
use Rattle.std.specs.Prelude.{◌≡◌, ℕ, Option, Some, None, Result, List, [], ◌∷◌, Bool, true, false}
use Rattle.std.proofs.Common.{refl, ap, subst, ◌∙◌}
use Rattle.fallible_contract.specs.Traces.{Answered, Run, item, end}
use Rattle.fallible_contract.specs.Sound.{HintsHold, BoundsAbove, BoundsBelow}
use Rattle.fallible_contract.specs.Contract.{Contract}
use Rattle.fallible_contract.specs.Passing.{passing_step}
use Rattle.fallible_contract.specs.Laws.Passing.{Passes, done, end_passes, failure_passes, keeps, refuses, closes, leaves_out, passes_of_pass_trace}
use Rattle.fallible_core.specs.Filtering.SkipWhile.{skip_call, skip_while_outcome, skip_while_hints, skip_while_sound}
use Rattle.fallible_core.specs.Laws.Hints.Drawn.{OneOfOne, as_sound_where_one_of_one}
use Rattle.fallible_core.specs.Laws.Hints.Passing.{upper_alone_hold}

module _ {S F X E : Type 0} (steps : S → Answered X E → S → Type 0) (call : F → X → Result Bool E → F → Type 0) where
  -- ---- after the first false all items pass, and the predicate isn't called

  pub record RunsWithoutCalls (s : S) (p : Bool × F) (trace : List (Answered X E)) (t : S) (q : Bool × F) : Type 0 where
    pub ran : Run steps s trace t
    pub same : q ≡ p

  pub runs_without_calls_after_false : (s t : S) (p q : Bool × F) (trace : List (Answered X E)) → p.0 ≡ true → Passes steps (skip_call call) skip_while_outcome s p trace t q → RunsWithoutCalls s p trace t q
  runs_without_calls_after_false s _ p _ _ e done = record { ran = refl; same = refl }
  runs_without_calls_after_false s t p q _ e (end_passes {u = u} {trace = rest} step h) = let k = runs_without_calls_after_false u t p q rest e h in record { ran = (u, step, k.ran); same = k.same }
  runs_without_calls_after_false s t p q _ e (failure_passes {u = u} {trace = rest} d step h) = let k = runs_without_calls_after_false u t p q rest e h in record { ran = (u, step, k.ran); same = k.same }
  runs_without_calls_after_false s t p q _ e (keeps {u = u} {h = j} {trace = rest} x None y step called is h) = let k = runs_without_calls_after_false u t j q rest (ap (λ (z : Bool × F). z.0) called.1 ∙ e) h in
      let same : x ≡ y = cc in record { ran = (u, subst (λ (z : X). steps s (item z) u) same step, k.ran); same = k.same ∙ called.1 }
  runs_without_calls_after_false s t p q _ e (keeps x (Some v) y step called is h) = absurd (let d = called.0 in cc)
  runs_without_calls_after_false s t p q _ e (refuses x None d step called is h) = absurd cc
  runs_without_calls_after_false s t p q _ e (refuses x (Some v) d step called is h) = absurd (let c = called.0 in cc)
  runs_without_calls_after_false s t p q _ e (closes x None step called is h) = absurd cc
  runs_without_calls_after_false s t p q _ e (closes x (Some v) step called is h) = absurd (let d = called.0 in cc)
  runs_without_calls_after_false s t p q _ e (leaves_out x None step called is h) = absurd cc
  runs_without_calls_after_false s t p q _ e (leaves_out x (Some v) step called is h) = absurd (let d = called.0 in cc)

  -- ---- so its hints are the source's then

  abbrev skipped_step : S × (Bool × F) → Answered X E → S × (Bool × F) → Type 0
  skipped_step = passing_step steps (skip_call call) skip_while_outcome

  source_step_and_still_found_where_found : (p q : S × (Bool × F)) (r : Answered X E) → (p.1).0 ≡ true → skipped_step p r q → steps p.0 r q.0 × ((q.1).0 ≡ true)
  source_step_and_still_found_where_found p q r e w = let d = runs_without_calls_after_false p.0 q.0 p.1 q.1 (r ∷ []) e (passes_of_pass_trace w) in (subst (λ (t : S). steps p.0 r t) d.ran.2 d.ran.1, ap (λ (z : Bool × F). z.0) d.same ∙ e)

  -- once the predicate has returned false
  pub one_of_one_skip_while : OneOfOne skipped_step steps (λ p. p.0) (λ p. (p.1).0 ≡ true)
  one_of_one_skip_while = record { item_of_item = λ p q x e w. let d = source_step_and_still_found_where_found p q (item x) e w in (x, d.0, d.1); end_of_end = λ p q e w. (source_step_and_still_found_where_found p q end e w).0 }

-- ---- where they are sound

module _ {S F X E : Type 0} (m : Contract S X E) (call : F → X → Result Bool E → F → Type 0) (holds : HintsHold m.steps m.hints m.sound) where
  skip_while_above : (p : S × (Bool × F)) (h : ℕ × Option ℕ) → skip_while_hints m p h → m.sound.above p.0 h.1 → BoundsAbove (skipped_step m.steps call) p h.1
  skip_while_above (s, (true, f)) h is a = (as_sound_where_one_of_one _ _ _ _ (one_of_one_skip_while m.steps call) (s, (true, f)) refl h).above (holds.above s h is a)
  skip_while_above (s, (false, f)) h is a = (upper_alone_hold (skip_call call) skip_while_outcome holds).above (s, (false, f)) h is a

  skip_while_below : (p : S × (Bool × F)) (h : ℕ × Option ℕ) → skip_while_hints m p h → ((p.1).0 ≡ true → m.sound.below p.0 h.0) → BoundsBelow (skipped_step m.steps call) p h.0
  skip_while_below (s, (true, f)) h is b = (as_sound_where_one_of_one _ _ _ _ (one_of_one_skip_while m.steps call) (s, (true, f)) refl h).below (holds.below s h is (b refl))
  skip_while_below (s, (false, f)) h is b = (upper_alone_hold (skip_call call) skip_while_outcome holds).below (s, (false, f)) h is tt

  pub skip_while_hold : HintsHold (skipped_step m.steps call) (skip_while_hints m) (skip_while_sound m.sound)
  skip_while_hold = record { above = skip_while_above; below = skip_while_below }
