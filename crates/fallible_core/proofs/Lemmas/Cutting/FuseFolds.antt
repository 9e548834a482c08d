-- A fold of the source is one of `Fuse`, which the source's end closes.
use Rattle.std.specs.Prelude.{◌≡◌, Bool, true, false, List, [], ◌∷◌, ◌++◌, map, Some, None, Ok, Err}
use Rattle.std.proofs.Common.{refl, sym, ap, subst, ◌∙◌}
use Rattle.fallible_contract.specs.Traces.{Answered, Run, item, is_end}
use Rattle.fallible_contract.specs.Closing.{closing_step}
use Rattle.fallible_contract.specs.Contract.{Contract, parts_as}
use Rattle.fallible_contract.specs.Folds.{Drained, HoldsAtEachTurn, DriveExit, Driven}
use Rattle.fallible_contract.proofs.Lemmas.Folding.{holds_at_each_turn_of_held, drained_of_holder}
use Rattle.fallible_core.specs.Cutting.Fuse.{fuse_parts, fuse_contract}
use Rattle.std.specs.declared.ops.ControlFlow.{ControlFlow}
use Rattle.fallible_core.specs.declared.cutting.fuse.Fuse.{Fuse}

-- a fold's answer is an end where the last answer is one
is_end_same_by_drive_exit : {C A E R : Type 0} (turns : C → A → ControlFlow R (Unit {0}) → C → Type 0) (c : C) (last : Answered A E) (r : Answered R E) (d : C) → DriveExit turns c last r d → is_end r ≡ is_end last
is_end_same_by_drive_exit turns c (Ok None) r d at = ap is_end at.0
is_end_same_by_drive_exit turns c (Err e) r d at = ap is_end at.0
is_end_same_by_drive_exit turns c (Ok (Some x)) r d at = ap is_end at.2

module _ {S A E : Type 0} (steps_of_fuse_folds : S → Answered A E → S → Type 0) where
  -- items leave it open
  run_of_closing_step_where_open : (items : List A) (last : Answered A E) (s t : S) (closed : Bool) → Run steps_of_fuse_folds s (map item items ++ last ∷ []) t → closed ≡ is_end last → Run (closing_step steps_of_fuse_folds (λ r. r) is_end) (s, false) (map item items ++ last ∷ []) (t, closed)
  run_of_closing_step_where_open [] last s t closed ran is = ((t, closed), (last, subst (λ (u : S). steps_of_fuse_folds s last u) ran.2 ran.1, refl, is), refl)
  run_of_closing_step_where_open (x ∷ items) last s t closed ran is = ((ran.0, false), (item x, ran.1, refl, refl), run_of_closing_step_where_open items last ran.0 t closed ran.2 is)

  drained_fused : {came : List A → Answered A E → Type 0} {s t : S} (closed : Bool) (w : Drained steps_of_fuse_folds came s t) → closed ≡ is_end w.last → Drained (closing_step steps_of_fuse_folds (λ r. r) is_end) came (s, false) (t, closed)
  drained_fused {s = s} {t = t} closed w met = record { items = w.items; last = w.last; ran = run_of_closing_step_where_open w.items w.last s t closed w.ran met; at = w.at }

-- ---- of the struct

module _ {S A E : Type 0} (m : Contract S A E) (s : Fuse S) where
  abbrev steps_of_fuse_folds : Fuse S → Answered A E → Fuse S → Type 0
  steps_of_fuse_folds = (parts_as fuse_parts (fuse_contract m)).steps

  -- what holds at each turn of it, where it is open, holds at each of the source
  pub holds_each_turn_open : {C : Type 0} {goes_on : C → A → C → Type 0} {P : C → A → Type 0} {c : C} → s.ended ≡ false → HoldsAtEachTurn steps_of_fuse_folds goes_on P s c → HoldsAtEachTurn m.steps goes_on P s.it c
  holds_each_turn_open {goes_on = goes_on} {P = P} {c = c} is h = holds_at_each_turn_of_held {held = steps_of_fuse_folds} (λ p. record { it = p; ended = false }) (λ p x q step. (item x, step, refl, refl)) (subst (λ (b : Bool). HoldsAtEachTurn steps_of_fuse_folds goes_on P (record { it = s.it; ended = b }) c) is h)

  -- where it is open, a drain of the source is one of it
  drained_open : {came : List A → Answered A E → Type 0} {t : S} (closed : Bool) → s.ended ≡ false → (w : Drained m.steps came s.it t) → closed ≡ is_end w.last → Drained steps_of_fuse_folds came s (record { it = t; ended = closed })
  drained_open {came = came} {t = t} closed is w met = subst (λ (b : Bool). Drained steps_of_fuse_folds came (record { it = s.it; ended = b }) (record { it = t; ended = closed })) (sym is)
      (drained_of_holder (λ p. record { it = p.0; ended = p.1 }) (λ p r q step. step) (drained_fused m.steps closed w met))

  pub driven_open : {C R : Type 0} {turns : C → A → ControlFlow R (Unit {0}) → C → Type 0} {t : S} {c d : C} {r : Answered R E} (closed : Bool) → s.ended ≡ false → closed ≡ is_end r → Driven m.steps turns s.it c r t d → Driven steps_of_fuse_folds turns s c r (record { it = t; ended = closed }) d
  driven_open {turns = turns} {d = d} {r = r} closed is met w = drained_open closed is w (met ∙ is_end_same_by_drive_exit turns w.at.carried w.last r d w.at.exit)

  -- where it is closed, a drain is an end without a draw
  step_ends_where_closed : s.ended ≡ true → steps_of_fuse_folds s (Ok None) s
  step_ends_where_closed is = subst (λ (b : Bool). steps_of_fuse_folds (record { it = s.it; ended = b }) (Ok None) (record { it = s.it; ended = b })) (sym is) (refl, refl, refl)

  pub drained_closed : {came : List A → Answered A E → Type 0} → s.ended ≡ true → came [] (Ok None) → Drained steps_of_fuse_folds came s s
  drained_closed is at = record { items = []; last = Ok None; ran = (s, step_ends_where_closed is, refl); at = at }
