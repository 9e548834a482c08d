-- One draw of `Filter` and of `FilterMap` is a fold of the source, which stops with the item that is kept.
use Rattle.std.specs.Prelude.{◌≡◌, Result, Ok, Err, Option, Some, None, List, [], ◌∷◌}
use Rattle.std.specs.List.{FoldsTo}
use Rattle.std.proofs.Common.{refl, sym, ap, subst}
use Rattle.fallible_contract.specs.Traces.{Answered}
use Rattle.fallible_contract.specs.Contract.{Contract, Lawful}
use Rattle.fallible_contract.specs.Closures.{IsCallable}
use Rattle.fallible_contract.specs.Folds.{HoldsAtEachTurn, Driven, DriveExit, goes_on, within}
use Rattle.fallible_contract.specs.Folding.{FoldingTurn, TurnedBy}
use Rattle.fallible_contract.specs.Passing.{PassTrace, ItemPassed}
use Rattle.fallible_contract.specs.Searching.{IsSearchTurn, SearchDecides, find_map_pick}
use Rattle.fallible_contract.proofs.Lemmas.Folds.{folds_to_by_implication, holds_each_turn_by_implication, drained_by_implication, step_of_first_drawn}
use Rattle.fallible_contract.proofs.Lemmas.Folding.{source_fold_drives_adapter}
use Rattle.fallible_contract.proofs.Lemmas.Passing.{holds_each_turn_callable}
use Rattle.fallible_core.specs.Filtering.Filter.{DrawingTurn, StopsWithItem}
use Rattle.fallible_core.specs.Filtering.FilterMap.{filter_map_outcome}
use Rattle.std.specs.declared.ops.ControlFlow.{ControlFlow}
use Rattle.std.specs.declared.ops.ControlFlow.TheVariants.{Continue, Break}
use Rattle.fallible_contract.specs.declared.passing.Outcome.{Outcome}
use Rattle.fallible_contract.specs.declared.passing.Outcome.TheVariants.{Kept, LeftOut, Failure, End}

-- ---- one draw, by the turn that stops with what stays

module _ {F X V B E : Type 0} (call : F → X → V → F → Type 0) (outcome : X → V → Outcome B E) where
  outcome_is_left_out_where_turn_goes_on : (o : Outcome B E) → TurnedBy StopsWithItem tt o (Continue tt) tt → o ≡ LeftOut
  outcome_is_left_out_where_turn_goes_on (Kept y) (made, stops, is) = absurd (let e : Continue tt ≡ Break (Ok (Some y)) = rw stops at is in cc)
  outcome_is_left_out_where_turn_goes_on LeftOut w = refl
  outcome_is_left_out_where_turn_goes_on (Failure e) w = absurd (let f = w.0 in cc)
  outcome_is_left_out_where_turn_goes_on End w = absurd (let f = w.0 in cc)

  -- a turn on which the draw goes on leaves the item out
  item_passed_of_drawing : (f : F) (x : X) (g : F) → DrawingTurn call outcome f x (Continue tt) g → ItemPassed call outcome f x LeftOut g
  item_passed_of_drawing f x g w = (w.0, w.1, outcome_is_left_out_where_turn_goes_on (outcome x w.0) w.2)

  folds_to_folding_turns_of_drawing : (items : List X) (f g : F) → FoldsTo (goes_on (DrawingTurn call outcome)) f items g → FoldsTo {P = Unit {0} × F} (goes_on (FoldingTurn call outcome StopsWithItem)) (tt, f) items (tt, g)
  folds_to_folding_turns_of_drawing [] f g e = ap (λ h. (tt, h)) e
  folds_to_folding_turns_of_drawing (x ∷ items) f g w = ((tt, w.0), w.1, folds_to_folding_turns_of_drawing items w.0 g w.2)

  drive_exit_of_folding_of_drawing : (last : Answered X E) (f g : F) (r : Answered (Answered B E) E) → DriveExit (DrawingTurn call outcome) f last r g → DriveExit {C = Unit {0} × F} (FoldingTurn call outcome StopsWithItem) (tt, f) last r (tt, g)
  drive_exit_of_folding_of_drawing (Ok None) f g r e = (e.0, ap (λ h. (tt, h)) e.1)
  drive_exit_of_folding_of_drawing (Ok (Some x)) f g r e = e
  drive_exit_of_folding_of_drawing (Err d) f g r e = (e.0, ap (λ h. (tt, h)) e.1)

-- the turn may be taken where the closure may be called on what comes
pub holds_each_turn_drawing : {S F X V B E : Type 0} {m : Contract S X E} {call : F → X → V → F → Type 0} (outcome : X → V → Outcome B E) {pre : F → X → Type 0} {s : S} {f : F} → Lawful m → m.can_next s → IsCallable call pre (m.may_give s) f → HoldsAtEachTurn m.steps (goes_on (DrawingTurn call outcome)) pre s f
holds_each_turn_drawing {call = call} outcome l can callable = holds_each_turn_by_implication (item_passed_of_drawing call outcome) (λ g x p. p) (holds_each_turn_callable outcome l can callable)

-- a fold by that turn is one draw
pub pass_trace_of_drawing : {S F X V B E : Type 0} {steps : S → Answered X E → S → Type 0} {call : F → X → V → F → Type 0} (outcome : X → V → Outcome B E) {s t : S} {f g : F} {answer : Answered (Answered B E) E} {r : Answered B E} → Driven steps (DrawingTurn call outcome) s f answer t g → r ≡ within answer → PassTrace steps call outcome (s, f) (r ∷ []) (t, g)
pass_trace_of_drawing {steps = steps} {call = call} outcome {s = s} {t = t} {f = f} {g = g} {answer = answer} {r = r} driven is = subst (λ (z : Answered _ _). PassTrace steps call outcome (s, f) (z ∷ []) (t, g)) (sym is)
    (step_of_first_drawn (source_fold_drives_adapter {turns = StopsWithItem} {p = (tt, f)} {q = (tt, g)} (drained_by_implication (λ items last w. record { carried = (tt, w.carried); went = folds_to_folding_turns_of_drawing call outcome items f w.carried w.went; exit = drive_exit_of_folding_of_drawing call outcome last w.carried g answer w.exit }) driven)))

-- ---- `FilterMap`

module _ {F X B E : Type 0} (call : F → X → Result (Option B) E → F → Type 0) where
  -- a turn on which the search goes on leaves the item out
  item_passed_of_search : (f : F) (x : X) (g : F) → IsSearchTurn call find_map_pick f x (Continue tt) g → ItemPassed {E = E} call filter_map_outcome f x LeftOut g
  item_passed_of_search f x g (Some y, called, none) = absurd (let n = none 0 in cc)
  item_passed_of_search f x g (None, called, none) = (Ok None, called, refl)

  drawing_turn_stops : (f : F) (x : X) (stop : Answered B E) (g : F) → SearchDecides call find_map_pick 0 f x stop g → DrawingTurn call filter_map_outcome f x (Break stop) g
  drawing_turn_stops f x (Ok None) g (Some y, called, is) = absurd cc
  drawing_turn_stops f x (Ok None) g (None, called, is) = absurd cc
  drawing_turn_stops f x (Ok (Some z)) g (None, called, is) = absurd cc
  drawing_turn_stops f x (Ok (Some z)) g (Some y, called, is) = let same : y ≡ z = cc in (Ok (Some y), called, (Break y, refl, ap (λ v. Break (Ok (Some v))) (sym same)))
  drawing_turn_stops f x (Err e) g w = (Err e, w, (refl, refl))

  drawing_turn_by_search : (f : F) (x : X) (r : ControlFlow (Answered B E) (Unit {0})) (g : F) → IsSearchTurn call find_map_pick f x r g → DrawingTurn call filter_map_outcome f x r g
  drawing_turn_by_search f x (Continue u) g w = let left = item_passed_of_search f x g w in (left.0, left.1, subst (λ o. TurnedBy StopsWithItem tt o (Continue tt) tt) (sym left.2) (refl, refl))
  drawing_turn_by_search f x (Break stop) g w = drawing_turn_stops f x stop g (w 0)

  drive_exit_by_search : (last : Answered X E) (f g : F) (r : Answered (Answered B E) E) → DriveExit (IsSearchTurn call find_map_pick) f last r g → DriveExit (DrawingTurn call filter_map_outcome) f last r g
  drive_exit_by_search (Ok None) f g r e = e
  drive_exit_by_search (Ok (Some x)) f g r e = (e.0, drawing_turn_by_search f x (Break e.0) g e.1, e.2)
  drive_exit_by_search (Err d) f g r e = e

module _ {S F X B E : Type 0} {call : F → X → Result (Option B) E → F → Type 0} where
  pub holds_each_turn_filter_map : {m : Contract S X E} {pre : F → X → Type 0} {s : S} {f : F} → Lawful m → m.can_next s → IsCallable call pre (m.may_give s) f → HoldsAtEachTurn m.steps (goes_on (IsSearchTurn call find_map_pick)) pre s f
  holds_each_turn_filter_map l can callable = holds_each_turn_by_implication (item_passed_of_search call) (λ g x p. p) (holds_each_turn_callable filter_map_outcome l can callable)

  pub pass_trace_of_filter_map : {steps : S → Answered X E → S → Type 0} {s t : S} {f g : F} {answer : Answered (Answered B E) E} {r : Answered B E} → Driven steps (IsSearchTurn call find_map_pick) s f answer t g → r ≡ within answer → PassTrace steps call filter_map_outcome (s, f) (r ∷ []) (t, g)
  pass_trace_of_filter_map {f = f} {g = g} {answer = answer} driven is = pass_trace_of_drawing filter_map_outcome (drained_by_implication (λ items last w. record { carried = w.carried; went = folds_to_by_implication (λ d x e k. drawing_turn_by_search call d x (Continue tt) e k) items f w.carried w.went; exit = drive_exit_by_search call last w.carried g answer w.exit }) driven) is
