-- A fold of the source by the predicate's answers is a fold of `TakeWhile`, which a rejected item closes.
use Rattle.std.specs.Prelude.{◌≡◌, Bool, true, false, List, [], ◌∷◌, Result, None, Ok, Err}
use Rattle.std.specs.List.{FoldsTo}
use Rattle.std.specs.Fn.{Mut}
use Rattle.std.specs.Borrow.{Bor}
use Rattle.std.proofs.Common.{refl, sym, ap, subst, ◌∙◌}
use Rattle.fallible_contract.specs.Traces.{Answered, item}
use Rattle.fallible_contract.specs.Closures.{IsCallable, call_by_reference, takes_by_reference}
use Rattle.fallible_contract.specs.Contract.{Contract, Lawful, parts_as}
use Rattle.fallible_contract.specs.Folds.{Drained, HoldsAtEachTurn, goes_on}
use Rattle.fallible_contract.specs.Folding.{FoldingTurn, FoldingTakes}
use Rattle.fallible_contract.specs.Passing.{asked, failure_at, end_at, PassAnswer, passing_step}
use Rattle.fallible_contract.specs.Laws.Passing.{Passes, done, end_passes, failure_passes, keeps, refuses, closes, leaves_out, passes_of_pass_trace}
use Rattle.fallible_contract.proofs.Lemmas.Folding.{holds_each_turn_of_held_while_kept, drained_of_holder_while_kept, holds_each_turn_of_source_fold}
use Rattle.fallible_contract.proofs.Lemmas.Passing.{pass_trace_answer}
use Rattle.fallible_core.specs.Cutting.TakeWhile.{take_while_outcome, refusing_call, take_while_contract, take_while_parts}
use Rattle.std.specs.declared.ops.ControlFlow.{ControlFlow}
use Rattle.fallible_core.specs.declared.cutting.take_while.TakeWhile.{TakeWhile}

-- ---- calls of the predicate, beside whether one was rejected

module _ {F X E : Type 0} (call : F → X → Result Bool E → F → Type 0) where
  folds_to_calls_without_flag : (P : X → Type 0) (made : List (X × Result Bool E)) (p q : Bool × F) → FoldsTo (λ p c q. P c.0 × refusing_call call p c.0 c.1 q) p made q → FoldsTo (λ f c g. P c.0 × call f c.0 c.1 g) p.1 made q.1
  folds_to_calls_without_flag P [] p q e = ap (λ z. z.1) e
  folds_to_calls_without_flag P (c ∷ made) p q w = (w.0.1, (w.1.0, w.1.1.0), folds_to_calls_without_flag P made w.0 q w.2)

  pub is_callable_beside : {pre : F → X → Type 0} {P : X → Type 0} (p : Bool × F) → IsCallable call pre P p.1 → IsCallable (refusing_call call) (λ q x. pre q.1 x) P p
  is_callable_beside {P = P} p callable = record { at = λ q x reached given. callable.at q.1 x (record { made = reached.made; by = folds_to_calls_without_flag P reached.made p q reached.by }) given }

-- ---- of the struct

module _ {S F X E : Type 0} (m : Contract S X E) (a : Mut F (Bor X × Unit {0}) (Result Bool E)) where
  abbrev steps_of_take_while_folds : TakeWhile S F → Answered X E → TakeWhile S F → Type 0
  steps_of_take_while_folds = (parts_as take_while_parts (take_while_contract m a)).steps

  abbrev CallsOfTakeWhileFolds : Bool × F → X → Result Bool E → Bool × F → Type 0
  CallsOfTakeWhileFolds = refusing_call (call_by_reference a)

  abbrev OnceOfTakeWhileFolds : S × (Bool × F) → Answered X E → S × (Bool × F) → Type 0
  OnceOfTakeWhileFolds = passing_step m.steps CallsOfTakeWhileFolds take_while_outcome

  -- the struct of its parts
  abbrev of_parts : S × (Bool × F) → TakeWhile S F
  of_parts p = record { it = p.0; taking = p.1 }

  -- no item was rejected
  abbrev IsOpen : S × (Bool × F) → Type 0
  IsOpen p = p.1.0 ≡ false

  -- while no item was rejected, one draw by the predicate's answer is one of `TakeWhile`
  step_of_open_parts : (s t : S) (f : F) (q : Bool × F) (r : Answered X E) → Passes m.steps CallsOfTakeWhileFolds take_while_outcome s (false, f) (r ∷ []) t q → steps_of_take_while_folds (of_parts (s, (false, f))) r (of_parts (t, q))
  step_of_open_parts s t f _ _ (end_passes step done) = (end_at, (step, refl), refl, refl)
  step_of_open_parts s t f _ _ (failure_passes e step done) = (failure_at e, (step, refl), refl, refl)
  step_of_open_parts s t f q _ (keeps x (Ok true) y step called is done) = let same : x ≡ y = cc in subst (λ (z : X). steps_of_take_while_folds (of_parts (s, (false, f))) (item z) (of_parts (t, q))) same (asked x (Ok true), (step, (q.1, called.0, refl)), refl, called.1)
  step_of_open_parts s t f q _ (keeps x (Ok false) y step called is done) = absurd cc
  step_of_open_parts s t f q _ (keeps x (Err e) y step called is done) = absurd cc
  step_of_open_parts s t f q _ (refuses x (Ok true) d step called is done) = absurd cc
  step_of_open_parts s t f q _ (refuses x (Ok false) d step called is done) = absurd cc
  step_of_open_parts s t f q _ (refuses x (Err e) d step called is done) = let same : e ≡ d = cc in subst (λ (z : E). steps_of_take_while_folds (of_parts (s, (false, f))) (Err z) (of_parts (t, q))) same (asked x (Err e), (step, (q.1, called.0, refl)), refl, called.1)
  step_of_open_parts s t f q _ (closes x (Ok true) step called is done) = absurd cc
  step_of_open_parts s t f q _ (closes x (Ok false) step called is done) = (asked x (Ok false), (step, (q.1, called.0, refl)), refl, called.1)
  step_of_open_parts s t f q _ (closes x (Err e) step called is done) = absurd cc
  step_of_open_parts s t f q r (leaves_out x (Ok true) step called is rest) = absurd cc
  step_of_open_parts s t f q r (leaves_out x (Ok false) step called is rest) = absurd cc
  step_of_open_parts s t f q r (leaves_out x (Err e) step called is rest) = absurd cc

  take_while_step_where_open : (p : S × (Bool × F)) (r : Answered X E) (q : S × (Bool × F)) → IsOpen p → passing_step m.steps CallsOfTakeWhileFolds take_while_outcome p r q → steps_of_take_while_folds (of_parts p) r (of_parts q)
  take_while_step_where_open (s, (true, f)) r q unrefused step = absurd cc
  take_while_step_where_open (s, (false, f)) r q unrefused step = step_of_open_parts s q.0 f q.1 r (passes_of_pass_trace step)

  -- and an item leaves it so
  open_after_draw : (s t : S) (p q : Bool × F) (y : X) → p.0 ≡ false → Passes m.steps CallsOfTakeWhileFolds take_while_outcome s p (item y ∷ []) t q → q.0 ≡ false
  open_after_draw s t p q _ unrefused (keeps x (Ok true) y step called is done) = called.1 ∙ unrefused
  open_after_draw s t p q _ unrefused (keeps x (Ok false) y step called is done) = absurd cc
  open_after_draw s t p q _ unrefused (keeps x (Err e) y step called is done) = absurd cc
  open_after_draw s t p q y unrefused (leaves_out x (Ok true) step called is rest) = absurd cc
  open_after_draw s t p q y unrefused (leaves_out x (Ok false) step called is rest) = absurd cc
  open_after_draw s t p q y unrefused (leaves_out x (Err e) step called is rest) = absurd cc

  is_open_stays : (p : S × (Bool × F)) (x : X) (q : S × (Bool × F)) → IsOpen p → passing_step m.steps CallsOfTakeWhileFolds take_while_outcome p (item x) q → IsOpen q
  is_open_stays p x q unrefused step = open_after_draw p.0 q.0 p.1 q.1 x unrefused (passes_of_pass_trace step)

  module _ (s : TakeWhile S F) where
    -- where an item was rejected, an end without a draw
    step_ends_where_refused : s.taking.0 ≡ true → steps_of_take_while_folds s (Ok None) s
    step_ends_where_refused is = subst (λ (b : Bool). steps_of_take_while_folds (of_parts (s.it, (b, s.taking.1))) (Ok None) (of_parts (s.it, (b, s.taking.1)))) (sym is) (refl, refl, refl)

    pub drained_refused : {came : List X → Answered X E → Type 0} → s.taking.0 ≡ true → came [] (Ok None) → Drained steps_of_take_while_folds came s s
    drained_refused is at = record { items = []; last = Ok None; ran = (s, step_ends_where_refused is, refl); at = at }

    module _ (unrefused : s.taking.0 ≡ false) where
      -- what becomes of one answer of the source is one draw
      pub step_of_drawn_where_taking : {t : S} (q : Bool × F) (r drawn : Answered X E) → m.steps s.it drawn t → PassAnswer CallsOfTakeWhileFolds take_while_outcome s.taking drawn r q → steps_of_take_while_folds s r (of_parts (t, q))
      step_of_drawn_where_taking {t = t} q r drawn step h = take_while_step_where_open (s.it, s.taking) r (t, q) unrefused (pass_trace_answer drawn step h)

      -- where its turns may be taken, the source's may
      pub holds_each_turn_taking : {C R : Type 0} (turns : C → X → ControlFlow R (Unit {0}) → C → Type 0) {P : C → X → Type 0} {c : C} → Lawful m → m.can_next s.it → IsCallable (call_by_reference a) (takes_by_reference a) (m.may_give s.it) s.taking.1 → HoldsAtEachTurn steps_of_take_while_folds (goes_on turns) P s c
          → HoldsAtEachTurn m.steps (goes_on (FoldingTurn CallsOfTakeWhileFolds take_while_outcome turns)) (FoldingTakes CallsOfTakeWhileFolds take_while_outcome (λ p x. takes_by_reference a p.1 x) P) s.it (c, s.taking)
      holds_each_turn_taking turns l can callable holds = holds_each_turn_of_source_fold l CallsOfTakeWhileFolds take_while_outcome turns can (is_callable_beside (call_by_reference a) s.taking callable) (holds_each_turn_of_held_while_kept IsOpen OnceOfTakeWhileFolds steps_of_take_while_folds of_parts take_while_step_where_open is_open_stays unrefused holds)

      -- and a drain of its source by the predicate's answers is one of it
      pub drained_taking : {came : List X → Answered X E → Type 0} {t : S} {q : Bool × F} → Drained OnceOfTakeWhileFolds came (s.it, s.taking) (t, q) → Drained steps_of_take_while_folds came s (of_parts (t, q))
      drained_taking w = drained_of_holder_while_kept IsOpen OnceOfTakeWhileFolds steps_of_take_while_folds of_parts take_while_step_where_open is_open_stays unrefused w
