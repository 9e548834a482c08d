-- What a call of the source returns, and the call of the closure where it met a failure, are what that call of an adapter whose closure is called on failures returns: so of a fold.
use Rattle.std.specs.Prelude.{◌≡◌, List, [], ◌∷◌, ◌++◌, map, Option, Result, Some, None, Ok, Err}
use Rattle.std.proofs.Common.{refl, sym, subst}
use Rattle.fallible_contract.specs.Traces.{Answered, Run, item}
use Rattle.fallible_contract.specs.Contract.{Contract, Lawful}
use Rattle.fallible_contract.specs.Closures.{IsCallable}
use Rattle.fallible_contract.specs.Failing.{failing_step, FailingAnswer, TakesFailure}
use Rattle.fallible_contract.specs.Folds.{Drained, HoldsAtEachTurn, DrivenBy}
use Rattle.fallible_contract.specs.Laws.Closures.{reaches_reflexive, is_callable_after}
use Rattle.fallible_contract.proofs.Lemmas.Failing.{failing_trace_of_failing_answer}
use Rattle.fallible_contract.proofs.Lemmas.Folding.{holds_at_each_turn_of_held}
use Rattle.std.specs.declared.ops.ControlFlow.{ControlFlow}

-- ---- what a call returns, by what came

-- `came made items last` says that the call returns `made` where the items came, and then the last answer. A failure that comes last is the answer; otherwise the answer is a value. `becomes` says the same where failures are others.
pub record FailsLast {X C D E : Type 0} (came : Result C D → List X → Answered X D → Type 0) (becomes : Result C E → List X → Answered X E → Type 0) : Type 0 where
  pub at_value : (made : Result C D) (items : List X) (v : Option X) → came made items (Ok v) → (w : C) × (made ≡ Ok w) × becomes (Ok w) items (Ok v)
  pub at_failure : (made : Result C D) (items : List X) (d : D) → came made items (Err d) → (made ≡ Err d) × ((e : E) → becomes (Err e) items (Err e))

module _ {X D E C R : Type 0} (turns : C → X → ControlFlow R (Unit {0}) → C → Type 0) (c d : C) where
  driven_by_ok_of_value : (made : Answered R D) (items : List X) (v : Option X) → DrivenBy turns c made d items (Ok v) → (w : Option R) × (made ≡ Ok w) × DrivenBy {E = E} turns c (Ok w) d items (Ok v)
  driven_by_ok_of_value made items None at = (None, at.exit.0, record { carried = at.carried; went = at.went; exit = (refl, at.exit.1) })
  driven_by_ok_of_value made items (Some x) at = (Some at.exit.0, at.exit.2, record { carried = at.carried; went = at.went; exit = (at.exit.0, at.exit.1, refl) })

  -- a fold, from the state c to d
  pub fails_last_drive : FailsLast (λ made. DrivenBy {E = D} turns c made d) (λ made. DrivenBy {E = E} turns c made d)
  fails_last_drive = record { at_value = driven_by_ok_of_value; at_failure = λ made items e at. (at.exit.0, (λ f. record { carried = at.carried; went = at.went; exit = (refl, at.exit.1) })) }

-- ---- what becomes of the last answer

module _ {F X C D E : Type 0} (call : F → D → E → F → Type 0) (f h : F) {came : Result C D → List X → Answered X D → Type 0} {becomes : Result C E → List X → Answered X E → Type 0} (fails : FailsLast came becomes) where
  -- an answer with which the call comes to what the closure makes of what the source's came to
  abbrev LastBecomes : List X → Answered X D → Result C E → Type 0
  LastBecomes items last r = (answer : Answered X E) × FailingAnswer call f last answer h × becomes r items answer

  last_becomes_of_came : (items : List X) (last : Answered X D) (made : Result C D) (r : Result C E) → came made items last → FailingAnswer call f made r h → LastBecomes items last r
  last_becomes_of_came items (Ok v) made r at k = let value = fails.at_value made items v at in let j = subst (λ z. FailingAnswer call f z r h) value.1 k in
      (Ok v, (refl, j.1), subst (λ z. becomes z items (Ok v)) (sym j.0) value.2)
  last_becomes_of_came items (Err d) made r at k = let failure = fails.at_failure made items d at in let j = subst (λ z. FailingAnswer call f z r h) failure.0 k in
      (Err j.0, (j.0, j.1, refl), subst (λ z. becomes z items (Err j.0)) (sym j.2) (failure.1 j.0))

-- ---- draws of the source are draws of it

module _ {S F X D E : Type 0} (steps : S → Answered X D → S → Type 0) (call : F → D → E → F → Type 0) where
  -- items, and what becomes of the last answer
  run_of_failing_step_to_last : (items : List X) (last : Answered X D) (answer : Answered X E) (s t : S) (f h : F) → FailingAnswer call f last answer h → Run steps s (map item items ++ last ∷ []) t → Run (failing_step steps call) (s, f) (map item items ++ answer ∷ []) (t, h)
  run_of_failing_step_to_last [] last answer s t f h made ran = ((t, h), failing_trace_of_failing_answer steps answer last (subst (λ (u : S). steps s last u) ran.2 ran.1) made, refl)
  run_of_failing_step_to_last (x ∷ items) last answer s t f h made ran = ((ran.0, f), failing_trace_of_failing_answer steps (item x) (item x) ran.1 (refl, refl), run_of_failing_step_to_last items last answer ran.0 t f h made ran.2)

pub drained_of_failing_step_by_source : {S F X C D E : Type 0} {steps : S → Answered X D → S → Type 0} {call : F → D → E → F → Type 0} {s t : S} (f h : F) {came : Result C D → List X → Answered X D → Type 0} {becomes : Result C E → List X → Answered X E → Type 0} → FailsLast came becomes
    → {made : Result C D} {r : Result C E} → Drained steps (came made) s t → FailingAnswer call f made r h → Drained (failing_step steps call) (becomes r) (s, f) (t, h)
drained_of_failing_step_by_source {steps = steps} {call = call} {s = s} {t = t} f h fails {made = made} {r = r} w k = let last = last_becomes_of_came call f h fails w.items w.last made r w.at k in
    record { items = w.items; last = last.0; ran = run_of_failing_step_to_last steps call w.items w.last last.0 s t f h last.1 w.ran; at = last.2 }

-- a turn of it may be taken where one of the source may
pub holds_each_turn_of_source_by_failing : {S F X D E C : Type 0} {steps : S → Answered X D → S → Type 0} {call : F → D → E → F → Type 0} {goes : C → X → C → Type 0} {P : C → X → Type 0} {s : S} {c : C} (f : F) → HoldsAtEachTurn (failing_step steps call) goes P (s, f) c → HoldsAtEachTurn steps goes P s c
holds_each_turn_of_source_by_failing {steps = steps} {call = call} f holds = holds_at_each_turn_of_held {held = failing_step steps call} (λ u. (u, f)) (λ u x v step. failing_trace_of_failing_answer steps (item x) (item x) step (refl, refl)) holds

-- ---- the closure may be called on the failure that was met

takes_failure_of_made : {F X C D E : Type 0} (takes : F → D → Type 0) {came : Result C D → List X → Answered X D → Type 0} {becomes : Result C E → List X → Answered X E → Type 0} → FailsLast came becomes → (items : List X) (last : Answered X D) (made : Result C D) (f : F) → came made items last → TakesFailure takes f last → TakesFailure takes f made
takes_failure_of_made takes fails items (Ok v) made f at k = subst (TakesFailure takes f) (sym (fails.at_value made items v at).1) tt
takes_failure_of_made takes fails items (Err d) made f at k = subst (TakesFailure takes f) (sym (fails.at_failure made items d at).0) k

module _ {S F X D E : Type 0} {m : Contract S X D} (l : Lawful m) (call : F → D → E → F → Type 0) (takes : F → D → Type 0) where
  takes_failure_at_last : (items : List X) (last : Answered X D) (s t : S) (f : F) → m.can_next s × IsCallable call takes (m.may_fail s) f → Run m.steps s (map item items ++ last ∷ []) t → TakesFailure takes f last
  takes_failure_at_last [] (Ok v) s t f can ran = tt
  takes_failure_at_last [] (Err d) s t f can ran = can.1.at f d reaches_reflexive ((l.kept_by_draw s (Err d) ran.0 can.0 ran.1).answer.0)
  takes_failure_at_last (x ∷ items) last s t f can ran = let a = l.kept_by_draw s (item x) ran.0 can.0 ran.1 in takes_failure_at_last items last ran.0 t f (a.can_next, is_callable_after a.may_fail reaches_reflexive can.1) ran.2

  pub closure_takes_drawn_failure : {s t : S} {f : F} → m.can_next s × IsCallable call takes (m.may_fail s) f → (drawn : Answered X D) → m.steps s drawn t → TakesFailure takes f drawn
  closure_takes_drawn_failure {s = s} {t = t} {f = f} can drawn step = takes_failure_at_last [] drawn s t f can (t, step, refl)

  pub takes_failure_made : {C : Type 0} {came : Result C D → List X → Answered X D → Type 0} {becomes : Result C E → List X → Answered X E → Type 0} {s t : S} {f : F} {made : Result C D} → FailsLast came becomes → m.can_next s × IsCallable call takes (m.may_fail s) f → Drained m.steps (came made) s t → TakesFailure takes f made
  takes_failure_made {s = s} {t = t} {f = f} {made = made} fails can w = takes_failure_of_made takes fails w.items w.last made f w.at (takes_failure_at_last w.items w.last s t f can w.ran)
