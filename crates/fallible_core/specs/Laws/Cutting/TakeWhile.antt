-- The contract of `TakeWhile` is lawful where the source's is.
use Rattle.std.specs.Prelude.{[], ◌∷◌, Result, Ok, Err, Bool, true, false, List, map, ◌↔◌}
use Rattle.std.specs.Fn.{Mut}
use Rattle.std.specs.Borrow.{Bor}
use Rattle.std.proofs.Common.{refl, sym, subst, ap}
use Rattle.fallible_contract.specs.Traces.{item, failure, end, Answered, Run}
use Rattle.fallible_contract.specs.Contract.{Contract, KeptByDraw, Lawful}
use Rattle.fallible_contract.specs.Closures.{Calls, IsCallable, call_by_reference, takes_by_reference}
use Rattle.fallible_contract.specs.Passing.{Place, asked, failure_at, end_at, passing_contract, source_answer, call_of}
use Rattle.fallible_contract.specs.Hints.{upper_alone}
use Rattle.fallible_contract.specs.Laws.Closures.{is_callable_after}
use Rattle.fallible_contract.specs.Laws.Passing.{lawful_passing, pass_trace_closing, pass_trace_item, pass_trace_refusal, pass_trace_end, pass_trace_failure}
use Rattle.fallible_contract.specs.Laws.Closing.{lawful_closing}
use Rattle.fallible_core.specs.Cutting.TakeWhile.{take_while_outcome, taken_answer, is_refused, place_drawn, take_while_contract, TakeWhileTrace, takes_while_all}
use Rattle.std.specs.List.{FoldsTo, filter_map}
use Rattle.fallible_contract.specs.Closing.{closing_step}
use Rattle.fallible_contract.proofs.Lemmas.Closing.{closing_folds_iff_drawn_to_close}
use Rattle.fallible_contract.specs.Laws.LawForm.{IsTraced, run_of_whole_list, list_is_trace}
use Rattle.fallible_contract.specs.Laws.Contract.{lawful_with_traces, lawful_with_sound}
use Rattle.fallible_core.specs.Laws.Hints.Cutting.{take_while_hold}

module _ {S F X E : Type 0} (m : Contract S X E) (l : Lawful m) (g : Mut F (Bor X × Unit {0}) (Result Bool E)) where
  abbrev TakeWhileContract : Contract (S × F) X E
  TakeWhileContract = passing_contract m (call_by_reference g) (λ P f. IsCallable (call_by_reference g) (takes_by_reference g) P f) take_while_outcome (λ p h. upper_alone m p.0 h)

  lawful_taking : Lawful TakeWhileContract
  lawful_taking = lawful_passing (call_by_reference g) (λ P f. IsCallable (call_by_reference g) (takes_by_reference g) P f) take_while_outcome (λ p h. upper_alone m p.0 h) (λ P Q f h weak reached c. is_callable_after weak reached c) l

  -- the one call at a place
  call_of_place : (p q : F) (x : X) (v : Result Bool E) → Calls (call_by_reference g) p ((x, v) ∷ []) q → call_by_reference g p x v q
  call_of_place p q x v called = subst (λ (k : F). call_by_reference g p x v k) called.2 called.1

  kept_by_draw_taken : (p : S × F) (x : Place X (Result Bool E) E) (q : S × F) → TakeWhileContract.can_next p → place_drawn m.steps (call_by_reference g) p x q → KeptByDraw TakeWhileContract p (taken_answer x) q
  kept_by_draw_taken (s, f) (asked x (Ok true)) (t, h) c step = lawful_taking.kept_by_draw (s, f) (item x) (t, h) c (pass_trace_item x (Ok true) x step.0 (call_of_place f h x (Ok true) step.1) refl)
  kept_by_draw_taken (s, f) (asked x (Ok false)) (t, h) c step = lawful_taking.kept_by_draw (s, f) end (t, h) c (pass_trace_closing x (Ok false) step.0 (call_of_place f h x (Ok false) step.1) refl)
  kept_by_draw_taken (s, f) (asked x (Err e)) (t, h) c step = lawful_taking.kept_by_draw (s, f) (failure e) (t, h) c (pass_trace_refusal x (Err e) e step.0 (call_of_place f h x (Err e) step.1) refl)
  kept_by_draw_taken (s, f) (failure_at e) (t, h) c step = lawful_taking.kept_by_draw (s, f) (failure e) (t, h) c (rw (sym step.1) (pass_trace_failure step.0))
  kept_by_draw_taken (s, f) end_at (t, h) c step = lawful_taking.kept_by_draw (s, f) end (t, h) c (rw (sym step.1) (pass_trace_end step.0))

module _ {S F X R E : Type 0} (steps : S → Answered X E → S → Type 0) (call : F → X → R → F → Type 0) where
  -- the call at a first place, and those at the others
  pub calls_cons : (x : Place X R E) (places : List (Place X R E)) (f h g : F) → Calls call f (filter_map call_of (x ∷ [])) h → Calls call h (filter_map call_of places) g → Calls call f (filter_map call_of (x ∷ places)) g
  calls_cons (asked x v) places f h g one rest = (one.0, one.1, subst (λ (k : F). Calls call k (filter_map call_of places) g) (sym one.2) rest)
  calls_cons (failure_at e) places f h g one rest = subst (λ (k : F). Calls call k (filter_map call_of places) g) (sym one) rest
  calls_cons end_at places f h g one rest = subst (λ (k : F). Calls call k (filter_map call_of places) g) (sym one) rest

  pub calls_first_and_rest : (x : Place X R E) (places : List (Place X R E)) (f g : F) → Calls call f (filter_map call_of (x ∷ places)) g → (h : F) × Calls call f (filter_map call_of (x ∷ [])) h × Calls call h (filter_map call_of places) g
  calls_first_and_rest (asked x v) places f g c = (c.0, (c.0, c.1, refl), c.2)
  calls_first_and_rest (failure_at e) places f g c = (f, refl, c)
  calls_first_and_rest end_at places f g c = (f, refl, c)

  -- the draws from the source, and the calls at their places
  abbrev pub DrawnAndCalled : List (Place X R E) → S → F → S → F → Type 0
  DrawnAndCalled places s f t g = Run steps s (map source_answer places) t × Calls call f (filter_map call_of places) g

  pub drawn_and_called_of_folds_to : (places : List (Place X R E)) (s : S) (f : F) (t : S) (g : F) → FoldsTo (place_drawn steps call) (s, f) places (t, g) → DrawnAndCalled places s f t g
  drawn_and_called_of_folds_to [] s f t g e = (ap (λ p. p.0) e, ap (λ p. p.1) e)
  drawn_and_called_of_folds_to (x ∷ places) s f t g h = let b = drawn_and_called_of_folds_to places h.0.0 h.0.1 t g h.2 in ((h.0.0, h.1.0, b.0), calls_cons x places f h.0.1 g h.1.1 b.1)

  pub folds_to_of_drawn_and_called : (places : List (Place X R E)) (s : S) (f : F) (t : S) (g : F) → DrawnAndCalled places s f t g → FoldsTo (place_drawn steps call) (s, f) places (t, g)
  folds_to_of_drawn_and_called [] s f t g b = rw (b.0, b.1) refl
  folds_to_of_drawn_and_called (x ∷ places) s f t g b = let c = calls_first_and_rest x places f g b.1 in (((b.0).0, c.0), ((b.0).1, c.1), folds_to_of_drawn_and_called places (b.0).0 c.0 t g ((b.0).2, c.2))

pub take_while_law : {S F X E : Type 0} (steps : S → Answered X E → S → Type 0) (call : F → X → Result Bool E → F → Type 0) (p : (S × F) × Bool) (trace : List (Answered X E)) (q : (S × F) × Bool) → FoldsTo (closing_step (place_drawn steps call) taken_answer is_refused) p trace q ↔ TakeWhileTrace steps call p trace q
take_while_law steps call p trace q = let law = closing_folds_iff_drawn_to_close (place_drawn steps call) taken_answer is_refused p.0 p.1 trace q.0 q.1 in
    ((λ h. let d = law.0 h in let both = drawn_and_called_of_folds_to steps call d.0 (p.0).0 (p.0).1 (q.0).0 (q.0).1 d.1 in record { places = d.0; drawn = both.0; called = both.1; cut = d.2 }), (λ h. law.1 (h.places, folds_to_of_drawn_and_called steps call h.places (p.0).0 (p.0).1 (q.0).0 (q.0).1 (h.drawn, h.called), h.cut)))

pub take_while_traced : {S F X E : Type 0} {steps : S → Answered X E → S → Type 0} {traces : S → List (Answered X E) → S → Type 0} → IsTraced steps traces → (call : F → X → Result Bool E → F → Type 0) → IsTraced (closing_step (place_drawn steps call) taken_answer is_refused) (takes_while_all traces call)
take_while_traced {X = X} {E = E} {steps = steps} law call p trace q = let both = take_while_law steps call p trace q in (
  (λ ran. let h = both.0 ran in (map source_answer h.places, (law (p.0).0 (map source_answer h.places) (q.0).0).0 h.drawn, record { places = h.places; drawn = run_of_whole_list (map source_answer h.places); called = h.called; cut = h.cut })),
  (λ (l, ran, h). both.1 (record { places = h.places; drawn = subst (λ (k : List (Answered X E)). Run steps (p.0).0 k (q.0).0) (list_is_trace (map source_answer h.places) l h.drawn) ((law (p.0).0 l (q.0).0).1 ran); called = h.called; cut = h.cut })),
)

pub lawful_take_while : {S F X E : Type 0} {m : Contract S X E} (g : Mut F (Bor X × Unit {0}) (Result Bool E)) → Lawful m → Lawful (take_while_contract m g)
lawful_take_while {m = m} g l = lawful_with_sound (take_while_hold m (call_by_reference g) l.hold) (lawful_with_traces (takes_while_all m.traces (call_by_reference g)) (take_while_traced l.traced (call_by_reference g)) (lawful_closing (place_drawn m.steps (call_by_reference g)) taken_answer is_refused (kept_by_draw_taken m l g) (lawful_taking m l g)))
