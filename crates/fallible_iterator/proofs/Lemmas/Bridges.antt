-- What std reads of a fallible iterator, and what becomes of that on the way back.
use Rattle.std.specs.Prelude.{◌≡◌, ◌≤◌, ◌↔◌, List, [], ◌∷◌, map, Option, Some, None, Result, Ok, Err}
use Rattle.std.specs.Option.{option_transpose}
use Rattle.std.specs.Result.{result_transpose}
use Rattle.std.specs.Iterator.{Count, IsFinite, size, MakesProgress}
use Rattle.std.specs.List.{FoldsTo}
use Rattle.std.proofs.Common.{refl, sym, ap, subst, ◌∙◌}
use Rattle.fallible_contract.specs.Traces.{Answered, Run}
use Rattle.fallible_contract.specs.Contract.{Contract, Lawful}
use Rattle.fallible_contract.specs.Ends.{Ends, LawfulEnds, from_back}
use Rattle.fallible_contract.specs.BothEnds.{RunAtEnds}
use Rattle.fallible_contract.specs.Lists.{AlwaysGives, Lists}
use Rattle.fallible_contract.specs.Laws.Contract.{kept_by_draws_run}
-- a lemma of `fallible_core`, reexported
pub use Rattle.fallible_core.proofs.Lemmas.Bridges.{unwrapped_items}
use Rattle.fallible_iterator.specs.Sources.Std.{std_step, std_element, IsAskable, IsAskableAtEnds}
use Rattle.fallible_contract.specs.declared.answers.Side.{Side}
use Rattle.fallible_contract.specs.declared.answers.Side.TheVariants.{Front, Back}

module _ {A E : Type 0} where
  option_transpose_undoes_result_transpose : (r : Answered A E) → option_transpose (result_transpose r) ≡ r
  option_transpose_undoes_result_transpose (Ok (Some x)) = refl
  option_transpose_undoes_result_transpose (Ok None) = refl
  option_transpose_undoes_result_transpose (Err e) = refl

  -- what `convert` makes of an element is the answer that the element is
  option_transpose_undoes_std_element : (r : Answered A E) → option_transpose (std_element {A = A} {E = E} Ok Err r) ≡ r
  option_transpose_undoes_std_element (Ok (Some x)) = refl
  option_transpose_undoes_std_element (Ok None) = refl
  option_transpose_undoes_std_element (Err e) = refl

-- ---- traces

module _ {P A E : Type 0} (steps : P → Answered A E → P → Type 0) where
  abbrev StepTransposed : P → Answered A E → P → Type 0
  StepTransposed p r q = steps p (option_transpose (result_transpose r)) q

  transposed_run_to_source : (trace : List (Answered A E)) (p q : P) → Run StepTransposed p trace q → Run steps p trace q
  transposed_run_to_source [] p q e = e
  transposed_run_to_source (r ∷ rest) p q h = (h.0, subst (λ (z : Answered A E). steps p z h.0) (option_transpose_undoes_result_transpose r) h.1, transposed_run_to_source rest h.0 q h.2)

  transposed_run_of_source : (trace : List (Answered A E)) (p q : P) → Run steps p trace q → Run StepTransposed p trace q
  transposed_run_of_source [] p q e = e
  transposed_run_of_source (r ∷ rest) p q h = (h.0, subst (λ (z : Answered A E). steps p z h.0) (sym (option_transpose_undoes_result_transpose r)) h.1, transposed_run_of_source rest h.0 q h.2)

  pub run_transposed_iff : (p : P) (trace : List (Answered A E)) (q : P) → Run StepTransposed p trace q ↔ Run steps p trace q
  run_transposed_iff p trace q = (transposed_run_to_source trace p q, transposed_run_of_source trace p q)

-- a list of items and ends, as answers
module _ {V S A E : Type 0} (view : V → S) (make : S → V) (made : (s : V) → make (view s) ≡ s) (has : (p : S) → view (make p) ≡ p) (steps : S → Answered A E → S → Type 0) where
  abbrev ok_answer_step : V → Option A → V → Type 0
  ok_answer_step s o t = steps (view s) (Ok o) (view t)

  run_of_folds_to_answers : (given : List (Option A)) (s t : V) → FoldsTo ok_answer_step s given t → Run steps (view s) (map (λ o. Ok o) given) (view t)
  run_of_folds_to_answers [] s t e = ap view e
  run_of_folds_to_answers (o ∷ rest) s t h = (view h.0, h.1, run_of_folds_to_answers rest h.0 t h.2)

  folds_to_of_run_of_answers : (given : List (Option A)) (s t : V) → Run steps (view s) (map (λ o. Ok o) given) (view t) → FoldsTo ok_answer_step s given t
  folds_to_of_run_of_answers [] s t e = sym (made s) ∙ ap make e ∙ made t
  folds_to_of_run_of_answers (o ∷ rest) s t h =
      let at : h.0 ≡ view (make h.0) = sym (has h.0) in
      (make h.0, subst (λ (z : S). steps (view s) (Ok o) z) at h.1, folds_to_of_run_of_answers rest (make h.0) t (subst (λ (z : S). Run steps z (map (λ q. Ok q) rest) (view t)) at h.2))

  -- Law: Position by position, what std's `next` of an `Unwrap` returns are its source's items and `Ok(None)`s: none is a failure.
  pub folds_to_iff_run_of_answers : (s : V) (given : List (Option A)) (t : V) → FoldsTo ok_answer_step s given t ↔ Run steps (view s) (map (λ o. Ok o) given) (view t)
  folds_to_iff_run_of_answers s given t = (run_of_folds_to_answers given s t, folds_to_of_run_of_answers given s t)

-- ---- required by `convert`

-- V's values are seen as those of a fallible iterator
module _ {V S A E : Type 0} (m : Contract S A E) (view : V → S) where
  abbrev gives_converted : V → Option (Result A E) → V → Type 0
  gives_converted s o t = m.steps (view s) (option_transpose o) (view t)

  abbrev can_convert : V → Type 0
  can_convert s = m.can_next (view s)

  abbrev remaining_converted : V → Count
  remaining_converted s = m.remaining (view s)

  abbrev step_converted : V → Answered A E → V → Type 0
  step_converted = std_step {A = A} {E = E} Ok Err can_convert gives_converted remaining_converted

  source_step_of_step : (s : V) (r : Answered A E) (t : V) → step_converted s r t → m.steps (view s) r (view t)
  source_step_of_step s r t h = subst (λ (z : Answered A E). m.steps (view s) z (view t)) (option_transpose_undoes_std_element r) h.0

  source_run_of_run : (trace : List (Answered A E)) (s t : V) → Run step_converted s trace t → Run m.steps (view s) trace (view t)
  source_run_of_run [] s t e = ap view e
  source_run_of_run (r ∷ rest) s t h = (view h.0, source_step_of_step s r h.0 h.1, source_run_of_run rest h.0 t h.2)

  size_remaining_never_rises : (s t : V) → Lawful m → m.can_next (view s) → step_converted s (Ok None) t → IsFinite (remaining_converted s) → size (remaining_converted t) ≤ size (remaining_converted s)
  size_remaining_never_rises s t l c h f = ((l.kept_by_draw (view s) (Ok None) (view t) c h.0).answer.1 f).1

  pub is_askable_converted : Lawful m → (s : V) → m.can_next (view s) → IsAskable {A = A} {E = E} Ok Err can_convert gives_converted remaining_converted s
  is_askable_converted l s c = record {
    asked = λ trace t ran. (kept_by_draws_run l (view s) trace (view t) c (source_run_of_run trace s t ran)).can_next;
    never_rises = λ trace t u ran h. size_remaining_never_rises t u l (kept_by_draws_run l (view s) trace (view t) c (source_run_of_run trace s t ran)).can_next h;
  }

  -- each draw makes the progress that std requires
  makes_progress_converted : Lawful m → (s : V) (r : Answered A E) (t : V) → m.can_next (view s) → m.steps (view s) r (view t) → MakesProgress can_convert remaining_converted s (std_element {A = A} {E = E} Ok Err r) t
  makes_progress_converted l s (Ok (Some x)) t c h = let g = l.kept_by_draw (view s) (Ok (Some x)) (view t) c h in record { on = λ f. let less = g.answer.2 f in (g.can_next, less.0, less.1); keeps = g.can_next; rests = λ f. tt }
  makes_progress_converted l s (Ok None) t c h = let g = l.kept_by_draw (view s) (Ok None) (view t) c h in record { on = λ f. tt; keeps = tt; rests = λ f. (g.answer.1 f).0 }
  makes_progress_converted l s (Err e) t c h = let g = l.kept_by_draw (view s) (Err e) (view t) c h in record { on = λ f. let less = g.answer.2 f in (g.can_next, less.0, less.1); keeps = g.can_next; rests = λ f. tt }

  step_of_source_step : Lawful m → (s : V) (r : Answered A E) (t : V) → m.can_next (view s) → m.steps (view s) r (view t) → step_converted s r t
  step_of_source_step l s r t c h = (subst (λ (z : Answered A E). m.steps (view s) z (view t)) (sym (option_transpose_undoes_std_element r)) h, makes_progress_converted l s r t c h)

  module _ (make : S → V) (made : (s : V) → make (view s) ≡ s) (has : (p : S) → view (make p) ≡ p) where
    run_of_source_run : Lawful m → (trace : List (Answered A E)) (s t : V) → m.can_next (view s) → Run m.steps (view s) trace (view t) → Run step_converted s trace t
    run_of_source_run l [] s t c e = sym (made s) ∙ ap make e ∙ made t
    run_of_source_run l (r ∷ rest) s t c h =
        let u : V = make h.0 in
        let at : h.0 ≡ view u = sym (has h.0) in
        let first : m.steps (view s) r (view u) = subst (λ (z : S). m.steps (view s) r z) at h.1 in
        let g = l.kept_by_draw (view s) r (view u) c first in
        (u, step_of_source_step l s r u c first, run_of_source_run l rest u t g.can_next (subst (λ (z : S). Run m.steps z rest (view t)) at h.2))

    pub run_converted_iff : Lawful m → (s : V) (trace : List (Answered A E)) (t : V) → m.can_next (view s) → Run step_converted s trace t ↔ Run m.steps (view s) trace (view t)
    run_converted_iff l s trace t c = (source_run_of_run trace s t, run_of_source_run l trace s t c)

  always_gives_converted : (l : List (Result A E)) (s : V) → AlwaysGives m.steps (view s) l → AlwaysGives step_converted s l
  always_gives_converted [] s g = λ r t h. g r (view t) (source_step_of_step s r t h)
  always_gives_converted (y ∷ l) s g = λ r t h. let d = g r (view t) (source_step_of_step s r t h) in (d.0, always_gives_converted l t d.1)

  pub lists_converted : (l : List (Result A E)) (s : V) → Lists m.steps (view s) l → Lists step_converted s l
  lists_converted l s i = record { runs = always_gives_converted l s i.runs }

-- ---- from both ends

module _ {V S A E : Type 0} {m : Contract S A E} {e : Ends S A E} (view : V → S) (l : LawfulEnds m e) where
  abbrev front_converted : V → Answered A E → V → Type 0
  front_converted = step_converted m view

  abbrev back_converted : V → Answered A E → V → Type 0
  back_converted = step_converted (from_back m e) view

  can_next_after_run_at_ends : (drawn : List (Side × Answered A E)) (s t : V) → e.can_next (view s) → RunAtEnds front_converted back_converted s drawn t → e.can_next (view t)
  can_next_after_run_at_ends [] s t c same = subst (λ (u : V). e.can_next (view u)) same c
  can_next_after_run_at_ends ((Front, r) ∷ drawn) s t c h = can_next_after_run_at_ends drawn h.0 t (l.front.kept_by_draw (view s) r (view h.0) c (source_step_of_step m view s r h.0 h.1)).can_next h.2
  can_next_after_run_at_ends ((Back, r) ∷ drawn) s t c h = can_next_after_run_at_ends drawn h.0 t (l.back.kept_by_draw (view s) r (view h.0) c (source_step_of_step (from_back m e) view s r h.0 h.1)).can_next h.2

  pub is_askable_at_ends_converted : (s : V) → e.can_next (view s) → IsAskableAtEnds {A = A} {E = E} Ok Err (can_convert m view) (can_convert (from_back m e) view) (gives_converted m view) (gives_converted (from_back m e) view) (remaining_converted m view) s
  is_askable_at_ends_converted s c = record {
    asked = λ drawn t mixed. l.front_can (view t) (can_next_after_run_at_ends drawn s t c mixed);
    asked_back = λ drawn t mixed. can_next_after_run_at_ends drawn s t c mixed;
    never_rises = λ drawn t u mixed h f. ((l.front.kept_by_draw (view t) (Ok None) (view u) (can_next_after_run_at_ends drawn s t c mixed) h.0).answer.1 f).1;
    never_rises_back = λ drawn t u mixed h f. ((l.back.kept_by_draw (view t) (Ok None) (view u) (can_next_after_run_at_ends drawn s t c mixed) h.0).answer.1 f).1;
  }
