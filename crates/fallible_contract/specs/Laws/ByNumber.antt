-- A draw of an adapter that keeps items by their numbers goes as the draws of its source go.
use Rattle.std.specs.Prelude.{◌≡◌, ◌↔◌, ℕ, ◌+◌, List, [], ◌∷◌, map, filter, cond, Option, Some, None, Ok, Err, Bool, true, false}
use Rattle.std.proofs.Common.{refl, subst, inl, inr}
use Rattle.std.proofs.lemmas.Bool.{cases_Bool}
use Rattle.fallible_contract.specs.Traces.{LastKept, Answered, Run, item, end, failure}
use Rattle.fallible_contract.specs.Contract.{Contract, KeptByDraw, Lawful}
use Rattle.fallible_contract.specs.ByNumber.{with_numbers, is_kept, kept, KeptByNumber, keeps_all}
use Rattle.fallible_contract.specs.Laws.LawForm.{IsTraced, run_of_whole_list, list_is_trace}
use Rattle.fallible_contract.specs.Laws.Contract.{kept_by_draws_of_one_draw, kept_by_draw_from_before_draws}

module _ {A E : Type 0} (keeps : ℕ → Bool) where
  -- none is kept of these, and then it isn't the first one, nor any of the others
  none_kept_of_nil : (b : Bool) (p : Option ℕ × Answered A E) (rest : List (Option ℕ × Answered A E)) → map (λ p. p.1) (cond b (p ∷ rest) rest) ≡ [] → (b ≡ false) × (map (λ p. p.1) rest ≡ [])
  none_kept_of_nil true p rest e = absurd cc
  none_kept_of_nil false p rest e = (refl, e)

  kept_is_never_nil_where_last_kept : (p : Option ℕ × Answered A E) (rest : List (Option ℕ × Answered A E)) → LastKept (is_kept keeps) (p ∷ rest) → kept keeps (p ∷ rest) ≡ [] → ⊥
  kept_is_never_nil_where_last_kept p [] last e = let h = (none_kept_of_nil (is_kept keeps p) p [] e).0 in let d : true ≡ false = cc in cc
  kept_is_never_nil_where_last_kept p (q ∷ rest) last e = kept_is_never_nil_where_last_kept q rest last (none_kept_of_nil (is_kept keeps p) p (filter (is_kept keeps) (q ∷ rest)) e).1

  pub last_kept_tail : (p : Option ℕ × Answered A E) (rest : List (Option ℕ × Answered A E)) → LastKept (is_kept keeps) (p ∷ rest) → LastKept (is_kept keeps) rest
  last_kept_tail p [] last = tt
  last_kept_tail p (q ∷ rest) last = last

  -- where none is kept, there is none
  pub source_nil_of_no_answers : (source : List (Answered A E)) (k : ℕ) → LastKept (is_kept keeps) (with_numbers k source) → kept keeps (with_numbers k source) ≡ [] → source ≡ []
  source_nil_of_no_answers [] k last e = refl
  source_nil_of_no_answers (Ok (Some x) ∷ source) k last e = absurd (kept_is_never_nil_where_last_kept (Some k, item x) (with_numbers (k + 1) source) last e)
  source_nil_of_no_answers (Ok None ∷ source) k last e = absurd (kept_is_never_nil_where_last_kept (None, end) (with_numbers k source) last e)
  source_nil_of_no_answers (Err d ∷ source) k last e = absurd (kept_is_never_nil_where_last_kept (None, failure d) (with_numbers k source) last e)

module _ {S A E : Type 0} (m : Contract S A E) (keeps : ℕ → Bool) (l : Lawful m) where
  -- the answer was the last one drawn
  kept_by_draw_last : (source : List (Answered A E)) (k : ℕ) (s u t : S) (r q : Answered A E) → m.can_next s → m.steps s q u → Run m.steps u source t → r ∷ [] ≡ q ∷ kept keeps (with_numbers k source) → LastKept (is_kept keeps) (with_numbers k source) → KeptByDraw m s r t
  kept_by_draw_last source k s u t r q c step ran e last =
      let same : q ≡ r = cc in
      let none : kept keeps (with_numbers k source) ≡ [] = cc in
      let at : u ≡ t = rw (source_nil_of_no_answers keeps source k last none) at ran in
      subst (λ (v : S). KeptByDraw m s r v) at (subst (λ (z : Answered A E). KeptByDraw m s z u) same (l.kept_by_draw s q u c step))

  kept_by_draw_of_run_to_first_kept : (source : List (Answered A E)) (k : ℕ) (s t : S) (r : Answered A E) → m.can_next s → Run m.steps s source t → r ∷ [] ≡ kept keeps (with_numbers k source) → LastKept (is_kept keeps) (with_numbers k source) → KeptByDraw m s r t
  kept_by_draw_of_run_to_first_kept [] k s t r c ran e last = absurd cc
  kept_by_draw_of_run_to_first_kept (Ok (Some x) ∷ source) k s t r c ran e last = elim (cases_Bool (keeps k)) [
    | inl h ↦ kept_by_draw_last source (k + 1) s ran.0 t r (item x) c ran.1 ran.2 (rw h at e) (last_kept_tail keeps (Some k, item x) (with_numbers (k + 1) source) last)
    | inr h ↦ let a = l.kept_by_draw s (item x) ran.0 c ran.1 in kept_by_draw_from_before_draws (kept_by_draws_of_one_draw a) (kept_by_draw_of_run_to_first_kept source (k + 1) ran.0 t r a.can_next ran.2 (rw h at e) (last_kept_tail keeps (Some k, item x) (with_numbers (k + 1) source) last))
  ]
  kept_by_draw_of_run_to_first_kept (Ok None ∷ source) k s t r c ran e last = kept_by_draw_last source k s ran.0 t r end c ran.1 ran.2 e (last_kept_tail keeps (None, end) (with_numbers k source) last)
  kept_by_draw_of_run_to_first_kept (Err d ∷ source) k s t r c ran e last = kept_by_draw_last source k s ran.0 t r (failure d) c ran.1 ran.2 e (last_kept_tail keeps (None, failure d) (with_numbers k source) last)

  -- one answer that is kept goes as a draw with that answer goes
  pub kept_by_draw_by_number : (to_skip_after : ℕ → ℕ) (s t : S) (r : Answered A E) (to_skip : ℕ) → m.can_next s → KeptByNumber keeps to_skip_after m.steps s (r ∷ []) t to_skip → KeptByDraw m s r t
  kept_by_draw_by_number to_skip_after s t r to_skip c h = kept_by_draw_of_run_to_first_kept h.source_trace 1 s t r c h.drawn h.answers h.last_kept

-- The trace over the source's steps is the definition over all that the source returns.
pub kept_over_all : {S A E : Type 0} {steps : S → Answered A E → S → Type 0} {traces : S → List (Answered A E) → S → Type 0} → IsTraced steps traces → (keeps : ℕ → Bool) (to_skip_after : ℕ → ℕ) (s : S) (trace : List (Answered A E)) (t : S) (to_skip : ℕ) → KeptByNumber keeps to_skip_after steps s trace t to_skip ↔ keeps_all keeps to_skip_after traces s trace t to_skip
kept_over_all {S} {A} {E} {steps = steps} law keeps to_skip_after s trace t to_skip = (
  (λ h. (h.source_trace, (law s h.source_trace t).0 h.drawn, record { source_trace = h.source_trace; drawn = run_of_whole_list h.source_trace; answers = h.answers; last_kept = h.last_kept; remaining = h.remaining })),
  (λ (l, ran, h). record { source_trace = h.source_trace; drawn = subst (λ (k : List (Answered A E)). Run steps s k t) (list_is_trace h.source_trace l h.drawn) ((law s l t).1 ran); answers = h.answers; last_kept = h.last_kept; remaining = h.remaining }),
)
