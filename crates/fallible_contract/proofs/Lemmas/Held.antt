-- The runs of what a value holds and yields once.
use Rattle.std.specs.Prelude.{◌≡◌, ℕ, List, [], ◌∷◌, ◌++◌, replicate, Option, Some, None, ◌↔◌}
use Rattle.std.proofs.Common.{refl, sym, subst, inl, inr, suc, zero}
use Rattle.fallible_contract.specs.Traces.{Answered, Run, end}
use Rattle.fallible_contract.specs.Held.{held_answer, OnceTrace, once_step}

-- ---- one answer, and then ends

module _ {A B E : Type 0} (f : B → Answered A E) where
  trace_is_only_ends_after_held : (trace : List (Answered A E)) (w : Option B) → Run (once_step f) None trace w → ((n : ℕ) × (trace ≡ replicate n end)) × (w ≡ None)
  trace_is_only_ends_after_held [] w h = ((0, refl), sym h)
  trace_is_only_ends_after_held (r ∷ rest) w h = let p = trace_is_only_ends_after_held rest w (subst (λ u. Run (once_step f) u rest w) h.1.1 h.2) in ((suc p.0.0, (λ i. h.1.0 i ∷ p.0.1 i)), p.1)

  once_trace_of_run : (trace : List (Answered A E)) (v w : Option B) → Run (once_step f) v trace w → OnceTrace f v trace w
  once_trace_of_run [] v w h = inl (refl, sym h)
  once_trace_of_run (r ∷ rest) (Some x) w h = let p = trace_is_only_ends_after_held rest w (subst (λ u. Run (once_step f) u rest w) h.1.1 h.2) in inr (p.0.0, (λ i. h.1.0 i ∷ p.0.1 i), p.1)
  once_trace_of_run (r ∷ rest) None w h = let p = trace_is_only_ends_after_held (r ∷ rest) w h in inr (p.0.0, p.0.1, p.1)

  run_of_only_ends : (n : ℕ) → Run (once_step f) None (replicate n end) None
  run_of_only_ends zero = refl
  run_of_only_ends (suc n) = (None, (refl, refl), run_of_only_ends n)

  run_of_held_answer_and_ends : (v : Option B) (n : ℕ) (trace : List (Answered A E)) (w : Option B) → trace ≡ held_answer f v ++ replicate n end → w ≡ None → Run (once_step f) v trace w
  run_of_held_answer_and_ends (Some x) n trace w e d = subst (λ l. Run (once_step f) (Some x) l w) (sym e) (subst (λ u. Run (once_step f) (Some x) (f x ∷ replicate n end) u) (sym d) (None, (refl, refl), run_of_only_ends n))
  run_of_held_answer_and_ends None n trace w e d = subst (λ l. Run (once_step f) None l w) (sym e) (subst (λ u. Run (once_step f) None (replicate n end) u) (sym d) (run_of_only_ends n))

  run_of_once_trace : (trace : List (Answered A E)) (v w : Option B) → OnceTrace f v trace w → Run (once_step f) v trace w
  run_of_once_trace trace v w h = elim h [ inl p ↦ subst (λ l. Run (once_step f) v l w) (sym p.0) (sym p.1) | inr p ↦ run_of_held_answer_and_ends v p.0 trace w p.1 p.2 ]

  pub once_run_iff_once_trace : (v : Option B) (trace : List (Answered A E)) (w : Option B) → Run (once_step f) v trace w ↔ OnceTrace f v trace w
  once_run_iff_once_trace v trace w = (once_trace_of_run trace v w, run_of_once_trace trace v w)
