-- `Skip`'s contract is lawful where the source's is.
use Rattle.std.specs.Prelude.{◌-◌, ltb, ◌≡◌, ℕ, ◌+◌, ◌≤◌, List, [], ◌∷◌, Option, option_map, Some, None, Ok, Err, ◌↔◌}
use Rattle.fallible_contract.specs.Contract.{Contract, Lawful}
use Rattle.fallible_contract.specs.Laws.ByNumber.{kept_by_draw_by_number, kept_over_all}
use Rattle.fallible_contract.specs.Laws.WithSteps.{lawful_with_steps}
use Rattle.fallible_core.specs.Cutting.Skip.{skip_contract, SkipTrace, skip_step, skips_all}
use Rattle.std.proofs.Common.{refl, ap, subst, arith, inl, inr}
use Rattle.std.proofs.lemmas.Bool.{lt-ltb, le-ltb, cases_lt, le-leb, lt-leb}
use Rattle.std.proofs.Math.Nat.{div-one}
use Rattle.fallible_contract.specs.Traces.{Answered, Run}
use Rattle.fallible_contract.specs.Laws.LawForm.{IsByAnswers, run_at_one_answer_iff_law, IsTraced, iff_of_two}
use Rattle.fallible_contract.proofs.Lemmas.ByNumber.{Fits, Leaves, none, keeps_item, keeps_end, keeps_failure, leaves_nil_same, leaves_first_and_others, leaves_split, kept_by_number_of_leaves, leaves_of_kept_by_number}
use Rattle.fallible_contract.specs.Hints.{hint_less, hint_kept, kept_of}
use Rattle.fallible_contract.specs.Sound.{HintsHold}
use Rattle.fallible_contract.specs.Laws.Contract.{lawful_with_traces, lawful_with_sound}
use Rattle.fallible_core.specs.Laws.Hints.Brackets.{Brackets, AsSound}
use Rattle.fallible_core.specs.Laws.Hints.ByNumber.{leaves_one, brackets_kept}
use Rattle.fallible_core.specs.Laws.Hints.Drawn.{as_sound_of_brackets, pair_of_parts, brackets_of_brackets_at_view}
use Rattle.fallible_core.specs.Laws.Hints.Holding.{hold_as_made}

-- the items up to the n-th are left out
fits_skip : (n : ℕ) → Fits (λ k. ltb n k) 0 (λ k. n - k) (λ j k. j ≡ n + 1 - k)
fits_skip n = record {
  kept = λ k f. (lt-ltb n k (omega (arith, f)), omega (arith, f));
  left_out = λ j k f. (le-ltb n k (omega (arith, f)), omega (arith, f));
  after = λ j k f. omega (arith, f);
}

module _ {S A E : Type 0} (steps : S → Answered A E → S → Type 0) where
  -- the definition, built from the first draw on
  pub leaves_of_skip_trace : {p q : S × ℕ} {trace : List (Answered A E)} → SkipTrace steps p trace q → Leaves steps 0 p.1 p.0 trace q.0 q.1
  leaves_of_skip_trace {p} d = leaves_of_kept_by_number steps (fits_skip p.1) (omega arith) d

  pub skip_trace_of_leaves : {p q : S × ℕ} {trace : List (Answered A E)} → Leaves steps 0 p.1 p.0 trace q.0 q.1 → SkipTrace steps p trace q
  skip_trace_of_leaves {p} h = kept_by_number_of_leaves steps (fits_skip p.1) (omega arith) h

  leaves_one_draw : {s t : S} (r : Answered A E) → steps s r t → Leaves steps 0 0 s (r ∷ []) t 0
  leaves_one_draw (Ok (Some x)) step = keeps_item x step none
  leaves_one_draw (Ok None) step = keeps_end step none
  leaves_one_draw (Err e) step = keeps_failure e step none

  -- one draw, where no item is left to leave out
  pub leaves_plain_draw : {s t : S} (n : ℕ) (r : Answered A E) → n ≤ 0 → steps s r t → Leaves steps 0 n s (r ∷ []) t n
  leaves_plain_draw {s} {t} n r none_left step = let at : n ≡ 0 = omega (arith, none_left) in rw at (leaves_one_draw r step)

  skip_trace_of_nil_is_equality : (p q : S × ℕ) → SkipTrace steps p [] q ↔ (p ≡ q)
  skip_trace_of_nil_is_equality (s, n) (t, k) = (
    (λ d. let h = leaves_nil_same steps 0 (leaves_of_skip_trace {p = (s, n)} {q = (t, k)} d) in rw (h.0, h.1) refl),
    (λ e. skip_trace_of_leaves {p = (s, n)} {q = (t, k)} (let h : s ≡ t = ap (λ z. z.0) e in let i : n ≡ k = ap (λ z. z.1) e in rw (h, i) none)),
  )

  skip_trace_is_by_answers : IsByAnswers (SkipTrace steps)
  skip_trace_is_by_answers = record {
    none = λ p. (skip_trace_of_nil_is_equality p p).1 refl;
    same = λ p q d. (skip_trace_of_nil_is_equality p q).0 d;
    joins = λ p u q r rest d e. skip_trace_of_leaves {p = p} {q = q} (leaves_first_and_others steps 0 (leaves_of_skip_trace {p = p} {q = u} d) (leaves_of_skip_trace {p = u} {q = q} e));
    splits = λ p q r rest d. let h = leaves_split steps 0 (leaves_of_skip_trace {p = p} {q = q} d) in record { left_by_first = (h.0, h.1); first = skip_trace_of_leaves {p = p} {q = (h.0, h.1)} h.2; others = skip_trace_of_leaves {p = (h.0, h.1)} {q = q} h.3 };
  }

  pub skip_law : (p : S × ℕ) (trace : List (Answered A E)) (q : S × ℕ) → Run (skip_step steps) p trace q ↔ SkipTrace steps p trace q
  skip_law = run_at_one_answer_iff_law (SkipTrace steps) skip_trace_is_by_answers

pub skip_traced : {S A E : Type 0} {steps : S → Answered A E → S → Type 0} {traces : S → List (Answered A E) → S → Type 0} → IsTraced steps traces → IsTraced (skip_step steps) (skips_all traces)
skip_traced {steps = steps} law p trace q = iff_of_two (skip_law steps p trace q) (kept_over_all law (λ k. ltb p.1 k) (λ k. p.1 - k) p.0 trace q.0 q.1)

-- ---- where its hints are sound

-- leaving none out between two, it keeps the rest
kept_of_zero_is_difference : (n b : ℕ) → kept_of 0 n b ≡ b - n
kept_of_zero_is_difference n b = elim (cases_lt n b) [
  | inl past ↦ rw (lt-leb b n past, div-one (b - 1 - n)) (omega (arith, past))
  | inr few ↦ rw (le-leb b n few) (omega (arith, few))
]

mapped_kept_of_zero_is_difference : (n : ℕ) (o : Option ℕ) → option_map (kept_of 0 n) o ≡ option_map (λ u. u - n) o
mapped_kept_of_zero_is_difference n None = refl
mapped_kept_of_zero_is_difference n (Some u) = ap {B = Option ℕ} (λ z. Some z) (kept_of_zero_is_difference n u)

module _ {S A E : Type 0} (steps : S → Answered A E → S → Type 0) where
  brackets_skip : (p : S × ℕ) (k : ℕ × Option ℕ) → Brackets steps p.0 k → Brackets (skip_step steps) p (hint_less p.1 k)
  brackets_skip p k b = subst (λ (h : ℕ × Option ℕ). Brackets (skip_step steps) p h) (pair_of_parts (kept_of_zero_is_difference p.1 k.0) (mapped_kept_of_zero_is_difference p.1 k.1)) (brackets_of_brackets_at_view (λ q. q) (skip_step steps) (leaves_one steps 0) (λ u r v w. leaves_of_skip_trace steps {p = u} {q = v} w) p (hint_kept 0 p.1 k) (brackets_kept steps 0 p.0 p.1 k b))

  as_sound_skip : (p : S × ℕ) (h k : ℕ × Option ℕ) → h ≡ hint_less p.1 k → AsSound (skip_step steps) p h steps p.0 k
  as_sound_skip p h k is = as_sound_of_brackets (skip_step steps) steps p p.0 (λ i. i - p.1) (λ o. option_map (λ u. u - p.1) o) (λ j b. brackets_skip p j b) h k is

skip_hold : {S A E : Type 0} (m : Contract S A E) → HintsHold m.steps m.hints m.sound → HintsHold (skip_step m.steps) (skip_contract m).hints (skip_contract m).sound
skip_hold m holds = hold_as_made (skip_step m.steps) (skip_contract m).hints holds (λ p. p.0) (λ p k. hint_less p.1 k) (λ p k. as_sound_skip m.steps p (hint_less p.1 k) k refl)

pub lawful_skip : {S A E : Type 0} {m : Contract S A E} → Lawful m → Lawful (skip_contract m)
lawful_skip {m = m} l = lawful_with_sound (skip_hold m l.hold) (lawful_with_traces (skips_all m.traces) (skip_traced l.traced) (lawful_with_steps (λ p r q c step. kept_by_draw_by_number m (λ k. ltb p.1 k) l (λ k. p.1 - k) p.0 q.0 r q.1 c step) l))
