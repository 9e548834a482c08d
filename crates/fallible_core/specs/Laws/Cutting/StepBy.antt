-- `StepBy`'s contract is lawful where the source's is.
use Rattle.fallible_contract.specs.Contract.{Contract, Lawful}
use Rattle.fallible_contract.specs.Laws.ByNumber.{kept_by_draw_by_number, kept_over_all}
use Rattle.fallible_contract.specs.Laws.WithSteps.{lawful_with_steps}
use Rattle.fallible_core.specs.Cutting.StepBy.{keeps_at_steps, to_skip_after, step_by_contract, StepByTrace, step_by_step, steps_all}
use Rattle.std.specs.Prelude.{◌≡◌, ℕ, zero, suc, ◌+◌, ◌-◌, ◌*◌, ◌%◌, ◌≤◌, ◌⊎◌, true, false, Option, option_map, List, [], ◌∷◌, ◌↔◌}
use Rattle.std.proofs.Common.{refl, sym, ap, subst, arith, inl, inr, ◌∙◌}
use Rattle.std.proofs.lemmas.Bool.{lt-ltb, le-ltb, le-leb, lt-leb}
use Rattle.std.proofs.Math.Dec.{eqb-suc-zero}
use Rattle.std.proofs.Math.Nat.{mul-add-mod_self_left, mod-eq_of_lt}
use Rattle.fallible_contract.specs.Traces.{Answered, Run, item, end}
use Rattle.fallible_contract.specs.Laws.LawForm.{IsByAnswers, run_at_one_answer_iff_law, IsTraced}
use Rattle.fallible_contract.proofs.Lemmas.ByNumber.{Fits, Leaves, none, leaves_nil_same, leaves_first_and_others, leaves_split, kept_by_number_of_leaves, leaves_of_kept_by_number}
use Rattle.fallible_contract.specs.Hints.{hint_kept, kept_of}
use Rattle.fallible_contract.specs.Sound.{HintsHold}
use Rattle.fallible_contract.specs.Laws.Contract.{lawful_with_traces, lawful_with_sound}
use Rattle.fallible_core.specs.Laws.Hints.Brackets.{Brackets, AsSound}
use Rattle.fallible_core.specs.Laws.Hints.ByNumber.{leaves_one, brackets_kept}
use Rattle.fallible_core.specs.Laws.Hints.Drawn.{OneOfOne, as_sound_of_brackets, brackets_where_one_of_one}
use Rattle.fallible_core.specs.Laws.Hints.Holding.{hold_as_made}

-- ---- numbers

module _ (between r : ℕ) where
  -- The next item has number k, and j items are left out before one is kept, which is the first one or one at a step after it.
  abbrev InStep : ℕ → ℕ → Type 0
  InStep j k = (q : ℕ) × (k + j ≡ r + 1 + (between + 1) * q) × ((q ≡ 0) ⊎ (j ≤ between))

  -- a number after the first, by its step
  remainder_in_step : (k q i : ℕ) → k ≡ r + 1 + (between + 1) * q + i → i ≤ between → (k - 1 - r) % (between + 1) ≡ i
  remainder_in_step k q i e le = let same : k - 1 - r ≡ (between + 1) * q + i = omega (arith, e) in rw same (mul-add-mod_self_left (between + 1) q i ∙ mod-eq_of_lt (omega (arith, le)))

  keeps_at_steps_true : (k : ℕ) → InStep 0 k → keeps_at_steps between r k ≡ true
  keeps_at_steps_true k (q, e, le) = rw (lt-ltb r k (omega (arith, e)), remainder_in_step k q 0 (omega (arith, e)) (omega arith)) refl

  keeps_at_steps_false : (j k : ℕ) → InStep (suc j) k → keeps_at_steps between r k ≡ false
  keeps_at_steps_false j k (zero, e, le) = rw (le-ltb r k (omega (arith, e))) refl
  keeps_at_steps_false j k (suc q, e, le) =
      let below : suc j ≤ between = elim le [ inl h ↦ absurd cc | inr h ↦ h ] in
      let rest : (k - 1 - r) % (between + 1) ≡ suc (between - suc j) = remainder_in_step k q (suc (between - suc j)) (omega (arith, e, below)) (omega (arith, below)) in
      rw (lt-ltb r k (omega (arith, e, below)), rest) (eqb-suc-zero (between - suc j))

  number_in_step_is_to_skip_after : (j k : ℕ) → InStep j (1 + k) → j ≡ to_skip_after between r k
  number_in_step_is_to_skip_after j k (zero, e, le) = rw (le-leb k r (omega (arith, e))) (omega (arith, e))
  number_in_step_is_to_skip_after j k (suc q, e, le) =
      let below : j ≤ between = elim le [ inl h ↦ absurd cc | inr h ↦ h ] in
      let rest : (k - 1 - r) % (between + 1) ≡ between - j = remainder_in_step k q (between - j) (omega (arith, e, below)) (omega (arith, below)) in
      rw (lt-leb k r (omega (arith, e, below)), rest) (omega (arith, below))

  fits_step : Fits (keeps_at_steps between r) between (to_skip_after between r) InStep
  fits_step = record {
    kept = λ k f. (keeps_at_steps_true k f, (suc f.0, omega (arith, f.1), inr (omega arith)));
    left_out = λ j k f. (keeps_at_steps_false j k f, (f.0, omega (arith, f.1), elim f.2 [ inl h ↦ inl h | inr h ↦ inr (omega (arith, h)) ]));
    after = number_in_step_is_to_skip_after;
  }

  pub in_step_first : InStep r 1
  in_step_first = (0, omega arith, inl refl)

module _ {S A E : Type 0} (steps : S → Answered A E → S → Type 0) where
  -- the definition, built from the first draw on
  abbrev pub StepByLeaves : S × (ℕ × ℕ) → List (Answered A E) → S × (ℕ × ℕ) → Type 0
  StepByLeaves p trace q = Leaves steps (p.1).0 (p.1).1 p.0 trace q.0 (q.1).1 × ((q.1).0 ≡ (p.1).0)

  pub step_by_leaves_of_step_by_trace : {p q : S × (ℕ × ℕ)} {trace : List (Answered A E)} → StepByTrace steps p trace q → StepByLeaves p trace q
  step_by_leaves_of_step_by_trace {p} d = (leaves_of_kept_by_number steps (fits_step (p.1).0 (p.1).1) (in_step_first (p.1).0 (p.1).1) d.0, d.1)

  pub step_by_trace_of_leaves : {p q : S × (ℕ × ℕ)} {trace : List (Answered A E)} → StepByLeaves p trace q → StepByTrace steps p trace q
  step_by_trace_of_leaves {p} h = (kept_by_number_of_leaves steps (fits_step (p.1).0 (p.1).1) (in_step_first (p.1).0 (p.1).1) h.0, h.1)

  step_by_leaves_of_nil_is_equality : (p q : S × (ℕ × ℕ)) → StepByLeaves p [] q ↔ (p ≡ q)
  step_by_leaves_of_nil_is_equality (s, (b, n)) (t, (c, k)) = (
    (λ d. let h = leaves_nil_same steps b d.0 in rw (h.0, h.1, d.1) refl),
    (λ e. let h : s ≡ t = ap (λ z. z.0) e in let i : n ≡ k = ap (λ z. (z.1).1) e in let d : c ≡ b = sym (ap (λ z. (z.1).0) e) in (rw (h, i) none, d)),
  )

  step_by_trace_of_nil_is_equality : (p q : S × (ℕ × ℕ)) → StepByTrace steps p [] q ↔ (p ≡ q)
  step_by_trace_of_nil_is_equality p q = ((λ d. (step_by_leaves_of_nil_is_equality p q).0 (step_by_leaves_of_step_by_trace {p = p} {q = q} d)), (λ e. step_by_trace_of_leaves {p = p} {q = q} ((step_by_leaves_of_nil_is_equality p q).1 e)))

  step_by_leaves_of_first_and_rest : (p u q : S × (ℕ × ℕ)) (r : Answered A E) (rest : List (Answered A E)) → StepByLeaves p (r ∷ []) u → StepByLeaves u rest q → StepByLeaves p (r ∷ rest) q
  step_by_leaves_of_first_and_rest p (u, (c, i)) q r rest d e = (leaves_first_and_others steps (p.1).0 d.0 (rw d.1 at e.0), e.1 ∙ d.1)

  step_by_leaves_split_at_first : (p q : S × (ℕ × ℕ)) (r : Answered A E) (rest : List (Answered A E)) → StepByLeaves p (r ∷ rest) q → (u : S × (ℕ × ℕ)) × StepByLeaves p (r ∷ []) u × StepByLeaves u rest q
  step_by_leaves_split_at_first p q r rest d = let h = leaves_split steps (p.1).0 d.0 in ((h.0, ((p.1).0, h.1)), (h.2, refl), (h.3, d.1))

  step_by_trace_is_by_answers : IsByAnswers (StepByTrace steps)
  step_by_trace_is_by_answers = record {
    none = λ p. (step_by_trace_of_nil_is_equality p p).1 refl;
    same = λ p q d. (step_by_trace_of_nil_is_equality p q).0 d;
    joins = λ p u q r rest d e. step_by_trace_of_leaves {p = p} {q = q} (step_by_leaves_of_first_and_rest p u q r rest (step_by_leaves_of_step_by_trace {p = p} {q = u} d) (step_by_leaves_of_step_by_trace {p = u} {q = q} e));
    splits = λ p q r rest d. let h = step_by_leaves_split_at_first p q r rest (step_by_leaves_of_step_by_trace {p = p} {q = q} d) in record { left_by_first = h.0; first = step_by_trace_of_leaves {p = p} {q = h.0} h.1; others = step_by_trace_of_leaves {p = h.0} {q = q} h.2 };
  }

  pub step_by_law : (p : S × (ℕ × ℕ)) (trace : List (Answered A E)) (q : S × (ℕ × ℕ)) → Run (step_by_step steps) p trace q ↔ StepByTrace steps p trace q
  step_by_law = run_at_one_answer_iff_law (StepByTrace steps) step_by_trace_is_by_answers

pub step_by_traced : {S A E : Type 0} {steps : S → Answered A E → S → Type 0} {traces : S → List (Answered A E) → S → Type 0} → IsTraced steps traces → IsTraced (step_by_step steps) (steps_all traces)
step_by_traced {steps = steps} law p trace q = let both = step_by_law steps p trace q in let over = kept_over_all law (keeps_at_steps (p.1).0 (p.1).1) (to_skip_after (p.1).0 (p.1).1) p.0 trace q.0 (q.1).1 in ((λ ran. let d = both.0 ran in (over.0 d.0, d.1)), (λ d. both.1 (over.1 d.0, d.1)))

-- ---- where its hints are sound

module _ {S A E : Type 0} (steps : S → Answered A E → S → Type 0) where
  one_of_one_by_steps : (between : ℕ) → OneOfOne (step_by_step steps) (leaves_one steps between) (λ p. (p.0, (p.1).1)) (λ p. (p.1).0 ≡ between)
  one_of_one_by_steps between = record {
    item_of_item = λ p q x e w. let d = step_by_leaves_of_step_by_trace steps {p = p} {q = q} w in (x, subst (λ (b : ℕ). Leaves steps b (p.1).1 p.0 (item x ∷ []) q.0 (q.1).1) e d.0, d.1 ∙ e);
    end_of_end = λ p q e w. let d = step_by_leaves_of_step_by_trace steps {p = p} {q = q} w in subst (λ (b : ℕ). Leaves steps b (p.1).1 p.0 (end ∷ []) q.0 (q.1).1) e d.0;
  }

  brackets_step : (p : S × (ℕ × ℕ)) (k : ℕ × Option ℕ) → Brackets steps p.0 k → Brackets (step_by_step steps) p (hint_kept (p.1).0 (p.1).1 k)
  brackets_step p k b = brackets_where_one_of_one (step_by_step steps) (leaves_one steps (p.1).0) (λ q. (q.0, (q.1).1)) (λ q. (q.1).0 ≡ (p.1).0) (one_of_one_by_steps (p.1).0) p refl (hint_kept (p.1).0 (p.1).1 k) (brackets_kept steps (p.1).0 p.0 (p.1).1 k b)

  as_sound_step : (p : S × (ℕ × ℕ)) (h k : ℕ × Option ℕ) → h ≡ hint_kept (p.1).0 (p.1).1 k → AsSound (step_by_step steps) p h steps p.0 k
  as_sound_step p h k is = as_sound_of_brackets (step_by_step steps) steps p p.0 (kept_of (p.1).0 (p.1).1) (λ o. option_map (kept_of (p.1).0 (p.1).1) o) (λ j b. brackets_step p j b) h k is

step_by_hold : {S A E : Type 0} (m : Contract S A E) → HintsHold m.steps m.hints m.sound → HintsHold (step_by_step m.steps) (step_by_contract m).hints (step_by_contract m).sound
step_by_hold m holds = hold_as_made (step_by_step m.steps) (step_by_contract m).hints holds (λ p. p.0) (λ p k. hint_kept (p.1).0 (p.1).1 k) (λ p k. as_sound_step m.steps p (hint_kept (p.1).0 (p.1).1 k) k refl)

pub lawful_step_by : {S A E : Type 0} {m : Contract S A E} → Lawful m → Lawful (step_by_contract m)
lawful_step_by {m = m} l = lawful_with_sound (step_by_hold m l.hold) (lawful_with_traces (steps_all m.traces) (step_by_traced l.traced) (lawful_with_steps (λ p r q c step. kept_by_draw_by_number m (keeps_at_steps (p.1).0 (p.1).1) l (to_skip_after (p.1).0 (p.1).1) p.0 q.0 r (q.1).1 c step.0) l))
