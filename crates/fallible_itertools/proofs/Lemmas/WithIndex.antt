-- The draws and the fold of `MapErrWithIndex` are those of its source, counted, and what it lists.
use Rattle.std.specs.Prelude.{◌≡◌, ℕ, suc, ◌+◌, ◌-◌, ◌^◌, ◌≤◌, ◌<◌, length, Result, List, [], ◌∷◌, ◌++◌, map, None, Ok, Err}
use Rattle.std.specs.Fn.{Mut}
use Rattle.std.proofs.Common.{refl, sym, ap, subst, ◌∙◌, arith}
use Rattle.std.proofs.Math.Nat.{min-eq_left}
use Rattle.fallible_iterator.specs.Contract.{Contract, parts_as}
use Rattle.fallible_iterator.specs.Failing.{FailingAnswer, failing_step, failures_mapped}
use Rattle.fallible_iterator.specs.Folds.{Drained, HoldsAtEachTurn, call_with}
use Rattle.fallible_iterator.specs.Lists.{ActsWith, AlwaysGives, Lists}
use Rattle.fallible_iterator.specs.Passing.{PassAnswer, passing_step}
use Rattle.fallible_iterator.specs.Traces.{Answered, Run, item}
use Rattle.fallible_iterator.specs.Laws.Passing.{Passes, done, end_passes, failure_passes, keeps, refuses, closes, leaves_out, passes_of_pass_trace}
use Rattle.fallible_iterator.proofs.Lemmas.Failing.{always_gives_failures_mapped, failing_trace_of_failing_answer}
use Rattle.fallible_iterator.proofs.Lemmas.FailingFolds.{FailsLast}
use Rattle.fallible_iterator.proofs.Lemmas.Folding.{holds_at_each_turn_of_held}
use Rattle.fallible_iterator.proofs.Lemmas.Lists.Passing.{lists_seen}
use Rattle.fallible_iterator.proofs.Lemmas.Passing.{pass_trace_answer}
use Rattle.fallible_itertools.specs.WithIndex.{count_call, count_outcome, failures_mapped_from, index_after, index_call, indexed, indexed_step, next_index, pair_call, with_index_contract, with_index_parts}
use Rattle.fallible_itertools.specs.declared.with_index.MapErrWithIndex.{MapErrWithIndex}

-- ---- a draw

module _ {S X D : Type 0} (steps : S → Answered X D → S → Type 0) where
  -- one answer of the source, where an item was counted
  abbrev pub Counted : S × ℕ → Answered X D → S × ℕ → Type 0
  Counted = passing_step steps count_call count_outcome

  indexed_step_of_pass : (s t : S) (n j k : ℕ) (mid : Answered X D) (r : Answered X (ℕ × D)) → Passes steps count_call count_outcome s n (mid ∷ []) t j → FailingAnswer pair_call j mid r k → indexed_step steps (s, n) r (t, k)
  indexed_step_of_pass s t n _ k _ r (end_passes step done) made = (Ok None, step, made.0, made.1)
  indexed_step_of_pass s t n _ k _ r (failure_passes e step done) made = (Err e, step, made.2 ∙ ap Err made.1.0, made.1.1)
  indexed_step_of_pass s t n j k _ r (keeps x v y step called is done) made = let same : x ≡ y = cc in (item x, step, made.0 ∙ ap (λ z. item z) (sym same), made.1 ∙ called)
  indexed_step_of_pass s t n j k _ r (refuses x v e step called is rest) made = absurd cc
  indexed_step_of_pass s t n j k _ r (closes x v step called is rest) made = absurd cc
  indexed_step_of_pass s t n j k mid r (leaves_out x v step called is rest) made = absurd cc

  -- an answer of the source, of which an item was counted, and a failure then paired with its index and counted
  pub indexed_step_of_counted : (p q : S × ℕ) (k : ℕ) (mid : Answered X D) (r : Answered X (ℕ × D)) → Counted p mid q → FailingAnswer pair_call q.1 mid r k → indexed_step steps p r (q.0, k)
  indexed_step_of_counted p q k mid r step made = indexed_step_of_pass p.0 q.0 p.1 q.1 k mid r (passes_of_pass_trace step) made

  -- the same of an answer of the source
  pub indexed_step_of_answer : {s t : S} {n k : ℕ} {r : Answered X (ℕ × D)} (j : ℕ) (drawn mid : Answered X D) → steps s drawn t → PassAnswer count_call count_outcome n drawn mid j → FailingAnswer pair_call j mid r k → indexed_step steps (s, n) r (t, k)
  indexed_step_of_answer {s = s} {t = t} {n = n} {k = k} {r = r} j drawn mid step passed made = indexed_step_of_counted (s, n) (t, j) k mid r (pass_trace_answer drawn step passed) made

  -- ---- a fold

  indexed_run_of_counted : (items : List X) (last : Answered X D) (answer : Answered X (ℕ × D)) (p q : S × ℕ) (k : ℕ) → FailingAnswer pair_call q.1 last answer k → Run Counted p (map item items ++ last ∷ []) q → Run (indexed_step steps) p (map item items ++ answer ∷ []) (q.0, k)
  indexed_run_of_counted [] last answer p q k made ran = ((q.0, k), indexed_step_of_counted p q k last answer (subst (λ (u : S × ℕ). Counted p last u) ran.2 ran.1) made, refl)
  indexed_run_of_counted (x ∷ items) last answer p q k made ran = (ran.0, indexed_step_of_counted p ran.0 ran.0.1 (item x) (item x) ran.1 (refl, refl), indexed_run_of_counted items last answer ran.0 q k made ran.2)

  module _ {C : Type 0} {came : Result C D → List X → Answered X D → Type 0} {becomes : Result C (ℕ × D) → List X → Answered X (ℕ × D) → Type 0} (fails : FailsLast came becomes) (n k : ℕ) where
    last_beside_index : (items : List X) (last : Answered X D) (made : Result C D) (r : Result C (ℕ × D)) → came made items last → FailingAnswer pair_call n made r k → (answer : Answered X (ℕ × D)) × FailingAnswer pair_call n last answer k × becomes r items answer
    last_beside_index items (Ok v) made r at beside = let value = fails.at_value made items v at in let j = subst (λ z. FailingAnswer pair_call n z r k) value.1 beside in
        (Ok v, (refl, j.1), subst (λ z. becomes z items (Ok v)) (sym j.0) value.2)
    last_beside_index items (Err d) made r at beside = let failure = fails.at_failure made items d at in let j = subst (λ z. FailingAnswer pair_call n z r k) failure.0 beside in
        (Err j.0, (j.0, j.1, refl), subst (λ z. becomes z items (Err j.0)) (sym j.2) (failure.1 j.0))

  pub drained_indexed : {C : Type 0} {came : Result C D → List X → Answered X D → Type 0} {becomes : Result C (ℕ × D) → List X → Answered X (ℕ × D) → Type 0} (fails : FailsLast came becomes) {made : Result C D} {r : Result C (ℕ × D)} {p q : S × ℕ} {k : ℕ} → Drained Counted (came made) p q → FailingAnswer pair_call q.1 made r k → Drained (indexed_step steps) (becomes r) p (q.0, k)
  drained_indexed fails {made = made} {r = r} {p = p} {q = q} {k = k} w beside = let last = last_beside_index fails q.1 k w.items w.last made r w.at beside in
      record { items = w.items; last = last.0; ran = indexed_run_of_counted w.items w.last last.0 p q k last.1 w.ran; at = last.2 }

-- a turn of it may be taken where one of the source may, which counts
pub holds_each_turn_counted : {S F X D E C : Type 0} {steps : S → Answered X D → S → Type 0} {call : F → ℕ × D → E → F → Type 0} {goes : C → X → C → Type 0} {P : C → X → Type 0} {p : S × ℕ} {c : C} (f : F) → HoldsAtEachTurn (failing_step (indexed_step steps) call) goes P (p, f) c → HoldsAtEachTurn (Counted steps) goes P p c
holds_each_turn_counted {steps = steps} {call = call} f holds = holds_at_each_turn_of_held {held = failing_step (indexed_step steps) call} (λ p. (p, f)) (λ p x q step. failing_trace_of_failing_answer (indexed_step steps) (item x) (item x) (indexed_step_of_counted steps p q q.1 (item x) (item x) step (refl, refl)) (refl, refl)) holds

-- ---- what it lists

module _ {X D : Type 0} where
  -- each failure beside its index, the first answer's being n
  abbrev beside_index : ℕ → List (Result X D) → List (Result X (ℕ × D))
  beside_index n [] = []
  beside_index n (Ok x ∷ l) = Ok x ∷ beside_index (next_index n) l
  beside_index n (Err e ∷ l) = Err (n, e) ∷ beside_index (next_index n) l

  mapped_beside_index : {E : Type 0} (h : ℕ → D → E) (n : ℕ) (l : List (Result X D)) → failures_mapped (λ p. h p.0 p.1) (beside_index n l) ≡ failures_mapped_from h n l
  unfolding failures_mapped failures_mapped_from
  mapped_beside_index h n [] = refl
  mapped_beside_index h n (Ok x ∷ l) = ap (λ k. Ok x ∷ k) (mapped_beside_index h (next_index n) l)
  mapped_beside_index h n (Err e ∷ l) = ap (λ k. Err (h n e) ∷ k) (mapped_beside_index h (next_index n) l)

  always_gives_beside_index : {S : Type 0} (steps : S → Answered X D → S → Type 0) (l : List (Result X D)) (s : S) (n : ℕ) → AlwaysGives steps s l → AlwaysGives (indexed_step steps) (s, n) (beside_index n l)
  always_gives_beside_index steps [] s n a = λ r t w. w.2 ∙ ap (indexed n) (a w.0 t.0 w.1)
  always_gives_beside_index steps (Ok x ∷ l) s n a = λ r t w. let d = a w.0 t.0 w.1 in (w.2 ∙ ap (indexed n) d.0, subst (λ (k : ℕ). AlwaysGives (indexed_step steps) (t.0, k) (beside_index (next_index n) l)) (sym (w.3 ∙ ap (index_after n) d.0)) (always_gives_beside_index steps l t.0 (next_index n) d.1))
  always_gives_beside_index steps (Err e ∷ l) s n a = λ r t w. let d = a w.0 t.0 w.1 in (w.2 ∙ ap (indexed n) d.0, subst (λ (k : ℕ). AlwaysGives (indexed_step steps) (t.0, k) (beside_index (next_index n) l)) (sym (w.3 ∙ ap (index_after n) d.0)) (always_gives_beside_index steps l t.0 (next_index n) d.1))

pub lists_mapped_with_index : {S F X D E : Type 0} {it : S} {f : F} (m : Contract S X D) (g : Mut F (ℕ × (D × Unit {0})) E) (s : MapErrWithIndex S F) (h : ℕ → D → E) (l : List (Result X D)) → with_index_parts s ≡ ((it, 0), f) → ActsWith (call_with g) f h → Lists m.steps it l
    → Lists (parts_as with_index_parts (with_index_contract m g)).steps s (failures_mapped_from h 0 l)
lists_mapped_with_index {F = F} {it = it} {f = f} m g s h l parts acts i = lists_seen with_index_parts (with_index_contract m g).steps s parts (mapped_beside_index h 0 l)
    (always_gives_failures_mapped (index_call g) (λ k. k ≡ f) (λ p. h p.0 p.1) (λ k p e j at called. acts p.0 p.1 e j (subst (λ (z : F). index_call g z p e j) at called)) (indexed_step m.steps) (it, 0) f (beside_index 0 l) refl (always_gives_beside_index m.steps l it 0 i.runs))

-- ---- which index a failure has

next_index_below : (n : ℕ) → n < 2 ^ 64 - 1 → next_index n ≡ n + 1
next_index_below n below = min-eq_left (omega (arith, below))

module _ {A D E : Type 0} (h : ℕ → D → E) (e : D) (b : List (Result A D)) where
  -- after one more answer y
  failures_mapped_after : (n : ℕ) (y : Result A E) (a : List (Result A D)) → n + suc (length a) ≤ 2 ^ 64 - 1 → failures_mapped_from h (n + 1) (a ++ Err e ∷ b) ≡ failures_mapped_from h (n + 1) a ++ Err (h (n + 1 + length a) e) ∷ failures_mapped_from h (next_index (n + 1 + length a)) b
      → y ∷ failures_mapped_from h (next_index n) (a ++ Err e ∷ b) ≡ y ∷ (failures_mapped_from h (next_index n) a ++ Err (h (n + suc (length a)) e) ∷ failures_mapped_from h (next_index (n + suc (length a))) b)
  failures_mapped_after n y a few rest = let next = next_index_below n (omega (arith, few)) in let same : n + 1 + length a ≡ n + suc (length a) = omega arith in
      subst (λ (j : ℕ). y ∷ failures_mapped_from h j (a ++ Err e ∷ b) ≡ y ∷ (failures_mapped_from h j a ++ Err (h (n + suc (length a)) e) ∷ failures_mapped_from h (next_index (n + suc (length a))) b)) (sym next)
      (subst (λ (k : ℕ). y ∷ failures_mapped_from h (n + 1) (a ++ Err e ∷ b) ≡ y ∷ (failures_mapped_from h (n + 1) a ++ Err (h k e) ∷ failures_mapped_from h (next_index k) b)) same (ap (λ l. y ∷ l) rest))

  -- Law: A failure that comes after n items and failures has the index n, if that is at most `usize::MAX`.
  pub failures_mapped_in_parts : (n : ℕ) (a : List (Result A D)) → n + length a ≤ 2 ^ 64 - 1 → failures_mapped_from h n (a ++ Err e ∷ b) ≡ failures_mapped_from h n a ++ Err (h (n + length a) e) ∷ failures_mapped_from h (next_index (n + length a)) b
  unfolding failures_mapped_from
  failures_mapped_in_parts n [] few = let same : n ≡ n + 0 = omega arith in subst (λ (k : ℕ). Err (h n e) ∷ failures_mapped_from h (next_index n) b ≡ Err (h k e) ∷ failures_mapped_from h (next_index k) b) same refl
  failures_mapped_in_parts n (Ok x ∷ a) few = let fits : n + suc (length a) ≤ 2 ^ 64 - 1 = few in failures_mapped_after n (Ok x) a fits (failures_mapped_in_parts (n + 1) a (omega (arith, fits)))
  failures_mapped_in_parts n (Err d ∷ a) few = let fits : n + suc (length a) ≤ 2 ^ 64 - 1 = few in failures_mapped_after n (Err (h n d)) a fits (failures_mapped_in_parts (n + 1) a (omega (arith, fits)))
