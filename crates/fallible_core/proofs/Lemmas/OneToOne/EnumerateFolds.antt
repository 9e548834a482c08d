-- A fold of the source that numbers its items is a fold of `Enumerate`, and a count of the source is a count of it.
use Rattle.std.specs.Prelude.{◌≡◌, ℕ, suc, ◌+◌, ◌-◌, length, List, [], ◌∷◌, ◌++◌, map, Result, Some, None, Ok, Err}
use Rattle.std.specs.List.{FoldsTo}
use Rattle.std.proofs.Common.{refl, sym, ap, subst, ◌∙◌, arith, inl}
use Rattle.fallible_contract.specs.Traces.{Answered, Run, item}
use Rattle.fallible_contract.specs.Passing.{IfItem, passing_step}
use Rattle.fallible_contract.specs.Contract.{Contract, Lawful}
use Rattle.fallible_contract.specs.Folds.{HoldsAtEachTurn, goes_on, OverExit, CountDrainsOn}
use Rattle.fallible_contract.specs.Folding.{FoldingTurn, FoldingTakes}
use Rattle.fallible_contract.specs.Laws.Passing.{Passes, done, end_passes, failure_passes, keeps, refuses, closes, leaves_out, passes_of_pass_trace}
use Rattle.fallible_contract.proofs.Lemmas.Folds.{holds_each_turn_below}
use Rattle.fallible_contract.proofs.Lemmas.Folding.{takes_where_callable_when_reached}
use Rattle.fallible_core.specs.OneToOne.Enumerate.{IsNumberable, number_call, number_outcome, number_takes}
use Rattle.fallible_core.proofs.Lemmas.OneToOne.Enumerate.{enumerate_trace_item, enumerate_trace_end, enumerate_trace_failure, numbered_step}
use Rattle.std.specs.declared.ops.ControlFlow.{ControlFlow}

-- ---- steps

module _ {S A E : Type 0} (steps : S → Answered A E → S → Type 0) where
  numbered_step_of_pass : (s t : S) (n k : ℕ) (r : Answered (ℕ × A) E) → Passes steps number_call number_outcome s n (r ∷ []) t k → numbered_step steps (s, n) r (t, k)
  numbered_step_of_pass s t n k _ (end_passes step done) = enumerate_trace_end step
  numbered_step_of_pass s t n k _ (failure_passes e step done) = enumerate_trace_failure step
  numbered_step_of_pass s t n k _ (keeps x v y step called is done) = let numbered : ◌≡◌ {A = ℕ × A} (v, x) y = cc in
      subst (λ (z : ℕ × A). numbered_step steps (s, n) (item z) (t, k)) (ap (λ (i : ℕ). (i, x)) (sym called.0) ∙ numbered) (subst (λ (j : ℕ). numbered_step steps (s, n) (item (n, x)) (t, j)) (sym called.1) (enumerate_trace_item x step))
  numbered_step_of_pass s t n k _ (refuses x v e step called is rest) = absurd cc
  numbered_step_of_pass s t n k _ (closes x v step called is rest) = absurd cc
  numbered_step_of_pass s t n k r (leaves_out x v step called is rest) = absurd cc

-- an item kept beside its number is one of `Enumerate`
pub numbered_step_of_passing : {S A E : Type 0} {steps : S → Answered A E → S → Type 0} (p : S × ℕ) (r : Answered (ℕ × A) E) (q : S × ℕ) → passing_step steps number_call number_outcome p r q → numbered_step steps p r q
numbered_step_of_passing {steps = steps} p r q step = numbered_step_of_pass steps p.0 q.0 p.1 q.1 r (passes_of_pass_trace step)

-- an item that comes may be counted
pub number_takes_drawn_item : {S A E : Type 0} {m : Contract S A E} {s t : S} {n : ℕ} → Lawful m → IsNumberable m s n → (drawn : Answered A E) → m.steps s drawn t → IfItem (λ x. number_takes n x) drawn
number_takes_drawn_item {s = s} {t = t} l can (Ok (Some x)) step = let fewer = (l.kept_by_draw s (item x) t can.can_next step).answer.1 can.bound can.bounds in let fits = can.fits in omega (arith, fewer.2, fits)
number_takes_drawn_item l can (Ok None) step = tt
number_takes_drawn_item l can (Err e) step = tt

-- ---- where the source's turn may be taken

module _ {S A E C R : Type 0} {m : Contract S A E} (l : Lawful m) (turns : C → ℕ × A → ControlFlow R (Unit {0}) → C → Type 0) where
  -- each turn that goes on counts one item
  count_folds_and_rises_with_number : (items : List A) (p q : C × ℕ) (j : ℕ) → FoldsTo (goes_on (FoldingTurn {E = E} number_call number_outcome turns)) p items q → (k : ℕ) × FoldsTo (λ (i : ℕ) (x : A) (n : ℕ). n ≡ i + 1) j items k × (q.1 + j ≡ p.1 + k)
  count_folds_and_rises_with_number [] p q j w = let same : p.1 ≡ q.1 = ap (λ z. z.1) w in (j, refl, omega (arith, same))
  count_folds_and_rises_with_number (x ∷ items) p q j w = let turned = w.1 in let up : w.0.1 ≡ p.1 + 1 = turned.1.1 in
      let rest = count_folds_and_rises_with_number items w.0 q (j + 1) w.2 in (rest.0, (j + 1, refl, rest.1), omega (arith, up, rest.2))

  -- The numbers of all items to come fit, so each item may be counted, and the caller's turn be taken on it and its number.
  pub holds_each_turn_numbered : {P : C → ℕ × A → Type 0} {s : S} {n : ℕ} {c : C} → IsNumberable m s n → HoldsAtEachTurn (passing_step m.steps number_call number_outcome) (goes_on turns) P (s, n) c
      → HoldsAtEachTurn m.steps (goes_on (FoldingTurn {E = E} number_call number_outcome turns)) (FoldingTakes {E = E} number_call number_outcome number_takes P) s (c, n)
  holds_each_turn_numbered {P = P} {s = s} {n = n} {c = c} can holds = takes_where_callable_when_reached number_call number_outcome turns (λ k x. number_takes k x)
      (λ items t u p x ran went step. let k = count_folds_and_rises_with_number items (c, n) p 0 went in let below = (holds_each_turn_below {m = m} can.bound l can.can_next (inl can.bounds)).at items t u k.0 x ran k.1 step in let fits = can.fits in omega (arith, below, k.2, fits)) holds

-- ---- `count`

-- items beside their numbers, the first of which is n
abbrev pub beside_numbers : {A : Type 0} → ℕ → List A → List (ℕ × A)
beside_numbers n [] = []
beside_numbers n (x ∷ items) = (n, x) ∷ beside_numbers (n + 1) items

length_beside_numbers : {A : Type 0} (items : List A) (n : ℕ) → length (beside_numbers n items) ≡ length items
length_beside_numbers [] n = refl
length_beside_numbers (x ∷ items) n = let rest = length_beside_numbers items (n + 1) in omega (arith, rest)

module _ {S A E : Type 0} (steps : S → Answered A E → S → Type 0) where
  -- items and a last answer of the source are the items beside their numbers, and what the last answer is of `Enumerate`
  run_numbered : (items : List A) (last : Answered A E) (answer : Answered (ℕ × A) E) (s t : S) (n : ℕ) → ((u v : S) (k : ℕ) → steps u last v → numbered_step steps (u, k) answer (v, k)) → Run steps s (map item items ++ last ∷ []) t → Run (numbered_step steps) (s, n) (map item (beside_numbers n items) ++ answer ∷ []) (t, n + length items)
  run_numbered [] last answer s t n then ran = let same : n ≡ n + 0 = omega arith in
      ((ran.0, n), then s ran.0 n ran.1, subst (λ (k : ℕ). ◌≡◌ {A = S × ℕ} (ran.0, n) (t, k)) same (ap (λ (u : S). (u, n)) ran.2))
  run_numbered (x ∷ items) last answer s t n then ran = let same : n + 1 + length items ≡ n + suc (length items) = omega arith in
      ((ran.0, n + 1), enumerate_trace_item x ran.1, subst (λ (k : ℕ). Run (numbered_step steps) (ran.0, n + 1) (map item (beside_numbers (n + 1) items) ++ answer ∷ []) (t, k)) same (run_numbered items last answer ran.0 t (n + 1) then ran.2))

  -- an end or a failure is the same of it
  over_exit_of_numbered_answer : (last : Answered A E) (r : Result (Unit {0}) E) → OverExit last r → (answer : Answered (ℕ × A) E) × OverExit answer r × ((u v : S) (k : ℕ) → steps u last v → numbered_step steps (u, k) answer (v, k))
  over_exit_of_numbered_answer (Ok None) r exit = (Ok None, exit, (λ u v k step. enumerate_trace_end step))
  over_exit_of_numbered_answer (Err e) r exit = (Err e, exit, (λ u v k step. enumerate_trace_failure step))
  over_exit_of_numbered_answer (Ok (Some x)) r exit = absurd exit

-- the source's count is one of `Enumerate`, whose own number goes up by as much
pub count_drains_on_numbered : {S A E : Type 0} {steps : S → Answered A E → S → Type 0} {s t : S} {n i k : ℕ} {r : Result (Unit {0}) E} → CountDrainsOn steps s i r t k → CountDrainsOn (numbered_step steps) (s, n) i r (t, n + (k - i)) k
count_drains_on_numbered {steps = steps} {s = s} {t = t} {n = n} {i = i} {k = k} {r = r} w = let last = over_exit_of_numbered_answer steps w.last r w.at.exit in let up = w.at.number in
    let same : n + length w.items ≡ n + (k - i) = omega (arith, up) in record {
      items = beside_numbers n w.items;
      last = last.0;
      ran = subst (λ (j : ℕ). Run (numbered_step steps) (s, n) (map item (beside_numbers n w.items) ++ last.0 ∷ []) (t, j)) same (run_numbered steps w.items w.last last.0 s t n last.2 w.ran);
      at = record { number = (let many = length_beside_numbers w.items n in omega (arith, up, many)); exit = last.1 };
    }
