-- What calls return over a source that lists, where no draw fails.
use Rattle.std.specs.Prelude.{◌≡◌, ℕ, zero, suc, length, List, [], ◌∷◌, ◌++◌, map, Option, Some, None, Result, Ok, Err, Bool, ⊤}
use Rattle.std.specs.List.{filter_map, cons_option}
use Rattle.std.specs.Result.{IsOk}
use Rattle.std.specs.Fn.{Mut}
use Rattle.std.specs.Borrow.{Bor}
use Rattle.std.proofs.Common.{refl, sym, ap, subst}
use Rattle.fallible_contract.specs.Traces.{Answered, Run, item, end}
use Rattle.fallible_contract.specs.Contract.{Contract, unbounded_contract}
use Rattle.fallible_contract.specs.Closures.{call_by_reference}
use Rattle.fallible_contract.specs.Folds.{CountDrains, CountExit}
use Rattle.fallible_contract.specs.Lists.{AlwaysGives, Lists, Acts, counted}
use Rattle.fallible_contract.specs.Passing.{Place, asked, failure_at, end_at, PassTrace, source_answer, answer_at, outcome_answer, tested_outcome}
use Rattle.fallible_contract.proofs.Lemmas.Lists.Drawn.{counted_of_lists}
use Rattle.fallible_core.specs.Cutting.Take.{take_step, take_parts, taken}
use Rattle.fallible_core.specs.Filtering.Filter.{filter_parts, filtered}
use Rattle.fallible_core.proofs.Lemmas.Cutting.Take.{lists_taken}
use Rattle.fallible_core.proofs.Lemmas.Filtering.Filter.{lists_filtered}
use Rattle.fallible_contract.specs.declared.passing.Outcome.{Outcome}
use Rattle.fallible_core.specs.declared.cutting.take.Take.{Take}
use Rattle.fallible_core.specs.declared.filtering.filter.Filter.{Filter}

-- the steps that don't fail
abbrev pub ok_steps : {S A E : Type 0} → (S → Answered A E → S → Type 0) → S → Answered A E → S → Type 0
ok_steps steps s r t = steps s r t × IsOk r

-- Where no draw fails, the answers of s, up to its first end, list l.
abbrev pub ListsWhereOk : {S A E : Type 0} → (S → Answered A E → S → Type 0) → S → List (Result A E) → Type 0
ListsWhereOk steps s l = Lists (ok_steps steps) s l

module _ {S A E : Type 0} (steps others : S → Answered A E → S → Type 0) (fewer : (s : S) (r : Answered A E) (t : S) → steps s r t → others s r t) where
  always_gives_fewer : (l : List (Result A E)) (s : S) → AlwaysGives others s l → AlwaysGives steps s l
  always_gives_fewer [] s a = λ r t w. a r t (fewer s r t w)
  always_gives_fewer (y ∷ l) s a = λ r t w. let d = a r t (fewer s r t w) in (d.0, always_gives_fewer l t d.1)

  lists_fewer : (l : List (Result A E)) (s : S) → Lists others s l → Lists steps s l
  lists_fewer l s i = record { runs = always_gives_fewer l s i.runs }

-- ---- `take`

take_step_of_ok_steps_where_ok : {S A E : Type 0} (steps : S → Answered A E → S → Type 0) (p : S × ℕ) (r : Answered A E) (q : S × ℕ) → take_step steps p r q → IsOk r → take_step (ok_steps steps) p r q
take_step_of_ok_steps_where_ok steps (s, zero) r (t, k) w ok = w
take_step_of_ok_steps_where_ok steps (s, suc n) r (t, k) w ok = ((w.0, ok), w.1)

pub lists_where_ok_taken : {S A E : Type 0} {steps : S → Answered A E → S → Type 0} {s : Take S} {it : S} {n : ℕ} {l : List (Result A E)} → take_parts s ≡ (it, n) → ListsWhereOk steps it l → ListsWhereOk (λ (u : Take S) (r : Answered A E) (v : Take S). take_step steps (take_parts u) r (take_parts v)) s (taken n l)
lists_where_ok_taken {S} {A} {E} {steps} {s} {it} {n} {l} parts i =
    let at : it ≡ s.it = sym (ap (λ (p : S × ℕ). p.0) parts) in
    let to_take : s.to_take ≡ n = ap (λ (p : S × ℕ). p.1) parts in
    let m : Contract S A E = unbounded_contract (ok_steps steps) in
    lists_fewer _ _ (λ u r v w. take_step_of_ok_steps_where_ok steps (take_parts u) r (take_parts v) w.0 w.1) (taken n l) s (lists_taken m s n l (ap (λ (k : ℕ). (s.it, k)) to_take) (subst (λ (u : S). Lists (ok_steps steps) u l) at i))

-- ---- `filter`

module _ {S X E : Type 0} (steps : S → Answered X E → S → Type 0) where
  -- none fails
  abbrev AllOk : List (Answered X E) → Type 0
  AllOk [] = ⊤
  AllOk (r ∷ rest) = IsOk r × AllOk rest

  all_ok_rest : (o : Option (Answered X E)) (rest : List (Answered X E)) → AllOk (cons_option o rest) → AllOk rest
  all_ok_rest None rest h = h
  all_ok_rest (Some r) rest h = h.1

  run_of_ok_steps_where_all_ok : {R : Type 0} (outcome : X → R → Outcome X E) (places : List (Place X R E)) (s t : S) → AllOk (filter_map (answer_at outcome) places) → Run steps s (map source_answer places) t → Run (ok_steps steps) s (map source_answer places) t
  run_of_ok_steps_where_all_ok outcome [] s t h ran = ran
  run_of_ok_steps_where_all_ok outcome (asked x v ∷ places) s t h ran = (ran.0, (ran.1, refl), run_of_ok_steps_where_all_ok outcome places ran.0 t (all_ok_rest (outcome_answer (outcome x v)) (filter_map (answer_at outcome) places) h) ran.2)
  run_of_ok_steps_where_all_ok outcome (failure_at e ∷ places) s t h ran = absurd (let failed = h.0 in cc)
  run_of_ok_steps_where_all_ok outcome (end_at ∷ places) s t h ran = (ran.0, (ran.1, refl), run_of_ok_steps_where_all_ok outcome places ran.0 t h.1 ran.2)

  pass_trace_of_ok_steps_where_answer_ok : {F R : Type 0} (call : F → X → R → F → Type 0) (outcome : X → R → Outcome X E) (p : S × F) (r : Answered X E) (q : S × F) → PassTrace steps call outcome p (r ∷ []) q → IsOk r → PassTrace (ok_steps steps) call outcome p (r ∷ []) q
  pass_trace_of_ok_steps_where_answer_ok call outcome p r q d ok = record {
    places = d.places;
    drawn = run_of_ok_steps_where_all_ok outcome d.places p.0 q.0 (subst AllOk d.answers (ok, tt)) d.drawn;
    called = d.called;
    answers = d.answers;
    last_kept = d.last_kept;
  }

module _ {S F X E : Type 0} {steps : S → Answered X E → S → Type 0} {g : Mut F (Bor X × Unit {0}) (Result Bool E)} {s : Filter S F} {it : S} {f : F} {l : List (Result X E)} where
  pub lists_where_ok_filtered : (h : X → Result Bool E) → filter_parts s ≡ (it, f) → Acts (call_by_reference g) f h → ListsWhereOk steps it l → ListsWhereOk (λ (u : Filter S F) (r : Answered X E) (v : Filter S F). PassTrace steps (call_by_reference g) tested_outcome (filter_parts u) (r ∷ []) (filter_parts v)) s (filtered h l)
  lists_where_ok_filtered h parts acts i =
      let at : it ≡ s.it = sym (ap (λ (p : S × F). p.0) parts) in
      let same : s.f ≡ f = ap (λ (p : S × F). p.1) parts in
      let m : Contract S X E = unbounded_contract (ok_steps steps) in
      lists_fewer _ _ (λ u r v w. pass_trace_of_ok_steps_where_answer_ok steps (call_by_reference g) tested_outcome (filter_parts u) r (filter_parts v) w.0 w.1) (filtered h l) s (lists_filtered m g s f h l (ap (λ (o : F). (s.it, o)) same) acts (subst (λ (u : S). Lists (ok_steps steps) u l) at i))

-- ---- `count`

module _ {S A E : Type 0} (steps : S → Answered A E → S → Type 0) where
  run_ok : (items : List A) (s t : S) → Run steps s (map item items ++ end ∷ []) t → Run (ok_steps steps) s (map item items ++ end ∷ []) t
  run_ok [] s t ran = (ran.0, (ran.1, refl), ran.2)
  run_ok (x ∷ items) s t ran = (ran.0, (ran.1, refl), run_ok items ran.0 t ran.2)

  count_drains_of_ok_steps_where_ok : (s t : S) (items : List A) (last : Answered A E) (n : ℕ) → Run steps s (map item items ++ last ∷ []) t → CountExit (length items) last (Ok n) → CountDrains (ok_steps steps) s (Ok n) t
  count_drains_of_ok_steps_where_ok s t items (Ok None) n ran exit = record { items = items; last = Ok None; ran = run_ok items s t ran; at = record { exit = exit } }
  count_drains_of_ok_steps_where_ok s t items (Ok (Some x)) n ran exit = absurd exit
  count_drains_of_ok_steps_where_ok s t items (Err e) n ran exit = absurd cc

pub counted_where_ok : {S A E : Type 0} {steps : S → Answered A E → S → Type 0} {s t : S} {l : List (Result A E)} (r : Result ℕ E) → CountDrains steps s r t → ListsWhereOk steps s l → IsOk r → r ≡ counted l
counted_where_ok {steps = steps} {s = s} {t = t} {l = l} (Ok n) c i ok = counted_of_lists l (count_drains_of_ok_steps_where_ok steps s t c.items c.last n c.ran c.at.exit) i
counted_where_ok (Err e) c i ok = absurd cc
