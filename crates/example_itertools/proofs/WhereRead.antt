-- What a chain over the rows of a reader lists where no read fails.
use Rattle.std.specs.Prelude.{◌≡◌, ◌≢◌, ℕ, zero, suc, List, [], ◌∷◌, ◌++◌, map, Option, Some, None, Result, Ok, Err, ⊤}
use Rattle.std.specs.List.{filter_map, cons_option}
use Rattle.std.specs.Result.{IsOk}
use Rattle.std.specs.Fn.{Mut}
use Rattle.std.proofs.Common.{refl, sym, ap, subst}
use Rattle.fallible_iterator.specs.Traces.{Answered, Run, item, failure, end}
use Rattle.fallible_iterator.specs.Contract.{Contract, unbounded_contract}
use Rattle.fallible_iterator.specs.Closures.{Calls, call_by_value}
use Rattle.fallible_iterator.specs.Exchange.{exchanged, steps_exchanged}
use Rattle.fallible_iterator.specs.Failing.{RecoveringTrace, outcome_exchanged}
use Rattle.fallible_iterator.specs.Folds.{FoldDrains, FoldedBy}
use Rattle.fallible_iterator.specs.Lists.{AlwaysGives, Lists, Acts, ActsWith, folded}
use Rattle.fallible_iterator.specs.OneToOne.Map.{map_outcome, map_parts, mapped}
use Rattle.fallible_iterator.specs.Passing.{Place, asked, failure_at, end_at, PassTrace, source_answer, call_of, answer_at, outcome_answer}
use Rattle.fallible_iterator.specs.Outcome.{Outcome}
use Rattle.fallible_iterator.specs.Map.{Map}
use Rattle.fallible_iterator.proofs.Lemmas.Lists.Drawn.{folded_of_lists}
use Rattle.fallible_iterator.proofs.Lemmas.OneToOne.Map.{lists_mapped}
use Rattle.fallible_iterator.proofs.Lemmas.WithoutFailure.{ok_steps, ListsWhereOk}
use Rattle.fallible_itertools.specs.Failing.{or_else_outcome, or_else_parts, recovered, stop_after_parts, stop_after_step, stopped_after}
use Rattle.fallible_itertools.proofs.Lemmas.Failing.{lists_recovered}
use Rattle.fallible_itertools.proofs.Lemmas.Failing.{lists_stopped}
use Rattle.fallible_itertools.specs.AdapterTypes.failing.OrElse.{OrElse}
use Rattle.fallible_itertools.specs.AdapterTypes.failing.StopAfter.{StopAfter}
use Rattle.fallible_rows.specs.declared.fault.RowFault.{RowFault}
use Rattle.fallible_rows.specs.declared.fault.RowFault.TheVariants.{Read}

-- the steps that don't fail by a read
abbrev pub read_steps : {S A : Type 0} → (S → Answered A RowFault → S → Type 0) → S → Answered A RowFault → S → Type 0
read_steps steps s r t = steps s r t × (r ≢ failure Read)

module _ {S A E : Type 0} (steps others : S → Answered A E → S → Type 0) (fewer : (s : S) (r : Answered A E) (t : S) → steps s r t → others s r t) where
  always_gives_fewer : (l : List (Result A E)) (s : S) → AlwaysGives others s l → AlwaysGives steps s l
  always_gives_fewer [] s a = λ r t w. a r t (fewer s r t w)
  always_gives_fewer (y ∷ l) s a = λ r t w. let d = a r t (fewer s r t w) in (d.0, always_gives_fewer l t d.1)

  lists_fewer : (l : List (Result A E)) (s : S) → Lists others s l → Lists steps s l
  lists_fewer l s i = record { runs = always_gives_fewer l s i.runs }

item_is_read : {A : Type 0} (x : A) → item x ≢ failure Read
item_is_read x is = absurd cc

end_is_read : {A : Type 0} → end {A = A} ≢ failure Read
end_is_read is = absurd cc

failure_is_read : {A B : Type 0} (e : RowFault) → failure {A = B} e ≢ failure Read → failure {A = A} e ≢ failure Read
failure_is_read e h is = let same : e ≡ Read = cc in h (ap (λ (f : RowFault). failure f) same)

-- ---- `map`

module _ {S X R B : Type 0} (steps : S → Answered X RowFault → S → Type 0) (outcome : X → R → Outcome B RowFault) where
  abbrev AllRead : List (Answered B RowFault) → Type 0
  AllRead [] = ⊤
  AllRead (r ∷ rest) = (r ≢ failure Read) × AllRead rest

  all_read_rest : (o : Option (Answered B RowFault)) (rest : List (Answered B RowFault)) → AllRead (cons_option o rest) → AllRead rest
  all_read_rest None rest h = h
  all_read_rest (Some r) rest h = h.1

  run_source_read : (places : List (Place X R RowFault)) (s t : S) → AllRead (filter_map (answer_at outcome) places) → Run steps s (map source_answer places) t → Run (read_steps steps) s (map source_answer places) t
  run_source_read [] s t h ran = ran
  run_source_read (asked x v ∷ places) s t h ran = (ran.0, (ran.1, item_is_read x), run_source_read places ran.0 t (all_read_rest (outcome_answer (outcome x v)) (filter_map (answer_at outcome) places) h) ran.2)
  run_source_read (failure_at e ∷ places) s t h ran = (ran.0, (ran.1, failure_is_read e h.0), run_source_read places ran.0 t h.1 ran.2)
  run_source_read (end_at ∷ places) s t h ran = (ran.0, (ran.1, end_is_read), run_source_read places ran.0 t h.1 ran.2)

  pass_trace_read : {F : Type 0} (call : F → X → R → F → Type 0) (p : S × F) (r : Answered B RowFault) (q : S × F) → PassTrace steps call outcome p (r ∷ []) q → r ≢ failure Read → PassTrace (read_steps steps) call outcome p (r ∷ []) q
  pass_trace_read call p r q d read = record {
    places = d.places;
    drawn = run_source_read d.places p.0 q.0 (subst AllRead d.answers (read, tt)) d.drawn;
    called = d.called;
    answers = d.answers;
    last_kept = d.last_kept;
  }

pub lists_read_mapped : {S F X B : Type 0} {steps : S → Answered X RowFault → S → Type 0} {g : Mut F (X × Unit {0}) (Result B RowFault)} {s : Map S F} {it : S} {f : F} {l : List (Result X RowFault)} (h : X → Result B RowFault) → map_parts s ≡ (it, f) → Acts (call_by_value g) f h → Lists (read_steps steps) it l → Lists (read_steps (λ (u : Map S F) (r : Answered B RowFault) (v : Map S F). PassTrace steps (call_by_value g) map_outcome (map_parts u) (r ∷ []) (map_parts v))) s (mapped h l)
lists_read_mapped {S} {F} {X} {B} {steps} {g} {s} {it} {f} {l} h parts acts i =
    let at : it ≡ s.it = sym (ap (λ (p : S × F). p.0) parts) in
    let same : s.f ≡ f = ap (λ (p : S × F). p.1) parts in
    let m : Contract S X RowFault = unbounded_contract (read_steps steps) in
    lists_fewer _ _ (λ u r v w. pass_trace_read steps map_outcome (call_by_value g) (map_parts u) r (map_parts v) w.0 w.1) (mapped h l) s (lists_mapped m g s f h l (ap (λ (o : F). (s.it, o)) same) acts (subst (λ (u : S). Lists (read_steps steps) u l) at i))

-- ---- `stop_after`

stop_after_step_read : {S A : Type 0} (steps : S → Answered A RowFault → S → Type 0) (p : S × (ℕ × ℕ)) (r : Answered A RowFault) (q : S × (ℕ × ℕ)) → stop_after_step steps p r q → r ≢ failure Read → stop_after_step (read_steps steps) p r q
stop_after_step_read steps (s, (zero, k)) r (t, left) w read = w
stop_after_step_read steps (s, (suc n, k)) r (t, left) w read = ((w.0, read), w.1, w.2)

pub lists_read_stopped : {S A : Type 0} {steps : S → Answered A RowFault → S → Type 0} {s : StopAfter S} {it : S} {n k : ℕ} {l : List (Result A RowFault)} → stop_after_parts s ≡ (it, (n, k)) → Lists (read_steps steps) it l → Lists (read_steps (λ (u : StopAfter S) (r : Answered A RowFault) (v : StopAfter S). stop_after_step steps (stop_after_parts u) r (stop_after_parts v))) s (stopped_after n l)
lists_read_stopped {S} {A} {steps} {s} {it} {n} {k} {l} parts i =
    let at : it ≡ s.it = sym (ap (λ (p : S × (ℕ × ℕ)). p.0) parts) in
    let counts : stop_after_parts s ≡ (s.it, (n, k)) = ap (λ (p : S × (ℕ × ℕ)). (s.it, p.1)) parts in
    let m : Contract S A RowFault = unbounded_contract (read_steps steps) in
    lists_fewer _ _ (λ u r v w. stop_after_step_read steps (stop_after_parts u) r (stop_after_parts v) w.0 w.1) (stopped_after n l) s (lists_stopped m s n k l counts (subst (λ (u : S). Lists (read_steps steps) u l) at i))

-- ---- `or_else`, whose closure fails on `Read`

module _ {S F X E : Type 0} (steps : S → Answered X RowFault → S → Type 0) (call : F → RowFault → Result (Option X) E → F → Type 0) (fails : (f g : F) (v : Result (Option X) E) → call f Read v g → (e : E) × (v ≡ Err e)) where
  abbrev outcome_of_fault : RowFault → Result (Option X) E → Outcome E X
  outcome_of_fault d v = outcome_exchanged (or_else_outcome d v)

  -- none fails, with items and failures exchanged
  abbrev NoneFails : List (Answered E X) → Type 0
  NoneFails [] = ⊤
  NoneFails (r ∷ rest) = IsOk (exchanged r) × NoneFails rest

  none_fails_rest : (o : Option (Answered E X)) (rest : List (Answered E X)) → NoneFails (cons_option o rest) → NoneFails rest
  none_fails_rest None rest h = h
  none_fails_rest (Some r) rest h = h.1

  failed_answer : (d : RowFault) (v : Result (Option X) E) (e : E) (rest : List (Answered E X)) → NoneFails (cons_option (outcome_answer (outcome_of_fault d v)) rest) → v ≡ Err e → ⊥
  failed_answer d (Ok (Some x)) e rest h is = absurd cc
  failed_answer d (Ok None) e rest h is = absurd cc
  failed_answer d (Err k) e rest h is = let failed = h.0 in absurd cc

  asked_is_read : (d : RowFault) (v : Result (Option X) E) (f g : F) (rest : List (Answered E X)) → NoneFails (cons_option (outcome_answer (outcome_of_fault d v)) rest) → call f d v g → failure {A = X} d ≢ failure Read
  asked_is_read d v f g rest h called is =
      let same : d ≡ Read = cc in
      let k = fails f g v (subst (λ (o : RowFault). call f o v g) same called) in
      failed_answer d v k.0 rest h k.1

  run_source_recovered : (places : List (Place RowFault (Result (Option X) E) X)) (s t : S) (f g : F) → NoneFails (filter_map (answer_at outcome_of_fault) places) → Calls call f (filter_map call_of places) g → Run (steps_exchanged steps) s (map source_answer places) t → Run (steps_exchanged (read_steps steps)) s (map source_answer places) t
  run_source_recovered [] s t f g h called ran = ran
  run_source_recovered (asked d v ∷ places) s t f g h called ran = (ran.0, (ran.1, asked_is_read d v f called.0 (filter_map (answer_at outcome_of_fault) places) h called.1), run_source_recovered places ran.0 t called.0 g (none_fails_rest (outcome_answer (outcome_of_fault d v)) (filter_map (answer_at outcome_of_fault) places) h) called.2 ran.2)
  run_source_recovered (failure_at x ∷ places) s t f g h called ran = (ran.0, (ran.1, item_is_read x), run_source_recovered places ran.0 t f g h.1 called ran.2)
  run_source_recovered (end_at ∷ places) s t f g h called ran = (ran.0, (ran.1, end_is_read), run_source_recovered places ran.0 t f g h.1 called ran.2)

  ok_again : (r : Answered X E) → IsOk r → IsOk (exchanged (exchanged r))
  ok_again (Ok (Some x)) ok = ok
  ok_again (Ok None) ok = ok
  ok_again (Err e) ok = ok

  recovering_trace_read : (p : S × F) (r : Answered X E) (q : S × F) → RecoveringTrace steps call or_else_outcome p (r ∷ []) q → IsOk r → RecoveringTrace (read_steps steps) call or_else_outcome p (r ∷ []) q
  recovering_trace_read p r q d ok = record {
    places = d.places;
    drawn = run_source_recovered d.places p.0 q.0 p.1 q.1 (subst NoneFails d.answers (ok_again r ok, tt)) d.called d.drawn;
    called = d.called;
    answers = d.answers;
    last_kept = d.last_kept;
  }

pub lists_where_ok_recovered : {S F X E : Type 0} {steps : S → Answered X RowFault → S → Type 0} {g : Mut F (RowFault × Unit {0}) (Result (Option X) E)} {s : OrElse S F} {it : S} {f : F} {l : List (Result X RowFault)} (h : RowFault → Result (Option X) E) → ((f k : F) (v : Result (Option X) E) → call_by_value g f Read v k → (e : E) × (v ≡ Err e)) → or_else_parts s ≡ (it, f) → Acts (call_by_value g) f h → Lists (read_steps steps) it l → ListsWhereOk (λ (u : OrElse S F) (r : Answered X E) (v : OrElse S F). RecoveringTrace steps (call_by_value g) or_else_outcome (or_else_parts u) (r ∷ []) (or_else_parts v)) s (recovered h l)
lists_where_ok_recovered {S} {F} {X} {E} {steps} {g} {s} {it} {f} {l} h fails parts acts i =
    let at : it ≡ s.it = sym (ap (λ (p : S × F). p.0) parts) in
    let same : s.f ≡ f = ap (λ (p : S × F). p.1) parts in
    let m : Contract S X RowFault = unbounded_contract (read_steps steps) in
    lists_fewer _ _ (λ u r v w. recovering_trace_read steps (call_by_value g) fails (or_else_parts u) r (or_else_parts v) w.0 w.1) (recovered h l) s (lists_recovered m g s f h l (ap (λ (o : F). (s.it, o)) same) acts (subst (λ (u : S). Lists (read_steps steps) u l) at i))

-- ---- `fold`

module _ {S A E F B : Type 0} (steps : S → Answered A E → S → Type 0) (call : F → B → A → Result B E → F → Type 0) (f : F) where
  run_ok : (items : List A) (s t : S) → Run steps s (map item items ++ end ∷ []) t → Run (ok_steps steps) s (map item items ++ end ∷ []) t
  run_ok [] s t ran = (ran.0, (ran.1, refl), ran.2)
  run_ok (x ∷ items) s t ran = (ran.0, (ran.1, refl), run_ok items ran.0 t ran.2)

  fold_drains_ok : (s t : S) (b v : B) (items : List A) (last : Answered A E) → Run steps s (map item items ++ last ∷ []) t → FoldedBy call (λ e d. d ≡ e) b f (Ok v) items last → FoldDrains (ok_steps steps) call (λ e d. d ≡ e) s b f (Ok v) t
  fold_drains_ok s t b v items (Ok None) ran at = record { items = items; last = Ok None; ran = run_ok items s t ran; at = at }
  fold_drains_ok s t b v items (Ok (Some x)) ran at = absurd (let failed = at.exit.3 in cc)
  fold_drains_ok s t b v items (Err e) ran at = absurd (let failed = at.exit.2 in cc)

pub folded_where_ok : {S A E F B : Type 0} {steps : S → Answered A E → S → Type 0} {call : F → B → A → Result B E → F → Type 0} {f : F} {s t : S} {b v : B} {l : List (Result A E)} (h : B → A → Result B E) → ActsWith call f h → FoldDrains steps call (λ e d. d ≡ e) s b f (Ok v) t → ListsWhereOk steps s l → Ok v ≡ folded (λ e. e) h b l
folded_where_ok {steps = steps} {call = call} {f = f} {s = s} {t = t} {b = b} {v = v} {l = l} h acts c i = folded_of_lists call (λ e d. d ≡ e) (λ e. e) h f acts (λ e d is. is) l (fold_drains_ok steps call f s t b v c.items c.last c.ran c.at) i
