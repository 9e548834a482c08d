-- The contracts of the adapters that let items pass are lawful if the source's is.
use Rattle.std.specs.Prelude.{ℕ, Option, Some, None, Ok, Err, ◌≡◌, List, [], ◌∷◌, ◌↔◌, map, IsSome, is_some, true, false}
use Rattle.std.specs.List.{filter_map, cons_option}
use Rattle.std.proofs.Common.{refl, sym, ap, subst, arith, inl, inr}
use Rattle.fallible_contract.specs.Traces.{LastKept, Answered, Run, first_of, item}
use Rattle.fallible_contract.specs.Laws.Sound.{own_hold}
use Rattle.fallible_contract.specs.Contract.{Contract, OnAnswer, KeptByDraw, KeptByDraws, Lawful}
use Rattle.fallible_contract.specs.Passing.{PassTrace, passes_all, passing_contract, leaving_out_contract, Place, asked, failure_at, end_at, source_answer, call_of, outcome_answer, answer_at, has_answer}
use Rattle.fallible_contract.specs.Closures.{Calls, Reaches}
use Rattle.fallible_contract.specs.Laws.Contract.{kept_by_draws_run}
use Rattle.fallible_contract.specs.Laws.LawForm.{FirstOf, IsByAnswers, run_at_one_answer_iff_law, IsTraced, iff_of_two, run_of_whole_list, list_is_trace}
use Rattle.fallible_contract.specs.Laws.Closures.{reaches_reflexive, reaches_weaken, reaches_by_call_first, may_answer_of_call, may_answer_where_reached_may_answer}
use Rattle.fallible_contract.specs.declared.passing.Outcome.{Outcome}
use Rattle.fallible_contract.specs.declared.passing.Outcome.TheVariants.{Kept, LeftOut, Failure, End}

module _ {S F X R B E : Type 0} (steps : S → Answered X E → S → Type 0) (call : F → X → R → F → Type 0) (outcome : X → R → Outcome B E) where
  -- `PassTrace`, built from the first answer on
  pub data Passes : S → F → List (Answered B E) → S → F → Type 0 where
    done : {s : S} {f : F} → Passes s f [] s f
    end_passes : {s u t : S} {f g : F} {trace : List (Answered B E)} → steps s (Ok None) u → Passes u f trace t g → Passes s f (Ok None ∷ trace) t g
    failure_passes : {s u t : S} {f g : F} {trace : List (Answered B E)} (e : E) → steps s (Err e) u → Passes u f trace t g → Passes s f (Err e ∷ trace) t g
    keeps : {s u t : S} {f h g : F} {trace : List (Answered B E)} (x : X) (v : R) (y : B) → steps s (item x) u → call f x v h → outcome x v ≡ Kept y → Passes u h trace t g → Passes s f (item y ∷ trace) t g
    refuses : {s u t : S} {f h g : F} {trace : List (Answered B E)} (x : X) (v : R) (e : E) → steps s (item x) u → call f x v h → outcome x v ≡ Failure e → Passes u h trace t g → Passes s f (Err e ∷ trace) t g
    closes : {s u t : S} {f h g : F} {trace : List (Answered B E)} (x : X) (v : R) → steps s (item x) u → call f x v h → outcome x v ≡ End → Passes u h trace t g → Passes s f (Ok None ∷ trace) t g
    leaves_out : {s u t : S} {f h g : F} {r : Answered B E} {trace : List (Answered B E)} (x : X) (v : R) → steps s (item x) u → call f x v h → outcome x v ≡ LeftOut → Passes u h (r ∷ trace) t g → Passes s f (r ∷ trace) t g

module _ {X R B E : Type 0} (outcome : X → R → Outcome B E) where
  pub last_kept_tail : (p : Place X R E) (rest : List (Place X R E)) → LastKept (has_answer outcome) (p ∷ rest) → LastKept (has_answer outcome) rest
  last_kept_tail p [] h = tt
  last_kept_tail p (q ∷ rest) h = h

  pub last_kept_cons : (p : Place X R E) (rest : List (Place X R E)) → IsSome (answer_at outcome p) → LastKept (has_answer outcome) rest → LastKept (has_answer outcome) (p ∷ rest)
  last_kept_cons p [] some h = some
  last_kept_cons p (q ∷ rest) some h = h

  pub last_kept_before : (p : Place X R E) (rest : List (Place X R E)) (r : Answered B E) (trace : List (Answered B E)) → r ∷ trace ≡ filter_map (answer_at outcome) rest → LastKept (has_answer outcome) rest → LastKept (has_answer outcome) (p ∷ rest)
  last_kept_before p [] r trace e h = absurd cc
  last_kept_before p (q ∷ rest) r trace e h = h

  cons_option_nonempty_of_some : (o : Option (Answered B E)) (rest : List (Answered B E)) → IsSome o → cons_option o rest ≡ [] → ⊥
  cons_option_nonempty_of_some None rest h e = let h' : false ≡ true = h in cc
  cons_option_nonempty_of_some (Some r) rest h e = cc

  cons_option_nonempty_of_rest : (o : Option (Answered B E)) (rest : List (Answered B E)) → (rest ≡ [] → ⊥) → cons_option o rest ≡ [] → ⊥
  cons_option_nonempty_of_rest None rest h e = h e
  cons_option_nonempty_of_rest (Some r) rest h e = cc

  -- places that end kept have an answer
  pub answers_never_nil : (p : Place X R E) (rest : List (Place X R E)) → LastKept (has_answer outcome) (p ∷ rest) → filter_map (answer_at outcome) (p ∷ rest) ≡ [] → ⊥
  answers_never_nil p [] h e = cons_option_nonempty_of_some (answer_at outcome p) [] h e
  answers_never_nil p (q ∷ rest) h e = cons_option_nonempty_of_rest (answer_at outcome p) (filter_map (answer_at outcome) (q ∷ rest)) (answers_never_nil q rest h) e

module _ {S F X R B E : Type 0} {steps : S → Answered X E → S → Type 0} {call : F → X → R → F → Type 0} {outcome : X → R → Outcome B E} where
  passes_with_left_out_item_first : {s u t : S} {f h g : F} (x : X) (v : R) (trace : List (Answered B E)) (p : Place X R E) (rest : List (Place X R E)) → steps s (item x) u → call f x v h → outcome x v ≡ LeftOut → trace ≡ filter_map (answer_at outcome) (p ∷ rest) → LastKept (has_answer outcome) (p ∷ rest) → Passes steps call outcome u h trace t g → Passes steps call outcome s f trace t g
  passes_with_left_out_item_first x v [] p rest step called is e close h = absurd (answers_never_nil outcome p rest close (sym e))
  passes_with_left_out_item_first x v (r ∷ trace) p rest step called is e close h = leaves_out x v step called is h

  module _ {s u t : S} {f h g : F} (x : X) (v : R) (step : steps s (item x) u) (called : call f x v h) where
    last_kept_from_asked : (o : Outcome B E) → outcome x v ≡ o → (rest : List (Place X R E)) (trace : List (Answered B E)) → trace ≡ cons_option (outcome_answer o) (filter_map (answer_at outcome) rest) → LastKept (has_answer outcome) (asked x v ∷ rest)
        → Passes steps call outcome u h (filter_map (answer_at outcome) rest) t g → Passes steps call outcome s f trace t g
    last_kept_from_asked (Kept y) is rest trace e close rests = subst (λ (l : List (Answered B E)). Passes steps call outcome s f l t g) (sym e) (keeps x v y step called is rests)
    last_kept_from_asked (Failure d) is rest trace e close rests = subst (λ (l : List (Answered B E)). Passes steps call outcome s f l t g) (sym e) (refuses x v d step called is rests)
    last_kept_from_asked End is rest trace e close rests = subst (λ (l : List (Answered B E)). Passes steps call outcome s f l t g) (sym e) (closes x v step called is rests)
    last_kept_from_asked LeftOut is [] trace e close rests = absurd (let some : is_some (outcome_answer (outcome x v)) ≡ true = close in let none : is_some (outcome_answer {B = B} {E = E} LeftOut) ≡ true = subst (λ (o : Outcome B E). is_some (outcome_answer o) ≡ true) is some in cc)
    last_kept_from_asked LeftOut is (p ∷ rest) trace e close rests = subst (λ (l : List (Answered B E)). Passes steps call outcome s f l t g) (sym e) (passes_with_left_out_item_first x v (filter_map (answer_at outcome) (p ∷ rest)) p rest step called is refl close rests)

  passes_from_places : (places : List (Place X R E)) (s : S) (f : F) (trace : List (Answered B E)) (t : S) (g : F) → Run steps s (map source_answer places) t → Calls call f (filter_map call_of places) g → trace ≡ filter_map (answer_at outcome) places → LastKept (has_answer outcome) places → Passes steps call outcome s f trace t g
  passes_from_places [] s f trace t g ran called e close = subst (λ (l : List (Answered B E)). Passes steps call outcome s f l t g) (sym e) (subst (λ (u : S). Passes steps call outcome s f [] u g) ran (subst (λ (h : F). Passes steps call outcome s f [] s h) called done))
  passes_from_places (failure_at d ∷ places) s f trace t g ran called e close = subst (λ (l : List (Answered B E)). Passes steps call outcome s f l t g) (sym e) (failure_passes d ran.1 (passes_from_places places ran.0 f _ t g ran.2 called refl (last_kept_tail outcome (failure_at d) places close)))
  passes_from_places (end_at ∷ places) s f trace t g ran called e close = subst (λ (l : List (Answered B E)). Passes steps call outcome s f l t g) (sym e) (end_passes ran.1 (passes_from_places places ran.0 f _ t g ran.2 called refl (last_kept_tail outcome end_at places close)))
  passes_from_places (asked x v ∷ places) s f trace t g ran called e close = last_kept_from_asked x v ran.1 called.1 (outcome x v) refl places trace e close (passes_from_places places ran.0 called.0 _ t g ran.2 called.2 refl (last_kept_tail outcome (asked x v) places close))

  pub passes_of_pass_trace : {s t : S} {f g : F} {trace : List (Answered B E)} → PassTrace steps call outcome (s, f) trace (t, g) → Passes steps call outcome s f trace t g
  passes_of_pass_trace {s} {t} {f} {g} {trace} p = passes_from_places p.places s f trace t g p.drawn p.called p.answers p.last_kept

  pub pass_trace_of_passes : {s t : S} {f g : F} {trace : List (Answered B E)} → Passes steps call outcome s f trace t g → PassTrace steps call outcome (s, f) trace (t, g)
  pass_trace_of_passes done = record { places = []; drawn = refl; called = refl; answers = refl; last_kept = tt }
  pass_trace_of_passes (end_passes {u = u} step h) = let p = pass_trace_of_passes h in record { places = end_at ∷ p.places; drawn = (u, step, p.drawn); called = p.called; answers = ap (λ l. Ok None ∷ l) p.answers; last_kept = last_kept_cons outcome end_at p.places refl p.last_kept }
  pass_trace_of_passes (failure_passes {u = u} e step h) = let p = pass_trace_of_passes h in record { places = failure_at e ∷ p.places; drawn = (u, step, p.drawn); called = p.called; answers = ap (λ l. Err e ∷ l) p.answers; last_kept = last_kept_cons outcome (failure_at e) p.places refl p.last_kept }
  pass_trace_of_passes (keeps {u = u} {h = j} x v y step called is h) = let p = pass_trace_of_passes h in record { places = asked x v ∷ p.places; drawn = (u, step, p.drawn); called = (j, called, p.called); answers = rw is (ap (λ l. item y ∷ l) p.answers); last_kept = last_kept_cons outcome (asked x v) p.places (rw is refl) p.last_kept }
  pass_trace_of_passes (refuses {u = u} {h = j} x v e step called is h) = let p = pass_trace_of_passes h in record { places = asked x v ∷ p.places; drawn = (u, step, p.drawn); called = (j, called, p.called); answers = rw is (ap (λ l. Err e ∷ l) p.answers); last_kept = last_kept_cons outcome (asked x v) p.places (rw is refl) p.last_kept }
  pass_trace_of_passes (closes {u = u} {h = j} x v step called is h) = let p = pass_trace_of_passes h in record { places = asked x v ∷ p.places; drawn = (u, step, p.drawn); called = (j, called, p.called); answers = rw is (ap (λ l. Ok None ∷ l) p.answers); last_kept = last_kept_cons outcome (asked x v) p.places (rw is refl) p.last_kept }
  pass_trace_of_passes (leaves_out {u = u} {h = j} {r = r} {trace = trace} x v step called is h) = let p = pass_trace_of_passes h in record { places = asked x v ∷ p.places; drawn = (u, step, p.drawn); called = (j, called, p.called); answers = rw is p.answers; last_kept = last_kept_before outcome (asked x v) p.places r trace p.answers p.last_kept }

-- ---- a whole trace is its answers, one draw after another

module _ {S F X R B E : Type 0} (steps : S → Answered X E → S → Type 0) (call : F → X → R → F → Type 0) (outcome : X → R → Outcome B E) where
  passes_cons : (s u t : S) (f h g : F) (r : Answered B E) (rest : List (Answered B E)) → Passes steps call outcome s f (r ∷ []) u h → Passes steps call outcome u h rest t g → Passes steps call outcome s f (r ∷ rest) t g
  passes_cons s u t f h g _ rest (end_passes step done) q = end_passes step q
  passes_cons s u t f h g _ rest (failure_passes e step done) q = failure_passes e step q
  passes_cons s u t f h g _ rest (keeps x v y step called is done) q = keeps x v y step called is q
  passes_cons s u t f h g _ rest (refuses x v e step called is done) q = refuses x v e step called is q
  passes_cons s u t f h g _ rest (closes x v step called is done) q = closes x v step called is q
  passes_cons s u t f h g r rest (leaves_out {u = w} {h = j} x v step called is p) q = leaves_out x v step called is (passes_cons w u t j h g r rest p q)

  -- what the first answer leaves, and the rest from there
  record FirstPassed (s : S) (f : F) (r : Answered B E) (rest : List (Answered B E)) (t : S) (g : F) : Type 0 where
    source : S
    closure : F
    first : Passes steps call outcome s f (r ∷ []) source closure
    others : Passes steps call outcome source closure rest t g

  first_passed_of_passes_cons : (s t : S) (f g : F) (r : Answered B E) (rest : List (Answered B E)) → Passes steps call outcome s f (r ∷ rest) t g → FirstPassed s f r rest t g
  first_passed_of_passes_cons s t f g _ rest (end_passes {u = u} step p) = record { source = u; closure = f; first = end_passes step done; others = p }
  first_passed_of_passes_cons s t f g _ rest (failure_passes {u = u} e step p) = record { source = u; closure = f; first = failure_passes e step done; others = p }
  first_passed_of_passes_cons s t f g _ rest (keeps {u = u} {h = h} x v y step called is p) = record { source = u; closure = h; first = keeps x v y step called is done; others = p }
  first_passed_of_passes_cons s t f g _ rest (refuses {u = u} {h = h} x v e step called is p) = record { source = u; closure = h; first = refuses x v e step called is done; others = p }
  first_passed_of_passes_cons s t f g _ rest (closes {u = u} {h = h} x v step called is p) = record { source = u; closure = h; first = closes x v step called is done; others = p }
  first_passed_of_passes_cons s t f g r rest (leaves_out {u = u} {h = h} x v step called is p) = let q = first_passed_of_passes_cons u t h g r rest p in record { source = q.source; closure = q.closure; first = leaves_out x v step called is q.first; others = q.others }

  first_of_pass_trace_by_first_passed : (s t : S) (f g : F) (r : Answered B E) (rest : List (Answered B E)) → FirstPassed s f r rest t g → FirstOf (PassTrace steps call outcome) (s, f) r rest (t, g)
  first_of_pass_trace_by_first_passed s t f g r rest q = record { left_by_first = (q.source, q.closure); first = pass_trace_of_passes q.first; others = pass_trace_of_passes q.others }

  passes_nil_same : (s t : S) (f g : F) → Passes steps call outcome s f [] t g → ◌≡◌ {A = S × F} (s, f) (t, g)
  passes_nil_same s _ f _ done = refl

pub passing_by_answers : {S F X R B E : Type 0} (steps : S → Answered X E → S → Type 0) (call : F → X → R → F → Type 0) (outcome : X → R → Outcome B E) → IsByAnswers (PassTrace steps call outcome)
passing_by_answers steps call outcome = record {
  none = λ p. pass_trace_of_passes done;
  same = λ p q d. passes_nil_same steps call outcome p.0 q.0 p.1 q.1 (passes_of_pass_trace d);
  joins = λ p u q r rest d e. pass_trace_of_passes (passes_cons steps call outcome p.0 u.0 q.0 p.1 u.1 q.1 r rest (passes_of_pass_trace d) (passes_of_pass_trace e));
  splits = λ p q r rest d. first_of_pass_trace_by_first_passed steps call outcome p.0 q.0 p.1 q.1 r rest (first_passed_of_passes_cons steps call outcome p.0 q.0 p.1 q.1 r rest (passes_of_pass_trace d));
}

-- ---- runs over all that the source returns

module _ {S F X R B E : Type 0} (steps : S → Answered X E → S → Type 0) {call : F → X → R → F → Type 0} {outcome : X → R → Outcome B E} where
  pass_trace_of_list : {p q : S × F} {trace : List (Answered B E)} → (h : PassTrace steps call outcome p trace q) → PassTrace first_of call outcome (map source_answer h.places, p.1) trace ([], q.1)
  pass_trace_of_list h = record { places = h.places; drawn = run_of_whole_list (map source_answer h.places); called = h.called; answers = h.answers; last_kept = h.last_kept }

  pass_trace_of_source : {p q : S × F} {l : List (Answered X E)} {trace : List (Answered B E)} → Run steps p.0 l q.0 → PassTrace first_of call outcome (l, p.1) trace ([], q.1) → PassTrace steps call outcome p trace q
  pass_trace_of_source {p = p} {q = q} {l = l} ran h = record { places = h.places; drawn = subst (λ (k : List (Answered X E)). Run steps p.0 k q.0) (list_is_trace (map source_answer h.places) l h.drawn) ran; called = h.called; answers = h.answers; last_kept = h.last_kept }

-- The trace over the source's steps is the definition over all that the source returns.
pub passes_over_all : {S F X R B E : Type 0} {steps : S → Answered X E → S → Type 0} {traces : S → List (Answered X E) → S → Type 0} → IsTraced steps traces → (call : F → X → R → F → Type 0) (outcome : X → R → Outcome B E) (p : S × F) (trace : List (Answered B E)) (q : S × F) → PassTrace steps call outcome p trace q ↔ passes_all traces call outcome p trace q
passes_over_all {steps = steps} law call outcome p trace q = (
  (λ h. (map source_answer h.places, (law p.0 (map source_answer h.places) q.0).0 h.drawn, pass_trace_of_list steps h)),
  (λ (l, ran, h). pass_trace_of_source steps ((law p.0 l q.0).1 ran) h),
)

pub passing_traced : {S F X R B E : Type 0} {steps : S → Answered X E → S → Type 0} {traces : S → List (Answered X E) → S → Type 0} → IsTraced steps traces → (call : F → X → R → F → Type 0) (outcome : X → R → Outcome B E) → IsTraced (λ p r q. PassTrace steps call outcome p (r ∷ []) q) (passes_all traces call outcome)
passing_traced {steps = steps} law call outcome p trace q = iff_of_two (run_at_one_answer_iff_law _ (passing_by_answers steps call outcome) p trace q) (passes_over_all law call outcome p trace q)

-- Calls on what comes leave callable what they were made on.
abbrev pub StaysCallable : {F X R : Type 0} → (F → X → R → F → Type 0) → ((X → Type 0) → F → Type 0) → Type 1
StaysCallable {F = F} {X = X} call callable = (P Q : X → Type 0) (f g : F) → ((x : X) → Q x → P x) → Reaches call P f g → callable P f → callable Q g

-- ---- the contract of what lets items pass is lawful if the source's is

module _ {S F X R B E : Type 0} (m : Contract S X E) (l : Lawful m) (call : F → X → R → F → Type 0) (outcome : X → R → Outcome B E) where
  abbrev PassesHere : S → F → List (Answered B E) → S → F → Type 0
  PassesHere = Passes m.steps call outcome

  kept_by_draws_passes : (s t : S) (f g : F) (trace : List (Answered B E)) → m.can_next s → PassesHere s f trace t g → KeptByDraws m s t
  kept_by_draws_passes s t f g trace c p = let q = pass_trace_of_passes p in kept_by_draws_run l s (map source_answer q.places) t c q.drawn

  reaches_passes : (s t : S) (f g : F) (trace : List (Answered B E)) → m.can_next s → PassesHere s f trace t g → Reaches call (m.may_give s) f g
  reaches_passes s _ f _ _ c done = reaches_reflexive
  reaches_passes s t f g _ c (end_passes {u = u} step p) = let a = l.kept_by_draw s (Ok None) u c step in reaches_weaken a.may_give (reaches_passes u t f g _ a.can_next p)
  reaches_passes s t f g _ c (failure_passes {u = u} e step p) = let a = l.kept_by_draw s (Err e) u c step in reaches_weaken a.may_give (reaches_passes u t f g _ a.can_next p)
  reaches_passes s t f g _ c (keeps {u = u} {h = h} x v y step called is p) = let a = l.kept_by_draw s (item x) u c step in reaches_by_call_first x v a.answer.0 called (reaches_weaken a.may_give (reaches_passes u t h g _ a.can_next p))
  reaches_passes s t f g _ c (refuses {u = u} {h = h} x v e step called is p) = let a = l.kept_by_draw s (item x) u c step in reaches_by_call_first x v a.answer.0 called (reaches_weaken a.may_give (reaches_passes u t h g _ a.can_next p))
  reaches_passes s t f g _ c (closes {u = u} {h = h} x v step called is p) = let a = l.kept_by_draw s (item x) u c step in reaches_by_call_first x v a.answer.0 called (reaches_weaken a.may_give (reaches_passes u t h g _ a.can_next p))
  reaches_passes s t f g _ c (leaves_out {u = u} {h = h} x v step called is p) = let a = l.kept_by_draw s (item x) u c step in reaches_by_call_first x v a.answer.0 called (reaches_weaken a.may_give (reaches_passes u t h g _ a.can_next p))

  module _ (callable : (X → Type 0) → F → Type 0) (hints : S × F → ℕ × Option ℕ → Type 0) where
    abbrev PassingContract : Contract (S × F) B E
    PassingContract = passing_contract m call callable outcome hints

    -- a draw after a left-out item was a draw
    on_answer_after_left_out : (s u t : S) (f h g : F) (r : Answered B E) (x : X) (v : R) → KeptByDraw m s (item x) u → call f x v h → OnAnswer PassingContract (u, h) r (t, g) → OnAnswer PassingContract (s, f) r (t, g)
    on_answer_after_left_out s u t f h g (Ok (Some y)) x v a called b = (may_answer_where_reached_may_answer a.may_give (reaches_by_call_first x v a.answer.0 called reaches_reflexive) b.0, (λ n c. let j = a.answer.1 n c in let k = b.1 j.0 j.1 in (k.0, k.1, omega (arith, j.2, k.2))), (λ e. let j = a.answer.2 e in let k = b.2 j.0 in (k.0, omega (arith, j.1, k.1))))
    on_answer_after_left_out s u t f h g (Ok None) x v a called b = ((λ n c. let j = a.answer.1 n c in let k = b.0 j.0 j.1 in (k.0, k.1, omega (arith, j.2, k.2))), (λ e. let j = a.answer.2 e in let k = b.1 j.0 in (k.0, omega (arith, j.1, k.1))))
    on_answer_after_left_out s u t f h g (Err e) x v a called b = (elim b.0 [ inl c ↦ inl (a.may_fail e c) | inr c ↦ inr (may_answer_where_reached_may_answer a.may_give (reaches_by_call_first x v a.answer.0 called reaches_reflexive) c) ], (λ n c. let j = a.answer.1 n c in let k = b.1 j.0 j.1 in (k.0, k.1, omega (arith, j.2, k.2))), (λ d. let j = a.answer.2 d in let k = b.2 j.0 in (k.0, omega (arith, j.1, k.1))))

    on_answer_passes : (s t : S) (f g : F) (r : Answered B E) → m.can_next s → PassesHere s f (r ∷ []) t g → OnAnswer PassingContract (s, f) r (t, g)
    on_answer_passes s t f g _ c (end_passes step done) = (l.kept_by_draw s (Ok None) t c step).answer
    on_answer_passes s t f g _ c (failure_passes e step done) = let a = (l.kept_by_draw s (Err e) t c step).answer in (inl a.0, a.1, a.2)
    on_answer_passes s t f g _ c (keeps x v y step called is done) = let a = (l.kept_by_draw s (item x) t c step).answer in (may_answer_of_call g x v a.0 called is, a.1, a.2)
    on_answer_passes s t f g _ c (refuses x v e step called is done) = let a = (l.kept_by_draw s (item x) t c step).answer in (inr (may_answer_of_call g x v a.0 called is), (λ n b. let k = a.1 n b in (k.0, k.1, omega (arith, k.2))), a.2)
    on_answer_passes s t f g _ c (closes x v step called is done) = let a = (l.kept_by_draw s (item x) t c step).answer in ((λ n b. let k = a.1 n b in (k.0, k.1, omega (arith, k.2))), (λ d. let k = a.2 d in (k.0, omega (arith, k.1))))
    on_answer_passes s t f g r c (leaves_out {u = u} {h = h} x v step called is rest) = let a = l.kept_by_draw s (item x) u c step in on_answer_after_left_out s u t f h g r x v a called (on_answer_passes u t h g r a.can_next rest)

    kept_by_draw_passing : StaysCallable call callable → (p : S × F) (r : Answered B E) (q : S × F) → PassingContract.can_next p → PassingContract.steps p r q → KeptByDraw PassingContract p r q
    kept_by_draw_passing after (s, f) r (t, g) c step = let p = passes_of_pass_trace step in let a = kept_by_draws_passes s t f g _ c.0 p in let reached = reaches_passes s t f g _ c.0 p in record {
      can_next = (a.can_next, after (m.may_give s) (m.may_give t) f g a.may_give reached c.1);
      is_finite = a.is_finite;
      answer = on_answer_passes s t f g r c.0 p;
      may_give = λ y h. may_answer_where_reached_may_answer a.may_give reached h;
      may_fail = λ e h. elim h [ inl b ↦ inl (a.may_fail e b) | inr b ↦ inr (may_answer_where_reached_may_answer a.may_give reached b) ];
      lenders = a.lenders;
    }

-- the contract is lawful if the closure stays callable after calls on what comes
pub lawful_passing : {S F X R B E : Type 0} {m : Contract S X E} (call : F → X → R → F → Type 0) (callable : (X → Type 0) → F → Type 0) (outcome : X → R → Outcome B E) (hints : S × F → ℕ × Option ℕ → Type 0) → StaysCallable call callable → Lawful m → Lawful (passing_contract m call callable outcome hints)
lawful_passing {m} call callable outcome hints after l = record { kept_by_draw = kept_by_draw_passing m l call outcome callable hints after; bounded = λ p. l.bounded p.0; traced = passing_traced l.traced call outcome; hold = own_hold }

-- a bound of the source, required besides, stays
module _ {S F A E : Type 0} (p : Contract (S × F) A E) (needs : S → Type 0) where
  abbrev needing_contract : Contract (S × F) A E
  needing_contract = record p { can_next = λ s. needs s.0 × p.can_next s }

  on_answer_needing : (s t : S × F) (r : Answered A E) → OnAnswer p s r t → OnAnswer needing_contract s r t
  on_answer_needing s t (Ok (Some x)) h = h
  on_answer_needing s t (Ok None) h = h
  on_answer_needing s t (Err e) h = h

  kept_by_draw_needing : (s t : S × F) (r : Answered A E) → needs t.0 → KeptByDraw p s r t → KeptByDraw needing_contract s r t
  kept_by_draw_needing s t r n g = record { can_next = (n, g.can_next); is_finite = g.is_finite; answer = on_answer_needing s t r g.answer; may_give = g.may_give; may_fail = g.may_fail; lenders = g.lenders }

pub lawful_leaving_out : {S F X R B E : Type 0} {m : Contract S X E} (call : F → X → R → F → Type 0) (callable : (X → Type 0) → F → Type 0) (outcome : X → R → Outcome B E) (hints : S × F → ℕ × Option ℕ → Type 0) → StaysCallable call callable → Lawful m → Lawful (leaving_out_contract m call callable outcome hints)
lawful_leaving_out {m = m} call callable outcome hints after l = let p = passing_contract m call callable outcome hints in
    let k : Lawful p = lawful_passing call callable outcome hints after l in
    record { kept_by_draw = λ s r t c step. let a = k.kept_by_draw s r t c.1 step in kept_by_draw_needing p m.is_finite s t r (a.is_finite c.0) a; bounded = λ s. l.bounded s.0; traced = k.traced; hold = k.hold }

-- ---- one answer

module _ {S F X R B E : Type 0} {steps : S → Answered X E → S → Type 0} {call : F → X → R → F → Type 0} {outcome : X → R → Outcome B E} {s t : S} {f g : F} where
  pub pass_trace_item : (x : X) (v : R) (y : B) → steps s (item x) t → call f x v g → outcome x v ≡ Kept y → PassTrace steps call outcome (s, f) (item y ∷ []) (t, g)
  pass_trace_item x v y step called is = pass_trace_of_passes (keeps x v y step called is done)

  pub pass_trace_refusal : (x : X) (v : R) (e : E) → steps s (item x) t → call f x v g → outcome x v ≡ Failure e → PassTrace steps call outcome (s, f) (Err e ∷ []) (t, g)
  pass_trace_refusal x v e step called is = pass_trace_of_passes (refuses x v e step called is done)

module _ {S F X R B E : Type 0} {steps : S → Answered X E → S → Type 0} {call : F → X → R → F → Type 0} {outcome : X → R → Outcome B E} {s t : S} {f : F} where
  pub pass_trace_end : steps s (Ok None) t → PassTrace steps call outcome (s, f) (Ok None ∷ []) (t, f)
  pass_trace_end step = pass_trace_of_passes (end_passes step done)

  pub pass_trace_failure : {e : E} → steps s (Err e) t → PassTrace steps call outcome (s, f) (Err e ∷ []) (t, f)
  pass_trace_failure {e} step = pass_trace_of_passes (failure_passes e step done)

module _ {S F X R B E : Type 0} {steps : S → Answered X E → S → Type 0} {call : F → X → R → F → Type 0} {outcome : X → R → Outcome B E} {s t : S} {f g : F} where
  -- an item that makes an end
  pub pass_trace_closing : (x : X) (v : R) → steps s (item x) t → call f x v g → outcome x v ≡ End → PassTrace steps call outcome (s, f) (Ok None ∷ []) (t, g)
  pass_trace_closing x v step called is = pass_trace_of_passes (closes x v step called is done)
