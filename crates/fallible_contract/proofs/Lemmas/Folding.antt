-- A fold of the source by the adapter's outcome and the caller's turn is a fold of the adapter by the caller's turn.
use Rattle.std.specs.Prelude.{◌≡◌, List, [], ◌∷◌, ◌++◌, map, Some, None, Ok, Err}
use Rattle.std.specs.List.{FoldsTo}
use Rattle.std.proofs.Common.{refl, sym, subst, ap}
use Rattle.fallible_contract.specs.Traces.{Answered, Run, Yields, item}
use Rattle.fallible_contract.specs.Passing.{passing_step}
use Rattle.fallible_contract.specs.Contract.{Contract, Lawful}
use Rattle.fallible_contract.specs.Closures.{Reaches, IsCallable}
use Rattle.fallible_contract.specs.Folds.{Drained, HoldsAtEachTurn, goes_on, DriveExit, Driven, TurnThrough, beside, beside_names, within}
use Rattle.fallible_contract.specs.Folding.{TurnedBy, FoldingTurn, FoldingTakes}
use Rattle.fallible_contract.specs.Laws.Closures.{reaches_reflexive, reaches_weaken, reaches_by_call_first}
use Rattle.fallible_contract.specs.Laws.Passing.{done, end_passes, failure_passes, keeps, refuses, closes, leaves_out, passes_of_pass_trace, pass_trace_of_passes}
use Rattle.fallible_contract.proofs.Lemmas.Contract.{may_give_of_item_after_yields}
use Rattle.fallible_contract.proofs.Lemmas.Folds.{holds_at_first_turn, holds_each_turn_after_item, driven_by_item_first, driven_end, driven_failure, driven_of_first_break, fold_of_references_drives_values, names_kept}
use Rattle.std.specs.declared.ops.ControlFlow.{ControlFlow}
use Rattle.std.specs.declared.ops.ControlFlow.TheVariants.{Continue, Break}
use Rattle.fallible_contract.specs.declared.folds.Beside.{Beside}
use Rattle.fallible_contract.specs.declared.passing.Outcome.{Outcome}
use Rattle.fallible_contract.specs.declared.passing.Outcome.TheVariants.{Kept, LeftOut, Failure, End}

-- ---- draws from another value, of which every step is one from this one

module _ {S A E : Type 0} (steps : S → Answered A E → S → Type 0) (s u : S) (same : (r : Answered A E) (t : S) → steps u r t → steps s r t) where
  run_by_same_steps : (items : List A) (last : Answered A E) (t : S) → Run steps u (map item items ++ last ∷ []) t → Run steps s (map item items ++ last ∷ []) t
  run_by_same_steps [] last t ran = (ran.0, same last ran.0 ran.1, ran.2)
  run_by_same_steps (x ∷ items) last t ran = (ran.0, same (item x) ran.0 ran.1, ran.2)

  module _ {C : Type 0} {goes : C → A → C → Type 0} {P : C → A → Type 0} {c : C} (h : HoldsAtEachTurn steps goes P s c) where
    holds_at_items_by_same_steps : (items : List A) (t v : S) (d : C) (x : A) → Yields steps u items t → FoldsTo goes c items d → steps t (item x) v → P d x
    holds_at_items_by_same_steps [] t v d x ran went step = h.at [] s v d x refl went (same (item x) v (subst (λ (z : S). steps z (item x) v) (sym ran) step))
    holds_at_items_by_same_steps (y ∷ items) t v d x ran went step = h.at (y ∷ items) t v d x (ran.0, same (item y) ran.0 ran.1, ran.2) went step

module _ {S A E : Type 0} {steps : S → Answered A E → S → Type 0} {s u : S} (same : (r : Answered A E) (t : S) → steps u r t → steps s r t) where
  pub drained_by_same_steps : {came : List A → Answered A E → Type 0} {t : S} → Drained steps came u t → Drained steps came s t
  drained_by_same_steps {t = t} w = record { items = w.items; last = w.last; ran = run_by_same_steps steps s u same w.items w.last t w.ran; at = w.at }

  pub holds_each_turn_by_same_steps : {C : Type 0} {goes : C → A → C → Type 0} {P : C → A → Type 0} {c : C} → HoldsAtEachTurn steps goes P s c → HoldsAtEachTurn steps goes P u c
  holds_each_turn_by_same_steps h = record { at = holds_at_items_by_same_steps steps s u same h }

-- ---- draws of what holds another value

module _ {S P A E : Type 0} (steps : P → Answered A E → P → Type 0) (held : S → Answered A E → S → Type 0) (into : P → S) (holds : (p : P) (r : Answered A E) (q : P) → steps p r q → held (into p) r (into q)) where
  run_into : (trace : List (Answered A E)) (p q : P) → Run steps p trace q → Run held (into p) trace (into q)
  run_into [] p q e = ap into e
  run_into (r ∷ trace) p q w = (into w.0, holds p r w.0 w.1, run_into trace w.0 q w.2)

pub drained_of_holder : {S P A E : Type 0} {steps : P → Answered A E → P → Type 0} {held : S → Answered A E → S → Type 0} (into : P → S) → ((p : P) (r : Answered A E) (q : P) → steps p r q → held (into p) r (into q))
    → {came : List A → Answered A E → Type 0} {p q : P} → Drained steps came p q → Drained held came (into p) (into q)
drained_of_holder {steps = steps} {held = held} into holds {p = p} {q = q} w = record { items = w.items; last = w.last; ran = run_into steps held into holds (map item w.items ++ w.last ∷ []) p q w.ran; at = w.at }

-- what must hold at each turn concerns items alone
module _ {S P A E : Type 0} (steps : P → Answered A E → P → Type 0) {D : Type 0} (held : S → Answered A D → S → Type 0) (into : P → S) (holds : (p : P) (x : A) (q : P) → steps p (item x) q → held (into p) (item x) (into q)) where
  yields_of_holder : (items : List A) (p q : P) → Yields steps p items q → Yields held (into p) items (into q)
  yields_of_holder [] p q e = ap into e
  yields_of_holder (x ∷ items) p q w = (into w.0, holds p x w.0 w.1, yields_of_holder items w.0 q w.2)

pub holds_at_each_turn_of_held : {S P A D E C : Type 0} {steps : P → Answered A E → P → Type 0} {held : S → Answered A D → S → Type 0} (into : P → S) → ((p : P) (x : A) (q : P) → steps p (item x) q → held (into p) (item x) (into q))
    → {goes : C → A → C → Type 0} {Q : C → A → Type 0} {p : P} {c : C} → HoldsAtEachTurn held goes Q (into p) c → HoldsAtEachTurn steps goes Q p c
holds_at_each_turn_of_held {steps = steps} {held = held} into holds {p = p} h = record { at = λ items q u d x ran went step. h.at items (into q) (into u) d x (yields_of_holder steps held into holds items p q ran) went (holds q x u step) }

-- ---- the same, where a value is held in this way only while Q holds of it, which items keep

module _ {S P A E : Type 0} (Q : P → Type 0) (steps : P → Answered A E → P → Type 0) (held : S → Answered A E → S → Type 0) (into : P → S) (holds : (p : P) (r : Answered A E) (q : P) → Q p → steps p r q → held (into p) r (into q)) (keeps_on : (p : P) (x : A) (q : P) → Q p → steps p (item x) q → Q q) where
  run_of_holder_while_kept : (items : List A) (last : Answered A E) (p q : P) → Q p → Run steps p (map item items ++ last ∷ []) q → Run held (into p) (map item items ++ last ∷ []) (into q)
  run_of_holder_while_kept [] last p q at w = (into w.0, holds p last w.0 at w.1, ap into w.2)
  run_of_holder_while_kept (x ∷ items) last p q at w = (into w.0, holds p (item x) w.0 at w.1, run_of_holder_while_kept items last w.0 q (keeps_on p x w.0 at w.1) w.2)

  pub drained_of_holder_while_kept : {came : List A → Answered A E → Type 0} {p q : P} → Q p → Drained steps came p q → Drained held came (into p) (into q)
  drained_of_holder_while_kept {p = p} {q = q} at w = record { items = w.items; last = w.last; ran = run_of_holder_while_kept w.items w.last p q at w.ran; at = w.at }

  yields_of_holder_while_kept : (items : List A) (p q : P) → Q p → Yields steps p items q → Yields held (into p) items (into q) × Q q
  yields_of_holder_while_kept [] p q at e = (ap into e, subst Q e at)
  yields_of_holder_while_kept (x ∷ items) p q at w = let rest = yields_of_holder_while_kept items w.0 q (keeps_on p x w.0 at w.1) w.2 in ((into w.0, holds p (item x) w.0 at w.1, rest.0), rest.1)

  pub holds_each_turn_of_held_while_kept : {C : Type 0} {goes : C → A → C → Type 0} {T : C → A → Type 0} {p : P} {c : C} → Q p → HoldsAtEachTurn held goes T (into p) c → HoldsAtEachTurn steps goes T p c
  holds_each_turn_of_held_while_kept {p = p} at h = record { at = λ items q u d x ran went step. let y = yields_of_holder_while_kept items p q at ran in h.at items (into q) (into u) d x y.0 went (holds q (item x) u y.1 step) }

-- ---- an adapter's fold through its source's

module _ {S C F X V B E R : Type 0} (steps : S → Answered X E → S → Type 0) (call : F → X → V → F → Type 0) (outcome : X → V → Outcome B E) (turns : C → B → ControlFlow R (Unit {0}) → C → Type 0) where
  abbrev TurnedOfFolding : C × F → X → ControlFlow (Answered R E) (Unit {0}) → C × F → Type 0
  TurnedOfFolding = FoldingTurn call outcome turns

  abbrev StepsOfFolding : S × F → Answered B E → S × F → Type 0
  StepsOfFolding = passing_step steps call outcome

  abbrev DrivesOfFolding : S → C × F → Answered R E → S → C × F → Type 0
  DrivesOfFolding s p r t q = Driven StepsOfFolding turns (s, p.1) p.0 r (t, q.1) q.0

  -- after an item that is left out, what may be returned may be returned from before it
  steps_of_folding_after_left_out : {s u : S} {f g : F} (x : X) (v : V) → steps s (item x) u → call f x v g → outcome x v ≡ LeftOut → (r : Answered B E) (q : S × F) → StepsOfFolding (u, g) r q → StepsOfFolding (s, f) r q
  steps_of_folding_after_left_out x v step called is r q p = pass_trace_of_passes (leaves_out x v step called is (passes_of_pass_trace p))

  -- the item on which the source's turn stops
  drives_to_stop : (x : X) (v : V) (o : Outcome B E) (s t : S) (p q : C × F) (r : Answered R E) → steps s (item x) t → call p.1 x v q.1 → outcome x v ≡ o → TurnedBy turns p.0 o (Break r) q.0 → DrivesOfFolding s p r t q
  drives_to_stop x v (Kept y) s t p q r step called is (Continue u, w, e) = absurd cc
  drives_to_stop x v (Kept y) s t p q r step called is (Break why, w, e) = let same : r ≡ Ok (Some why) = cc in subst (λ a. DrivesOfFolding s p a t q) (sym same) (driven_of_first_break y (pass_trace_of_passes (keeps x v y step called is done)) w)
  drives_to_stop x v LeftOut s t p q r step called is w = absurd (let e = w.0 in cc)
  drives_to_stop x v (Failure d) s t p q r step called is w = let same : r ≡ Err d = (let e = w.0 in cc) in subst (λ a. DrivesOfFolding s p a t q) (sym same) (subst (λ c. DrivesOfFolding s p (Err d) t (c, q.1)) (sym w.1) (driven_failure (pass_trace_of_passes (refuses x v d step called is done))))
  drives_to_stop x v End s t p q r step called is w = let same : r ≡ Ok None = (let e = w.0 in cc) in subst (λ a. DrivesOfFolding s p a t q) (sym same) (subst (λ c. DrivesOfFolding s p (Ok None) t (c, q.1)) (sym w.1) (driven_end (pass_trace_of_passes (closes x v step called is done))))

  -- the last answer of the source's fold
  last_answer_drives_adapter : (last : Answered X E) (s t : S) (p q : C × F) (r : Answered (Answered R E) E) → steps s last t → DriveExit TurnedOfFolding p last r q → DrivesOfFolding s p (within r) t q
  last_answer_drives_adapter (Ok None) s t p q r step w = subst (λ a. DrivesOfFolding s p (within a) t q) (sym w.0) (subst (λ z. DrivesOfFolding s p (Ok None) t z) (sym w.1) (driven_end (pass_trace_of_passes (end_passes step done))))
  last_answer_drives_adapter (Err d) s t p q r step w = subst (λ a. DrivesOfFolding s p (within a) t q) (sym w.0) (subst (λ z. DrivesOfFolding s p (Err d) t z) (sym w.1) (driven_failure (pass_trace_of_passes (failure_passes d step done))))
  last_answer_drives_adapter (Ok (Some x)) s t p q r step w = subst (λ a. DrivesOfFolding s p (within a) t q) (sym w.2) (let turned = w.1 in drives_to_stop x turned.0 (outcome x turned.0) s t p q w.0 step turned.1 refl turned.2)

  -- an item on which the source's turn went on, before the rest of the fold
  module _ (x : X) (v : V) (s u : S) (p k : C × F) (step : steps s (item x) u) (called : call p.1 x v k.1) where
    drives_of_folding_by_item_first : (o : Outcome B E) (t : S) (q : C × F) (r : Answered R E) → outcome x v ≡ o → TurnedBy {E = E} turns p.0 o (Continue tt) k.0 → DrivesOfFolding u k r t q → DrivesOfFolding s p r t q
    drives_of_folding_by_item_first (Kept y) t q r is (Continue z, w, e) rest = driven_by_item_first y (pass_trace_of_passes (keeps x v y step called is done)) w rest
    drives_of_folding_by_item_first (Kept y) t q r is (Break why, w, e) rest = absurd cc
    drives_of_folding_by_item_first LeftOut t q r is w rest = drained_by_same_steps (steps_of_folding_after_left_out x v step called is) (subst (λ c. DrivesOfFolding u (c, k.1) r t q) w.1 rest)
    drives_of_folding_by_item_first (Failure d) t q r is w rest = absurd (let e = w.0 in cc)
    drives_of_folding_by_item_first End t q r is w rest = absurd (let e = w.0 in cc)

  drives_of_folding_by_source_fold : (items : List X) (last : Answered X E) (s t : S) (p k q : C × F) (r : Answered (Answered R E) E) → Run steps s (map item items ++ last ∷ []) t → FoldsTo (goes_on TurnedOfFolding) p items k → DriveExit TurnedOfFolding k last r q → DrivesOfFolding s p (within r) t q
  drives_of_folding_by_source_fold [] last s t p k q r ran went at = last_answer_drives_adapter last s t p q r (subst (λ (u : S). steps s last u) ran.2 ran.1) (subst (λ (z : C × F). DriveExit TurnedOfFolding z last r q) (sym went) at)
  drives_of_folding_by_source_fold (x ∷ items) last s t p k q r ran went at = let turned = went.1 in
      drives_of_folding_by_item_first x turned.0 s ran.0 p went.0 ran.1 turned.1 (outcome x turned.0) t q (within r) refl turned.2 (drives_of_folding_by_source_fold items last ran.0 t went.0 k q r ran.2 went.2 at)

  -- ---- where the source's turn may be taken

  module _ (P : C → B → Type 0) where
    abbrev HoldsOfFolding : S → C × F → Type 0
    HoldsOfFolding s p = HoldsAtEachTurn StepsOfFolding (goes_on turns) P (s, p.1) p.0

    holds_of_folding_after_item : (x : X) (v : V) (o : Outcome B E) (s u : S) (p k : C × F) → steps s (item x) u → call p.1 x v k.1 → outcome x v ≡ o → TurnedBy {E = E} turns p.0 o (Continue tt) k.0 → HoldsOfFolding s p → HoldsOfFolding u k
    holds_of_folding_after_item x v (Kept y) s u p k step called is (Continue z, w, e) holds = holds_each_turn_after_item holds (pass_trace_of_passes (keeps x v y step called is done)) w
    holds_of_folding_after_item x v (Kept y) s u p k step called is (Break why, w, e) holds = absurd cc
    holds_of_folding_after_item x v LeftOut s u p k step called is w holds = subst (λ c. HoldsOfFolding u (c, k.1)) (sym w.1) (holds_each_turn_by_same_steps (steps_of_folding_after_left_out x v step called is) holds)
    holds_of_folding_after_item x v (Failure d) s u p k step called is w holds = absurd (let e = w.0 in cc)
    holds_of_folding_after_item x v End s u p k step called is w holds = absurd (let e = w.0 in cc)

    holds_of_folding_after_items : (items : List X) (s t : S) (p q : C × F) → Yields steps s items t → FoldsTo (goes_on TurnedOfFolding) p items q → HoldsOfFolding s p → HoldsOfFolding t q
    holds_of_folding_after_items [] s t p q ran went holds = subst (λ (u : S). HoldsOfFolding u q) ran (subst (λ z. HoldsOfFolding s z) went holds)
    holds_of_folding_after_items (x ∷ items) s t p q ran went holds = let turned = went.1 in
        holds_of_folding_after_items items ran.0 t went.0 q ran.2 went.2 (holds_of_folding_after_item x turned.0 (outcome x turned.0) s ran.0 p went.0 ran.1 turned.1 refl turned.2 holds)

-- A fold of the source by that turn is a fold of the adapter.
pub source_fold_drives_adapter : {S C F X V B E R : Type 0} {steps : S → Answered X E → S → Type 0} {call : F → X → V → F → Type 0} {outcome : X → V → Outcome B E} {turns : C → B → ControlFlow R (Unit {0}) → C → Type 0} {s t : S} {p q : C × F} {r : Answered (Answered R E) E}
    → Driven steps (FoldingTurn call outcome turns) s p r t q → Driven (passing_step steps call outcome) turns (s, p.1) p.0 (within r) (t, q.1) q.0
source_fold_drives_adapter {steps = steps} {call = call} {outcome = outcome} {turns = turns} {s = s} {t = t} {p = p} {q = q} {r = r} w = drives_of_folding_by_source_fold steps call outcome turns w.items w.last s t p w.at.carried q r w.ran w.at.went w.at.exit

module _ {S C F X V B E R : Type 0} {steps : S → Answered X E → S → Type 0} {call : F → X → V → F → Type 0} {outcome : X → V → Outcome B E} {turns : C → B → ControlFlow R (Unit {0}) → C → Type 0} {s t : S} {b d : Beside C F} {r : Answered (Answered R E) E} where
  -- The same, where the adapter's closure and the caller's state are lent by reference. What was lent is what those that came back point to, once they are known to be the same.
  pub drives_beside : (f : F) (c : C)
      → Driven steps (TurnThrough beside beside_names (FoldingTurn call outcome turns)) s b r t d → (d.p.ghost_name ≡ b.p.ghost_name → f ≡ d.p.now) → (d.c.ghost_name ≡ b.c.ghost_name → c ≡ d.c.now) → Driven (passing_step steps call outcome) turns (s, b.p.now) b.c.now (within r) (t, f) c
  drives_beside f c w is_f is_c = let same = names_kept beside beside_names (FoldingTurn call outcome turns) w in
      subst (λ z. Driven (passing_step steps call outcome) turns (s, b.p.now) b.c.now (within r) (t, f) z) (sym (is_c (ap (λ z. z.0) same)))
      (subst (λ z. Driven (passing_step steps call outcome) turns (s, b.p.now) b.c.now (within r) (t, z) d.c.now) (sym (is_f (ap (λ z. z.1) same)))
      (source_fold_drives_adapter (fold_of_references_drives_values beside beside_names (FoldingTurn call outcome turns) w)))

-- calls of the source's turns bring the closure where calls on what comes do
module _ {S C F X V B E R : Type 0} {m : Contract S X E} (l : Lawful m) (call : F → X → V → F → Type 0) (outcome : X → V → Outcome B E) (turns : C → B → ControlFlow R (Unit {0}) → C → Type 0) where
  reaches_by_folding_turns : (items : List X) (s t : S) (p q : C × F) → m.can_next s → Yields m.steps s items t → FoldsTo (goes_on (FoldingTurn call outcome turns)) p items q → Reaches call (m.may_give s) p.1 q.1
  reaches_by_folding_turns [] s t p q c ran went = subst (λ (r : C × F). Reaches call (m.may_give s) p.1 r.1) went reaches_reflexive
  reaches_by_folding_turns (x ∷ items) s t p q c ran went = let a = l.kept_by_draw s (item x) ran.0 c ran.1 in let turned = went.1 in
      reaches_by_call_first x turned.0 a.answer.0 turned.1 (reaches_weaken a.may_give (reaches_by_folding_turns items ran.0 t went.0 q a.can_next ran.2 went.2))

  -- The source's turn may be taken at each item where the closure may be called on what comes, and the caller's turn at each item of the adapter.
  pub holds_each_turn_of_source_fold : {pre : F → X → Type 0} {P : C → B → Type 0} {s : S} {f : F} {c : C} → m.can_next s → IsCallable call pre (m.may_give s) f → HoldsAtEachTurn (passing_step m.steps call outcome) (goes_on turns) P (s, f) c
      → HoldsAtEachTurn m.steps (goes_on (FoldingTurn call outcome turns)) (FoldingTakes call outcome pre P) s (c, f)
  holds_each_turn_of_source_fold {pre = pre} {P = P} {s = s} {f = f} {c = c} can callable holds = record {
    at = λ items t u p x ran went step. (
      callable.at p.1 x (reaches_by_folding_turns items s t (c, f) p can ran went) (may_give_of_item_after_yields l s items t u x can ran step),
      (λ v g y called is. holds_at_first_turn (holds_of_folding_after_items m.steps call outcome turns P items s t (c, f) p ran went holds) (pass_trace_of_passes (keeps x v y step called is done))),
    );
  }

-- The same where it is known at each item that the closure may be called.
pub takes_where_callable_when_reached : {S C F X V B E R : Type 0} {steps : S → Answered X E → S → Type 0} (call : F → X → V → F → Type 0) (outcome : X → V → Outcome B E) (turns : C → B → ControlFlow R (Unit {0}) → C → Type 0) (pre : F → X → Type 0) {P : C → B → Type 0} {s : S} {f : F} {c : C} → ((items : List X) (t u : S) (p : C × F) (x : X) → Yields steps s items t → FoldsTo (goes_on (FoldingTurn call outcome turns)) (c, f) items p → steps t (item x) u → pre p.1 x)
    → HoldsAtEachTurn (passing_step steps call outcome) (goes_on turns) P (s, f) c → HoldsAtEachTurn steps (goes_on (FoldingTurn call outcome turns)) (FoldingTakes call outcome pre P) s (c, f)
takes_where_callable_when_reached {steps = steps} call outcome turns pre {P = P} {s = s} {f = f} {c = c} free holds = record {
  at = λ items t u p x ran went step. (free items t u p x ran went step, (λ v g y called is. holds_at_first_turn (holds_of_folding_after_items steps call outcome turns P items s t (c, f) p ran went holds) (pass_trace_of_passes (keeps x v y step called is done))));
}

-- The same where no call requires anything.
pub takes_where_always_callable : {S C F X V B E R : Type 0} {steps : S → Answered X E → S → Type 0} (call : F → X → V → F → Type 0) (outcome : X → V → Outcome B E) (turns : C → B → ControlFlow R (Unit {0}) → C → Type 0) {pre : F → X → Type 0} {P : C → B → Type 0} {s : S} {f : F} {c : C} → ((g : F) (x : X) → pre g x)
    → HoldsAtEachTurn (passing_step steps call outcome) (goes_on turns) P (s, f) c → HoldsAtEachTurn steps (goes_on (FoldingTurn call outcome turns)) (FoldingTakes call outcome pre P) s (c, f)
takes_where_always_callable {steps = steps} call outcome turns {pre = pre} free holds = takes_where_callable_when_reached call outcome turns pre (λ items t u p x ran went step. free p.1 x) holds
