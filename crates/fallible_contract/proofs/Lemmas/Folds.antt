-- Folds, one turn at a time.
use Rattle.std.specs.Prelude.{◌≡◌, ℕ, ◌+◌, ◌-◌, ◌<◌, length, List, [], ◌∷◌, ◌++◌, map, Option, Result, Some, None, Ok, Err}
use Rattle.std.specs.List.{FoldsTo, last_or}
use Rattle.std.proofs.Common.{refl, sym, ap, ◌∙◌, subst, arith}
use Rattle.fallible_contract.specs.Traces.{Answered, Run, Yields, item}
use Rattle.fallible_contract.specs.Contract.{Contract, AtMost, Lawful}
use Rattle.fallible_contract.proofs.Lemmas.Contract.{bound_at_most_of_at_most}
use Rattle.fallible_contract.specs.Folds.{Drained, OverExit, CountDrainsOn, CountExit, CountDrains, LastExit, LastDrains, HoldsAtEachTurn, went_on_with, CallableInFold, IsFoldTurn, IsFoldTurnInSlot, takes_in_slot, FoldExit, FoldDrains, goes_on, DriveExit, CallableDriving, Driven, TurnThrough}
use Rattle.std.specs.declared.ops.ControlFlow.{ControlFlow}
use Rattle.std.specs.declared.ops.ControlFlow.TheVariants.{Continue, Break}

module _ {S A E C : Type 0} {steps : S → Answered A E → S → Type 0} {goes : C → A → C → Type 0} {P : C → A → Type 0} where
  -- what holds at each turn holds at the first, at each turn after it, and after any number of items
  pub holds_at_first_turn : {s t : S} {c : C} {x : A} → HoldsAtEachTurn steps goes P s c → steps s (item x) t → P c x
  holds_at_first_turn {s} {t} {c} {x} h step = h.at [] s t c x refl refl step

  pub holds_each_turn_after_item : {s t : S} {c d : C} {x : A} → HoldsAtEachTurn steps goes P s c → steps s (item x) t → goes c x d → HoldsAtEachTurn steps goes P t d
  holds_each_turn_after_item {s} {t} {c} {d} {x} h step turn = record { at = λ items v u e y ran went stepped. h.at (x ∷ items) v u e y (t, step, ran) (d, turn, went) stepped }

  pub holds_each_turn_after_items : (items : List A) (s t : S) (c d : C) → Yields steps s items t → FoldsTo goes c items d → HoldsAtEachTurn steps goes P s c → HoldsAtEachTurn steps goes P t d
  holds_each_turn_after_items [] s t c d ran went h = subst (λ (u : S). HoldsAtEachTurn steps goes P u d) ran (subst (λ (z : C). HoldsAtEachTurn steps goes P s z) went h)
  holds_each_turn_after_items (x ∷ items) s t c d ran went h = holds_each_turn_after_items items ran.0 t went.0 d ran.2 went.2 (holds_each_turn_after_item h ran.1 went.1)

-- turns that go on are those of another kind of turn
pub folds_to_by_implication : {C A : Type 0} {R Q : C → A → C → Type 0} → ((c : C) (x : A) (d : C) → R c x d → Q c x d) → (items : List A) (c d : C) → FoldsTo R c items d → FoldsTo Q c items d
folds_to_by_implication h [] c d e = e
folds_to_by_implication h (x ∷ items) c d w = (w.0, h c x w.0 w.1, folds_to_by_implication h items w.0 d w.2)

-- what holds at each turn of one kind holds at each turn of a narrower kind
pub holds_each_turn_by_implication : {S A E C : Type 0} {steps : S → Answered A E → S → Type 0} {R Q : C → A → C → Type 0} {P P' : C → A → Type 0} {s : S} {c : C} → ((c : C) (x : A) (d : C) → Q c x d → R c x d) → ((c : C) (x : A) → P c x → P' c x) → HoldsAtEachTurn steps R P s c → HoldsAtEachTurn steps Q P' s c
holds_each_turn_by_implication {s} {c} narrow weak h = record { at = λ items t u d x ran went step. weak d x (h.at items t u d x ran (folds_to_by_implication narrow items c d went) step) }

-- ---- draws up to a last answer

module _ {S A E : Type 0} {steps : S → Answered A E → S → Type 0} where
  -- what came says something else
  pub drained_by_implication : {P Q : List A → Answered A E → Type 0} {s t : S} → ((items : List A) (last : Answered A E) → P items last → Q items last) → Drained steps P s t → Drained steps Q s t
  drained_by_implication h w = record { items = w.items; last = w.last; ran = w.ran; at = h w.items w.last w.at }

  -- an item, and then the rest
  pub drained_by_item_first : {P Q : List A → Answered A E → Type 0} {s t u : S} (x : A) → steps s (item x) t → ((items : List A) (last : Answered A E) → P items last → Q (x ∷ items) last) → Drained steps P t u → Drained steps Q s u
  drained_by_item_first {t = t} x step h w = record { items = x ∷ w.items; last = w.last; ran = (t, step, w.ran); at = h w.items w.last w.at }

  -- the last answer
  pub drained_by_last : {P : List A → Answered A E → Type 0} {s t : S} (last : Answered A E) → steps s last t → P [] last → Drained steps P s t
  drained_by_last {t = t} last step h = record { items = []; last = last; ran = (t, step, refl); at = h }

module _ {S A E C R : Type 0} {steps : S → Answered A E → S → Type 0} {turns : C → A → ControlFlow R (Unit {0}) → C → Type 0} where
  -- a turn that went on, and then a fold
  pub driven_by_item_first : {s t u : S} {c d z : C} {r : Answered R E} (x : A) → steps s (item x) t → goes_on turns c x d → Driven steps turns t d r u z → Driven steps turns s c r u z
  driven_by_item_first {d = d} x step turn rest = drained_by_item_first x step (λ items last w. record { carried = w.carried; went = (d, turn, w.went); exit = w.exit }) rest

  -- the three last turns
  pub driven_end : {s t : S} {c : C} → steps s (Ok None) t → Driven steps turns s c (Ok None) t c
  driven_end {c = c} step = drained_by_last (Ok None) step (record { carried = c; went = refl; exit = (refl, refl) })

  pub driven_failure : {s t : S} {c : C} {e : E} → steps s (Err e) t → Driven steps turns s c (Err e) t c
  driven_failure {c = c} {e = e} step = drained_by_last (Err e) step (record { carried = c; went = refl; exit = (refl, refl) })

  pub driven_of_first_break : {s t : S} {c d : C} {stop : R} (x : A) → steps s (item x) t → turns c x (Break stop) d → Driven steps turns s c (Ok (Some stop)) t d
  driven_of_first_break {c = c} {stop = stop} x step turn = drained_by_last (item x) step (record { carried = c; went = refl; exit = (stop, turn, refl) })

  pub driven_by_items_first : {r : Answered R E} {u : S} {z : C} (items : List A) (s t : S) (c d : C) → Yields steps s items t → FoldsTo (goes_on turns) c items d → Driven steps turns t d r u z → Driven steps turns s c r u z
  driven_by_items_first {r} {u} {z} [] s t c d ran went h = subst (λ (v : S). Driven steps turns v c r u z) (sym ran) (subst (λ (k : C). Driven steps turns t k r u z) (sym went) h)
  driven_by_items_first (x ∷ items) s t c d ran went h = driven_by_item_first x ran.1 went.1 (driven_by_items_first items ran.0 t went.0 d ran.2 went.2 h)

-- ---- a fold whose state holds references

module _ {X N A C R : Type 0} (values : X → C) (names : X → N) (turns : C → A → ControlFlow R (Unit {0}) → C → Type 0) where
  folds_to_values_and_keeps_names : (items : List A) (c d : X) → FoldsTo (goes_on (TurnThrough values names turns)) c items d → FoldsTo (goes_on turns) (values c) items (values d) × (names d ≡ names c)
  folds_to_values_and_keeps_names [] c d e = (ap values e, sym (ap names e))
  folds_to_values_and_keeps_names (x ∷ items) c d w = let rest = folds_to_values_and_keeps_names items w.0 d w.2 in ((values w.0, w.1.0, rest.0), rest.1 ∙ w.1.1)

  drive_exit_of_values_and_keeps_names : {E : Type 0} (last : Answered A E) (r : Answered R E) (z d : X) → DriveExit (TurnThrough values names turns) z last r d → DriveExit turns (values z) last r (values d) × (names d ≡ names z)
  drive_exit_of_values_and_keeps_names (Ok None) r z d e = ((e.0, ap values e.1), ap names e.1)
  drive_exit_of_values_and_keeps_names (Ok (Some x)) r z d e = ((e.0, e.1.0, e.2), e.1.1)
  drive_exit_of_values_and_keeps_names (Err f) r z d e = ((e.0, ap values e.1), ap names e.1)

  module _ {S E : Type 0} {steps : S → Answered A E → S → Type 0} {s : S} {c : X} where
    -- where the turn may be taken on what the references point to, it may be taken on them
    pub callable_driving_through : {can : C → A → Type 0} → CallableDriving steps turns can s (values c) → CallableDriving steps (TurnThrough values names turns) (λ d x. can (values d) x) s c
    callable_driving_through h = record { at = λ items t u d x ran went step. h.at items t u (values d) x ran (folds_to_values_and_keeps_names items c d went).0 step }

    -- it is a fold on what the references point to, and these come back
    pub fold_of_references_drives_values : {t : S} {d : X} {r : Answered R E} → Driven steps (TurnThrough values names turns) s c r t d → Driven steps turns s (values c) r t (values d)
    fold_of_references_drives_values {d = d} {r = r} w = drained_by_implication (λ items last h. record { carried = values h.carried; went = (folds_to_values_and_keeps_names items c h.carried h.went).0; exit = (drive_exit_of_values_and_keeps_names last r h.carried d h.exit).0 }) w

    pub names_kept : {t : S} {d : X} {r : Answered R E} → Driven steps (TurnThrough values names turns) s c r t d → names d ≡ names c
    names_kept {d = d} {r = r} w = (drive_exit_of_values_and_keeps_names w.last r w.at.carried d w.at.exit).1 ∙ (folds_to_values_and_keeps_names w.items c w.at.carried w.at.went).1

-- ---- `count`

abbrev goes_one_up : {A : Type 0} → ℕ → A → ℕ → Type 0
goes_one_up n x k = k ≡ n + 1

-- where each turn adds one, the number goes up by the number of items
pub number_counted_up : {A : Type 0} (items : List A) (n k : ℕ) → FoldsTo {P = ℕ} {A = A} (λ n x k. k ≡ n + 1) n items k → k ≡ n + length items
number_counted_up [] n k e = omega (arith, e)
number_counted_up (x ∷ items) n k w = let e = number_counted_up items w.0 k w.2 in let one : w.0 ≡ n + 1 = w.1 in omega (arith, e, one)

module _ {S A E : Type 0} {m : Contract S A E} where
  -- fewer items came than a bound
  length_of_yielded_below_bound : Lawful m → (s : S) (items : List A) (t u : S) (x : A) (n : ℕ) → m.can_next s → m.bound s n → Yields m.steps s items t → m.steps t (item x) u → length items < n
  length_of_yielded_below_bound l s [] t u x n c b ran step = let step' : m.steps s (item x) u = subst (λ (v : S). m.steps v (item x) u) (sym ran) step in let fewer = (l.kept_by_draw s (item x) u c step').answer.1 n b in omega (arith, fewer.2)
  length_of_yielded_below_bound l s (y ∷ items) t u x n c b ran step = let g = l.kept_by_draw s (item y) ran.0 c ran.1 in let fewer = g.answer.1 n b in let k = length_of_yielded_below_bound l ran.0 items t u x fewer.0 g.can_next fewer.1 ran.2 step in omega (arith, fewer.2, k)

  -- so where at most n items are to come, their count fits below n at each turn
  pub holds_each_turn_below : {s : S} (n : ℕ) → Lawful m → m.can_next s → AtMost m s n → HoldsAtEachTurn m.steps goes_one_up (λ k x. k < n) s 0
  holds_each_turn_below {s} n l c h = let b = bound_at_most_of_at_most m s n h in record { at = λ items t u k x ran went step. let below = length_of_yielded_below_bound l s items t u x b.0 c b.1 ran step in let e = number_counted_up items 0 k went in omega (arith, below, e, b.2) }

  -- the same from k on, where at most n - k are to come
  pub holds_each_turn_below_from : {s : S} (n k : ℕ) → Lawful m → m.can_next s → AtMost m s (n - k) → HoldsAtEachTurn m.steps goes_one_up (λ j x. j < n) s k
  holds_each_turn_below_from {s} n k l c h = let b = bound_at_most_of_at_most m s (n - k) h in record { at = λ items t u j x ran went step. let below = length_of_yielded_below_bound l s items t u x b.0 c b.1 ran step in let e = number_counted_up items k j went in omega (arith, below, e, b.2) }

-- a turn of `count` and one of `last`
abbrev CountsUp : {A R : Type 0} → ℕ → A → ControlFlow R (Unit {0}) → ℕ → Type 0
CountsUp n x r k = (r ≡ Continue tt) × (k ≡ n + 1)

abbrev KeepsItem : {A R : Type 0} → Option A → A → ControlFlow R (Unit {0}) → Option A → Type 0
KeepsItem o x r d = (r ≡ Continue tt) × (d ≡ Some x)

module _ {A E : Type 0} (R : Type 0) where
  -- What the fold returned says how it met its last answer: this turn never stops it.
  over_exit_at_end : (last : Answered A E) (n k : ℕ) → DriveExit (CountsUp {R = R}) n last (Ok None) k → (k ≡ n) × OverExit last (Ok tt)
  over_exit_at_end (Ok None) n k h = (h.1, refl)
  over_exit_at_end (Ok (Some x)) n k h = absurd (let e = h.1.0 in cc)
  over_exit_at_end (Err e) n k h = absurd (let f = h.0 in cc)

  over_exit_at_failure : (last : Answered A E) (n k : ℕ) (e : E) → DriveExit (CountsUp {R = R}) n last (Err e) k → (k ≡ n) × OverExit last (Err e)
  over_exit_at_failure (Ok None) n k e h = absurd (let f = h.0 in cc)
  over_exit_at_failure (Ok (Some x)) n k e h = absurd (let f = h.1.0 in cc)
  over_exit_at_failure (Err d) n k e h = let same : e ≡ d = (let f = h.0 in cc) in (h.1, ap Err same)

number_after_turns_is_plus_length : {A : Type 0} (R : Type 0) (items : List A) (n k : ℕ) → FoldsTo (goes_on (CountsUp {R = R})) n items k → k ≡ n + length items
number_after_turns_is_plus_length R items n k w = number_counted_up items n k (folds_to_by_implication (λ c x d h. h.1) items n k w)

module _ {S A E R : Type 0} {steps : S → Answered A E → S → Type 0} {s t : S} {n k : ℕ} where
  -- the fold whose state is the number counts the items on
  pub count_drains_on_ended : Driven steps (CountsUp {R = R}) s n (Ok None) t k → CountDrainsOn steps s n (Ok tt) t k
  count_drains_on_ended w = drained_by_implication (λ items last h. let over = over_exit_at_end R last h.carried k h.exit in record { number = over.0 ∙ number_after_turns_is_plus_length R items n h.carried h.went; exit = over.1 }) w

  pub count_drains_on_failed : {e : E} → Driven steps (CountsUp {R = R}) s n (Err e) t k → CountDrainsOn steps s n (Err e) t k
  count_drains_on_failed {e} w = drained_by_implication (λ items last h. let over = over_exit_at_failure R last h.carried k e h.exit in record { number = over.0 ∙ number_after_turns_is_plus_length R items n h.carried h.went; exit = over.1 }) w

module _ {A E : Type 0} where
  count_exit_ended : (last : Answered A E) (n k : ℕ) → k ≡ 0 + n → OverExit last (Ok tt) → CountExit n last (Ok k)
  count_exit_ended (Ok None) n k is h = ap Ok (omega (arith, is))
  count_exit_ended (Ok (Some x)) n k is h = absurd h
  count_exit_ended (Err e) n k is h = absurd cc

  count_exit_failed : (last : Answered A E) (n : ℕ) (e : E) → OverExit last (Err e) → CountExit n last (Err e)
  count_exit_failed (Ok None) n e h = absurd cc
  count_exit_failed (Ok (Some x)) n e h = absurd h
  count_exit_failed (Err d) n e h = let same : e ≡ d = (let f = h in cc) in ap Err same

module _ {S A E : Type 0} {steps : S → Answered A E → S → Type 0} {s t : S} {k : ℕ} where
  -- counted on from 0, the number is the count
  pub count_drains_to_end : CountDrainsOn steps s 0 (Ok tt) t k → CountDrains steps s (Ok k) t
  count_drains_to_end w = drained_by_implication (λ items last h. record { exit = count_exit_ended last (length items) k h.number h.exit }) w

  pub count_drains_to_failure : {e : E} → CountDrainsOn steps s 0 (Err e) t k → CountDrains steps s (Err e) t
  count_drains_to_failure {e} w = drained_by_implication (λ items last h. record { exit = count_exit_failed last (length items) e h.exit }) w

-- ---- `last`

module _ {A : Type 0} (R : Type 0) where
  last_kept : (items : List A) (o p : Option A) → FoldsTo (goes_on (KeepsItem {R = R})) o items p → p ≡ last_or o items
  last_kept [] o p e = sym e
  last_kept (x ∷ items) o p w = last_kept items (Some x) p (subst (λ (q : Option A). FoldsTo (goes_on (KeepsItem {R = R})) q items p) w.1.1 w.2)

  last_exit_at_end : {E : Type 0} (items : List A) (last : Answered A E) (o p : Option A) → o ≡ last_or None items → DriveExit (KeepsItem {R = R}) o last (Ok None) p → LastExit items last (Ok p)
  last_exit_at_end items (Ok None) o p is h = ap Ok (h.1 ∙ is)
  last_exit_at_end items (Ok (Some x)) o p is h = absurd (let e = h.1.0 in cc)
  last_exit_at_end items (Err e) o p is h = absurd (let f = h.0 in cc)

  last_exit_at_failure : {E : Type 0} (items : List A) (last : Answered A E) (o p : Option A) (e : E) → DriveExit (KeepsItem {R = R}) o last (Err e) p → LastExit items last (Err e)
  last_exit_at_failure items (Ok None) o p e h = absurd (let f = h.0 in cc)
  last_exit_at_failure items (Ok (Some x)) o p e h = absurd (let f = h.1.0 in cc)
  last_exit_at_failure items (Err d) o p e h = let same : e ≡ d = (let f = h.0 in cc) in ap Err same

module _ {S A E R : Type 0} {steps : S → Answered A E → S → Type 0} {s t : S} where
  -- the fold whose state is the item that came last ends with the last one
  pub last_drains_ended : {p : Option A} → Driven steps (KeepsItem {R = R}) s None (Ok None) t p → LastDrains steps s (Ok p) t
  last_drains_ended {p} w = drained_by_implication (λ items last h. record { exit = last_exit_at_end R items last h.carried p (last_kept R items None h.carried h.went) h.exit }) w

  pub last_drains_failed : {p : Option A} {e : E} → Driven steps (KeepsItem {R = R}) s None (Err e) t p → LastDrains steps s (Err e) t
  last_drains_failed {p} {e} w = drained_by_implication (λ items last h. record { exit = last_exit_at_failure R items last h.carried p e h.exit }) w

-- ---- folds whose state is the value and the closure

module _ {A E F B E' : Type 0} (call : F → B → A → Result B E' → F → Type 0) (from : E → E' → Type 0) where
  fold_exit_ended : (last : Answered A E) (p q : B × F) → DriveExit (IsFoldTurn call) p last (Ok None) q → FoldExit call from p.0 p.1 last (Ok q.0)
  fold_exit_ended (Ok None) p q w = ap (λ z. Ok z.0) w.1
  fold_exit_ended (Ok (Some x)) p q w = absurd (let e = w.2 in cc)
  fold_exit_ended (Err e) p q w = absurd (let f = w.0 in cc)

  fold_exit_failed : (last : Answered A E) (p q : B × F) (e : E) (e' : E') → DriveExit (IsFoldTurn call) p last (Err e) q → from e e' → FoldExit call from p.0 p.1 last (Err e')
  fold_exit_failed (Ok None) p q e e' w c = absurd (let f = w.0 in cc)
  fold_exit_failed (Ok (Some x)) p q e e' w c = absurd (let f = w.2 in cc)
  fold_exit_failed (Err d) p q e e' w c = let same : e ≡ d = (let f = w.0 in cc) in (e', subst (λ (z : E). from z e') same c, refl)

  fold_exit_stopped : (last : Answered A E) (p q : B × F) (e' : E') → DriveExit (IsFoldTurn call) p last (Ok (Some e')) q → FoldExit call from p.0 p.1 last (Err e')
  fold_exit_stopped (Ok None) p q e' w = absurd (let f = w.0 in cc)
  fold_exit_stopped (Ok (Some x)) p q e' w = let same : e' ≡ w.0 = (let f = w.2 in cc) in (q.1, w.0, w.1, ap Err same)
  fold_exit_stopped (Err d) p q e' w = absurd (let f = w.0 in cc)

  module _ {S : Type 0} {steps : S → Answered A E → S → Type 0} {s t : S} {b : B} {f : F} where
    pub fold_drains_ended : (q : B × F) → Driven steps (IsFoldTurn call) s (b, f) (Ok None) t q → FoldDrains steps call from s b f (Ok q.0) t
    fold_drains_ended q w = drained_by_implication (λ items last h. record { value = h.carried.0; closure = h.carried.1; went = h.went; exit = fold_exit_ended last h.carried q h.exit }) w

    pub fold_drains_failed : (q : B × F) (e : E) (e' : E') → Driven steps (IsFoldTurn call) s (b, f) (Err e) t q → from e e' → FoldDrains steps call from s b f (Err e') t
    fold_drains_failed q e e' w c = drained_by_implication (λ items last h. record { value = h.carried.0; closure = h.carried.1; went = h.went; exit = fold_exit_failed last h.carried q e e' h.exit c }) w

    pub fold_drains_stopped : (q : B × F) (e' : E') → Driven steps (IsFoldTurn call) s (b, f) (Ok (Some e')) t q → FoldDrains steps call from s b f (Err e') t
    fold_drains_stopped q e' w = drained_by_implication (λ items last h. record { value = h.carried.0; closure = h.carried.1; went = h.went; exit = fold_exit_stopped last h.carried q e' h.exit }) w

-- ---- the same, where the value stands in a slot, which is full before each turn

module _ {A F B E' : Type 0} (call : F → B → A → Result B E' → F → Type 0) where
  abbrev FullSlot : B × F → Option B × F
  FullSlot p = (Some p.0, p.1)

  slot_full_after_turn : (p : B × F) (x : A) (o : Option B) (g : F) → IsFoldTurnInSlot call (FullSlot p) x (Continue tt) (o, g) → (q : B × F) × went_on_with call p x q × (FullSlot q ≡ (o, g))
  slot_full_after_turn p x (Some b) g w = ((b, g), w, refl)
  slot_full_after_turn p x None g w = absurd w

  slot_full_after_turns : (items : List A) (p : B × F) (d : Option B × F) → FoldsTo (goes_on (IsFoldTurnInSlot call)) (FullSlot p) items d → (q : B × F) × FoldsTo (went_on_with call) p items q × (FullSlot q ≡ d)
  slot_full_after_turns [] p d e = (p, refl, e)
  slot_full_after_turns (x ∷ items) p d w = let one = slot_full_after_turn p x w.0.0 w.0.1 w.1 in let rest = slot_full_after_turns items one.0 d (subst (λ z. FoldsTo (goes_on (IsFoldTurnInSlot call)) z items d) (sym one.2) w.2) in (rest.0, (one.0, one.1, rest.1), rest.2)

  -- a turn may be taken where the closure may be called on the value
  pub callable_driving_slot : {S E : Type 0} {steps : S → Answered A E → S → Type 0} {s : S} {b : B} {f : F} {takes : F → B → A → Type 0} → CallableInFold steps call takes s f b → CallableDriving steps (IsFoldTurnInSlot call) (takes_in_slot takes) s (Some b, f)
  callable_driving_slot {b = b} {f = f} {takes = takes} h = record { at = λ items u v d x ran went step. let full = slot_full_after_turns items (b, f) d went in subst (λ z. takes_in_slot takes z x) full.2 (h.at items u v full.0 x ran full.1 step) }

  -- an end leaves it full
  slot_full_at_end : {E : Type 0} (last : Answered A E) (p : B × F) (d : Option B × F) → DriveExit (IsFoldTurnInSlot call) (FullSlot p) last (Ok None) d → d ≡ FullSlot p
  slot_full_at_end (Ok None) p d w = w.1
  slot_full_at_end (Ok (Some x)) p d w = absurd (let e = w.2 in cc)
  slot_full_at_end (Err e) p d w = absurd (let f = w.0 in cc)

  pub slot_never_empty : {S E : Type 0} {steps : S → Answered A E → S → Type 0} {s t : S} {b : B} {f g : F} → Driven {E = E} steps (IsFoldTurnInSlot call) s (Some b, f) (Ok None) t (None, g) → ⊥
  slot_never_empty {b = b} {f = f} {g = g} w = let full = slot_full_after_turns w.items (b, f) w.at.carried w.at.went in let e = slot_full_at_end w.last full.0 (None, g) (subst (λ z. DriveExit (IsFoldTurnInSlot call) z w.last (Ok None) (None, g)) (sym full.2) w.at.exit) in let n : ◌≡◌ {A = Option B} None (Some full.0.0) = ap (λ z. z.0) e in cc

module _ {A E F B E' : Type 0} (call : F → B → A → Result B E' → F → Type 0) (from : E → E' → Type 0) where
  fold_exit_slot_ended : (last : Answered A E) (p : B × F) (b : B) (g : F) → DriveExit (IsFoldTurnInSlot call) (FullSlot call p) last (Ok None) (Some b, g) → FoldExit call from p.0 p.1 last (Ok b)
  fold_exit_slot_ended (Ok None) p b g w = let e : Some b ≡ Some p.0 = ap (λ z. z.0) w.1 in cc
  fold_exit_slot_ended (Ok (Some x)) p b g w = absurd (let e = w.2 in cc)
  fold_exit_slot_ended (Err e) p b g w = absurd (let f = w.0 in cc)

  fold_exit_slot_failed : (last : Answered A E) (p : B × F) (d : Option B × F) (e : E) (e' : E') → DriveExit (IsFoldTurnInSlot call) (FullSlot call p) last (Err e) d → from e e' → FoldExit call from p.0 p.1 last (Err e')
  fold_exit_slot_failed (Ok None) p d e e' w c = absurd (let f = w.0 in cc)
  fold_exit_slot_failed (Ok (Some x)) p d e e' w c = absurd (let f = w.2 in cc)
  fold_exit_slot_failed (Err f) p d e e' w c = let same : e ≡ f = (let h = w.0 in cc) in (e', subst (λ (z : E). from z e') same c, refl)

  fold_exit_slot_stopped : (last : Answered A E) (p : B × F) (d : Option B × F) (e' : E') → DriveExit (IsFoldTurnInSlot call) (FullSlot call p) last (Ok (Some e')) d → FoldExit call from p.0 p.1 last (Err e')
  fold_exit_slot_stopped (Ok None) p d e' w = absurd (let f = w.0 in cc)
  fold_exit_slot_stopped (Ok (Some x)) p d e' w = let same : e' ≡ w.0 = (let f = w.2 in cc) in (d.1, w.0, w.1, ap Err same)
  fold_exit_slot_stopped (Err f) p d e' w = absurd (let h = w.0 in cc)

  module _ {S : Type 0} {steps : S → Answered A E → S → Type 0} {s t : S} {b : B} {f : F} where
    fold_drains_by_slot : {d : Option B × F} {a : Answered E' E} {r : Result B E'} → ((last : Answered A E) (p : B × F) → DriveExit (IsFoldTurnInSlot call) (FullSlot call p) last a d → FoldExit call from p.0 p.1 last r) → Driven steps (IsFoldTurnInSlot call) s (Some b, f) a t d → FoldDrains steps call from s b f r t
    fold_drains_by_slot {d} {a} exits w = drained_by_implication (λ items last h. let full = slot_full_after_turns call items (b, f) h.carried h.went in record { value = full.0.0; closure = full.0.1; went = full.1; exit = exits last full.0 (subst (λ z. DriveExit (IsFoldTurnInSlot call) z last a d) (sym full.2) h.exit) }) w

    pub fold_drains_slot_ended : (v : B) (g : F) → Driven steps (IsFoldTurnInSlot call) s (Some b, f) (Ok None) t (Some v, g) → FoldDrains steps call from s b f (Ok v) t
    fold_drains_slot_ended v g w = fold_drains_by_slot (λ last p h. fold_exit_slot_ended last p v g h) w

    pub fold_drains_slot_failed : (d : Option B × F) (e : E) (e' : E') → Driven steps (IsFoldTurnInSlot call) s (Some b, f) (Err e) t d → from e e' → FoldDrains steps call from s b f (Err e') t
    fold_drains_slot_failed d e e' w c = fold_drains_by_slot (λ last p h. fold_exit_slot_failed last p d e e' h c) w

    pub fold_drains_slot_stopped : (d : Option B × F) (e' : E') → Driven steps (IsFoldTurnInSlot call) s (Some b, f) (Ok (Some e')) t d → FoldDrains steps call from s b f (Err e') t
    fold_drains_slot_stopped d e' w = fold_drains_by_slot (λ last p h. fold_exit_slot_stopped last p d e' h) w

-- ---- a draw that is a fold which stops with the first item

module _ {S C A E : Type 0} (steps : S → Answered A E → S → Type 0) where
  abbrev StopsAtItem : C → A → ControlFlow A (Unit {0}) → C → Type 0
  StopsAtItem c x r d = r ≡ Break x

  step_of_only_answer : (items : List A) (last : Answered A E) (c d z : C) (r : Answered A E) (s t : S) → FoldsTo (goes_on StopsAtItem) c items d → Run steps s (map item items ++ last ∷ []) t → DriveExit StopsAtItem d last r z → steps s r t
  step_of_only_answer (x ∷ items) last c d z r s t went ran at = absurd (let e = went.1 in cc)
  step_of_only_answer [] (Ok None) c d z r s t went ran at = rw (at.0, sym ran.2) ran.1
  step_of_only_answer [] (Err e) c d z r s t went ran at = rw (at.0, sym ran.2) ran.1
  step_of_only_answer [] (Ok (Some x)) c d z r s t went ran at = let same : at.0 ≡ x = (let e = at.1 in cc) in rw (at.2, same, sym ran.2) ran.1

pub step_of_first_drawn : {S C A E : Type 0} {steps : S → Answered A E → S → Type 0} {s t : S} {c d : C} {r : Answered A E} → Driven steps (λ _ x r _. r ≡ Break x) s c r t d → steps s r t
step_of_first_drawn {steps = steps} {s = s} {t = t} {c = c} {d = d} {r = r} w = step_of_only_answer steps w.items w.last c w.at.carried d r s t w.at.went w.ran w.at.exit
