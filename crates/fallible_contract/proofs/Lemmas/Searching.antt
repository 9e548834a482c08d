-- Searches by the fold whose state holds the closure.
use Rattle.std.specs.Prelude.{◌≡◌, ℕ, ◌+◌, ◌<◌, length, List, [], ◌∷◌, Bool, Option, Some, None, Result, Ok, Err, ⊤}
use Rattle.std.specs.List.{FoldsTo}
use Rattle.std.proofs.Common.{refl, sym, ap, ◌∙◌, subst, arith}
use Rattle.fallible_contract.specs.Traces.{Answered}
use Rattle.fallible_contract.specs.Contract.{Contract, AtMost, Lawful}
use Rattle.fallible_contract.specs.Folds.{HoldsAtEachTurn, goes_on, DriveExit, Driven}
use Rattle.fallible_contract.proofs.Lemmas.Folds.{holds_each_turn_below, drained_by_implication, folds_to_by_implication}
use Rattle.fallible_contract.specs.Searching.{WentOn, SearchDecides, IsSearchTurn, IsPositionTurn, SearchExit, CallableInSearch, SearchDrains, find_pick, IsFindTurn, search_answer, find_answer}
use Rattle.std.specs.declared.ops.ControlFlow.{ControlFlow}
use Rattle.std.specs.declared.ops.ControlFlow.TheVariants.{Continue, Break}

-- `At n c`: the state is c after n items. `closure c` is the closure in it.
module _ {A E F V R C : Type 0} (call : F → A → Result V E → F → Type 0) (pick : ℕ → A → V → Option R) (turns : C → A → ControlFlow (Result R E) (Unit {0}) → C → Type 0) (closure : C → F) (At : ℕ → C → Type 0)
    (passes : (n : ℕ) (c : C) (x : A) (d : C) → At n c → turns c x (Continue tt) d → WentOn call pick (closure c) x (closure d) × At (n + 1) d)
    (stops : (n : ℕ) (c : C) (x : A) (r : Result R E) (d : C) → At n c → turns c x (Break r) d → SearchDecides call pick n (closure c) x r (closure d)) where
  folds_to_went_on : (items : List A) (n : ℕ) (c d : C) → At n c → FoldsTo (goes_on turns) c items d → FoldsTo (WentOn call pick) (closure c) items (closure d) × At (n + length items) d
  folds_to_went_on [] n c d at e = (ap closure e, subst (λ k. At k d) (omega arith) (subst (At n) e at))
  folds_to_went_on (x ∷ items) n c d at w = let h = passes n c x w.0 at w.1 in let rest = folds_to_went_on items (n + 1) w.0 d h.1 w.2 in
      ((closure w.0, h.0, rest.0), subst (λ k. At k d) (omega arith) rest.1)

  search_exit_of_drive_exit : (none : R) (last : Answered A E) (n : ℕ) (c d : C) (answer : Answered (Result R E) E) (r : Result R E) → At n c → DriveExit turns c last answer d → r ≡ search_answer none answer → SearchExit call pick none n (closure c) last r (closure d)
  search_exit_of_drive_exit none (Ok None) n c d answer r at h by = (by ∙ ap (search_answer none) h.0, ap closure h.1)
  search_exit_of_drive_exit none (Err e) n c d answer r at h by = (by ∙ ap (search_answer none) h.0, ap closure h.1)
  search_exit_of_drive_exit none (Ok (Some x)) n c d answer r at h by = subst (λ (z : Result R E). SearchDecides call pick n (closure c) x z (closure d)) (sym (by ∙ ap (search_answer none) h.2)) (stops n c x h.0 d at h.1)

  pub search_drains_by_turns : {S : Type 0} {steps : S → Answered A E → S → Type 0} {s t : S} {c d : C} {answer : Answered (Result R E) E} (none : R) (r : Result R E) → At 0 c → Driven steps turns s c answer t d → r ≡ search_answer none answer → SearchDrains call pick steps none s (closure c) r t (closure d)
  search_drains_by_turns {c = c} {d = d} {answer = answer} none r at h by =
      drained_by_implication (λ items last w. let p = folds_to_went_on items 0 c w.carried at w.went in record {
        closure = closure w.carried;
        went = p.0;
        exit = search_exit_of_drive_exit none last (length items) w.carried d answer r (subst (λ k. At k w.carried) (omega arith) p.1) w.exit by;
      }) h

module _ {S A E F V R : Type 0} {steps : S → Answered A E → S → Type 0} {call : F → A → Result V E → F → Type 0} {pick : ℕ → A → V → Option R} {s t : S} {f : F} {answer : Answered (Result R E) E} where
  -- the state is the closure
  pub search_drains_of_drive : {turns : F → A → ControlFlow (Result R E) (Unit {0}) → F → Type 0} {g : F} (none : R) {r : Result R E} → ((h : F) (x : A) (y : ControlFlow (Result R E) (Unit {0})) (k : F) → turns h x y k → IsSearchTurn call pick h x y k) → Driven steps turns s f answer t g → r ≡ search_answer none answer → SearchDrains call pick steps none s f r t g
  search_drains_of_drive {turns = turns} none {r = r} turn h by = search_drains_by_turns call pick turns (λ g. g) (λ n g. ⊤) (λ n g x k at w. (turn g x (Continue tt) k w, tt)) (λ n g x y k at w. turn g x (Break y) k w n) none r tt h by

  -- the state is the number of items before, and the closure
  pub search_drains_of_position_drive : {turns : ℕ × F → A → ControlFlow (Result R E) (Unit {0}) → ℕ × F → Type 0} {q : ℕ × F} (none : R) {r : Result R E} → ((p : ℕ × F) (x : A) (y : ControlFlow (Result R E) (Unit {0})) (k : ℕ × F) → turns p x y k → IsPositionTurn call pick p x y k) → Driven steps turns s (0, f) answer t q → r ≡ search_answer none answer → SearchDrains call pick steps none s f r t q.1
  search_drains_of_position_drive {turns = turns} none {r = r} turn h by = search_drains_by_turns call pick turns (λ p. p.1) (λ n p. p.0 ≡ n) (λ n p x q at w. let d = turn p x (Continue tt) q w in (d.1, let up : q.0 ≡ p.0 + 1 = d.0 in omega (arith, up, at))) (λ n p x y q at w. subst (λ k. SearchDecides call pick k p.1 x y q.1) at (turn p x (Break y) q w)) none r refl h by

-- where at most k items are to come, a search whose closure may be called may count the items before below k
module _ {A E F V R : Type 0} (call : F → A → Result V E → F → Type 0) (pick : ℕ → A → V → Option R) where
  folds_to_split_into_count_and_closure : (items : List A) (p q : ℕ × F) → FoldsTo {P = ℕ × F} (goes_on (IsPositionTurn call pick)) p items q → FoldsTo {P = ℕ} {A = A} (λ n x k. k ≡ n + 1) p.0 items q.0 × FoldsTo (WentOn call pick) p.1 items q.1
  folds_to_split_into_count_and_closure [] p q e = (ap (λ c. c.0) e, ap (λ c. c.1) e)
  folds_to_split_into_count_and_closure (x ∷ items) p q w = let h = folds_to_split_into_count_and_closure items w.0 q w.2 in ((w.0.0, w.1.0, h.0), (w.0.1, w.1.1, h.1))

  pub holds_each_turn_with_count_below_bound : {S : Type 0} {m : Contract S A E} {takes : F → A → Type 0} {s : S} {f : F} (k : ℕ) → Lawful m → m.can_next s → AtMost m s k → CallableInSearch call pick m.steps takes s f → HoldsAtEachTurn {C = ℕ × F} m.steps (goes_on (IsPositionTurn call pick)) (λ c x. takes c.1 x × (c.0 < k)) s (0, f)
  holds_each_turn_with_count_below_bound {f = f} k l c b h = record { at = λ items t u p x ran went step. let w = folds_to_split_into_count_and_closure items (0, f) p went in (h.at items t u p.1 x ran w.1 step, (holds_each_turn_below k l c b).at items t u p.0 x ran w.0 step) }

-- `find`, whose fold stops at the item, or where the test fails
module _ {A E C : Type 0} (tests : C → A → Result Bool E → C → Type 0) (turns : C → A → ControlFlow (Result A E) (Unit {0}) → C → Type 0)
    (turn : (c : C) (x : A) (r : ControlFlow (Result A E) (Unit {0})) (d : C) → turns c x r d → IsFindTurn tests c x r d) where
  search_exit_find : (last : Answered A E) (n : ℕ) (c d : C) (answer : Answered (Result A E) E) (r : Answered A E) → DriveExit turns c last answer d → r ≡ find_answer answer → SearchExit tests find_pick None n c last r d
  search_exit_find (Ok None) n c d answer r h by = (by ∙ ap find_answer h.0, h.1)
  search_exit_find (Err e) n c d answer r h by = (by ∙ ap find_answer h.0, h.1)
  search_exit_find (Ok (Some x)) n c d answer r h by = subst (λ (q : Answered A E). SearchDecides tests find_pick n c x q d) (sym (by ∙ ap find_answer h.2)) (turn c x (Break h.0) d h.1 n)

  pub search_drains_found : {S : Type 0} {steps : S → Answered A E → S → Type 0} {s t : S} {c d : C} {answer : Answered (Result A E) E} {r : Answered A E} → Driven steps turns s c answer t d → r ≡ find_answer answer → SearchDrains tests find_pick steps None s c r t d
  search_drains_found {c = c} {d = d} {answer = answer} {r = r} h by = drained_by_implication (λ items last w. record { closure = w.carried; went = folds_to_by_implication (λ c x e k. turn c x (Continue tt) e k) items c w.carried w.went; exit = search_exit_find last (length items) w.carried d answer r w.exit by }) h
