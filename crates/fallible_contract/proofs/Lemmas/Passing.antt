-- A trace that lets answers pass, answer by answer.
use Rattle.std.specs.Prelude.{◌≡◌, ℕ, length, true, false, List, [], ◌∷◌, ◌++◌, map, Option, Result, Some, None, Ok, Err, IsSome}
use Rattle.std.specs.List.{FoldsTo}
use Rattle.std.proofs.Common.{refl, sym, subst}
use Rattle.fallible_contract.specs.Traces.{Answered, Run, Yields, item}
use Rattle.fallible_contract.specs.Contract.{Contract, Lawful}
use Rattle.fallible_contract.specs.Closures.{Reaches, IsCallable}
use Rattle.fallible_contract.proofs.Lemmas.Contract.{may_give_of_item_after_yields}
use Rattle.fallible_contract.specs.Laws.Closures.{reaches_reflexive, reaches_weaken, reaches_by_call_first}
use Rattle.fallible_contract.specs.Folds.{HoldsAtEachTurn}
use Rattle.fallible_contract.proofs.Lemmas.Folds.{folds_to_by_implication, holds_each_turn_by_implication}
use Rattle.fallible_contract.specs.Passing.{ItemPassed, LeavesNoneOut, PassTest, PassAnswer, IfItem, outcome_answer, PassTrace}
use Rattle.fallible_contract.specs.Searching.{WentOn, SearchDecides, SearchExit, CallableInSearch, SearchDrains, find_pick}
use Rattle.fallible_contract.specs.Laws.Passing.{Passes, done, end_passes, failure_passes, keeps, refuses, closes, leaves_out, pass_trace_of_passes}
use Rattle.fallible_contract.specs.declared.passing.Outcome.{Outcome}
use Rattle.fallible_contract.specs.declared.passing.Outcome.TheVariants.{Kept, LeftOut, Failure, End}

-- ---- one draw as a search

module _ {S F X R B E : Type 0} (steps : S → Answered X E → S → Type 0) (call : F → X → R → F → Type 0) (outcome : X → R → Outcome B E) where
  -- one item that is left out
  abbrev left_out_turn : F → X → F → Type 0
  left_out_turn f x g = ItemPassed {B = B} {E = E} call outcome f x LeftOut g

  passes_after_left_out : (last : Answered X E) (r : Answered B E) (t : S) (h g : F) → ((u : S) → steps u last t → Passes steps call outcome u h (r ∷ []) t g) → (items : List X) (s : S) (f : F) → Run steps s (map item items ++ last ∷ []) t → FoldsTo left_out_turn f items h → Passes steps call outcome s f (r ∷ []) t g
  passes_after_left_out last r t h g final [] s f ran went = subst (λ (k : F). Passes steps call outcome s k (r ∷ []) t g) (sym went) (final s (subst (λ (u : S). steps s last u) ran.2 ran.1))
  passes_after_left_out last r t h g final (x ∷ items) s f ran went = leaves_out x went.1.0 ran.1 went.1.1 went.1.2 (passes_after_left_out last r t h g final items ran.0 went.0 ran.2 went.2)

module _ {S F X R B E : Type 0} (m : Contract S X E) (l : Lawful m) (call : F → X → R → F → Type 0) (outcome : X → R → Outcome B E) where
  reaches_by_left_out_turns : (items : List X) (s t : S) (f g : F) → m.can_next s → Yields m.steps s items t → FoldsTo (left_out_turn m.steps call outcome) f items g → Reaches call (m.may_give s) f g
  reaches_by_left_out_turns [] s t f g c ran went = subst (λ (h : F). Reaches call (m.may_give s) f h) went reaches_reflexive
  reaches_by_left_out_turns (x ∷ items) s t f g c ran went = let a = l.kept_by_draw s (item x) ran.0 c ran.1 in reaches_by_call_first x went.1.0 a.answer.0 went.1.1 (reaches_weaken a.may_give (reaches_by_left_out_turns items ran.0 t went.0 g a.can_next ran.2 went.2))

-- a stored closure may be called at each turn of such a fold
pub holds_each_turn_callable : {S F X R B E : Type 0} {m : Contract S X E} {call : F → X → R → F → Type 0} {pre : F → X → Type 0} (outcome : X → R → Outcome B E) {s : S} {f : F} → Lawful m → m.can_next s → IsCallable call pre (m.may_give s) f → HoldsAtEachTurn m.steps (left_out_turn m.steps call outcome) pre s f
holds_each_turn_callable {m = m} {call = call} outcome {s = s} {f = f} l c callable = record { at = λ items t u g x ran went step. callable.at g x (reaches_by_left_out_turns m l call outcome items s t f g c ran went) (may_give_of_item_after_yields l s items t u x c ran step) }

module _ {S F X R E : Type 0} (steps : S → Answered X E → S → Type 0) (call : F → X → R → F → Type 0) (outcome : X → R → Outcome X E) where
  -- after a test on which the search goes on, the item is left out
  left_out_turn_where_test_went : (f : F) (x : X) (g : F) → WentOn (PassTest call outcome) find_pick f x g → left_out_turn steps call outcome f x g
  left_out_turn_where_test_went f x g (true, w, goes_on) = absurd (let none = goes_on 0 in cc)
  left_out_turn_where_test_went f x g (false, w, goes_on) = w

  -- the test that decides
  passes_where_search_decides : (n : ℕ) (x : X) (r : Result (Option X) E) (u t : S) (h g : F) → steps u (item x) t → SearchDecides (PassTest call outcome) find_pick n h x r g → Passes steps call outcome u h (r ∷ []) t g
  passes_where_search_decides n x (Ok z) u t h g step (true, w, picked) = let same : Some x ≡ z = cc in subst (λ (o : Option X). Passes steps call outcome u h (Ok o ∷ []) t g) same (keeps x w.0 x step w.1 w.2 done)
  passes_where_search_decides n x (Ok z) u t h g step (false, w, picked) = absurd cc
  passes_where_search_decides n x (Err e) u t h g step w = refuses x w.0 e step w.1 w.2 done

  passes_at_search_exit : (last : Answered X E) (n : ℕ) (r : Answered X E) (u t : S) (h g : F) → SearchExit (PassTest call outcome) find_pick None n h last r g → steps u last t → Passes steps call outcome u h (r ∷ []) t g
  passes_at_search_exit (Ok None) n r u t h g e step = subst (λ (q : Answered X E). Passes steps call outcome u h (q ∷ []) t g) (sym e.0) (subst (λ (k : F). Passes steps call outcome u h (Ok None ∷ []) t k) (sym e.1) (end_passes step done))
  passes_at_search_exit (Err d) n r u t h g e step = subst (λ (q : Answered X E). Passes steps call outcome u h (q ∷ []) t g) (sym e.0) (subst (λ (k : F). Passes steps call outcome u h (Err d ∷ []) t k) (sym e.1) (failure_passes d step done))
  passes_at_search_exit (Ok (Some x)) n r u t h g e step = passes_where_search_decides n x r u t h g step e

-- a search by such a test is the trace of one answer
pub pass_trace_of_search_drains : {S F X R E : Type 0} {steps : S → Answered X E → S → Type 0} {call : F → X → R → F → Type 0} {outcome : X → R → Outcome X E} {s t : S} {f g : F} {r : Answered X E} → SearchDrains (PassTest call outcome) find_pick steps None s f r t g → PassTrace steps call outcome (s, f) (r ∷ []) (t, g)
pass_trace_of_search_drains {steps = steps} {call = call} {outcome = outcome} {s = s} {t = t} {f = f} {g = g} {r = r} w = pass_trace_of_passes (passes_after_left_out steps call outcome w.last r t w.at.closure g (λ u step. passes_at_search_exit steps call outcome w.last (length w.items) r u t w.at.closure g w.at.exit step) w.items s f w.ran (folds_to_by_implication (left_out_turn_where_test_went steps call outcome) w.items f w.at.closure w.at.went))

-- a stored closure may be called at each test of such a search
pub callable_in_search_of_passes : {S F X R E : Type 0} {m : Contract S X E} {call : F → X → R → F → Type 0} {pre : F → X → Type 0} (outcome : X → R → Outcome X E) {s : S} {f : F} → Lawful m → m.can_next s → IsCallable call pre (m.may_give s) f → CallableInSearch (PassTest call outcome) find_pick m.steps pre s f
callable_in_search_of_passes {m = m} {call = call} outcome l c callable = holds_each_turn_by_implication (left_out_turn_where_test_went m.steps call outcome) (λ g x p. p) (holds_each_turn_callable outcome l c callable)

-- ---- one draw that leaves nothing out

module _ {S F X R B E : Type 0} {steps : S → Answered X E → S → Type 0} {call : F → X → R → F → Type 0} {outcome : X → R → Outcome B E} {s t : S} {f g : F} where
  passes_item : (x : X) (v : R) (o : Outcome B E) (r : Answered B E) → steps s (item x) t → call f x v g → outcome x v ≡ o → outcome_answer o ≡ Some r → Passes steps call outcome s f (r ∷ []) t g
  passes_item x v (Kept y) r step called is at = let same : item y ≡ r = cc in subst (λ (q : Answered B E). Passes steps call outcome s f (q ∷ []) t g) same (keeps x v y step called is done)
  passes_item x v LeftOut r step called is at = absurd cc
  passes_item x v (Failure e) r step called is at = let same : Err e ≡ r = cc in subst (λ (q : Answered B E). Passes steps call outcome s f (q ∷ []) t g) same (refuses x v e step called is done)
  passes_item x v End r step called is at = let same : Ok None ≡ r = cc in subst (λ (q : Answered B E). Passes steps call outcome s f (q ∷ []) t g) same (closes x v step called is done)

  passes_answer : {r : Answered B E} (drawn : Answered X E) → steps s drawn t → PassAnswer call outcome f drawn r g → Passes steps call outcome s f (r ∷ []) t g
  passes_answer {r = r} (Ok (Some x)) step h = passes_item x h.0 (outcome x h.0) r step h.1 refl h.2
  passes_answer (Ok None) step h = subst (λ (q : Answered B E). Passes steps call outcome s f (q ∷ []) t g) (sym h.0) (subst (λ (k : F). Passes steps call outcome s f (Ok None ∷ []) t k) (sym h.1) (end_passes step done))
  passes_answer (Err e) step h = subst (λ (q : Answered B E). Passes steps call outcome s f (q ∷ []) t g) (sym h.0) (subst (λ (k : F). Passes steps call outcome s f (Err e ∷ []) t k) (sym h.1) (failure_passes e step done))

  -- what the adapter makes of one answer of its source is its trace of one answer
  pub pass_trace_answer : {r : Answered B E} (drawn : Answered X E) → steps s drawn t → PassAnswer call outcome f drawn r g → PassTrace steps call outcome (s, f) (r ∷ []) (t, g)
  pass_trace_answer drawn step h = pass_trace_of_passes (passes_answer drawn step h)

-- the closure may be called on an item that was drawn
pub if_item_where_callable : {S F X R E : Type 0} {m : Contract S X E} {s t : S} {call : F → X → R → F → Type 0} {pre : F → X → Type 0} {f : F} → Lawful m → m.can_next s → (drawn : Answered X E) → m.steps s drawn t → IsCallable call pre (m.may_give s) f → IfItem (pre f) drawn
if_item_where_callable {s = s} {t = t} {f = f} l c (Ok (Some x)) step callable = callable.at f x reaches_reflexive ((l.kept_by_draw s (item x) t c step).answer.0)
if_item_where_callable l c (Ok None) step callable = tt
if_item_where_callable l c (Err e) step callable = tt

-- what holds of each item holds of one that was drawn
pub if_item_freely : {X E : Type 0} {P : X → Type 0} → ((x : X) → P x) → (drawn : Answered X E) → IfItem P drawn
if_item_freely all (Ok (Some x)) = all x
if_item_freely all (Ok None) = tt
if_item_freely all (Err e) = tt

-- what leaves nothing out leaves out no item
pub not_left_out : {X R B E : Type 0} (outcome : X → R → Outcome B E) → LeavesNoneOut outcome → (x : X) (v : R) → outcome x v ≡ LeftOut → ⊥
not_left_out {B = B} {E = E} outcome all x v is = absurd (let some : false ≡ true = subst (λ (o : Outcome B E). IsSome (outcome_answer o)) is (all x v) in cc)
