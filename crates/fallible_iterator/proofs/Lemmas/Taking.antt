-- Loops over `next_if`: what an item that is taken, one that is rejected, a failure and the end make of what is listed. And `fold_if`: its run, turn by turn, what stays, and what it returns and leaves over a list.
use Rattle.std.specs.Prelude.{◌≡◌, ℕ, ◌+◌, Bool, true, false, ⊤, List, [], ◌∷◌, Option, Some, None, Result, Ok, Err}
use Rattle.std.specs.List.{FoldsTo}
use Rattle.std.proofs.Common.{refl, sym, ap, ap₂, subst, arith, ◌∙◌}
use Rattle.fallible_contract.specs.Traces.{Answered, Run, Yields, item, end}
use Rattle.fallible_contract.specs.Contract.{Contract, Lawful, NeverFails, Stays, parts_as}
use Rattle.fallible_contract.specs.Folds.{CallableInFold, FoldExit, went_on_with}
use Rattle.fallible_contract.proofs.Lemmas.Folds.{holds_at_first_turn, holds_each_turn_after_item}
use Rattle.fallible_contract.specs.Lists.{Acts, AlwaysGives, Lists, folded, on_value, rest_failed, result_answer}
use Rattle.fallible_contract.proofs.Lemmas.Lists.Passing.{lists_seen}
use Rattle.fallible_core.specs.Cutting.TakeWhile.{cons_while, taken_while}
use Rattle.fallible_core.specs.Filtering.SkipWhile.{cons_from, skipped_while}
use Rattle.fallible_contract.specs.Laws.Contract.{kept_by_draws_of_stays, kept_by_draws_transitive, stays_reflexive, stays_of_kept_by_draws, stays_run}
use Rattle.fallible_core.specs.Laws.Peeking.Peekable.{lawful_peekable}
use Rattle.fallible_core.specs.Peeking.Peekable.{Fills, Peeks, failure_told, first_if, held_item, left_by, peekable_contract, peekable_parts, peekable_step, rest_if, taken_by}
use Rattle.fallible_core.proofs.Lemmas.Peeking.Peekable.{stays_after_peek}
use Rattle.fallible_core.specs.declared.peeking.peekable.Peekable.{Peekable}
use Rattle.fallible_iterator.specs.Taking.{AcceptedCall, FoldIfDrains, FoldsAs, TakenAfterLook, TakenByTest, TakesIf, TestsHeld, accepted_takes, by_test, folded_if, rest_fold_if}
use Rattle.fallible_iterator.proofs.Lemmas.Loops.{AnswersFromHere, CountsDown}

-- A call of `next_if` from s returned r and left t, by a test that returns p x on each item x.
abbrev pub TookIf : {S A E : Type 0} → (S → Answered A E → S → Type 0) → (A → Bool) → S → Answered A E → S → Type 0
TookIf {A = A} {E = E} steps p s r t = (l : List (Result A E)) → Lists steps s l → (r ≡ first_if p l) × Lists steps t (rest_if p l)

-- Nothing more is taken of the list: it is empty, or p is false of its first item.
abbrev pub RefusesFirst : {A E : Type 0} → (A → Bool) → List (Result A E) → Type 0
RefusesFirst p [] = ⊤
RefusesFirst p (Ok x ∷ l) = p x ≡ false
RefusesFirst p (Err e ∷ l) = ⊥

-- one run of draws after another
pub stays_transitive : {S A E : Type 0} {m : Contract S A E} {s t u : S} → Stays m s t → Stays m t u → Stays m s u
stays_transitive p q = stays_of_kept_by_draws (kept_by_draws_transitive (kept_by_draws_of_stays p) (kept_by_draws_of_stays q)) (λ never. q.sure (p.sure never))

-- ---- what stays of a value that is seen as its parts

module _ {S P A E : Type 0} (view : S → P) (back : P → S) (same : (p : P) → view (back p) ≡ p) (m : Contract P A E) where
  run_over_parts : (s : S) (trace : List (Answered A E)) (p : P) → Run m.steps (view s) trace p → (u : S) × Run (parts_as view m).steps s trace u × (view u ≡ p)
  run_over_parts s [] p e = (s, refl, e)
  run_over_parts s (r ∷ rest) p w =
      let step : m.steps (view s) r (view (back w.0)) = subst (λ (q : P). m.steps (view s) r q) (sym (same w.0)) w.1 in
      let k = run_over_parts (back w.0) rest p (subst (λ (q : P). Run m.steps q rest p) (sym (same w.0)) w.2) in
      (k.0, (back w.0, step, k.1), k.2)

  run_to_parts : (s : S) (trace : List (Answered A E)) (u : S) → Run (parts_as view m).steps s trace u → Run m.steps (view s) trace (view u)
  run_to_parts s [] u e = ap view e
  run_to_parts s (r ∷ rest) u w = (view w.0, w.1, run_to_parts w.0 rest u w.2)

  never_fails_of_parts : (s : S) → NeverFails m (view s) → NeverFails (parts_as view m) s
  never_fails_of_parts s never trace t u e ran folded_if_and_rest_of_failing_call = never trace (view t) (view u) e (run_to_parts s trace t ran) folded_if_and_rest_of_failing_call

  never_fails_to_parts : (s : S) → NeverFails (parts_as view m) s → NeverFails m (view s)
  never_fails_to_parts s never trace p q e ran folded_if_and_rest_of_failing_call =
      let k = run_over_parts s trace p ran in
      never trace k.0 (back q) e k.1 (subst (λ (z : P). m.steps (view k.0) (Err e) z) (sym (same q)) (subst (λ (z : P). m.steps z (Err e) q) (sym k.2) folded_if_and_rest_of_failing_call))

  stays_of_parts : (s t : S) → Stays m (view s) (view t) → Stays (parts_as view m) s t
  stays_of_parts s t h = record { can_next = h.can_next; is_finite = h.is_finite; bound = h.bound; remaining = h.remaining; may_give = h.may_give; may_fail = h.may_fail; lenders = h.lenders; sure = λ never. never_fails_of_parts t (h.sure (never_fails_to_parts s never)) }

-- what the calls of `Peekable` say that stays, as its contract says it
pub stays_ahead : {S A E : Type 0} (m : Contract S A E) (s t : Peekable S A E) → Stays (peekable_contract m) (peekable_parts s) (peekable_parts t) → Stays (parts_as peekable_parts (peekable_contract m)) s t
stays_ahead m s t h = stays_of_parts peekable_parts (λ p. record { it = p.0; held = p.1 }) (λ p. refl) (peekable_contract m) s t h

-- ---- the list before the call, by its answer

module _ {S A E : Type 0} (steps : S → Answered A E → S → Type 0) (p : A → Bool) (t : S) where
  lists_after_taken : (x y : A) (l : List (Result A E)) (w : Bool) → p y ≡ w → Ok (Some x) ≡ taken_by {E = E} w y → Lists steps t (left_by w y l) → (k : List (Result A E)) × (◌≡◌ {A = List (Result A E)} (Ok y ∷ l) (Ok x ∷ k)) × (p x ≡ true) × Lists steps t k
  lists_after_taken x y l true is r i = let same : y ≡ x = (let e = r in cc) in (l, ap (λ z. Ok z ∷ l) same, ap p (sym same) ∙ is, i)
  lists_after_taken x y l false is r i = absurd (let e = r in cc)

  lists_after_first_item : (x : A) (l : List (Result A E)) → Ok (Some x) ≡ first_if p l → Lists steps t (rest_if p l) → (k : List (Result A E)) × (l ≡ Ok x ∷ k) × (p x ≡ true) × Lists steps t k
  unfolding first_if rest_if
  lists_after_first_item x [] r i = absurd (let e = r in cc)
  lists_after_first_item x (Ok y ∷ l) r i = lists_after_taken x y l (p y) refl r i
  lists_after_first_item x (Err d ∷ l) r i = absurd (let e = r in cc)

  lists_refused_first : (y : A) (l : List (Result A E)) (w : Bool) → p y ≡ w → Ok None ≡ taken_by {E = E} w y → Lists steps t (left_by w y l) → Lists steps t (Ok y ∷ l) × (p y ≡ false)
  lists_refused_first y l true is r i = absurd (let e = r in cc)
  lists_refused_first y l false is r i = (i, is)

  lists_where_none_taken : (l : List (Result A E)) → Ok None ≡ first_if p l → Lists steps t (rest_if p l) → Lists steps t l × RefusesFirst p l
  unfolding first_if rest_if
  lists_where_none_taken [] r i = (i, tt)
  lists_where_none_taken (Ok y ∷ l) r i = lists_refused_first y l (p y) refl r i
  lists_where_none_taken (Err d ∷ l) r i = absurd (let e = r in cc)

  taken_by_never_fails : (d : E) (y : A) (w : Bool) → ¬ (Err d ≡ taken_by {E = E} w y)
  taken_by_never_fails d y true e = cc
  taken_by_never_fails d y false e = cc

  lists_after_first_failure : (d : E) (l : List (Result A E)) → Err d ≡ first_if p l → Lists steps t (rest_if p l) → (k : List (Result A E)) × (l ≡ Err d ∷ k) × Lists steps t k
  unfolding first_if rest_if
  lists_after_first_failure d [] r i = absurd (let e = r in cc)
  lists_after_first_failure d (Ok y ∷ l) r i = absurd (taken_by_never_fails d y (p y) r)
  lists_after_first_failure d (Err z ∷ l) r i = let same : z ≡ d = (let e = r in cc) in (l, ap (λ w. Err w ∷ l) same, i)

-- ---- what the whole returns, by the answer of a call

module _ {S A E B R : Type 0} {steps : S → Answered A E → S → Type 0} {answers : B → List (Result A E) → R} (p : A → Bool) {s0 s t : S} {b0 b : B} {r : Answered A E} (here : AnswersFromHere steps answers s0 b0 s b) (took : TookIf steps p s r t) (whole : List (Result A E)) (lists : Lists steps s0 whole) where
  -- an item was taken
  pub lists_and_answers_after_item_taken : (x : A) → r ≡ Ok (Some x) → (l : List (Result A E)) × Lists steps t l × (p x ≡ true) × (answers b0 whole ≡ answers b (Ok x ∷ l))
  lists_and_answers_after_item_taken x is = let k = here.at whole lists in let w = took k.0 k.1 in let d = lists_after_first_item steps p t x k.0 (sym is ∙ w.0) w.1 in (d.0, d.3, d.2, k.2 ∙ ap (answers b) d.1)

  -- an item was rejected, or the end came
  pub lists_and_answers_where_none_taken : r ≡ Ok None → (l : List (Result A E)) × Lists steps t l × RefusesFirst p l × (answers b0 whole ≡ answers b l)
  lists_and_answers_where_none_taken is = let k = here.at whole lists in let w = took k.0 k.1 in let d = lists_where_none_taken steps p t k.0 (sym is ∙ w.0) w.1 in (k.0, d.0, d.1, k.2)

  -- a failure came
  pub failure_met : (e : E) → r ≡ Err e → (l : List (Result A E)) × Lists steps t l × (answers b0 whole ≡ answers b (Err e ∷ l))
  failure_met e is = let k = here.at whole lists in let w = took k.0 k.1 in let d = lists_after_first_failure steps p t e k.0 (sym is ∙ w.0) w.1 in (d.0, d.2, k.2 ∙ ap (answers b) d.1)

-- the loop goes on with the value c after an item that was taken
pub answers_from_here_taking : {S A E B R : Type 0} {steps : S → Answered A E → S → Type 0} {answers : B → List (Result A E) → R} (p : A → Bool) {s0 s t : S} {b0 b c : B} {r : Answered A E} (x : A) → AnswersFromHere steps answers s0 b0 s b → TookIf steps p s r t → r ≡ Ok (Some x) → ((l : List (Result A E)) → p x ≡ true → answers b (Ok x ∷ l) ≡ answers c l) → AnswersFromHere steps answers s0 b0 t c
answers_from_here_taking p x here took is same = record { at = λ whole i. let k = lists_and_answers_after_item_taken p here took whole i x is in (k.0, k.1, k.3 ∙ same k.0 k.2) }

-- ---- one answer by a test

module _ {S A E : Type 0} (steps : S → Answered A E → S → Type 0) where
  abbrev HeldState : Type 0
  HeldState = S × Option (Option A)

  -- what was looked at is held, and is what a draw would have returned
  looked_at_is_next_answer : (s t : HeldState) (o : Option A) → Peeks steps s (Ok o) t → peekable_step steps s (Ok o) (t.0, None) × (t.1 ≡ Some o)
  looked_at_is_next_answer (s, Some h) t o w = let same : o ≡ h = (let e = w.0 in cc) in ((w.0, w.1, refl), w.2 ∙ ap (λ z. Some z) (sym same))
  looked_at_is_next_answer (s, None) t o w = ((w.0, refl), w.1)

  -- a draw of what is held
  held_step : (s t : HeldState) (o : Option A) (r : Answered A E) → s.1 ≡ Some o → peekable_step steps s r t → (r ≡ Ok o) × (t ≡ (s.0, None))
  held_step (s, Some h) t o r is w = let same : h ≡ o = cc in (w.0 ∙ ap (λ z. Ok z) same, rw (← w.1, ← w.2) refl)
  held_step (s, None) t o r is w = absurd cc

  -- a draw after a look is one before it
  drawn_after_look : (s u t : HeldState) (o : Option A) (r : Answered A E) → Peeks steps s (Ok o) u → peekable_step steps u r t → (r ≡ Ok o) × peekable_step steps s r t
  drawn_after_look s u t o r peeks step =
      let k = looked_at_is_next_answer s u o peeks in
      let h = held_step u t o r k.1 step in
      (h.0, subst (λ (z : HeldState). peekable_step steps s r z) (sym h.1) (subst (λ (z : Answered A E). peekable_step steps s z (u.0, None)) (sym h.0) k.0))

  -- a failure isn't held
  step_fails_where_look_fails : (s t : HeldState) (e : E) → Peeks steps s (Err e) t → peekable_step steps s (Err e) t
  step_fails_where_look_fails (s, Some h) t e w = absurd (let d = w.0 in cc)
  step_fails_where_look_fails (s, None) t e w = w

  step_gives_item_held_after_look : (a : Answered A E) (s t : HeldState) (x : A) → Peeks steps s a t → Ok tt ≡ failure_told a → held_item t.1 ≡ Some x → peekable_step steps s (item x) (t.0, None)
  step_gives_item_held_after_look (Ok o) s t x peeks told is = let k = looked_at_is_next_answer s t o peeks in subst (λ (z : Option A). peekable_step steps s (Ok z) (t.0, None)) (sym (ap held_item k.1) ∙ is) k.0
  step_gives_item_held_after_look (Err e) s t x peeks told is = absurd cc

  -- the item that is held after a look is one that a draw yields
  pub step_gives_item_held_after_fill : (s t : HeldState) (x : A) → Fills steps s (Ok tt) t → held_item t.1 ≡ Some x → peekable_step steps s (item x) (t.0, None)
  step_gives_item_held_after_fill s t x fills is = step_gives_item_held_after_look fills.0 s t x fills.1 fills.2 is

  module _ {P : Type 0} (tests : P → A → Result Bool E → P → Type 0) where
    takes_if_fails_where_look_fails : (a : Answered A E) (s t : HeldState) (p : P) (e : E) → Peeks steps s a t → Err e ≡ failure_told a → TakesIf steps tests s p (Err e) t p
    takes_if_fails_where_look_fails (Ok o) s t p e peeks told = absurd cc
    takes_if_fails_where_look_fails (Err d) s t p e peeks told = record { seen = Err d; looked = t; peeks = peeks; taken = ((let same : e ≡ d = cc in ap (λ (z : E). Err z) same), refl, refl) }

    -- the look failed
    pub takes_if_fails_where_fill_fails : (s t : HeldState) (p : P) (e : E) → Fills steps s (Err e) t → TakesIf steps tests s p (Err e) t p
    takes_if_fails_where_fill_fails s t p e fills = takes_if_fails_where_look_fails fills.0 s t p e fills.1 fills.2

    tests_held_of_equal : (o h : Option A) (p q : P) (v : Result Bool E) → h ≡ o → TestsHeld tests h p v q → TestsHeld tests o p v q
    tests_held_of_equal o h p q v is w = subst (λ (z : Option A). TestsHeld tests z p v q) is w

    takes_if_of_accepted_after_look : (a : Answered A E) (s u t : HeldState) (p q : P) (r : Answered A E) → Peeks steps s a u → Ok tt ≡ failure_told a → TestsHeld tests (held_item u.1) p (Ok true) q → peekable_step steps u r t → TakesIf steps tests s p r t q
    takes_if_of_accepted_after_look (Err e) s u t p q r peeks told tested step = absurd cc
    takes_if_of_accepted_after_look (Ok None) s u t p q r peeks told tested step = absurd (let e = (tests_held_of_equal None (held_item u.1) p q (Ok true) (ap held_item (looked_at_is_next_answer s u None peeks).1) tested).0 in cc)
    takes_if_of_accepted_after_look (Ok (Some x)) s u t p q r peeks told tested step =
        let k = looked_at_is_next_answer s u (Some x) peeks in
        let h = held_step u t (Some x) r k.1 step in
        record { seen = item x; looked = u; peeks = peeks; taken = (Ok true, tests_held_of_equal (Some x) (held_item u.1) p q (Ok true) (ap held_item k.1) tested, (h.0, subst (λ (z : Answered A E). peekable_step steps u z t) h.0 step)) }

    -- the test accepted what is held, which was drawn
    pub takes_if_accepted : (s u t : HeldState) (p q : P) (r : Answered A E) → Fills steps s (Ok tt) u → TestsHeld tests (held_item u.1) p (Ok true) q → peekable_step steps u r t → TakesIf steps tests s p r t q
    takes_if_accepted s u t p q r fills tested step = takes_if_of_accepted_after_look fills.0 s u t p q r fills.1 fills.2 tested step

    takes_if_ends_where_test_refuses_after_look : (a : Answered A E) (s u : HeldState) (p q : P) → Peeks steps s a u → Ok tt ≡ failure_told a → TestsHeld tests (held_item u.1) p (Ok false) q → TakesIf steps tests s p end u q
    takes_if_ends_where_test_refuses_after_look (Err e) s u p q peeks told tested = absurd cc
    takes_if_ends_where_test_refuses_after_look (Ok None) s u p q peeks told tested = record { seen = end; looked = u; peeks = peeks; taken = (refl, refl, (tests_held_of_equal None (held_item u.1) p q (Ok false) (ap held_item (looked_at_is_next_answer s u None peeks).1) tested).1) }
    takes_if_ends_where_test_refuses_after_look (Ok (Some x)) s u p q peeks told tested = record { seen = item x; looked = u; peeks = peeks; taken = (Ok false, tests_held_of_equal (Some x) (held_item u.1) p q (Ok false) (ap held_item (looked_at_is_next_answer s u (Some x) peeks).1) tested, (refl, refl)) }

    -- the test rejected what is held, or an end is held
    pub takes_if_ends_where_test_refuses : (s u : HeldState) (p q : P) → Fills steps s (Ok tt) u → TestsHeld tests (held_item u.1) p (Ok false) q → TakesIf steps tests s p end u q
    takes_if_ends_where_test_refuses s u p q fills tested = takes_if_ends_where_test_refuses_after_look fills.0 s u p q fills.1 fills.2 tested

    takes_if_fails_where_test_fails_after_look : (a : Answered A E) (s u t : HeldState) (p q : P) (e : E) (r : Answered A E) → Peeks steps s a u → Ok tt ≡ failure_told a → TestsHeld tests (held_item u.1) p (Err e) q → peekable_step steps u r t → TakesIf steps tests s p (Err e) t q
    takes_if_fails_where_test_fails_after_look (Err d) s u t p q e r peeks told tested step = absurd cc
    takes_if_fails_where_test_fails_after_look (Ok None) s u t p q e r peeks told tested step = absurd (let d = (tests_held_of_equal None (held_item u.1) p q (Err e) (ap held_item (looked_at_is_next_answer s u None peeks).1) tested).0 in cc)
    takes_if_fails_where_test_fails_after_look (Ok (Some x)) s u t p q e r peeks told tested step =
        let k = looked_at_is_next_answer s u (Some x) peeks in
        let h = held_step u t (Some x) r k.1 step in
        record { seen = item x; looked = u; peeks = peeks; taken = (Err e, tests_held_of_equal (Some x) (held_item u.1) p q (Err e) (ap held_item k.1) tested, (refl, subst (λ (z : Answered A E). peekable_step steps u z t) h.0 step)) }

    -- the test failed on what is held, which was drawn
    pub takes_if_fails_where_test_fails : (s u t : HeldState) (p q : P) (e : E) (r : Answered A E) → Fills steps s (Ok tt) u → TestsHeld tests (held_item u.1) p (Err e) q → peekable_step steps u r t → TakesIf steps tests s p (Err e) t q
    takes_if_fails_where_test_fails s u t p q e r fills tested step = takes_if_fails_where_test_fails_after_look fills.0 s u t p q e r fills.1 fills.2 tested step

    item_taken_after_look_tests_true : (a : Answered A E) (s u t : HeldState) (p q : P) (x : A) → Peeks steps s a u → TakenAfterLook steps tests a u p (item x) t q → peekable_step steps s (item x) t × tests p x (Ok true) q
    item_taken_after_look_tests_true (Err e) s u t p q x peeks taken = absurd (let d = taken.0 in cc)
    item_taken_after_look_tests_true (Ok None) s u t p q x peeks taken = absurd (let d = taken.0 in cc)
    item_taken_after_look_tests_true (Ok (Some y)) s u t p q x peeks (Ok true, tested, taken) = let same : y ≡ x = (let e = taken.0 in cc) in
        (subst (λ (z : A). peekable_step steps s (item z) t) same (drawn_after_look s u t (Some y) (item y) peeks taken.1).1, subst (λ (z : A). tests p z (Ok true) q) same tested)
    item_taken_after_look_tests_true (Ok (Some y)) s u t p q x peeks (Ok false, tested, taken) = absurd (let d = taken.0 in cc)
    item_taken_after_look_tests_true (Ok (Some y)) s u t p q x peeks (Err e, tested, taken) = absurd (let d = taken.0 in cc)

    -- an item that is taken was drawn, and the test returned true on it
    pub item_taken_by_test : {s t : HeldState} {p q : P} {x : A} → TakesIf steps tests s p (item x) t q → peekable_step steps s (item x) t × tests p x (Ok true) q
    item_taken_by_test {s} {t} {p} {q} {x} w = item_taken_after_look_tests_true w.seen s w.looked t p q x w.peeks w.taken

-- ---- the run of the fold, turn by turn

module _ {S A E P F B : Type 0} (steps : S → Answered A E → S → Type 0) (tests : P → A → Result Bool E → P → Type 0) (call : F → B → A → Result B E → F → Type 0) where
  takes_if_of_equal : {s t : S × Option (Option A)} {p q : P} {a c : Answered A E} → a ≡ c → TakesIf steps tests s p a t q → TakesIf steps tests s p c t q
  takes_if_of_equal {s} {t} {p} {q} is w = subst (λ (z : Answered A E). TakesIf steps tests s p z t q) is w

  -- nothing more was taken
  pub fold_if_ends : {s t : S × Option (Option A)} {p q : P} {a : Answered A E} (b : B) (f : F) → a ≡ end → TakesIf steps tests s p a t q → FoldIfDrains steps tests call s b p f (Ok b) t
  fold_if_ends {s} {t} {p} {q} b f is w = record { items = []; between = s; value = b; test = p; closure = f; drawn = refl; went = refl; last = end; tested = q; takes = takes_if_of_equal is w; exit = refl }

  -- a failure came, of the source or of the test
  pub fold_if_fails : {s t : S × Option (Option A)} {p q : P} {a : Answered A E} {r : Result B E} (b : B) (f : F) (e : E) → a ≡ Err e → r ≡ Err e → TakesIf steps tests s p a t q → FoldIfDrains steps tests call s b p f r t
  fold_if_fails {s} {t} {p} {q} b f e is made w = record { items = []; between = s; value = b; test = p; closure = f; drawn = refl; went = refl; last = Err e; tested = q; takes = takes_if_of_equal is w; exit = (e, refl, made) }

  -- the closure failed on an accepted item
  pub fold_if_stops : {s t : S × Option (Option A)} {p q : P} {a : Answered A E} {b : B} {f g : F} {r : Result B E} (x : A) (e : E) → a ≡ item x → r ≡ Err e → TakesIf steps tests s p a t q → call f b x (Err e) g → FoldIfDrains steps tests call s b p f r t
  fold_if_stops {s} {t} {p} {q} {b = b} {f} {g} x e is made w called = record { items = []; between = s; value = b; test = p; closure = f; drawn = refl; went = refl; last = item x; tested = q; takes = takes_if_of_equal is w; exit = (g, e, called, made) }

  -- the turn on an accepted item, as the turn of a fold whose state is the value and the two closures
  accepted_turn : {s t : S × Option (Option A)} {p q : P} {a : Answered A E} {b c : B} {f g : F} (x : A) → a ≡ item x → TakesIf steps tests s p a t q → call f b x (Ok c) g → peekable_step steps s (item x) t × went_on_with (AcceptedCall tests call) (b, (p, f)) x (c, (q, g))
  accepted_turn x is w called = let k = item_taken_by_test steps tests (takes_if_of_equal is w) in (k.0, (k.1, called))

  -- an accepted item, on which the closure returned, and then the fold from there
  pub fold_if_with_accepted_item_before : {s u t : S × Option (Option A)} {p q : P} {a : Answered A E} {b c : B} {f g : F} {r : Result B E} (x : A) → a ≡ item x → TakesIf steps tests s p a u q → call f b x (Ok c) g → FoldIfDrains steps tests call u c q g r t → FoldIfDrains steps tests call s b p f r t
  fold_if_with_accepted_item_before {u = u} {q = q} {c = c} {g = g} x is w called rest = let k = accepted_turn x is w called in record {
    items = x ∷ rest.items;
    between = rest.between;
    value = rest.value;
    test = rest.test;
    closure = rest.closure;
    drawn = (u, k.0, rest.drawn);
    went = ((c, (q, g)), k.1, rest.went);
    last = rest.last;
    tested = rest.tested;
    takes = rest.takes;
    exit = rest.exit;
  }

  -- ---- what may be called

  module _ (testable : P → A → Type 0) (takes : F → B → A → Type 0) where
    abbrev CallableHere : S × Option (Option A) → P × F → B → Type 0
    CallableHere = CallableInFold (peekable_step steps) (AcceptedCall tests call) (accepted_takes tests call testable takes)

    -- the test on the next item
    pub testable_on_next : (s t : S × Option (Option A)) (f : P × F) (b : B) (x : A) → CallableHere s f b → peekable_step steps s (item x) t → testable f.0 x
    testable_on_next s t f b x callable step = (holds_at_first_turn {s = s} {t = t} {c = (b, f)} {x = x} callable step).0

    -- the closure on the value so far and an accepted item
    pub takes_accepted : {s t : S × Option (Option A)} {p q : P} {a : Answered A E} {f : F} {b : B} (x : A) → CallableHere s (p, f) b → a ≡ item x → TakesIf steps tests s p a t q → takes f b x
    takes_accepted {s} {t} {p} {q} {f = f} {b} x callable is w = let k = item_taken_by_test steps tests (takes_if_of_equal is w) in (holds_at_first_turn {s = s} {t = t} {c = (b, (p, f))} {x = x} callable k.0).1 q k.1

    -- both after an accepted item
    pub callable_after_accepted : {s t : S × Option (Option A)} {p q : P} {a : Answered A E} {b c : B} {f g : F} (x : A) → CallableHere s (p, f) b → a ≡ item x → TakesIf steps tests s p a t q → call f b x (Ok c) g → CallableHere t (q, g) c
    callable_after_accepted {s} {t} {p} {q} {b = b} {c} {f} {g} x callable is w called = let k = accepted_turn x is w called in holds_each_turn_after_item {s = s} {t = t} {c = (b, (p, f))} {d = (c, (q, g))} {x = x} callable k.0 k.1

-- ---- what stays

module _ {S A E P : Type 0} {m : Contract S A E} (l : Lawful m) (tests : P → A → Result Bool E → P → Type 0) where
  abbrev StaysHere : S × Option (Option A) → S × Option (Option A) → Type 0
  StaysHere = Stays (peekable_contract m)

  stays_on_draw : (s t : S × Option (Option A)) (r : Answered A E) → m.can_next s.0 → peekable_step m.steps s r t → StaysHere s t
  stays_on_draw s t r c step = stays_run (lawful_peekable l) s (r ∷ []) t c (t, step, refl)

  stays_on_yields : (items : List A) (s t : S × Option (Option A)) → m.can_next s.0 → Yields (peekable_step m.steps) s items t → StaysHere s t
  stays_on_yields [] s t c ran = subst (λ (u : S × Option (Option A)). StaysHere s u) ran (stays_reflexive c)
  stays_on_yields (x ∷ items) s t c ran = let k = stays_on_draw s ran.0 (item x) c ran.1 in stays_transitive k (stays_on_yields items ran.0 t k.can_next ran.2)

  stays_of_equal : {s t u : S × Option (Option A)} → u ≡ t → StaysHere s t → StaysHere s u
  stays_of_equal {s} is h = subst (λ (u : S × Option (Option A)). StaysHere s u) (sym is) h

  stays_after_look : (a : Answered A E) (u t : S × Option (Option A)) (p q : P) (r : Answered A E) (s : S × Option (Option A)) → StaysHere s u → TakenAfterLook m.steps tests a u p r t q → StaysHere s t
  stays_after_look (Err e) u t p q r s h taken = stays_of_equal taken.1 h
  stays_after_look (Ok None) u t p q r s h taken = stays_of_equal taken.1 h
  stays_after_look (Ok (Some x)) u t p q r s h (Ok true, tested, taken) = stays_transitive h (stays_on_draw u t (item x) h.can_next taken.1)
  stays_after_look (Ok (Some x)) u t p q r s h (Ok false, tested, taken) = stays_of_equal taken.1 h
  stays_after_look (Ok (Some x)) u t p q r s h (Err e, tested, taken) = stays_transitive h (stays_on_draw u t (item x) h.can_next taken.1)

  pub stays_fold_if : {F B : Type 0} {call : F → B → A → Result B E → F → Type 0} {b : B} {p : P} {f : F} {r : Result B E} (s t : Peekable S A E) → m.can_next s.it → FoldIfDrains m.steps tests call (peekable_parts s) b p f r (peekable_parts t) → Stays (parts_as peekable_parts (peekable_contract m)) s t
  stays_fold_if s t c w =
      let k = stays_on_yields w.items (peekable_parts s) w.between c w.drawn in
      let j = stays_transitive k (stays_after_peek l w.between w.takes.seen w.takes.looked k.can_next w.takes.peeks) in
      stays_ahead m s t (stays_after_look w.takes.seen w.takes.looked (peekable_parts t) w.test w.tested w.last (peekable_parts s) j w.takes.taken)

-- one less is counted after an accepted item
pub counts_down_accepted : {S A E P : Type 0} {m : Contract S A E} (l : Lawful m) {tests : P → A → Result Bool E → P → Type 0} {p q : P} {a : Answered A E} {left less : ℕ} (s t : Peekable S A E) (x : A) → CountsDown (parts_as peekable_parts (peekable_contract m)) s left → a ≡ item x → TakesIf m.steps tests (peekable_parts s) p a (peekable_parts t) q → less + 1 ≡ left → CountsDown (parts_as peekable_parts (peekable_contract m)) t less
counts_down_accepted {m = m} l {tests = tests} {p} {q} s t x counts is w one =
    let step = (item_taken_by_test m.steps tests (subst (λ (z : Answered _ _). TakesIf m.steps tests (peekable_parts s) p z (peekable_parts t) q) is w)).0 in
    let kept = (lawful_peekable l).kept_by_draw (peekable_parts s) (item x) (peekable_parts t) counts.0 step in
    let fewer = kept.answer.1 counts.1.0 counts.1.1 in
    (kept.can_next, (fewer.0, fewer.1, (let below = fewer.2 in let up_to = counts.1.2 in omega (arith, below, up_to, one))))

-- ---- what it makes of a list

module _ {A E B : Type 0} (p : A → Result Bool E) (h : B → A → Result B E) where
  -- the value that it comes to from b on, and what it leaves
  abbrev pub folded_if_and_rest : B → List (Result A E) → Result B E × List (Result A E)
  folded_if_and_rest b l = (folded_if p h b l, rest_fold_if p h b l)

  -- the same at an item, by the answers of the test and of h
  abbrev at_item : Result Bool E → Result B E → B → A → List (Result A E) → Result B E × List (Result A E)
  at_item w v b x l = (by_test w (on_value v (λ c. folded_if p h c l)) (Ok b) (λ e. Err e), by_test w (rest_failed v l (λ c. rest_fold_if p h c l)) (Ok x ∷ l) (λ e. l))

  folded_if_and_rest_of_accepted_item : (b c : B) (x : A) (l : List (Result A E)) → p x ≡ Ok true → h b x ≡ Ok c → folded_if_and_rest b (Ok x ∷ l) ≡ folded_if_and_rest c l
  unfolding folded_if rest_fold_if
  folded_if_and_rest_of_accepted_item b c x l accepted is = ap (λ w. at_item w (h b x) b x l) accepted ∙ ap (λ v. at_item (Ok true) v b x l) is

  folded_if_and_rest_of_failing_call : (b : B) (e : E) (x : A) (l : List (Result A E)) → p x ≡ Ok true → h b x ≡ Err e → folded_if_and_rest b (Ok x ∷ l) ≡ (Err e, l)
  unfolding folded_if rest_fold_if
  folded_if_and_rest_of_failing_call b e x l accepted is = ap (λ w. at_item w (h b x) b x l) accepted ∙ ap (λ v. at_item (Ok true) v b x l) is

  folded_if_and_rest_of_refused : (b : B) (x : A) (l : List (Result A E)) → p x ≡ Ok false → folded_if_and_rest b (Ok x ∷ l) ≡ (Ok b, Ok x ∷ l)
  unfolding folded_if rest_fold_if
  folded_if_and_rest_of_refused b x l refused = ap (λ w. at_item w (h b x) b x l) refused

  folded_if_and_rest_of_failing_test : (b : B) (e : E) (x : A) (l : List (Result A E)) → p x ≡ Err e → folded_if_and_rest b (Ok x ∷ l) ≡ (Err e, l)
  unfolding folded_if rest_fold_if
  folded_if_and_rest_of_failing_test b e x l lost = ap (λ w. at_item w (h b x) b x l) lost

  folded_if_and_rest_of_failure : (b : B) (e : E) (l : List (Result A E)) → folded_if_and_rest b (Err e ∷ l) ≡ (Err e, l)
  unfolding folded_if rest_fold_if
  folded_if_and_rest_of_failure b e l = refl

  folded_if_and_rest_of_nil : (b : B) → folded_if_and_rest b [] ≡ (Ok b, [])
  unfolding folded_if rest_fold_if
  folded_if_and_rest_of_nil b = refl

  -- ---- the same by the words of `take_while`, `fold` and `skip_while`

  by_test_is_folded_of_cons_while : (w : Result Bool E) (v : Result B E) (q : B → Result B E) (b : B) (x : A) (l : List (Result A E)) → ((c : B) → q c ≡ folded (λ e. e) h c l) → v ≡ h b x → by_test w (on_value v q) (Ok b) (λ e. Err e) ≡ folded (λ e. e) h b (cons_while x w l)
  unfolding folded
  by_test_is_folded_of_cons_while (Ok true) (Ok c) q b x l same is = same c ∙ ap (λ z. on_value z (λ c. folded (λ e. e) h c l)) is
  by_test_is_folded_of_cons_while (Ok true) (Err e) q b x l same is = ap (λ z. on_value z (λ c. folded (λ e. e) h c l)) is
  by_test_is_folded_of_cons_while (Ok false) v q b x l same is = refl
  by_test_is_folded_of_cons_while (Err e) v q b x l same is = refl

  pub folded_if_is_folded_of_taken_while : (b : B) (l : List (Result A E)) → folded_if p h b l ≡ folded (λ e. e) h b (taken_while p l)
  unfolding folded_if folded taken_while
  folded_if_is_folded_of_taken_while b [] = refl
  folded_if_is_folded_of_taken_while b (Ok x ∷ l) = by_test_is_folded_of_cons_while (p x) (h b x) (λ c. folded_if p h c l) b x (taken_while p l) (λ c. folded_if_is_folded_of_taken_while c l) refl
  folded_if_is_folded_of_taken_while b (Err e ∷ l) = refl

  by_test_rest_is_cons_from_skipped : (w : Result Bool E) (v : Result B E) (b c : B) (x : A) (l : List (Result A E)) → ((d : B) → folded_if p h d l ≡ Ok c → rest_fold_if p h d l ≡ skipped_while p l) → by_test w (on_value v (λ d. folded_if p h d l)) (Ok b) (λ e. Err e) ≡ Ok c → by_test w (rest_failed v l (λ d. rest_fold_if p h d l)) (Ok x ∷ l) (λ e. l) ≡ cons_from x w l (skipped_while p l)
  by_test_rest_is_cons_from_skipped (Ok true) (Ok d) b c x l same is = same d is
  by_test_rest_is_cons_from_skipped (Ok true) (Err e) b c x l same is = absurd cc
  by_test_rest_is_cons_from_skipped (Ok false) v b c x l same is = refl
  by_test_rest_is_cons_from_skipped (Err e) v b c x l same is = absurd cc

  pub rest_fold_if_is_skipped_while : (b c : B) (l : List (Result A E)) → folded_if p h b l ≡ Ok c → rest_fold_if p h b l ≡ skipped_while p l
  unfolding folded_if rest_fold_if skipped_while
  rest_fold_if_is_skipped_while b c [] is = refl
  rest_fold_if_is_skipped_while b c (Ok x ∷ l) is = by_test_rest_is_cons_from_skipped (p x) (h b x) b c x l (λ d at. rest_fold_if_is_skipped_while d c l at) is
  rest_fold_if_is_skipped_while b c (Err e ∷ l) is = absurd cc

-- what is listed of a `Peekable` is listed of its parts
always_gives_of_parts : {S A E : Type 0} (steps : S → Answered A E → S → Type 0) (l : List (Result A E)) (s : Peekable S A E) → AlwaysGives (λ u r v. peekable_step steps (peekable_parts u) r (peekable_parts v)) s l → AlwaysGives (peekable_step steps) (peekable_parts s) l
always_gives_of_parts steps [] s a = λ r q step. a r record { it = q.0; held = q.1 } step
always_gives_of_parts steps (y ∷ l) s a = λ r q step. let d = a r record { it = q.0; held = q.1 } step in (d.0, always_gives_of_parts steps l record { it = q.0; held = q.1 } d.1)

module _ {S A E P F B : Type 0} (steps : S → Answered A E → S → Type 0) (tests : P → A → Result Bool E → P → Type 0) (call : F → B → A → Result B E → F → Type 0) (p0 : P) (f0 : F) (p : A → Result Bool E) (h : B → A → Result B E) (acts : Acts tests p0 p) (folds : FoldsAs call f0 p h) where
  abbrev GivesHere : S × Option (Option A) → List (Result A E) → Type 0
  GivesHere = AlwaysGives (peekable_step steps)

  -- after accepted items: what is listed there, the closures as they were, and the same value and rest
  abbrev AcceptedItemsLeave : B → List (Result A E) → S × Option (Option A) → B → P × F → Type 0
  AcceptedItemsLeave b l t v w = (rest : List (Result A E)) × GivesHere t rest × (w ≡ (p0, f0)) × (folded_if_and_rest p h b l ≡ folded_if_and_rest p h v rest)

  accepted_items_leave_rest : (items : List A) (l : List (Result A E)) (s t : S × Option (Option A)) (b v : B) (w : P × F) → GivesHere s l → Yields (peekable_step steps) s items t → FoldsTo {P = B × (P × F)} (went_on_with (AcceptedCall tests call)) (b, (p0, f0)) items (v, w) → AcceptedItemsLeave b l t v w
  accepted_items_leave_rest [] l s t b v w a ran went = (l, subst (λ (u : S × Option (Option A)). GivesHere u l) ran a, sym (ap (λ z. z.1) went), ap (λ z. folded_if_and_rest p h z.0 l) went)
  accepted_items_leave_rest (x ∷ items) [] s t b v w a ran went = absurd (let d = a (item x) ran.0 ran.1 in cc)
  accepted_items_leave_rest (x ∷ items) (Err e ∷ l) s t b v w a ran went = absurd (let d = (a (item x) ran.0 ran.1).0 in cc)
  accepted_items_leave_rest (x ∷ items) (Ok y ∷ l) s t b v w a ran went =
      let k = a (item x) ran.0 ran.1 in
      let same : x ≡ y = (let e = k.0 in cc) in
      let c : B = (went.0).0 in
      let tested = acts x (Ok true) ((went.0).1).0 (went.1).0 in
      let called = folds b x (Ok c) ((went.0).1).1 (sym tested.1) (went.1).1 in
      let states : (went.0).1 ≡ (p0, f0) = ap₂ (λ (q : P) (g : F). (q, g)) tested.0 called.0 in
      let others : FoldsTo {P = B × (P × F)} (went_on_with (AcceptedCall tests call)) (c, (p0, f0)) items (v, w) = subst (λ (z : P × F). FoldsTo {P = B × (P × F)} (went_on_with (AcceptedCall tests call)) (c, z) items (v, w)) states went.2 in
      let d = accepted_items_leave_rest items l ran.0 t c v w k.1 ran.2 others in
      (d.0, d.1, d.2, ap (λ (z : A). folded_if_and_rest p h b (Ok z ∷ l)) (sym same) ∙ folded_if_and_rest_of_accepted_item p h b c x l (sym tested.1) (sym called.1) ∙ d.3)

  -- what is returned and left from the value v on
  abbrev ReturnsFrom : B → List (Result A E) → Result B E → S × Option (Option A) → Type 0
  ReturnsFrom v l r t = (rest : List (Result A E)) × GivesHere t rest × (folded_if_and_rest p h v l ≡ (r, rest))

  returns_from_equal : (v : B) (l : List (Result A E)) (r : Result B E) {t u : S × Option (Option A)} → t ≡ u → ReturnsFrom v l r u → ReturnsFrom v l r t
  returns_from_equal v l r is w = subst (λ (z : S × Option (Option A)). ReturnsFrom v l r z) (sym is) w

  result_is_failure_of_last_failure : (e : E) (v : B) (r : Result B E) (last : Answered A E) → last ≡ Err e → FoldExit call (λ e d. d ≡ e) v f0 last r → r ≡ Err e
  result_is_failure_of_last_failure e v r last is exit = let w = subst (λ (z : Answered A E). FoldExit call (λ e d. d ≡ e) v f0 z r) is exit in w.2 ∙ ap (λ (z : E). Err z) w.1

  result_is_ok_of_last_end : (v : B) (r : Result B E) (last : Answered A E) → last ≡ end → FoldExit call (λ e d. d ≡ e) v f0 last r → r ≡ Ok v
  result_is_ok_of_last_end v r last is exit = subst (λ (z : Answered A E). FoldExit call (λ e d. d ≡ e) v f0 z r) is exit

  -- a look at the first of the list leaves the list
  gives_looked : (y : Result A E) (l : List (Result A E)) (o : Option A) (s u : S × Option (Option A)) → Ok o ≡ result_answer y → GivesHere s (y ∷ l) → Peeks steps s (Ok o) u → GivesHere u (y ∷ l)
  gives_looked y l o s u is a peeks = λ r t step. a r t (drawn_after_look steps s u t o r peeks step).1

  at_failure : (e : E) (l : List (Result A E)) (s u : S × Option (Option A)) (v : B) (r : Result B E) → GivesHere s l → Peeks steps s (Err e) u → r ≡ Err e → ReturnsFrom v l r u
  at_failure e [] s u v r a peeks is = absurd (let d = a (Err e) u (step_fails_where_look_fails steps s u e peeks) in cc)
  at_failure e (Ok y ∷ l) s u v r a peeks is = absurd (let d = (a (Err e) u (step_fails_where_look_fails steps s u e peeks)).0 in cc)
  at_failure e (Err d ∷ l) s u v r a peeks is = let k = a (Err e) u (step_fails_where_look_fails steps s u e peeks) in let same : d ≡ e = (let w = k.0 in cc) in
      (l, k.1, folded_if_and_rest_of_failure p h v d l ∙ ap (λ (z : Result B E). (z, l)) (ap (λ (z : E). Err z) same ∙ sym is))

  at_end : (l : List (Result A E)) (s u : S × Option (Option A)) (v : B) (r : Result B E) → GivesHere s l → Peeks steps s (Ok None) u → r ≡ Ok v → ReturnsFrom v l r u
  at_end [] s u v r a peeks is = ([], (λ q t step. a q t (drawn_after_look steps s u t None q peeks step).1), folded_if_and_rest_of_nil p h v ∙ ap (λ (z : Result B E). (z, [])) (sym is))
  at_end (Ok y ∷ l) s u v r a peeks is = absurd (let d = (a end (u.0, None) (looked_at_is_next_answer steps s u None peeks).0).0 in cc)
  at_end (Err y ∷ l) s u v r a peeks is = absurd (let d = (a end (u.0, None) (looked_at_is_next_answer steps s u None peeks).0).0 in cc)

  -- at an item, by what the test returned on it
  returns_from_tested_item : (w : Result Bool E) (x : A) (l : List (Result A E)) (s u t : S × Option (Option A)) (v : B) (last : Answered A E) (r : Result B E) → w ≡ p x → GivesHere s (Ok x ∷ l) → Peeks steps s (item x) u → TakenByTest steps x w u last t → FoldExit call (λ e d. d ≡ e) v f0 last r → ReturnsFrom v (Ok x ∷ l) r t
  returns_from_tested_item (Ok true) x l s u t v last r is a peeks taken exit =
      let w = subst (λ (z : Answered A E). FoldExit call (λ e d. d ≡ e) v f0 z r) taken.0 exit in
      let c = folds v x (Err w.1) w.0 (sym is) w.2 in
      (l, (a (item x) t (drawn_after_look steps s u t (Some x) (item x) peeks taken.1).1).1, folded_if_and_rest_of_failing_call p h v w.1 x l (sym is) (sym c.1) ∙ ap (λ (z : Result B E). (z, l)) (sym w.3))
  returns_from_tested_item (Ok false) x l s u t v last r is a peeks taken exit = returns_from_equal v (Ok x ∷ l) r taken.1 (Ok x ∷ l, gives_looked (Ok x) l (Some x) s u refl a peeks, folded_if_and_rest_of_refused p h v x l (sym is) ∙ ap (λ (z : Result B E). (z, Ok x ∷ l)) (sym (result_is_ok_of_last_end v r last taken.0 exit)))
  returns_from_tested_item (Err e) x l s u t v last r is a peeks taken exit =
      (l, (a (item x) t (drawn_after_look steps s u t (Some x) (item x) peeks taken.1).1).1, folded_if_and_rest_of_failing_test p h v e x l (sym is) ∙ ap (λ (z : Result B E). (z, l)) (sym (result_is_failure_of_last_failure e v r last taken.0 exit)))

  returns_from_peeked_item : (x : A) (l : List (Result A E)) (s u t : S × Option (Option A)) (v : B) (q : P) (last : Answered A E) (r : Result B E) → GivesHere s l → Peeks steps s (item x) u → TakenAfterLook steps tests (item x) u p0 last t q → FoldExit call (λ e d. d ≡ e) v f0 last r → ReturnsFrom v l r t
  returns_from_peeked_item x [] s u t v q last r a peeks taken exit = absurd (let d = a (item x) (u.0, None) (looked_at_is_next_answer steps s u (Some x) peeks).0 in cc)
  returns_from_peeked_item x (Err y ∷ l) s u t v q last r a peeks taken exit = absurd (let d = (a (item x) (u.0, None) (looked_at_is_next_answer steps s u (Some x) peeks).0).0 in cc)
  returns_from_peeked_item x (Ok y ∷ l) s u t v q last r a peeks taken exit =
      let same : x ≡ y = (let d = (a (item x) (u.0, None) (looked_at_is_next_answer steps s u (Some x) peeks).0).0 in cc) in
      subst (λ (z : A). ReturnsFrom v (Ok z ∷ l) r t) same (returns_from_tested_item taken.0 x l s u t v last r (acts x taken.0 q taken.1).1 (subst (λ (z : A). GivesHere s (Ok z ∷ l)) (sym same) a) peeks taken.2 exit)

  at_last : (seen : Answered A E) (l : List (Result A E)) (s u t : S × Option (Option A)) (v : B) (q : P) (last : Answered A E) (r : Result B E) → GivesHere s l → Peeks steps s seen u → TakenAfterLook steps tests seen u p0 last t q → FoldExit call (λ e d. d ≡ e) v f0 last r → ReturnsFrom v l r t
  at_last (Ok (Some x)) l s u t v q last r a peeks taken exit = returns_from_peeked_item x l s u t v q last r a peeks taken exit
  at_last (Ok None) l s u t v q last r a peeks taken exit = returns_from_equal v l r taken.1 (at_end l s u v r a peeks (result_is_ok_of_last_end v r last taken.0 exit))
  at_last (Err e) l s u t v q last r a peeks taken exit = returns_from_equal v l r taken.1 (at_failure e l s u v r a peeks (result_is_failure_of_last_failure e v r last taken.0 exit))

  -- the whole run over a list
  returns_from_fold_if : (l : List (Result A E)) (s t : S × Option (Option A)) (b : B) (r : Result B E) → GivesHere s l → FoldIfDrains steps tests call s b p0 f0 r t → ReturnsFrom b l r t
  returns_from_fold_if l s t b r a w =
      let d = accepted_items_leave_rest w.items l s w.between b w.value (w.test, w.closure) a w.drawn w.went in
      let here : TakesIf steps tests w.between p0 w.last t w.tested = subst (λ (z : P). TakesIf steps tests w.between z w.last t w.tested) (ap (λ z. z.0) d.2) w.takes in
      let exit : FoldExit call (λ e d. d ≡ e) w.value f0 w.last r = subst (λ (z : F). FoldExit call (λ e d. d ≡ e) w.value z w.last r) (ap (λ z. z.1) d.2) w.exit in
      let k = at_last here.seen d.0 w.between here.looked t w.value w.tested w.last r d.1 here.peeks here.taken exit in
      (k.0, k.1, d.3 ∙ k.2)

  pub folded_if_of_lists : {s t : Peekable S A E} {b : B} {r : Result B E} (l : List (Result A E)) → FoldIfDrains steps tests call (peekable_parts s) b p0 f0 r (peekable_parts t) → Lists (λ u r v. peekable_step steps (peekable_parts u) r (peekable_parts v)) s l → r ≡ folded_if p h b l
  folded_if_of_lists {s} {t} {b} {r} l w i = let k = returns_from_fold_if l (peekable_parts s) (peekable_parts t) b r (always_gives_of_parts steps l s i.runs) w in sym (ap (λ z. z.0) k.2)

  pub lists_rest_fold_if : {s t : Peekable S A E} {b : B} {r : Result B E} (l : List (Result A E)) → FoldIfDrains steps tests call (peekable_parts s) b p0 f0 r (peekable_parts t) → Lists (λ u r v. peekable_step steps (peekable_parts u) r (peekable_parts v)) s l → Lists (λ u r v. peekable_step steps (peekable_parts u) r (peekable_parts v)) t (rest_fold_if p h b l)
  lists_rest_fold_if {s} {t} {b} {r} l w i = let k = returns_from_fold_if l (peekable_parts s) (peekable_parts t) b r (always_gives_of_parts steps l s i.runs) w in lists_seen peekable_parts (peekable_step steps) t refl (sym (ap (λ z. z.1) k.2)) k.1
