-- Where `Take` and `TakeWhile` end for good.
use Rattle.std.specs.Prelude.{◌≡◌, ℕ, zero, suc, ◌+◌, ◌≤◌, ◌<◌, ◌⊎◌, Bool, true, false, List, [], ◌∷◌, length, slice_index_or, Some, None, Result, Ok, Err}
use Rattle.std.specs.Borrow.{Bor}
use Rattle.std.specs.Fn.{Mut}
use Rattle.std.specs.List.{IsAmong}
use Rattle.std.proofs.Common.{refl, sym, ap, subst, inl, inr, arith, ◌∙◌}
use Rattle.fallible_contract.specs.BothEnds.{items_listed}
use Rattle.fallible_contract.specs.Closing.{closing_step}
use Rattle.fallible_contract.specs.Closures.{Calls, call_by_reference}
use Rattle.fallible_contract.specs.Contract.{Contract, parts_as}
use Rattle.fallible_contract.specs.Lists.{Acts, AlwaysGives, EndsForGood, GivesForGood, Lists, ListsForGood}
use Rattle.fallible_contract.specs.Passing.{Place, asked, failure_at, end_at, source_answer}
use Rattle.fallible_contract.specs.Traces.{Answered, Run, item, failure, end, items_in}
use Rattle.fallible_contract.proofs.Lemmas.Lists.ForGood.{always_gives_of_gives_for_good, gives_for_good_seen, lists_for_good_seen, run_at_view}
use Rattle.fallible_core.specs.Cutting.Take.{taken, take_contract, take_parts, take_step, take_to_take}
use Rattle.fallible_core.specs.Cutting.TakeWhile.{cons_while, is_refused, place_drawn, taken_answer, taken_while, take_while_contract, take_while_parts, take_while_refused}
use Rattle.fallible_core.specs.declared.cutting.take.Take.{Take}
use Rattle.fallible_core.specs.declared.cutting.take_while.TakeWhile.{TakeWhile}

module _ {S A E : Type 0} (steps : S → Answered A E → S → Type 0) where
  -- where P holds each draw returns an end, and P holds then
  abbrev EndsAndKeeps : (S → Type 0) → Type 0
  EndsAndKeeps P = (s t : S) (r : Answered A E) → P s → steps s r t → (r ≡ end) × P t

  ends_after_run_where_kept : (P : S → Type 0) → EndsAndKeeps P → (trace : List (Answered A E)) (s t u : S) (r : Answered A E) → P s → Run steps s trace t → steps t r u → r ≡ end
  ends_after_run_where_kept P keeps [] s t u r is ran w = (keeps s u r is (subst (λ (q : S). steps q r u) (sym ran) w)).0
  ends_after_run_where_kept P keeps (y ∷ trace) s t u r is ran w = ends_after_run_where_kept P keeps trace ran.0 t u r (keeps s ran.0 y is ran.1).1 ran.2 w

  ends_for_good_where_kept : (P : S → Type 0) → EndsAndKeeps P → (s : S) → P s → EndsForGood steps s
  ends_for_good_where_kept P keeps s is = record { each = λ trace t u r ran w. ends_after_run_where_kept P keeps trace s t u r is ran w }

  -- it ends for good where each draw returns an end, and leaves what does
  ends_for_good_by_draw : (s : S) → ((r : Answered A E) (t : S) → steps s r t → (r ≡ end) × EndsForGood steps t) → EndsForGood steps s
  ends_for_good_by_draw s drawn = record { each = λ trace t u r ran w. ends_after_run trace t u r ran w }
    where
      ends_after_run : (trace : List (Answered A E)) (t u : S) (r : Answered A E) → Run steps s trace t → steps t r u → r ≡ end
      ends_after_run [] t u r ran w = (drawn r u (subst (λ (q : S). steps q r u) (sym ran) w)).0
      ends_after_run (y ∷ trace) t u r ran w = (drawn y ran.0 ran.1).1.each trace t u r ran.2 w

  -- what ends for good does so after a draw
  ends_for_good_after_draw : EndsAndKeeps (EndsForGood steps)
  ends_for_good_after_draw s t r i w = (i.each [] s t r refl w, record { each = λ trace u v a ran k. i.each (r ∷ trace) u v a (t, w, ran) k })

-- ---- `Take`

module _ {S A E : Type 0} (steps : S → Answered A E → S → Type 0) where
  abbrev TakeStep : S × ℕ → Answered A E → S × ℕ → Type 0
  TakeStep = take_step steps

  none_to_take_is_kept : EndsAndKeeps TakeStep (λ p. p.1 ≡ 0)
  none_to_take_is_kept (s, zero) (t, k) r is w = (w.0, w.2)
  none_to_take_is_kept (s, suc n) t r is w = absurd (omega (arith, is))

  ends_for_good_where_none_to_take : (p : S × ℕ) → p.1 ≡ 0 → EndsForGood TakeStep p
  ends_for_good_where_none_to_take = ends_for_good_where_kept TakeStep (λ p. p.1 ≡ 0) none_to_take_is_kept

  ended_source_is_kept : EndsAndKeeps TakeStep (λ p. EndsForGood steps p.0)
  ended_source_is_kept (s, zero) (t, k) r i w = (w.0, subst (λ (q : S). EndsForGood steps q) (sym w.1) i)
  ended_source_is_kept (s, suc n) (t, k) r i w = ends_for_good_after_draw steps s t r i w.0

  -- each item that was drawn is one less to take
  to_take_after_draw : (p q : S × ℕ) (r : Answered A E) → TakeStep p r q → q.1 + items_in (r ∷ []) ≡ p.1
  to_take_after_draw (s, zero) (t, k) r w = rw (w.0, w.2) (omega arith)
  to_take_after_draw (s, suc n) (t, k) r w = w.1

  items_in_first_and_rest : (r : Answered A E) (rest : List (Answered A E)) → items_in (r ∷ rest) ≡ items_in (r ∷ []) + items_in rest
  items_in_first_and_rest (Ok (Some x)) rest = omega arith
  items_in_first_and_rest (Ok None) rest = omega arith
  items_in_first_and_rest (Err e) rest = omega arith

  to_take_after_run : (trace : List (Answered A E)) (p q : S × ℕ) → Run TakeStep p trace q → q.1 + items_in trace ≡ p.1
  to_take_after_run [] p q ran = let same : p.1 ≡ q.1 = ap (λ (u : S × ℕ). u.1) ran in omega (arith, same)
  to_take_after_run (r ∷ rest) p q ran = omega (arith, items_in_first_and_rest r rest, to_take_after_draw p ran.0 r ran.1, to_take_after_run rest ran.0 q ran.2)

  ends_for_good_after_nth : (trace : List (Answered A E)) (p q : S × ℕ) → Run TakeStep p trace q → p.1 ≤ items_in trace → EndsForGood TakeStep q
  ends_for_good_after_nth trace p q ran all = ends_for_good_where_none_to_take q (let counts = to_take_after_run trace p q ran in omega (arith, counts, all))

  -- the list has n items, or the source lists it for good
  abbrev EndsTaken : ℕ → S → List (Result A E) → Type 0
  EndsTaken n s l = (n ≤ length (items_listed l)) ⊎ GivesForGood steps s l

  gives_for_good_taken : (l : List (Result A E)) (s : S) (n : ℕ) → AlwaysGives steps s l → EndsTaken n s l → GivesForGood TakeStep (s, n) (taken n l)
  unfolding taken
  gives_for_good_taken [] s zero a or = ends_for_good_where_none_to_take (s, 0) refl
  gives_for_good_taken (y ∷ l) s zero a or = ends_for_good_where_none_to_take (s, 0) refl
  gives_for_good_taken [] s (suc n) a (inl few) = absurd (let none : length (items_listed {A = A} {E = E} []) ≡ 0 = refl in omega (arith, few, none))
  gives_for_good_taken [] s (suc n) a (inr i) = ends_for_good_where_kept TakeStep (λ p. EndsForGood steps p.0) ended_source_is_kept (s, suc n) i
  gives_for_good_taken (Ok x ∷ l) s (suc n) a or = λ r t w. let d = a r t.0 w.0 in
      let one : items_in (r ∷ []) ≡ 1 = ap (λ (q : Answered A E). items_in (q ∷ [])) d.0 in (
        d.0,
        subst (λ (k : ℕ). GivesForGood TakeStep (t.0, k) (taken n l)) (omega (arith, w.1, one))
            (gives_for_good_taken l t.0 n d.1 (elim or [ inl few ↦ inl (let more : length (items_listed (Ok x ∷ l)) ≡ suc (length (items_listed l)) = refl in omega (arith, few, more)) | inr i ↦ inr (i r t.0 w.0).1 ])),
      )
  gives_for_good_taken (Err e ∷ l) s (suc n) a or = λ r t w. let d = a r t.0 w.0 in
      let none : items_in (r ∷ []) ≡ 0 = ap (λ (q : Answered A E). items_in (q ∷ [])) d.0 in (
        d.0,
        subst (λ (k : ℕ). GivesForGood TakeStep (t.0, k) (taken (suc n) l)) (omega (arith, w.1, none))
            (gives_for_good_taken l t.0 (suc n) d.1 (elim or [ inl few ↦ inl few | inr i ↦ inr (i r t.0 w.0).1 ])),
      )

module _ {S A E : Type 0} (m : Contract S A E) (s : Take S) where
  abbrev TakeSteps : Take S → Answered A E → Take S → Type 0
  TakeSteps = (parts_as take_parts (take_contract m)).steps

  pub ends_for_good_after_nth_taken : (trace : List (Answered A E)) (t : Take S) → Run TakeSteps s trace t → take_to_take s ≤ items_in trace → EndsForGood TakeSteps t
  ends_for_good_after_nth_taken trace t ran all = gives_for_good_seen take_parts (take_step m.steps) [] t (ends_for_good_after_nth m.steps trace (take_parts s) (take_parts t) (run_at_view take_parts (take_step m.steps) trace s t ran) all)

  module _ (it : S) (n : ℕ) (l : List (Result A E)) (parts : take_parts s ≡ (it, n)) where
    pub lists_for_good_taken : Lists m.steps it l → n ≤ length (items_listed l) → ListsForGood TakeSteps s (taken n l)
    lists_for_good_taken i few = lists_for_good_seen take_parts (take_step m.steps) s parts refl (gives_for_good_taken m.steps l it n i.runs (inl few))

    pub lists_for_good_taken_of_fused : ListsForGood m.steps it l → ListsForGood TakeSteps s (taken n l)
    lists_for_good_taken_of_fused i = lists_for_good_seen take_parts (take_step m.steps) s parts refl (gives_for_good_taken m.steps l it n (always_gives_of_gives_for_good m.steps l it i.runs) (inr i.runs))

-- ---- `TakeWhile`

module _ {S F X E : Type 0} (steps : S → Answered X E → S → Type 0) (call : F → X → Result Bool E → F → Type 0) where
  abbrev WhileStep : (S × F) × Bool → Answered X E → (S × F) × Bool → Type 0
  WhileStep = closing_step (place_drawn steps call) taken_answer is_refused

  refused_is_kept : EndsAndKeeps WhileStep (λ p. p.1 ≡ true)
  refused_is_kept (s, true) (t, b) r is w = (w.0, w.2)
  refused_is_kept (s, false) t r is w = absurd cc

  ends_for_good_where_refused : (p : (S × F) × Bool) → p.1 ≡ true → EndsForGood WhileStep p
  ends_for_good_where_refused = ends_for_good_where_kept WhileStep (λ p. p.1 ≡ true) refused_is_kept

  taken_answer_is_end_of_source_end : (z : Place X (Result Bool E) E) → source_answer z ≡ end → taken_answer z ≡ end
  taken_answer_is_end_of_source_end (asked x v) is = absurd cc
  taken_answer_is_end_of_source_end (failure_at e) is = absurd cc
  taken_answer_is_end_of_source_end end_at is = refl

  -- an item was rejected, or the source ends for good
  abbrev IsOver : (S × F) × Bool → Type 0
  IsOver p = (p.1 ≡ true) ⊎ EndsForGood steps (p.0).0

  over_is_kept : EndsAndKeeps WhileStep IsOver
  over_is_kept (s, true) (t, b) r is w = (w.0, inl w.2)
  over_is_kept (s, false) (t, b) r (inl is) w = absurd cc
  over_is_kept (s, false) (t, b) r (inr i) w = let d = ends_for_good_after_draw steps s.0 t.0 (source_answer w.0) i w.1.0 in (w.2 ∙ taken_answer_is_end_of_source_end w.0 d.0, inr d.1)

  module _ (f : F) (h : X → Result Bool E) (acts : Acts call f h) where
    abbrev GivesWhile : S → List (Result X E) → Type 0
    GivesWhile s l = GivesForGood WhileStep ((s, f), false) l

    call_at_place : (p q : F) (x : X) (v : Result Bool E) → Calls call p ((x, v) ∷ []) q → call p x v q
    call_at_place p q x v called = subst (λ (k : F). call p x v k) called.2 called.1

    -- one draw, where an item is the first of the source's list
    place_of_item : (z : Place X (Result Bool E) E) (x : X) (l : List (Result X E)) (s t : S) (g : F) → AlwaysGives steps s (Ok x ∷ l) → place_drawn steps call (s, f) z (t, g) → (z ≡ asked x (h x)) × (g ≡ f) × AlwaysGives steps t l
    place_of_item (asked y v) x l s t g a drawn =
        let d = a (item y) t drawn.0 in
        let same : y ≡ x = (let k = d.0 in cc) in
        let c = acts y v g (call_at_place f g y v drawn.1) in
        (ap (λ (k : X). asked k v) same ∙ ap (λ (k : Result Bool E). asked x k) (c.1 ∙ ap h same), c.0, d.1)
    place_of_item (failure_at e) x l s t g a drawn = absurd (let k = (a (failure e) t drawn.0).0 in cc)
    place_of_item end_at x l s t g a drawn = absurd (let k = (a end t drawn.0).0 in cc)

    -- one draw, where a failure is
    place_of_failure : (z : Place X (Result Bool E) E) (e : E) (l : List (Result X E)) (s t : S) (g : F) → AlwaysGives steps s (Err e ∷ l) → place_drawn steps call (s, f) z (t, g) → (z ≡ failure_at e) × (g ≡ f) × AlwaysGives steps t l
    place_of_failure (asked y v) e l s t g a drawn = absurd (let k = (a (item y) t drawn.0).0 in cc)
    place_of_failure (failure_at c) e l s t g a drawn = let d = a (failure c) t drawn.0 in ((let k = d.0 in cc), sym drawn.1, d.1)
    place_of_failure end_at e l s t g a drawn = absurd (let k = (a end t drawn.0).0 in cc)

    -- an item of the list is rejected
    abbrev Rejects : List (Result X E) → Type 0
    Rejects [] = ⊥
    Rejects (Ok x ∷ l) = (h x ≡ Ok false) ⊎ Rejects l
    Rejects (Err e ∷ l) = Rejects l

    rejects_at : (l : List (Result X E)) (i : ℕ) (x : X) → i < length (items_listed l) → x ≡ slice_index_or (items_listed l) i x → h x ≡ Ok false → Rejects l
    rejects_at [] i x within at is = omega (arith, within)
    rejects_at (Ok y ∷ l) zero x within at is = inl (sym (ap h at) ∙ is)
    rejects_at (Ok y ∷ l) (suc i) x within at is = inr (rejects_at l i x (omega (arith, within)) at is)
    rejects_at (Err e ∷ l) i x within at is = rejects_at l i x within at is

    -- an item of the list is rejected, or the source lists it for good
    abbrev EndsWhile : S → List (Result X E) → Type 0
    EndsWhile s l = Rejects l ⊎ GivesForGood steps s l

    -- one draw, by what the predicate returns for the first item
    draw_of_item : (x : X) (v : Result Bool E) (l : List (Result X E)) (s : S) (r : Answered X E) (q : (S × F) × Bool) → h x ≡ v → AlwaysGives steps s (Ok x ∷ l) → WhileStep ((s, f), false) r q → (r ≡ taken_answer (asked x v)) × (q.1 ≡ is_refused (asked x v)) × ((q.0).1 ≡ f) × steps s (item x) (q.0).0 × AlwaysGives steps (q.0).0 l
    draw_of_item x v l s r q is a w =
        let d = place_of_item w.0 x l s (q.0).0 (q.0).1 a w.1 in
        let place : w.0 ≡ asked x v = d.0 ∙ ap (λ (k : Result Bool E). asked x k) is in
        (w.2 ∙ ap taken_answer place, w.3 ∙ ap is_refused place, d.1, subst (λ (z : Place X (Result Bool E) E). steps s (source_answer z) (q.0).0) place w.1.0, d.2)

    ends_while_after_kept : (x : X) (l : List (Result X E)) (s t : S) → steps s (item x) t → ¬ (h x ≡ Ok false) → EndsWhile s (Ok x ∷ l) → EndsWhile t l
    ends_while_after_kept x l s t step kept (inl (inl is)) = absurd (kept is)
    ends_while_after_kept x l s t step kept (inl (inr later)) = inl later
    ends_while_after_kept x l s t step kept (inr i) = inr (i (item x) t step).1

    gives_for_good_where_unrefused : (q : (S × F) × Bool) (k : List (Result X E)) → q.1 ≡ false → (q.0).1 ≡ f → GivesWhile (q.0).0 k → GivesForGood WhileStep q k
    gives_for_good_where_unrefused q k still at i = subst (λ (b : Bool). GivesForGood WhileStep (q.0, b) k) (sym still) (subst (λ (g : F). GivesForGood WhileStep (((q.0).0, g), false) k) (sym at) i)

    gives_for_good_at_item : (x : X) (v : Result Bool E) (l k : List (Result X E)) (s : S) → h x ≡ v → AlwaysGives steps s (Ok x ∷ l) → EndsWhile s (Ok x ∷ l) → ((t : S) → AlwaysGives steps t l → EndsWhile t l → GivesWhile t k) → GivesWhile s (cons_while x v k)
    gives_for_good_at_item x (Ok true) l k s is a or next = λ r q w. let d = draw_of_item x (Ok true) l s r q is a w in (d.0, gives_for_good_where_unrefused q k d.1 d.2 (next (q.0).0 d.4 (ends_while_after_kept x l s (q.0).0 d.3 (λ no. let b = sym is ∙ no in cc) or)))
    gives_for_good_at_item x (Ok false) l k s is a or next = ends_for_good_by_draw WhileStep ((s, f), false) (λ r q w. let d = draw_of_item x (Ok false) l s r q is a w in (d.0, ends_for_good_where_refused q d.1))
    gives_for_good_at_item x (Err e) l k s is a or next = λ r q w. let d = draw_of_item x (Err e) l s r q is a w in (d.0, gives_for_good_where_unrefused q k d.1 d.2 (next (q.0).0 d.4 (ends_while_after_kept x l s (q.0).0 d.3 (λ no. let b = sym is ∙ no in cc) or)))

    gives_for_good_taken_while : (l : List (Result X E)) (s : S) → AlwaysGives steps s l → EndsWhile s l → GivesWhile s (taken_while h l)
    unfolding taken_while
    gives_for_good_taken_while [] s a (inl none) = absurd none
    gives_for_good_taken_while [] s a (inr i) = ends_for_good_where_kept WhileStep IsOver over_is_kept ((s, f), false) (inr i)
    gives_for_good_taken_while (Ok x ∷ l) s a or = gives_for_good_at_item x (h x) l (taken_while h l) s refl a or (λ t b i. gives_for_good_taken_while l t b i)
    gives_for_good_taken_while (Err e ∷ l) s a or = λ r q w. let d = place_of_failure w.0 e l s (q.0).0 (q.0).1 a w.1 in
        let step : steps s (failure e) (q.0).0 = subst (λ (z : Place X (Result Bool E) E). steps s (source_answer z) (q.0).0) d.0 w.1.0 in (
          w.2 ∙ ap taken_answer d.0,
          gives_for_good_where_unrefused q (taken_while h l) (w.3 ∙ ap is_refused d.0) d.1
              (gives_for_good_taken_while l (q.0).0 d.2 (elim or [ inl later ↦ inl later | inr i ↦ inr (i (failure e) (q.0).0 step).1 ])),
        )

module _ {S F X E : Type 0} (m : Contract S X E) (g : Mut F (Bor X × Unit {0}) (Result Bool E)) where
  abbrev TakeWhileSteps : TakeWhile S F → Answered X E → TakeWhile S F → Type 0
  TakeWhileSteps = (parts_as take_while_parts (take_while_contract m g)).steps

  pub ends_for_good_after_rejected : (t : TakeWhile S F) → take_while_refused t ≡ true → EndsForGood TakeWhileSteps t
  ends_for_good_after_rejected t is = gives_for_good_seen take_while_parts (take_while_contract m g).steps [] t (ends_for_good_where_refused m.steps (call_by_reference g) (take_while_parts t) is)

  module _ (s : TakeWhile S F) (it : S) (f : F) (h : X → Result Bool E) (l : List (Result X E)) (parts : take_while_parts s ≡ ((it, f), false)) (acts : Acts (call_by_reference g) f h) where
    pub lists_for_good_taken_while : (x : X) → Lists m.steps it l → IsAmong (items_listed l) x → h x ≡ Ok false → ListsForGood TakeWhileSteps s (taken_while h l)
    lists_for_good_taken_while x i among is = lists_for_good_seen take_while_parts (take_while_contract m g).steps s parts refl (gives_for_good_taken_while m.steps (call_by_reference g) f h acts l it i.runs (inl (rejects_at m.steps (call_by_reference g) f h acts l among.0 x among.1.0 among.1.1 is)))

    pub lists_for_good_taken_while_of_fused : ListsForGood m.steps it l → ListsForGood TakeWhileSteps s (taken_while h l)
    lists_for_good_taken_while_of_fused i = lists_for_good_seen take_while_parts (take_while_contract m g).steps s parts refl (gives_for_good_taken_while m.steps (call_by_reference g) f h acts l it (always_gives_of_gives_for_good m.steps l it i.runs) (inr i.runs))
