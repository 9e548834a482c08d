-- The runs of `PeekingTakeWhile` are its definition, over all that its source returns; what looks ahead; and its contract is lawful where the source's is.
use Rattle.std.specs.Prelude.{◌≡◌, Bool, true, false, List, [], ◌∷◌, map, Option, Result, Some, Ok, Err, ◌↔◌, None, ◌≤◌, ℕ, length}
use Rattle.std.specs.Borrow.{Bor, MutBor}
use Rattle.std.specs.Fn.{Mut}
use Rattle.std.specs.List.{cons_option, filter_map}
use Rattle.std.proofs.Common.{refl, sym, ap, ap₂, subst, ◌∙◌, arith, inl, inr}
use Rattle.fallible_iterator.specs.Borrowed.{borrowed}
use Rattle.fallible_iterator.specs.Closures.{Calls, IsCallable, Reaches, call_by_reference, takes_by_reference}
use Rattle.fallible_iterator.specs.Contract.{Contract, KeptByDraw, Lawful, OnAnswer, lender_and, parts_as}
use Rattle.fallible_iterator.specs.Cutting.TakeWhile.{taken_answer, take_while_outcome}
use Rattle.fallible_iterator.specs.Hints.{upper_alone}
use Rattle.fallible_iterator.specs.Passing.{Place, asked, failure_at, end_at, source_answer, call_of, passing_contract}
use Rattle.fallible_iterator.specs.Peekable.{Peekable}
use Rattle.fallible_iterator.specs.Peeking.Peekable.{Peeks, peekable_contract, peekable_parts, peekable_step}
use Rattle.fallible_iterator.specs.Sound.{HintsHold, SoundWhere, above_as_source}
use Rattle.fallible_iterator.specs.Traces.{Answered, Run, item, end, failure, Yields}
use Rattle.fallible_iterator.specs.Laws.Closures.{is_callable_after, may_answer_where_reached_may_answer, reaches_by_call_first, reaches_reflexive}
use Rattle.fallible_iterator.specs.Laws.Cutting.TakeWhile.{calls_cons, calls_first_and_rest}
use Rattle.fallible_iterator.specs.Laws.Hints.Drawn.{ItemsOfItems, as_sound_upper_alone_of_source}
use Rattle.fallible_iterator.specs.Laws.Hints.Holding.{hold_above_as_source}
use Rattle.fallible_iterator.specs.Laws.LawForm.{IsTraced}
use Rattle.fallible_iterator.specs.Laws.Passing.{lawful_passing, pass_trace_item, pass_trace_refusal, pass_trace_end, pass_trace_failure}
use Rattle.fallible_iterator.specs.Laws.Peeking.Peekable.{lawful_peekable}
use Rattle.fallible_itertools_adapters.specs.PeekingTakeWhile.{LookedAgainAt, AskedAgain, DrawsAtPlace, LeftAt, LeavesSource, LooksAhead, PeekingTrace, let_go, peeking_step, borrowed_looks, peekable_looks, peeking_contract}

-- ---- The runs of `PeekingTakeWhile` are its definition, over all that its source returns

module _ {S F X E : Type 0} {m : Contract S X E} {looks : S → X → S → Type 0} (k : LooksAhead m looks) (call : F → X → Result Bool E → F → Type 0) where
  abbrev AheadState : Type 0
  AheadState = Place X (Result Bool E) E

  abbrev StepOfPeekingTakeWhile : S × F → Answered X E → S × F → Type 0
  StepOfPeekingTakeWhile = peeking_step m.steps looks call

  abbrev TraceOfPeekingTakeWhile : S × F → List (Answered X E) → S × F → Type 0
  TraceOfPeekingTakeWhile = PeekingTrace (Run m.steps) looks call

  -- one more place in front
  left_at_of_cons : (z : AheadState) (places : List AheadState) (u q : S) → (q ≡ u → LeavesSource looks z u q) → LeftAt looks places u q → LeftAt looks (z ∷ places) u q
  left_at_of_cons z [] u q b left = b left
  left_at_of_cons z (w ∷ places) u q b left = left

  asked_again_of_cons : (z : AheadState) (places : List AheadState) → ((w : AheadState) → LookedAgainAt z w) → AskedAgain places → AskedAgain (z ∷ places)
  asked_again_of_cons z [] b again = tt
  asked_again_of_cons z (w ∷ places) b again = (b w, again)

  -- the place takes its answer, and requires nothing of what comes after it
  abbrev Accepts : AheadState → Type 0
  Accepts z = (let_go z ≡ Some (source_answer z)) × ((u v : S) → v ≡ u → LeavesSource looks z u v) × ((w : AheadState) → LookedAgainAt z w)

  trace_of_accepted : (z : AheadState) (p mid : S) (f g : F) (q : S × F) (trace : List (Answered X E)) → Accepts z → m.steps p (source_answer z) mid → Calls call f (filter_map call_of (z ∷ [])) g → TraceOfPeekingTakeWhile (mid, g) trace q → TraceOfPeekingTakeWhile (p, f) (taken_answer z ∷ trace) q
  trace_of_accepted z p mid f g q trace goes step called t = record {
    places = z ∷ t.places;
    between = t.between;
    drawn = subst (λ (o : Option (Answered X E)). Run m.steps p (cons_option o (filter_map let_go t.places)) t.between) (sym goes.0) (mid, step, t.drawn);
    left = left_at_of_cons z t.places t.between q.0 (goes.1 t.between q.0) t.left;
    called = calls_cons m.steps call z t.places f g q.1 called t.called;
    answers = ap (λ (l : List (Answered X E)). taken_answer z ∷ l) t.answers;
    again = asked_again_of_cons z t.places goes.2 t.again;
  }

  -- after a look at an item the closure is called on that item first
  asked_after_look : (w : AheadState) (places : List AheadState) (s t u q : S) (x : X) → looks s x t → Run m.steps t (filter_map let_go (w ∷ places)) u → LeftAt looks (w ∷ places) u q → AskedAgain (w ∷ places) → (v : Result Bool E) × (w ≡ asked x v)
  asked_after_look (asked y (Ok true)) places s t u q x look ran left again = let d = (k.next s x t (item y) ran.0 look ran.1).0 in let same : y ≡ x = cc in (Ok true, ap (λ z. asked z (Ok true)) same)
  asked_after_look (asked y (Err e)) places s t u q x look ran left again = let d = (k.next s x t (item y) ran.0 look ran.1).0 in let same : y ≡ x = cc in (Err e, ap (λ z. asked z (Err e)) same)
  asked_after_look (failure_at e) places s t u q x look ran left again = absurd (let d = (k.next s x t (Err e) ran.0 look ran.1).0 in cc)
  asked_after_look end_at places s t u q x look ran left again = absurd (let d = (k.next s x t end ran.0 look ran.1).0 in cc)
  asked_after_look (asked y (Ok false)) [] s t u q x look ran left again = let same = (k.again s x t y q look (subst (λ (v : S). looks v y q) (sym ran) left)).0 in (Ok false, ap (λ z. asked z (Ok false)) same)
  asked_after_look (asked y (Ok false)) (w ∷ places) s t u q x look ran left again = let first = asked_after_look w places s t u q x look ran left again.1 in let is = again.0 in let same : y ≡ x = (let e = sym is.1 ∙ first.1 in cc) in (Ok false, ap (λ z. asked z (Ok false)) same)

  -- what comes after a look comes from before it too
  run_from_before_look : (r : Answered X E) (l : List (Answered X E)) (p t u : S) (x : X) → looks p x t → Run m.steps t (r ∷ l) u → Run m.steps p (r ∷ l) u
  run_from_before_look r l p t u x look ran = let d = k.next p x t r ran.0 look ran.1 in (ran.0, subst (λ (a : Answered X E). m.steps p a ran.0) (sym d.0) d.1, ran.2)

  abbrev LookedBefore : List AheadState → S → S → Type 0
  LookedBefore places p q = (between : S) × Run m.steps p (filter_map let_go places) between × LeftAt looks places between q

  looked_before_of_run_after_look : (w : AheadState) (places : List AheadState) (p t u q : S) (x : X) → looks p x t → Run m.steps t (filter_map let_go (w ∷ places)) u → LeftAt looks (w ∷ places) u q → LookedBefore (w ∷ places) p q
  looked_before_of_run_after_look (asked y (Ok true)) places p t u q x look ran left = (u, run_from_before_look (item y) (filter_map let_go places) p t u x look ran, left)
  looked_before_of_run_after_look (asked y (Err e)) places p t u q x look ran left = (u, run_from_before_look (item y) (filter_map let_go places) p t u x look ran, left)
  looked_before_of_run_after_look (failure_at e) places p t u q x look ran left = (u, run_from_before_look (Err e) (filter_map let_go places) p t u x look ran, left)
  looked_before_of_run_after_look end_at places p t u q x look ran left = (u, run_from_before_look end (filter_map let_go places) p t u x look ran, left)
  looked_before_of_run_after_look (asked y (Ok false)) [] p t u q x look ran left = let d = k.again p x t y q look (subst (λ (v : S). looks v y q) (sym ran) left) in (p, refl, subst (λ (z : X). looks p z q) (sym d.0) d.1)
  looked_before_of_run_after_look (asked y (Ok false)) (w ∷ places) p t u q x look ran left = looked_before_of_run_after_look w places p t u q x look ran left

  -- a look at an item that is rejected, before the others
  looked_before_and_asked_again_with_refused : (places : List AheadState) (x : X) (p t q : S) → looks p x t → LookedBefore places t q → AskedAgain places → LookedBefore (asked x (Ok false) ∷ places) p q × AskedAgain (asked x (Ok false) ∷ places)
  looked_before_and_asked_again_with_refused [] x p t q look (between, ran, left) again = ((p, refl, subst (λ (v : S). looks p x v) (ran ∙ sym left) look), tt)
  looked_before_and_asked_again_with_refused (w ∷ places) x p t q look (between, ran, left) again = (looked_before_of_run_after_look w places p t between q x look ran left, (asked_after_look w places p t between q x look ran left again, again))

  trace_with_refused_look_before : (x : X) (p mid : S) (f g : F) (q : S × F) (trace : List (Answered X E)) → looks p x mid → Calls call f ((x, Ok false) ∷ []) g → TraceOfPeekingTakeWhile (mid, g) trace q → TraceOfPeekingTakeWhile (p, f) (end ∷ trace) q
  trace_with_refused_look_before x p mid f g q trace look called t =
      let b = looked_before_and_asked_again_with_refused t.places x p mid q.0 look (t.between, t.drawn, t.left) t.again in
      record {
        places = asked x (Ok false) ∷ t.places;
        between = b.0.0;
        drawn = b.0.1;
        left = b.0.2;
        called = calls_cons m.steps call (asked x (Ok false)) t.places f g q.1 called t.called;
        answers = ap (λ (l : List (Answered X E)). end ∷ l) t.answers;
        again = b.1;
      }

  trace_place_first : (z : AheadState) (p mid : S) (f g : F) (q : S × F) (trace : List (Answered X E)) → DrawsAtPlace m.steps looks z p mid → Calls call f (filter_map call_of (z ∷ [])) g → TraceOfPeekingTakeWhile (mid, g) trace q → TraceOfPeekingTakeWhile (p, f) (taken_answer z ∷ trace) q
  trace_place_first (asked x (Ok true)) p mid f g q trace d one t = trace_of_accepted (asked x (Ok true)) p mid f g q trace (refl, (λ u v e. e), λ w. tt) d one t
  trace_place_first (asked x (Ok false)) p mid f g q trace d one t = trace_with_refused_look_before x p mid f g q trace d one t
  trace_place_first (asked x (Err e)) p mid f g q trace d one t = trace_of_accepted (asked x (Err e)) p mid f g q trace (refl, (λ u v e. e), λ w. tt) d one t
  trace_place_first (failure_at e) p mid f g q trace d one t = trace_of_accepted (failure_at e) p mid f g q trace (refl, (λ u v e. e), λ w. tt) d one t
  trace_place_first end_at p mid f g q trace d one t = trace_of_accepted end_at p mid f g q trace (refl, (λ u v e. e), λ w. tt) d one t

  peeking_trace_of_run : (trace : List (Answered X E)) (p q : S × F) → Run StepOfPeekingTakeWhile p trace q → TraceOfPeekingTakeWhile p trace q
  peeking_trace_of_run [] p q e = record { places = []; between = p.0; drawn = refl; left = sym (ap (λ z. z.0) e); called = ap (λ z. z.1) e; answers = refl; again = tt }
  peeking_trace_of_run (r ∷ rest) p q ran = let w = ran.1 in subst (λ (a : Answered X E). TraceOfPeekingTakeWhile p (a ∷ rest) q) (sym w.3) (trace_place_first w.0 p.0 ran.0.0 p.1 ran.0.1 q rest w.1 w.2 (peeking_trace_of_run rest ran.0 q ran.2))

  -- ---- and back

  left_at_of_rest : (z : AheadState) (places : List AheadState) (u q : S) → (LeavesSource looks z u q → q ≡ u) → LeftAt looks (z ∷ places) u q → LeftAt looks places u q
  left_at_of_rest z [] u q b left = b left
  left_at_of_rest z (w ∷ places) u q b left = left

  asked_again_of_rest : (z : AheadState) (places : List AheadState) → AskedAgain (z ∷ places) → AskedAgain places
  asked_again_of_rest z [] again = tt
  asked_again_of_rest z (w ∷ places) again = again.1

  -- the look at an item that the closure is called on, and the others from there
  abbrev LookedAt : List AheadState → X → S → S → Type 0
  LookedAt places x p q = (t : S) × looks p x t × LookedBefore places t q

  looked_at_first_asked : (v : Result Bool E) (places : List AheadState) (x : X) (p u q : S) → Run m.steps p (filter_map let_go (asked x v ∷ places)) u → LeftAt looks (asked x v ∷ places) u q → AskedAgain (asked x v ∷ places) → LookedAt (asked x v ∷ places) x p q
  looked_at_first_asked (Ok true) places x p u q ran left again = let d = k.first p x ran.0 ran.1 in (d.0, d.1, (u, (ran.0, d.2, ran.2), left))
  looked_at_first_asked (Err e) places x p u q ran left again = let d = k.first p x ran.0 ran.1 in (d.0, d.1, (u, (ran.0, d.2, ran.2), left))
  looked_at_first_asked (Ok false) [] x p u q ran left again = let look : looks p x q = subst (λ (v : S). looks v x q) (sym ran) left in (q, look, (q, refl, k.same p x q look))
  looked_at_first_asked (Ok false) (w ∷ places) x p u q ran left again = let v = again.0 in
      let Next : AheadState → Type 0 = λ z. Run m.steps p (filter_map let_go (z ∷ places)) u → LeftAt looks (z ∷ places) u q → AskedAgain (z ∷ places) → LookedAt (z ∷ places) x p q in
      subst Next (sym v.1) (λ r l a. looked_at_first_asked v.0 places x p u q r l a) ran left again.1

  looked_at_next_asked : (w : AheadState) (places : List AheadState) (x : X) (p u q : S) → LookedAgainAt (asked x (Ok false)) w → Run m.steps p (filter_map let_go (w ∷ places)) u → LeftAt looks (w ∷ places) u q → AskedAgain (w ∷ places) → LookedAt (w ∷ places) x p q
  looked_at_next_asked w places x p u q v ran left again =
      let Next : AheadState → Type 0 = λ z. Run m.steps p (filter_map let_go (z ∷ places)) u → LeftAt looks (z ∷ places) u q → AskedAgain (z ∷ places) → LookedAt (z ∷ places) x p q in
      subst Next (sym v.1) (λ r l a. looked_at_first_asked v.0 places x p u q r l a) ran left again

  run_from_places : (places : List AheadState) (p between : S) (f : F) (q : S × F) → Run m.steps p (filter_map let_go places) between → LeftAt looks places between q.0 → Calls call f (filter_map call_of places) q.1 → AskedAgain places → Run StepOfPeekingTakeWhile (p, f) (map taken_answer places) q
  run_from_places [] p between f q ran left called again = ap₂ (λ (a : S) (b : F). (a, b)) (ran ∙ sym left) called
  run_from_places (asked x (Ok true) ∷ places) p between f q ran left called again = let c = calls_first_and_rest m.steps call (asked x (Ok true)) places f q.1 called in
      ((ran.0, c.0), (asked x (Ok true), ran.1, c.1, refl), run_from_places places ran.0 between c.0 q ran.2 (left_at_of_rest (asked x (Ok true)) places between q.0 (λ e. e) left) c.2 (asked_again_of_rest (asked x (Ok true)) places again))
  run_from_places (asked x (Err e) ∷ places) p between f q ran left called again = let c = calls_first_and_rest m.steps call (asked x (Err e)) places f q.1 called in
      ((ran.0, c.0), (asked x (Err e), ran.1, c.1, refl), run_from_places places ran.0 between c.0 q ran.2 (left_at_of_rest (asked x (Err e)) places between q.0 (λ e. e) left) c.2 (asked_again_of_rest (asked x (Err e)) places again))
  run_from_places (failure_at e ∷ places) p between f q ran left called again = ((ran.0, f), (failure_at e, ran.1, refl, refl), run_from_places places ran.0 between f q ran.2 (left_at_of_rest (failure_at e) places between q.0 (λ e. e) left) called (asked_again_of_rest (failure_at e) places again))
  run_from_places (end_at ∷ places) p between f q ran left called again = ((ran.0, f), (end_at, ran.1, refl, refl), run_from_places places ran.0 between f q ran.2 (left_at_of_rest end_at places between q.0 (λ e. e) left) called (asked_again_of_rest end_at places again))
  run_from_places (asked x (Ok false) ∷ []) p between f q ran left called again = (q, (asked x (Ok false), subst (λ (v : S). looks v x q.0) (sym ran) left, called, refl), refl)
  run_from_places (asked x (Ok false) ∷ w ∷ places) p between f q ran left called again =
      let c = calls_first_and_rest m.steps call (asked x (Ok false)) (w ∷ places) f q.1 called in
      let d = looked_at_next_asked w places x p between q.0 again.0 ran left again.1 in
      ((d.0, c.0), (asked x (Ok false), d.1, c.1, refl), run_from_places (w ∷ places) d.0 d.2.0 c.0 q d.2.1 d.2.2 c.2 again.1)

  peeking_run_of_trace : (trace : List (Answered X E)) (p q : S × F) → TraceOfPeekingTakeWhile p trace q → Run StepOfPeekingTakeWhile p trace q
  peeking_run_of_trace trace p q t = subst (λ (l : List (Answered X E)). Run StepOfPeekingTakeWhile p l q) (sym t.answers) (run_from_places t.places p.0 t.between p.1 q t.drawn t.left t.called t.again)

  pub peeking_law : (p : S × F) (trace : List (Answered X E)) (q : S × F) → Run StepOfPeekingTakeWhile p trace q ↔ TraceOfPeekingTakeWhile p trace q
  peeking_law p trace q = (peeking_trace_of_run trace p q, peeking_run_of_trace trace p q)

  pub peeking_traced : {traces : S → List (Answered X E) → S → Type 0} → IsTraced m.steps traces → IsTraced (peeking_step m.steps looks call) (PeekingTrace traces looks call)
  peeking_traced law p trace q = let both = peeking_law p trace q in (
    (λ ran. let h = both.0 ran in record { places = h.places; between = h.between; drawn = (law p.0 (filter_map let_go h.places) h.between).0 h.drawn; left = h.left; called = h.called; answers = h.answers; again = h.again }),
    (λ h. both.1 (record { places = h.places; between = h.between; drawn = (law p.0 (filter_map let_go h.places) h.between).1 h.drawn; left = h.left; called = h.called; answers = h.answers; again = h.again })),
  )

-- ---- What looks ahead, and that the contract of `PeekingTakeWhile` is lawful where the source's is

-- ---- a `Peekable` looks ahead

module _ {S X E : Type 0} (steps : S → Answered X E → S → Type 0) where
  abbrev HeldState : Type 0
  HeldState = S × Option (Option X)

  -- what was looked at is held, and is what a draw returns
  pub looked_at_is_next_answer : (p q : HeldState) (o : Option X) → Peeks steps p (Ok o) q → peekable_step steps p (Ok o) (q.0, None) × (q.1 ≡ Some o)
  looked_at_is_next_answer (s, Some h) q o w = let same : o ≡ h = (let e = w.0 in cc) in ((w.0, w.1, refl), w.2 ∙ ap (λ z. Some z) (sym same))
  looked_at_is_next_answer (s, None) q o w = ((w.0, refl), w.1)

  none_held_after_draw : (p q : HeldState) (r : Answered X E) → peekable_step steps p r q → q.1 ≡ None
  none_held_after_draw (s, Some o) q r step = step.2
  none_held_after_draw (s, None) q r step = step.1

  -- a draw of what is held
  pub held_step : (q u : HeldState) (o : Option X) (r : Answered X E) → q.1 ≡ Some o → peekable_step steps q r u → (r ≡ Ok o) × (u ≡ (q.0, None))
  held_step (s, Some h) u o r is w = let same : h ≡ o = cc in (w.0 ∙ ap (λ z. Ok z) same, rw (← w.1, ← w.2) refl)
  held_step (s, None) u o r is w = absurd cc

  -- a look at what is held
  held_item_is_looked_at : (q u : HeldState) (o : Option X) (x : X) → q.1 ≡ Some o → Peeks steps q (item x) u → (o ≡ Some x) × (u ≡ q)
  held_item_is_looked_at (s, Some h) u o x is w = let same : h ≡ o = cc in let at : h ≡ Some x = (let e = w.0 in cc) in (sym same ∙ at, rw (← w.1, ← w.2) refl)
  held_item_is_looked_at (s, None) u o x is w = absurd cc

  -- an item that a draw yields, held
  pub peeks_drawn_item : (p u : HeldState) (x : X) → peekable_step steps p (item x) u → Peeks steps p (item x) (u.0, Some (Some x))
  peeks_drawn_item (s, Some h) u x w = let same : Some x ≡ h = (let e = w.0 in cc) in (w.0, w.1, ap (λ z. Some z) same)
  peeks_drawn_item (s, None) u x w = (w.0, refl)

  peeks_held_again : (q : HeldState) (o : Option X) → q.1 ≡ Some o → Peeks steps q (Ok o) q
  peeks_held_again (s, Some h) o is = let same : h ≡ o = cc in (ap (λ z. Ok z) (sym same), refl, refl)
  peeks_held_again (s, None) o is = absurd cc

module _ {S X E : Type 0} {m : Contract S X E} (l : Lawful m) where
  abbrev PeekableHere : Contract (S × Option (Option X)) X E
  PeekableHere = peekable_contract m

  kept_by_draw_holding_item : (s t : S) (x : X) → KeptByDraw m s (item x) t → KeptByDraw PeekableHere (s, None) end (t, Some (Some x))
  kept_by_draw_holding_item s t x a = record {
    can_next = a.can_next;
    is_finite = a.is_finite;
    answer = ((λ n b. let k = a.answer.1 b.0 b.1 in (n, (k.0, k.1, omega (arith, k.2, b.2)), omega arith)), (λ f. let j = a.answer.2 f in (j.0, omega (arith, j.1))));
    may_give = λ y h. elim h [ inl e ↦ (let same : x ≡ y = cc in inr (subst (λ (z : X). m.may_give s z) same a.answer.0)) | inr g ↦ inr (a.may_give y g) ];
    may_fail = a.may_fail;
    lenders = a.lenders;
  }

  kept_by_draw_where_still : (p : S × Option (Option X)) → PeekableHere.can_next p → KeptByDraw PeekableHere p end p
  kept_by_draw_where_still p c = record {
    can_next = c;
    is_finite = λ f. f;
    answer = ((λ n b. (n, b, omega arith)), (λ f. (f, omega arith)));
    may_give = λ y h. h;
    may_fail = λ e h. h;
    lenders = refl;
  }

  kept_by_draw_look : (p q : S × Option (Option X)) (x : X) → PeekableHere.can_next p → Peeks m.steps p (item x) q → KeptByDraw PeekableHere p end q
  kept_by_draw_look (s, None) (t, held) x c w = rw w.1 (kept_by_draw_holding_item s t x (l.kept_by_draw s (item x) t c w.0))
  kept_by_draw_look (s, Some o) (t, held) x c w = rw (w.1, w.2) (kept_by_draw_where_still (s, Some o) c)

  may_give_looked : (p q : S × Option (Option X)) (x : X) → PeekableHere.can_next p → Peeks m.steps p (item x) q → PeekableHere.may_give p x
  may_give_looked p q x c w = ((lawful_peekable l).kept_by_draw p (item x) (q.0, None) c (looked_at_is_next_answer m.steps p q (Some x) w).0).answer.0

  step_gives_looked_item : (p q u : S × Option (Option X)) (x : X) (r : Answered X E) → Peeks m.steps p (item x) q → peekable_step m.steps q r u → (r ≡ item x) × peekable_step m.steps p (item x) u
  step_gives_looked_item p q u x r w step = let k = looked_at_is_next_answer m.steps p q (Some x) w in let h = held_step m.steps q u (Some x) r k.1 step in (h.0, subst (λ z. peekable_step m.steps p (item x) z) (sym h.1) k.0)

  second_look_same : (p q u : S × Option (Option X)) (x y : X) → Peeks m.steps p (item x) q → Peeks m.steps q (item y) u → (y ≡ x) × Peeks m.steps p (item x) u
  second_look_same p q u x y w v = let k = looked_at_is_next_answer m.steps p q (Some x) w in let h = held_item_is_looked_at m.steps q u (Some x) y k.1 v in ((let e = h.0 in cc), subst (λ z. Peeks m.steps p (item x) z) (sym h.1) w)

  on_answer_seen : (s t : Peekable S X E) → OnAnswer PeekableHere (peekable_parts s) end (peekable_parts t) → OnAnswer (parts_as peekable_parts PeekableHere) s end t
  on_answer_seen s t h = h

  -- a `Peekable` of its parts
  abbrev of_held : S × Option (Option X) → Peekable S X E
  of_held p = record { it = p.0; held = p.1 }

  pub looks_ahead_peekable_looking : LooksAhead (parts_as peekable_parts (peekable_contract m)) (peekable_looks m.steps)
  looks_ahead_peekable_looking = record {
    kept = λ s x t c w. let k = kept_by_draw_look (peekable_parts s) (peekable_parts t) x c w in record { can_next = k.can_next; is_finite = k.is_finite; answer = on_answer_seen s t k.answer; may_give = k.may_give; may_fail = k.may_fail; lenders = k.lenders };
    given = λ s x t c w. may_give_looked (peekable_parts s) (peekable_parts t) x c w;
    comes = λ s x t w. (of_held (t.it, None), (looked_at_is_next_answer m.steps (peekable_parts s) (peekable_parts t) (Some x) w).0);
    next = λ s x t r u w step. step_gives_looked_item (peekable_parts s) (peekable_parts t) (peekable_parts u) x r w step;
    again = λ s x t y u w v. second_look_same (peekable_parts s) (peekable_parts t) (peekable_parts u) x y w v;
    first = λ s x u step. (of_held (u.it, Some (Some x)), peeks_drawn_item m.steps (peekable_parts s) (peekable_parts u) x step, (refl, refl, none_held_after_draw m.steps (peekable_parts s) (peekable_parts u) (item x) step));
    same = λ s x t w. peeks_held_again m.steps (peekable_parts t) (Some x) (looked_at_is_next_answer m.steps (peekable_parts s) (peekable_parts t) (Some x) w).1;
  }

-- ---- what is borrowed looks ahead as it does itself

module _ {S X E : Type 0} {m : Contract S X E} {looks : S → X → S → Type 0} (k : LooksAhead m looks) where
  kept_by_draw_borrowed : (s t : MutBor S) (x : X) → m.can_next s.now → borrowed_looks looks s x t → KeptByDraw (borrowed m) s end t
  kept_by_draw_borrowed s t x c w = let a = k.kept s.now x t.now c w.0 in record { can_next = a.can_next; is_finite = a.is_finite; answer = a.answer; may_give = a.may_give; may_fail = a.may_fail; lenders = ap₂ lender_and w.1 a.lenders }

  pub looks_ahead_borrowed_looking : LooksAhead (borrowed m) (borrowed_looks looks)
  looks_ahead_borrowed_looking = record {
    kept = λ s x t c w. kept_by_draw_borrowed s t x c w;
    given = λ s x t c w. k.given s.now x t.now c w.0;
    comes = λ s x t w. let d = k.comes s.now x t.now w.0 in (record s { now = d.0 }, (d.1, refl));
    next = λ s x t r u w step. let d = k.next s.now x t.now r u.now w.0 step.0 in (d.0, (d.1, step.1 ∙ w.1));
    again = λ s x t y u w v. let d = k.again s.now x t.now y u.now w.0 v.0 in (d.0, (d.1, v.1 ∙ w.1));
    first = λ s x u step. let d = k.first s.now x u.now step.0 in (record s { now = d.0 }, (d.1, refl), (d.2, step.1));
    same = λ s x t w. (k.same s.now x t.now w.0, refl);
  }

-- ---- the adapter

module _ {S F X E : Type 0} (m : Contract S X E) (l : Lawful m) (looks : S → X → S → Type 0) (k : LooksAhead m looks) (g : Mut F (Bor X × Unit {0}) (Result Bool E)) where
  abbrev callable_by_reference : (X → Type 0) → F → Type 0
  callable_by_reference P f = IsCallable (call_by_reference g) (takes_by_reference g) P f

  abbrev PassingHere : Contract (S × F) X E
  PassingHere = passing_contract m (call_by_reference g) callable_by_reference take_while_outcome (λ p h. upper_alone m p.0 h)

  abbrev PeekingHere : Contract (S × F) X E
  PeekingHere = peeking_contract m looks g

  lawful_taking : Lawful PassingHere
  lawful_taking = lawful_passing (call_by_reference g) callable_by_reference take_while_outcome (λ p h. upper_alone m p.0 h) (λ P PeekableHere f h weak reached c. is_callable_after weak reached c) l

  -- what a draw keeps, whatever the steps are
  on_answer_peeking : (p q : S × F) (r : Answered X E) → OnAnswer PassingHere p r q → OnAnswer PeekingHere p r q
  on_answer_peeking p q (Ok (Some x)) h = h
  on_answer_peeking p q (Ok None) h = h
  on_answer_peeking p q (Err e) h = h

  kept_by_draw_of_passing : (p q : S × F) (r : Answered X E) → KeptByDraw PassingHere p r q → KeptByDraw PeekingHere p r q
  kept_by_draw_of_passing p q r a = record { can_next = a.can_next; is_finite = a.is_finite; answer = on_answer_peeking p q r a.answer; may_give = a.may_give; may_fail = a.may_fail; lenders = a.lenders }

  -- the one call at a place
  call_of_place : (p q : F) (x : X) (v : Result Bool E) → Calls (call_by_reference g) p ((x, v) ∷ []) q → call_by_reference g p x v q
  call_of_place p q x v called = subst (λ (h : F). call_by_reference g p x v h) called.2 called.1

  kept_by_draw_refused : (p q : S) (f h : F) (x : X) → PeekingHere.can_next (p, f) → looks p x q → call_by_reference g f x (Ok false) h → KeptByDraw PeekingHere (p, f) end (q, h)
  kept_by_draw_refused p q f h x c look called =
      let a = k.kept p x q c.0 look in
      let reached : Reaches (call_by_reference g) (m.may_give p) f h = reaches_by_call_first x (Ok false) (k.given p x q c.0 look) called reaches_reflexive in
      record {
        can_next = (a.can_next, is_callable_after a.may_give reached c.1);
        is_finite = a.is_finite;
        answer = a.answer;
        may_give = λ y b. may_answer_where_reached_may_answer a.may_give reached b;
        may_fail = λ e b. elim b [ inl d ↦ inl (a.may_fail e d) | inr d ↦ inr (may_answer_where_reached_may_answer a.may_give reached d) ];
        lenders = a.lenders;
      }

  kept_by_draw_place : (z : Place X (Result Bool E) E) (p q : S) (f h : F) → PeekingHere.can_next (p, f) → DrawsAtPlace m.steps looks z p q → Calls (call_by_reference g) f (filter_map call_of (z ∷ [])) h → KeptByDraw PeekingHere (p, f) (taken_answer z) (q, h)
  kept_by_draw_place (asked x (Ok true)) p q f h c step called = kept_by_draw_of_passing (p, f) (q, h) (item x) (lawful_taking.kept_by_draw (p, f) (item x) (q, h) c (pass_trace_item x (Ok true) x step (call_of_place f h x (Ok true) called) refl))
  kept_by_draw_place (asked x (Ok false)) p q f h c step called = kept_by_draw_refused p q f h x c step (call_of_place f h x (Ok false) called)
  kept_by_draw_place (asked x (Err e)) p q f h c step called = kept_by_draw_of_passing (p, f) (q, h) (Err e) (lawful_taking.kept_by_draw (p, f) (failure e) (q, h) c (pass_trace_refusal x (Err e) e step (call_of_place f h x (Err e) called) refl))
  kept_by_draw_place (failure_at e) p q f h c step called = kept_by_draw_of_passing (p, f) (q, h) (Err e) (lawful_taking.kept_by_draw (p, f) (failure e) (q, h) c (rw (sym called) (pass_trace_failure step)))
  kept_by_draw_place end_at p q f h c step called = kept_by_draw_of_passing (p, f) (q, h) end (lawful_taking.kept_by_draw (p, f) end (q, h) c (rw (sym called) (pass_trace_end step)))

  kept_by_draw_peeking : (p : S × F) (r : Answered X E) (q : S × F) → PeekingHere.can_next p → PeekingHere.steps p r q → KeptByDraw PeekingHere p r q
  kept_by_draw_peeking p r q c w = subst (λ (a : Answered X E). KeptByDraw PeekingHere p a q) (sym w.3) (kept_by_draw_place w.0 p.0 q.0 p.1 q.1 c w.1 w.2)

-- ---- where its hint is sound

module _ {S F X E : Type 0} (steps : S → Answered X E → S → Type 0) (looks : S → X → S → Type 0) (call : F → X → Result Bool E → F → Type 0) where
  yields_one_at_least : (z : Place X (Result Bool E) E) (p q : S) (y : X) → item y ≡ taken_answer z → DrawsAtPlace steps looks z p q → (xs : List X) × Yields steps p xs q × (1 ≤ length xs)
  yields_one_at_least (asked x (Ok true)) p q y e d = (x ∷ [], (q, d, refl), omega arith)
  yields_one_at_least (asked x (Ok false)) p q y e d = absurd cc
  yields_one_at_least (asked x (Err c)) p q y e d = absurd cc
  yields_one_at_least (failure_at c) p q y e d = absurd cc
  yields_one_at_least end_at p q y e d = absurd cc

  -- an item of it comes of one of the source
  items_of_items_peeking : ItemsOfItems (peeking_step steps looks call) steps (λ p. p.0) (λ p. Unit {0})
  items_of_items_peeking = record { items_of_item = λ p q y _ w. let d = yields_one_at_least w.0 p.0 q.0 y w.3 w.1 in (d.0, d.1, d.2, tt) }

  peeking_hold : {hints : S → ℕ × Option ℕ → Type 0} {w : SoundWhere S} → HintsHold steps hints w → HintsHold (peeking_step steps looks call) (λ p h. (k : ℕ × Option ℕ) × hints p.0 k × (h ≡ (0, k.1))) (above_as_source (λ p. p.0) w)
  peeking_hold {hints = hints} holds = hold_above_as_source (peeking_step steps looks call) (λ p h. (k : ℕ × Option ℕ) × hints p.0 k × (h ≡ (0, k.1))) holds (λ p. p.0) (λ p h is. (is.0, is.1, is.2, as_sound_upper_alone_of_source _ _ _ _ items_of_items_peeking p tt is.0 h is.2))

pub lawful_peeking : {S F X E : Type 0} {m : Contract S X E} {looks : S → X → S → Type 0} (g : Mut F (Bor X × Unit {0}) (Result Bool E)) → Lawful m → LooksAhead m looks → Lawful (peeking_contract m looks g)
lawful_peeking {m = m} {looks = looks} g l k = record { kept_by_draw = λ p r q c w. kept_by_draw_peeking m l looks k g p r q c w; bounded = λ p. l.bounded p.0; traced = peeking_traced k (call_by_reference g) l.traced; hold = peeking_hold m.steps looks (call_by_reference g) l.hold }
