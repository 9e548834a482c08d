-- One answer of a `Peekable` whose item is shown to the closure first; and what `PeekingTakeWhile` lists.
use Rattle.std.specs.Prelude.{◌≡◌, Bool, true, false, List, [], ◌∷◌, map, Option, Result, Some, None, Ok, Err, ◌++◌, IfSome}
use Rattle.std.specs.List.{filter_map}
use Rattle.std.specs.Fn.{Mut}
use Rattle.std.specs.Borrow.{Bor}
use Rattle.std.proofs.Common.{refl, sym, ap, subst, ◌∙◌}
use Rattle.fallible_iterator.specs.Contract.{Contract, seen_as, parts_as}
use Rattle.fallible_iterator.specs.Lists.{AlwaysGives, Lists, Acts, result_answer}
use Rattle.fallible_iterator.specs.Traces.{Answered, Run, item, end}
use Rattle.fallible_iterator.specs.Closures.{Calls, call_by_reference}
use Rattle.fallible_iterator.specs.Passing.{Place, asked, failure_at, end_at, source_answer, call_of}
use Rattle.fallible_iterator.specs.Cutting.TakeWhile.{cons_while, is_refused, taken_answer, taken_while}
use Rattle.fallible_iterator.specs.Peeking.Peekable.{Fills, Peeks, failure_told, held_item, peekable_contract, peekable_parts, peekable_step}
use Rattle.fallible_iterator.proofs.Lemmas.Lists.Passing.{lists_seen}
use Rattle.fallible_itertools_adapters.specs.Laws.PeekingTakeWhile.{looked_at_is_next_answer, held_step}
use Rattle.fallible_itertools_adapters.specs.PeekingTakeWhile.{AcceptsHeld, DrawsAtPlace, LooksAhead, rest_from_item, rest_by_while, peekable_looks, peeking_contract, peeking_parts, peeking_step}
use Rattle.fallible_iterator.specs.Peekable.{Peekable}
use Rattle.fallible_itertools_adapters.specs.declared.peeking_take_while.PeekingTakeWhile.{PeekingTakeWhile}

-- ---- one answer of a `Peekable`

module _ {S F X E : Type 0} (m : Contract S X E) (call : F → X → Result Bool E → F → Type 0) where
  abbrev AheadStep : Peekable S X E × F → Answered X E → Peekable S X E × F → Type 0
  AheadStep = peeking_step (parts_as peekable_parts (peekable_contract m)).steps (peekable_looks m.steps) call

  peekable_step_of_failed_look : (p q : S × Option (Option X)) (e : E) → Peeks m.steps p (Err e) q → peekable_step m.steps p (Err e) q
  peekable_step_of_failed_look (s, Some h) q e w = absurd (let d = w.0 in cc)
  peekable_step_of_failed_look (s, None) q e w = w

  peekable_step_of_failure : (p u : Peekable S X E) (a : Answered X E) (e : E) → Peeks m.steps (peekable_parts p) a (peekable_parts u) → Err e ≡ failure_told a → peekable_step m.steps (peekable_parts p) (Err e) (peekable_parts u)
  peekable_step_of_failure p u (Ok o) e peeks is = absurd cc
  peekable_step_of_failure p u (Err d) e peeks is = let same : d ≡ e = cc in subst (λ (z : E). peekable_step m.steps (peekable_parts p) (Err z) (peekable_parts u)) same (peekable_step_of_failed_look (peekable_parts p) (peekable_parts u) d peeks)

  -- the source failed, and nothing is held
  pub ahead_fails : (p u : Peekable S X E) (f : F) (e : E) → Fills m.steps (peekable_parts p) (Err e) (peekable_parts u) → AheadStep (p, f) (Err e) (u, f)
  ahead_fails p u f e fills = (failure_at e, peekable_step_of_failure p u fills.0 e fills.1 fills.2, refl, refl)

  -- what is held was looked at
  accepts_held_of_equal : (o h : Option X) (f g : F) (v : Result Bool E) → h ≡ o → AcceptsHeld call h f v g → AcceptsHeld call o f v g
  accepts_held_of_equal o h f g v is a = subst (λ (z : Option X). AcceptsHeld call z f v g) is a

  ahead_step_of_accepted : (a : Answered X E) (p u w : Peekable S X E) (f g : F) (r : Answered X E) → Peeks m.steps (peekable_parts p) a (peekable_parts u) → Ok tt ≡ failure_told a → AcceptsHeld call (held_item u.held) f (Ok true) g → peekable_step m.steps (peekable_parts u) r (peekable_parts w) → AheadStep (p, f) r (w, g)
  ahead_step_of_accepted (Err e) p u w f g r peeks is accepts step = absurd cc
  ahead_step_of_accepted (Ok (Some x)) p u w f g r peeks is accepts step =
      let k = looked_at_is_next_answer m.steps (peekable_parts p) (peekable_parts u) (Some x) peeks in
      let h = held_step m.steps (peekable_parts u) (peekable_parts w) (Some x) r k.1 step in
      (asked x (Ok true), subst (λ z. peekable_step m.steps (peekable_parts p) (item x) z) (sym h.1) k.0, (g, accepts_held_of_equal (Some x) (held_item u.held) f g (Ok true) (ap held_item k.1) accepts, refl), h.0)
  ahead_step_of_accepted (Ok None) p u w f g r peeks is accepts step =
      let k = looked_at_is_next_answer m.steps (peekable_parts p) (peekable_parts u) None peeks in
      let h = held_step m.steps (peekable_parts u) (peekable_parts w) None r k.1 step in
      (end_at, subst (λ z. peekable_step m.steps (peekable_parts p) end z) (sym h.1) k.0, sym (accepts_held_of_equal None (held_item u.held) f g (Ok true) (ap held_item k.1) accepts).1, h.0)

  pub ahead_takes : (p u w : Peekable S X E) (f g : F) (r : Answered X E) → Fills m.steps (peekable_parts p) (Ok tt) (peekable_parts u) → AcceptsHeld call (held_item u.held) f (Ok true) g → peekable_step m.steps (peekable_parts u) r (peekable_parts w) → AheadStep (p, f) r (w, g)
  ahead_takes p u w f g r fills accepts step = ahead_step_of_accepted fills.0 p u w f g r fills.1 fills.2 accepts step

  ahead_ends_where_refused_by_peek : (a : Answered X E) (p u : Peekable S X E) (f g : F) → Peeks m.steps (peekable_parts p) a (peekable_parts u) → Ok tt ≡ failure_told a → AcceptsHeld call (held_item u.held) f (Ok false) g → AheadStep (p, f) end (u, g)
  ahead_ends_where_refused_by_peek (Err e) p u f g peeks is accepts = absurd cc
  ahead_ends_where_refused_by_peek (Ok (Some x)) p u f g peeks is accepts = let k = looked_at_is_next_answer m.steps (peekable_parts p) (peekable_parts u) (Some x) peeks in
      (asked x (Ok false), peeks, (g, accepts_held_of_equal (Some x) (held_item u.held) f g (Ok false) (ap held_item k.1) accepts, refl), refl)
  ahead_ends_where_refused_by_peek (Ok None) p u f g peeks is accepts = let k = looked_at_is_next_answer m.steps (peekable_parts p) (peekable_parts u) None peeks in
      absurd (let e = (accepts_held_of_equal None (held_item u.held) f g (Ok false) (ap held_item k.1) accepts).0 in cc)

  pub ahead_ends_where_refused : (p u : Peekable S X E) (f g : F) → Fills m.steps (peekable_parts p) (Ok tt) (peekable_parts u) → AcceptsHeld call (held_item u.held) f (Ok false) g → AheadStep (p, f) end (u, g)
  ahead_ends_where_refused p u f g fills accepts = ahead_ends_where_refused_by_peek fills.0 p u f g fills.1 fills.2 accepts

  ahead_fails_where_accept_fails_by_peek : (a : Answered X E) (p u w : Peekable S X E) (f g : F) (e : E) (r : Answered X E) → Peeks m.steps (peekable_parts p) a (peekable_parts u) → Ok tt ≡ failure_told a → AcceptsHeld call (held_item u.held) f (Err e) g → peekable_step m.steps (peekable_parts u) r (peekable_parts w) → AheadStep (p, f) (Err e) (w, g)
  ahead_fails_where_accept_fails_by_peek (Err d) p u w f g e r peeks is accepts step = absurd cc
  ahead_fails_where_accept_fails_by_peek (Ok (Some x)) p u w f g e r peeks is accepts step =
      let k = looked_at_is_next_answer m.steps (peekable_parts p) (peekable_parts u) (Some x) peeks in
      let h = held_step m.steps (peekable_parts u) (peekable_parts w) (Some x) r k.1 step in
      (asked x (Err e), subst (λ z. peekable_step m.steps (peekable_parts p) (item x) z) (sym h.1) k.0, (g, accepts_held_of_equal (Some x) (held_item u.held) f g (Err e) (ap held_item k.1) accepts, refl), refl)
  ahead_fails_where_accept_fails_by_peek (Ok None) p u w f g e r peeks is accepts step = let k = looked_at_is_next_answer m.steps (peekable_parts p) (peekable_parts u) None peeks in
      absurd (let d = (accepts_held_of_equal None (held_item u.held) f g (Err e) (ap held_item k.1) accepts).0 in cc)

  pub ahead_fails_where_accept_fails : (p u w : Peekable S X E) (f g : F) (e : E) (r : Answered X E) → Fills m.steps (peekable_parts p) (Ok tt) (peekable_parts u) → AcceptsHeld call (held_item u.held) f (Err e) g → peekable_step m.steps (peekable_parts u) r (peekable_parts w) → AheadStep (p, f) (Err e) (w, g)
  ahead_fails_where_accept_fails p u w f g e r fills accepts step = ahead_fails_where_accept_fails_by_peek fills.0 p u w f g e r fills.1 fills.2 accepts step

-- ---- what it lists

module _ {S F X E : Type 0} {m : Contract S X E} {looks : S → X → S → Type 0} (k : LooksAhead m looks) (call : F → X → Result Bool E → F → Type 0) (f : F) (h : X → Result Bool E) (acts : Acts call f h) where
  abbrev GivesPeeking : S → F → List (Result X E) → Type 0
  GivesPeeking p g l = AlwaysGives (peeking_step m.steps looks call) (p, g) l

  -- a place has an answer that the source yields
  source_step_of_place : (z : Place X (Result Bool E) E) (p q : S) → DrawsAtPlace m.steps looks z p q → (u : S) × m.steps p (source_answer z) u
  source_step_of_place (asked x (Ok true)) p q d = (q, d)
  source_step_of_place (asked x (Ok false)) p q d = k.comes p x q d
  source_step_of_place (asked x (Err e)) p q d = (q, d)
  source_step_of_place (failure_at e) p q d = (q, d)
  source_step_of_place end_at p q d = (q, d)

  taken_end_of_nil : (z : Place X (Result Bool E) E) (p u : S) (r : Answered X E) → AlwaysGives {A = X} m.steps p [] → m.steps p (source_answer z) u → r ≡ taken_answer z → r ≡ end
  taken_end_of_nil (asked y v) p u r a step e = absurd (let d = a (item y) u step in cc)
  taken_end_of_nil (failure_at d) p u r a step e = absurd (let b = a (Err d) u step in cc)
  taken_end_of_nil end_at p u r a step e = e

  place_of_first_failure : (z : Place X (Result Bool E) E) (d : E) (l : List (Result X E)) (p q : S) (g : F) → AlwaysGives m.steps p (Err d ∷ l) → DrawsAtPlace m.steps looks z p q → Calls call f (filter_map call_of (z ∷ [])) g → (z ≡ failure_at d) × AlwaysGives m.steps q l × (g ≡ f)
  place_of_first_failure (asked y v) d l p q g a drawn called = absurd (let u = source_step_of_place (asked y v) p q drawn in let e = (a (item y) u.0 u.1).0 in cc)
  place_of_first_failure (failure_at c) d l p q g a drawn called = let is = a (Err c) q drawn in let same : c ≡ d = (let e = is.0 in cc) in (ap (λ (e : E). failure_at e) same, is.1, sym called)
  place_of_first_failure end_at d l p q g a drawn called = absurd (let e = (a end q drawn).0 in cc)

  -- the call at an item that the list begins with
  asked_place_is_of_function : (x y : X) (v : Result Bool E) (g : F) → y ≡ x → Calls call f ((y, v) ∷ []) g → (◌≡◌ {A = Place X (Result Bool E) E} (asked y v) (asked x (h x))) × (g ≡ f)
  asked_place_is_of_function x y v g same called = let c = acts y v called.0 called.1 in (ap (λ (w : Result Bool E). asked y w) c.1 ∙ ap (λ (w : X). asked w (h w)) same, sym called.2 ∙ c.0)

  asked_place_of_first_item : (z : Place X (Result Bool E) E) (x : X) (l : List (Result X E)) (p q : S) (g : F) → AlwaysGives m.steps p (Ok x ∷ l) → DrawsAtPlace m.steps looks z p q → Calls call f (filter_map call_of (z ∷ [])) g → (z ≡ asked x (h x)) × (g ≡ f) × (is_refused z ≡ false → AlwaysGives m.steps q l)
  asked_place_of_first_item (asked y (Ok true)) x l p q g a drawn called = let is = a (item y) q drawn in let same : y ≡ x = (let e = is.0 in cc) in let c = asked_place_is_of_function x y (Ok true) g same called in (c.0, c.1, λ e. is.1)
  asked_place_of_first_item (asked y (Ok false)) x l p q g a drawn called = let u = k.comes p y q drawn in let same : y ≡ x = (let e = (a (item y) u.0 u.1).0 in cc) in let c = asked_place_is_of_function x y (Ok false) g same called in (c.0, c.1, λ e. absurd cc)
  asked_place_of_first_item (asked y (Err d)) x l p q g a drawn called = let is = a (item y) q drawn in let same : y ≡ x = (let e = is.0 in cc) in let c = asked_place_is_of_function x y (Err d) g same called in (c.0, c.1, λ e. is.1)
  asked_place_of_first_item (failure_at c) x l p q g a drawn called = absurd (let e = (a (Err c) q drawn).0 in cc)
  asked_place_of_first_item end_at x l p q g a drawn called = absurd (let e = (a end q drawn).0 in cc)

  gives_peeking_of_equal_closure : (p : S) (g : F) (l : List (Result X E)) → g ≡ f → GivesPeeking p f l → GivesPeeking p g l
  gives_peeking_of_equal_closure p g l same a = subst (λ (z : F). GivesPeeking p z l) (sym same) a

  gives_peeking_cons_while : (x : X) (v : Result Bool E) (l rest : List (Result X E)) (p : S) → h x ≡ v → AlwaysGives m.steps p (Ok x ∷ l) → ((u : S) → AlwaysGives m.steps u l → GivesPeeking u f rest) → GivesPeeking p f (cons_while x v rest)
  gives_peeking_cons_while x (Ok true) l rest p is a then = λ r q w. let d = asked_place_of_first_item w.0 x l p q.0 q.1 a w.1 w.2 in let z : w.0 ≡ asked x (Ok true) = d.0 ∙ ap (λ (v : Result Bool E). asked x v) is in
      (w.3 ∙ ap taken_answer z, gives_peeking_of_equal_closure q.0 q.1 rest d.1 (then q.0 (d.2 (ap is_refused z))))
  gives_peeking_cons_while x (Ok false) l rest p is a then = λ r q w. let d = asked_place_of_first_item w.0 x l p q.0 q.1 a w.1 w.2 in w.3 ∙ ap taken_answer (d.0 ∙ ap (λ (v : Result Bool E). asked x v) is)
  gives_peeking_cons_while x (Err e) l rest p is a then = λ r q w. let d = asked_place_of_first_item w.0 x l p q.0 q.1 a w.1 w.2 in let z : w.0 ≡ asked x (Err e) = d.0 ∙ ap (λ (v : Result Bool E). asked x v) is in
      (w.3 ∙ ap taken_answer z, gives_peeking_of_equal_closure q.0 q.1 rest d.1 (then q.0 (d.2 (ap is_refused z))))

  gives_peeking : (l : List (Result X E)) (p : S) → AlwaysGives m.steps p l → GivesPeeking p f (taken_while h l)
  unfolding taken_while
  gives_peeking [] p a = λ r q w. let u = source_step_of_place w.0 p q.0 w.1 in taken_end_of_nil w.0 p u.0 r a u.1 w.3
  gives_peeking (Ok x ∷ l) p a = gives_peeking_cons_while x (h x) l (taken_while h l) p refl a (λ u b. gives_peeking l u b)
  gives_peeking (Err e ∷ l) p a = λ r q w. let d = place_of_first_failure w.0 e l p q.0 q.1 a w.1 w.2 in (w.3 ∙ ap taken_answer d.0, gives_peeking_of_equal_closure q.0 q.1 (taken_while h l) d.2 (gives_peeking l q.0 d.1))

pub lists_peeking : {S F X E : Type 0} {m : Contract S X E} {looks : S → X → S → Type 0} (k : LooksAhead m looks) (g : Mut F (Bor X × Unit {0}) (Result Bool E)) (s : PeekingTakeWhile S F) (f : F) (h : X → Result Bool E) (l : List (Result X E)) → peeking_parts s ≡ (s.it, f) → Acts (call_by_reference g) f h → Lists m.steps s.it l
    → Lists (seen_as peeking_parts (peeking_contract m looks g)).steps s (taken_while h l)
lists_peeking {m = m} {looks = looks} k g s f h l parts a i = lists_seen peeking_parts (peeking_contract m looks g).steps s parts refl (gives_peeking k (call_by_reference g) f h a l s.it i.runs)

-- ---- what it leaves

module _ {S F X E : Type 0} {m : Contract S X E} {looks : S → X → S → Type 0} (k : LooksAhead m looks) (call : F → X → Result Bool E → F → Type 0) (f : F) (h : X → Result Bool E) (acts : Acts call f h) where
  abbrev LeavesRest : Option (List (Result X E)) → List (Result X E) → S → S × F → Type 0
  LeavesRest left taken s t = Run (peeking_step m.steps looks call) (s, f) (map result_answer taken ++ end ∷ []) t → IfSome left (λ l. AlwaysGives m.steps t.0 l)

  -- a look leaves the list as it is
  always_gives_looked : (x : X) (l : List (Result X E)) (s t : S) → looks s x t → AlwaysGives m.steps s (Ok x ∷ l) → AlwaysGives m.steps t (Ok x ∷ l)
  always_gives_looked x l s t look a = λ r u step. let d = k.next s x t r u look step in (d.0, (a (item x) u d.1).1)

  -- from where a place left the source and the closure
  always_gives_left_where_leaves_rest : (left : Option (List (Result X E))) (taken : List (Result X E)) (s : S) (g : F) (t : S × F) → g ≡ f → LeavesRest left taken s t → Run (peeking_step m.steps looks call) (s, g) (map result_answer taken ++ end ∷ []) t → IfSome left (λ l. AlwaysGives m.steps t.0 l)
  always_gives_left_where_leaves_rest left taken s g t same leaves ran = leaves (subst (λ (z : F). Run (peeking_step m.steps looks call) (s, z) (map result_answer taken ++ end ∷ []) t) same ran)

  looks_at_refused_place : (z : Place X (Result Bool E) E) (x : X) (s t : S) → z ≡ asked x (Ok false) → DrawsAtPlace m.steps looks z s t → looks s x t
  looks_at_refused_place z x s t is d = subst (λ (w : Place X (Result Bool E) E). DrawsAtPlace m.steps looks w s t) is d

  leaves_rest_item : (x : X) (v : Result Bool E) (l rest : List (Result X E)) (left : Option (List (Result X E))) (s : S) (t : S × F) → h x ≡ v → AlwaysGives m.steps s (Ok x ∷ l) → ((u : S) → AlwaysGives m.steps u l → LeavesRest left rest u t) → LeavesRest (rest_from_item x v l left) (cons_while x v rest) s t
  leaves_rest_item x (Ok true) l rest left s t is a then = λ ran. let w = ran.1 in let d = asked_place_of_first_item k call f h acts w.0 x l s ran.0.0 ran.0.1 a w.1 w.2 in
      always_gives_left_where_leaves_rest left rest ran.0.0 ran.0.1 t d.1 (then ran.0.0 (d.2 (ap is_refused (d.0 ∙ ap (λ (v : Result Bool E). asked x v) is)))) ran.2
  leaves_rest_item x (Err e) l rest left s t is a then = λ ran. let w = ran.1 in let d = asked_place_of_first_item k call f h acts w.0 x l s ran.0.0 ran.0.1 a w.1 w.2 in
      always_gives_left_where_leaves_rest left rest ran.0.0 ran.0.1 t d.1 (then ran.0.0 (d.2 (ap is_refused (d.0 ∙ ap (λ (v : Result Bool E). asked x v) is)))) ran.2
  leaves_rest_item x (Ok false) l rest left s t is a then = λ ran. let w = ran.1 in let d = asked_place_of_first_item k call f h acts w.0 x l s ran.0.0 ran.0.1 a w.1 w.2 in
      always_gives_looked x l s t.0 (subst (λ (u : S × F). looks s x u.0) ran.2 (looks_at_refused_place w.0 x s ran.0.0 (d.0 ∙ ap (λ (v : Result Bool E). asked x v) is) w.1)) a

  pub leaves_rest_of_taken_while : (l : List (Result X E)) (s : S) (t : S × F) → AlwaysGives m.steps s l → LeavesRest (rest_by_while h l) (taken_while h l) s t
  unfolding rest_by_while taken_while
  leaves_rest_of_taken_while [] s t a = λ ran. tt
  leaves_rest_of_taken_while (Ok x ∷ l) s t a = leaves_rest_item x (h x) l (taken_while h l) (rest_by_while h l) s t refl a (λ u b. leaves_rest_of_taken_while l u t b)
  leaves_rest_of_taken_while (Err e ∷ l) s t a = λ ran. let w = ran.1 in let d = place_of_first_failure k call f h acts w.0 e l s ran.0.0 ran.0.1 a w.1 w.2 in
      always_gives_left_where_leaves_rest (rest_by_while h l) (taken_while h l) ran.0.0 ran.0.1 t d.2 (leaves_rest_of_taken_while l ran.0.0 t d.1) ran.2

-- a run of a value whose answers are those of its parts is one of these
run_of_viewed : {V P A E : Type 0} (view : V → P) (steps : P → Answered A E → P → Type 0) (trace : List (Answered A E)) (s t : V) → Run (λ u r v. steps (view u) r (view v)) s trace t → Run steps (view s) trace (view t)
run_of_viewed view steps [] s t e = ap view e
run_of_viewed view steps (r ∷ rest) s t w = (view w.0, w.1, run_of_viewed view steps rest w.0 t w.2)

if_some_lists_where_always_gives : {S X E : Type 0} (steps : S → Answered X E → S → Type 0) (s : S) (o : Option (List (Result X E))) → IfSome o (λ l. AlwaysGives steps s l) → IfSome o (λ l. Lists steps s l)
if_some_lists_where_always_gives steps s None i = tt
if_some_lists_where_always_gives steps s (Some l) i = record { runs = i }

-- Law: What `PeekingTakeWhile` leaves: over a source that lists l, with a closure that acts as h, draws up to `Ok(None)` at a rejected item leave a source that lists that item and what comes after it.
pub lists_rest_of_peeking_take_while : {S F X E : Type 0} {m : Contract S X E} {looks : S → X → S → Type 0} (k : LooksAhead m looks) (g : Mut F (Bor X × Unit {0}) (Result Bool E)) (s t : PeekingTakeWhile S F) (h : X → Result Bool E) (l : List (Result X E)) → Acts (call_by_reference g) s.accept h → Lists m.steps s.it l
    → Run (seen_as peeking_parts (peeking_contract m looks g)).steps s (map result_answer (taken_while h l) ++ end ∷ []) t → IfSome (rest_by_while h l) (λ rest. Lists m.steps t.it rest)
lists_rest_of_peeking_take_while {m = m} {looks = looks} k g s t h l a i ran = if_some_lists_where_always_gives m.steps t.it (rest_by_while h l) (leaves_rest_of_taken_while k (call_by_reference g) s.accept h a l s.it (peeking_parts t) i.runs (run_of_viewed peeking_parts (peeking_contract m looks g).steps (map result_answer (taken_while h l) ++ end ∷ []) s t ran))
