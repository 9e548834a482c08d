-- What an adapter that lets items pass lists over what lists made values, where it keeps items or leaves them out, and fails only where an allocation does.
use Rattle.std.specs.Prelude.{◌≡◌, ℕ, ◌+◌, Option, Bool, true, false, Some, None, Result, Ok, Err, List, [], ◌∷◌, ◌⊎◌, ⊤}
use Rattle.std.specs.Fn.{Mut}
use Rattle.std.specs.Borrow.{Bor}
use Rattle.std.proofs.Common.{refl, sym, ap, subst, inl, inr, ◌∙◌}
use Rattle.fallible_contract.specs.Traces.{Answered}
use Rattle.fallible_contract.specs.Closures.{call_by_reference, call_by_value}
use Rattle.fallible_contract.specs.Passing.{passing_step}
use Rattle.fallible_contract.specs.Laws.Passing.{Passes, done, end_passes, failure_passes, keeps, refuses, closes, leaves_out, passes_of_pass_trace, pass_trace_of_passes}
use Rattle.fallible_contract.proofs.Lemmas.Lists.Passing.{by_outcome, passed}
use Rattle.fallible_core.specs.OneToOne.Map.{map_outcome, map_parts, mapped}
use Rattle.fallible_core.specs.OneToOne.Inspect.{inspect_outcome, inspect_parts}
use Rattle.fallible_core.specs.OneToOne.Enumerate.{EnumerateTrace, enumerate_parts, number_call, number_outcome, numbered}
use Rattle.fallible_core.specs.OneToOne.Cloned.{cloned_call, cloned_parts, pointed_to}
use Rattle.fallible_core.specs.Filtering.Filter.{filter_parts, filtered, tested_outcome}
use Rattle.fallible_core.specs.Filtering.FilterMap.{filter_map_outcome, filter_map_parts, filter_mapped}
use Rattle.fallible_core.specs.Filtering.SkipWhile.{answers_false, skip_call, skip_while_outcome, skip_while_parts, skipped_while}
use Rattle.fallible_core.specs.Laws.OneToOne.Enumerate.{NumberedTrace, numbered_none, numbered_item, numbered_end, numbered_failure, numbered_trace_of_enumerate_trace}
use Rattle.fallible_core.proofs.Lemmas.OneToOne.Map.{passed_is_mapped}
use Rattle.fallible_core.proofs.Lemmas.Filtering.Filter.{passed_is_filtered}
use Rattle.fallible_core.proofs.Lemmas.Filtering.FilterMap.{passed_is_filter_mapped}
use Rattle.fallible_core.proofs.Lemmas.Filtering.SkipWhile.{asked_by, flag_after, listed_is_skipped_while}
use Rattle.fallible_iterator.specs.Making.{AnswersRefusal, AtRefusal, GivesMade, IsMadeOf, IsRefusal, IsToldOrRefused, ListsMade, MakesOf, NumberedMade, OptionMade, RefusesNext}
use Rattle.fallible_iterator.proofs.Lemmas.Making.{lists_made_seen}
use Rattle.std.specs.declared.alloc.AllocError.{AllocError}
use Rattle.fallible_contract.specs.declared.passing.Outcome.{Outcome}
use Rattle.fallible_contract.specs.declared.passing.Outcome.TheVariants.{Kept, LeftOut, Failure, End}
use Rattle.fallible_core.specs.declared.one_to_one.map.Map.{Map}
use Rattle.fallible_core.specs.declared.one_to_one.inspect.Inspect.{Inspect}
use Rattle.fallible_core.specs.declared.one_to_one.enumerate.Enumerate.{Enumerate}
use Rattle.fallible_core.specs.declared.one_to_one.cloned.Cloned.{Cloned}
use Rattle.fallible_core.specs.declared.filtering.filter.Filter.{Filter}
use Rattle.fallible_core.specs.declared.filtering.filter_map.FilterMap.{FilterMap}
use Rattle.fallible_core.specs.declared.filtering.skip_while.SkipWhile.{SkipWhile}

-- An item's outcome is what is told of the value that it is made of: a value that is made of the one told, or none; and G holds then. Or it is an allocation failure.
abbrev pub OutcomeMade : {Y C E : Type 0} → (Y → C → Type 0) → (AllocError → E → Type 0) → Type 0 → Outcome Y E → Outcome C E → Type 0
OutcomeMade {Y} made from G o (Kept c) = G × ((y : Y) × (o ≡ Kept y) × made y c)
OutcomeMade made from G o LeftOut = G × (o ≡ LeftOut)
OutcomeMade made from G o (Failure e) = IsRefusal from e
OutcomeMade made from G o End = ⊥

-- `At f p` says that the closure f is at p: called on what is made of x it makes what `answers p x` says, or fails to allocate that, and is at `next p x` then.
module _ {S F P X B R Q Y C E : Type 0} (steps : S → Answered B E → S → Type 0) (call : F → B → R → F → Type 0) (outcome : B → R → Outcome C E) (of : X → B → Type 0) (made : Y → C → Type 0) (from : AllocError → E → Type 0)
    (At : F → P → Type 0) (told : X → Q → Outcome Y E) (answers : P → X → Q) (next : P → X → P) (acts : (f : F) (p : P) (x : X) (b : B) (v : R) (g : F) → At f p → of x b → call f b v g → OutcomeMade made from (At g (next p x)) (told x (answers p x)) (outcome b v)) where
  abbrev Gives : S → F → List (Result Y E) → Type 0
  Gives s f k = GivesMade made (passing_step steps call outcome) from (s, f) k

  abbrev Refused : Answered C E → S → F → Type 0
  Refused r t g = AtRefusal made (passing_step steps call outcome) from r (t, g)

  abbrev DrawsOne : S → F → Answered C E → S → F → Type 0
  DrawsOne s f r t g = Passes steps call outcome s f (r ∷ []) t g

  abbrev listed : P → List (Result X E) → List (Result Y E)
  listed p l = passed told answers next p l

  -- ---- what one draw yields, and what comes then

  abbrev IsNext : List (Result Y E) → Answered C E → S → F → Type 0
  IsNext [] r t g = Refused r t g ⊎ (r ≡ Ok None)
  IsNext (y ∷ k) r t g = Refused r t g ⊎ (IsMadeOf made y r × Gives t g k)

  gives_where_next : (k : List (Result Y E)) (s : S) (f : F) → ((r : Answered C E) (t : S) (g : F) → DrawsOne s f r t g → IsNext k r t g) → Gives s f k
  gives_where_next [] s f each = λ r t w. each r t.0 t.1 (passes_of_pass_trace w)
  gives_where_next (y ∷ k) s f each = λ r t w. each r t.0 t.1 (passes_of_pass_trace w)

  next_where_gives : (k : List (Result Y E)) (s : S) (f : F) → Gives s f k → (r : Answered C E) (t : S) (g : F) → DrawsOne s f r t g → IsNext k r t g
  next_where_gives [] s f a r t g w = a r (t, g) (pass_trace_of_passes w)
  next_where_gives (y ∷ k) s f a r t g w = a r (t, g) (pass_trace_of_passes w)

  next_where_refused : (k : List (Result Y E)) (r : Answered C E) (t : S) (g : F) → Refused r t g → IsNext k r t g
  next_where_refused [] r t g q = inl q
  next_where_refused (y ∷ k) r t g q = inl q

  -- ---- what the source's draw yields, and what comes then

  abbrev IsDrawn : List (Result X E) → Answered B E → S → Type 0
  IsDrawn [] r u = AtRefusal of steps from r u ⊎ (r ≡ Ok None)
  IsDrawn (z ∷ l) r u = AtRefusal of steps from r u ⊎ (IsMadeOf of z r × GivesMade of steps from u l)

  drawn_where_gives : (l : List (Result X E)) (s : S) → GivesMade of steps from s l → (r : Answered B E) (u : S) → steps s r u → IsDrawn l r u
  drawn_where_gives [] s a = a
  drawn_where_gives (z ∷ l) s a = a

  -- an item that was buffered before an allocation failure, or one of the list's
  abbrev IsFirst : List (Result X E) → B → S → Type 0
  IsFirst [] b u = ⊥
  IsFirst (Ok x ∷ l) b u = of x b × GivesMade of steps from u l
  IsFirst (Err d ∷ l) b u = ⊥

  abbrev IsItem : List (Result X E) → B → S → Type 0
  IsItem l b u = ((x : X) × of x b × RefusesNext steps from u) ⊎ IsFirst l b u

  buffered : (b : B) (u : S) → AtRefusal of steps from (Ok (Some b)) u → (x : X) × of x b × RefusesNext steps from u
  buffered b u (inl q) = absurd (let e = q.1 in cc)
  buffered b u (inr (x, y, m, is, then)) = (x, subst (of x) (let same : y ≡ b = (let e = is in cc) in same) m, then)

  item_where_drawn : (l : List (Result X E)) (b : B) (u : S) → IsDrawn l (Ok (Some b)) u → IsItem l b u
  item_where_drawn [] b u (inl q) = inl (buffered b u q)
  item_where_drawn [] b u (inr is) = absurd (let e = is in cc)
  item_where_drawn (z ∷ l) b u (inl q) = inl (buffered b u q)
  item_where_drawn (Ok x ∷ l) b u (inr w) = inr w
  item_where_drawn (Err d ∷ l) b u (inr w) = absurd (let e = w.0 in cc)

  what_item_is_made_of : (l : List (Result X E)) (b : B) (u : S) → IsItem l b u → (x : X) × of x b
  what_item_is_made_of l b u (inl h) = (h.0, h.1)
  what_item_is_made_of [] b u (inr w) = absurd w
  what_item_is_made_of (Ok x ∷ l) b u (inr w) = (x, w.0)
  what_item_is_made_of (Err d ∷ l) b u (inr w) = absurd w

  -- ---- where the source refuses

  no_item_refuses : {G : Type 0} (b : B) → AnswersRefusal from (Ok (Some b)) → G
  no_item_refuses b r = absurd (let e = r.1 in cc)

  answers_refusal_where_source_does : (s : S) (f : F) (r : Answered C E) (t : S) (g : F) → RefusesNext steps from s → DrawsOne s f r t g → AnswersRefusal from r
  answers_refusal_where_source_does s f _ t g a (end_passes step d) = absurd (let e = (a (Ok None) _ step).1 in cc)
  answers_refusal_where_source_does s f _ t g a (failure_passes e step d) = let k = a (Err e) _ step in (e, refl, subst (IsRefusal from) (let q = k.1 in cc) k.2)
  answers_refusal_where_source_does s f _ t g a (keeps b v y step called is d) = no_item_refuses b (a (Ok (Some b)) _ step)
  answers_refusal_where_source_does s f _ t g a (refuses b v e step called is d) = no_item_refuses b (a (Ok (Some b)) _ step)
  answers_refusal_where_source_does s f _ t g a (closes b v step called is d) = no_item_refuses b (a (Ok (Some b)) _ step)
  answers_refusal_where_source_does s f r t g a (leaves_out b v step called is d) = no_item_refuses b (a (Ok (Some b)) _ step)

  refuses_next : (t : S) (g : F) → RefusesNext steps from t → RefusesNext (passing_step steps call outcome) from (t, g)
  refuses_next t g a = λ r q w. answers_refusal_where_source_does t g r q.0 q.1 a (passes_of_pass_trace w)

  -- ---- one draw

  made_by_call : (f : F) (p : P) (x : X) (b : B) (v : R) (g : F) (o : Outcome C E) → At f p → of x b → call f b v g → outcome b v ≡ o → OutcomeMade made from (At g (next p x)) (told x (answers p x)) o
  made_by_call f p x b v g o at m called is = subst (λ (z : Outcome C E). OutcomeMade made from (At g (next p x)) (told x (answers p x)) z) is (acts f p x b v g at m called)

  -- what the rest gives
  abbrev Later : List (Result X E) → Type 0
  Later [] = ⊤
  Later (z ∷ l) = (u : S) (g : F) (q : P) → At g q → GivesMade of steps from u l → Gives u g (listed q l)

  next_at_end : (l : List (Result X E)) (p : P) (f : F) (u : S) → IsDrawn l (Ok None) u → IsNext (listed p l) (Ok None) u f
  next_at_end [] p f u w = inr refl
  next_at_end (z ∷ l) p f u (inl (inl q)) = absurd (let e = q.1 in cc)
  next_at_end (z ∷ l) p f u (inl (inr h)) = absurd (let e = h.3 in cc)
  next_at_end (Ok x ∷ l) p f u (inr w) = absurd w.0
  next_at_end (Err d ∷ l) p f u (inr w) = absurd (let e = w.0 in cc)

  refused_failure : (e : E) (f : F) (u : S) → AtRefusal of steps from (Err e) u → Refused (Err e) u f
  refused_failure e f u (inl q) = inl (e, refl, subst (IsRefusal from) (let k = q.1 in cc) q.2)
  refused_failure e f u (inr h) = absurd (let k = h.3 in cc)

  next_at_failure : (l : List (Result X E)) (e : E) (p : P) (f : F) (u : S) → At f p → Later l → IsDrawn l (Err e) u → IsNext (listed p l) (Err e) u f
  next_at_failure [] e p f u at later (inl q) = inl (refused_failure e f u q)
  next_at_failure [] e p f u at later (inr is) = absurd (let k = is in cc)
  next_at_failure (z ∷ l) e p f u at later (inl q) = next_where_refused (listed p (z ∷ l)) (Err e) u f (refused_failure e f u q)
  next_at_failure (Ok x ∷ l) e p f u at later (inr w) = absurd w.0
  next_at_failure (Err d ∷ l) e p f u at later (inr w) = inr ((let k = w.0 in cc), later u f p at w.1)

  module _ (p : P) (b : B) (v : R) (f : F) (u : S) (g : F) (at : At f p) (called : call f b v g) where
    next_of_kept : (l : List (Result X E)) (c : C) → outcome b v ≡ Kept c → Later l → IsItem l b u → IsNext (listed p l) (Ok (Some c)) u g
    next_of_kept l c is later (inl (x, m, then)) = let o = made_by_call f p x b v g (Kept c) at m called is in next_where_refused (listed p l) (Ok (Some c)) u g (inr ((o.1).0, c, (o.1).2, refl, refuses_next u g then))
    next_of_kept [] c is later (inr w) = absurd w
    next_of_kept (Ok x ∷ l) c is later (inr w) = let o = made_by_call f p x b v g (Kept c) at w.0 called is in
        subst (λ (z : Outcome Y E). IsNext (by_outcome z (listed (next p x) l)) (Ok (Some c)) u g) (sym (o.1).1) (inr ((o.1).2, later u g (next p x) o.0 w.1))
    next_of_kept (Err d ∷ l) c is later (inr w) = absurd w

    next_of_refused : (l : List (Result X E)) (e : E) → outcome b v ≡ Failure e → IsItem l b u → IsNext (listed p l) (Err e) u g
    next_of_refused l e is i = let x = what_item_is_made_of l b u i in next_where_refused (listed p l) (Err e) u g (inl (e, refl, made_by_call f p x.0 b v g (Failure e) at x.1 called is))

    never_closed : {G : Type 0} (l : List (Result X E)) → outcome b v ≡ End → IsItem l b u → G
    never_closed l is i = let x = what_item_is_made_of l b u i in absurd (made_by_call f p x.0 b v g End at x.1 called is)

    next_of_left_out : (l : List (Result X E)) → outcome b v ≡ LeftOut → Later l → IsItem l b u → (r : Answered C E) (t : S) (h : F) → DrawsOne u g r t h → IsNext (listed p l) r t h
    next_of_left_out l is later (inl (x, m, then)) r t h d = next_where_refused (listed p l) r t h (inl (answers_refusal_where_source_does u g r t h then d))
    next_of_left_out [] is later (inr w) r t h d = absurd w
    next_of_left_out (Ok x ∷ l) is later (inr w) r t h d = let o = made_by_call f p x b v g LeftOut at w.0 called is in
        subst (λ (z : Outcome Y E). IsNext (by_outcome z (listed (next p x) l)) r t h) (sym o.1) (next_where_gives (listed (next p x) l) u g (later u g (next p x) o.0 w.1) r t h d)
    next_of_left_out (Err d ∷ l) is later (inr w) r t h e = absurd w

  next_of_draw : (l : List (Result X E)) (s : S) (f : F) (p : P) → At f p → Later l → GivesMade of steps from s l → (r : Answered C E) (t : S) (g : F) → DrawsOne s f r t g → IsNext (listed p l) r t g
  next_of_draw l s f p at later a _ t g (end_passes step done) = next_at_end l p f t (drawn_where_gives l s a (Ok None) t step)
  next_of_draw l s f p at later a _ t g (failure_passes e step done) = next_at_failure l e p f t at later (drawn_where_gives l s a (Err e) t step)
  next_of_draw l s f p at later a _ t g (keeps b v c step called is done) = next_of_kept p b v f t g at called l c is later (item_where_drawn l b t (drawn_where_gives l s a (Ok (Some b)) t step))
  next_of_draw l s f p at later a _ t g (refuses b v e step called is done) = next_of_refused p b v f t g at called l e is (item_where_drawn l b t (drawn_where_gives l s a (Ok (Some b)) t step))
  next_of_draw l s f p at later a _ t g (closes b v step called is done) = never_closed p b v f t g at called l is (item_where_drawn l b t (drawn_where_gives l s a (Ok (Some b)) t step))
  next_of_draw l s f p at later a r t g (leaves_out {u = u} {h = h} b v step called is d) = next_of_left_out p b v f u h at called l is later (item_where_drawn l b u (drawn_where_gives l s a (Ok (Some b)) u step)) r t g d

  -- it gives what `answers` says, up to an allocation failure
  pub gives_told : (l : List (Result X E)) (s : S) (f : F) (p : P) → At f p → GivesMade of steps from s l → Gives s f (listed p l)
  gives_told [] s f p at a = gives_where_next [] s f (next_of_draw [] s f p at tt a)
  gives_told (z ∷ l) s f p at a = gives_where_next (listed p (z ∷ l)) s f (next_of_draw (z ∷ l) s f p at (λ u g q k b. gives_told l u g q k b) a)

-- ---- with a closure that stays as it is

module _ {F X B R : Type 0} (call : F → B → R → F → Type 0) (of : X → B → Type 0) (f : F) (Told : X → R → Type 0) (acts : (x : X) (b : B) (v : R) (g : F) → of x b → call f b v g → (g ≡ f) × Told x v) where
  stays_and_tells : (g : F) (x : X) (b : B) (v : R) (k : F) → g ≡ f → of x b → call g b v k → (k ≡ f) × Told x v
  stays_and_tells g x b v k same m called = acts x b v k m (subst (λ (j : F). call j b v k) same called)

-- ---- `map`

module _ {Y C E : Type 0} (made : Y → C → Type 0) (from : AllocError → E → Type 0) {G X B : Type 0} (x : X) (b : B) where
  map_made_of_told : (y : Y) (v : Result C E) → G → IsToldOrRefused made from (Ok y) v → OutcomeMade made from G (map_outcome x (Ok y)) (map_outcome b v)
  map_made_of_told y (Ok c) at m = (at, (y, refl, m))
  map_made_of_told y (Err e) at r = r

-- `map` over what lists made values lists what h makes of them, up to an allocation failure
pub made_by_map_of_made : {S F X Y B C E : Type 0} {steps : S → Answered B E → S → Type 0} {g : Mut F (B × Unit {0}) (Result C E)} {of : X → B → Type 0} {made : Y → C → Type 0} {from : AllocError → E → Type 0} {it : S} {f : F} {l : List (Result X E)} {s : Map S F} (h : X → Y) → map_parts s ≡ (it, f) → MakesOf of made from (call_by_value g) f h → ListsMade of steps from it l
    → ListsMade made (λ u r v. passing_step steps (call_by_value g) map_outcome (map_parts u) r (map_parts v)) from s (mapped (λ x. Ok (h x)) l)
made_by_map_of_made {steps = steps} {g = g} {of = of} {made = made} {from = from} {it = it} {f = f} {l = l} {s = s} h parts makes i = lists_made_seen made from map_parts (passing_step steps (call_by_value g) map_outcome) s (it, f) _ _ parts (passed_is_mapped (λ x. Ok (h x)) l)
    (gives_told steps (call_by_value g) map_outcome of made from (λ k p. k ≡ f) map_outcome (λ (p : Unit {0}) x. Ok (h x)) (λ p x. p) (λ k p x b v j at m called. let c = stays_and_tells (call_by_value g) of f (λ x v. IsToldOrRefused made from (Ok (h x)) v) makes k x b v j at m called in map_made_of_told made from x b (h x) v c.0 c.1) l it f tt refl i.runs)

-- ---- `filter`

module _ {X B E : Type 0} (of : X → B → Type 0) (from : AllocError → E → Type 0) {G : Type 0} (x : X) (b : B) where
  tested_made_of_told : (keep : Bool) (v : Result Bool E) → G → of x b → IsToldOrRefused (λ w z. z ≡ w) from (Ok keep) v → OutcomeMade of from G (tested_outcome x (Ok keep)) (tested_outcome b v)
  tested_made_of_told true (Ok true) at m is = (at, (x, refl, m))
  tested_made_of_told true (Ok false) at m is = absurd cc
  tested_made_of_told false (Ok true) at m is = absurd cc
  tested_made_of_told false (Ok false) at m is = (at, refl)
  tested_made_of_told keep (Err e) at m r = r

-- `filter` over what lists made values lists those of which h is true, up to an allocation failure
pub made_by_filter_of_made : {S F X B E : Type 0} {steps : S → Answered B E → S → Type 0} {g : Mut F (Bor B × Unit {0}) (Result Bool E)} {of : X → B → Type 0} {from : AllocError → E → Type 0} {it : S} {f : F} {l : List (Result X E)} {s : Filter S F} (h : X → Bool) → filter_parts s ≡ (it, f) → MakesOf of (λ w z. z ≡ w) from (call_by_reference g) f h → ListsMade of steps from it l
    → ListsMade of (λ u r v. passing_step steps (call_by_reference g) tested_outcome (filter_parts u) r (filter_parts v)) from s (filtered (λ x. Ok (h x)) l)
made_by_filter_of_made {steps = steps} {g = g} {of = of} {from = from} {it = it} {f = f} {l = l} {s = s} h parts tests i = lists_made_seen of from filter_parts (passing_step steps (call_by_reference g) tested_outcome) s (it, f) _ _ parts (passed_is_filtered (λ x. Ok (h x)) l)
    (gives_told steps (call_by_reference g) tested_outcome of of from (λ k p. k ≡ f) tested_outcome (λ (p : Unit {0}) x. Ok (h x)) (λ p x. p) (λ k p x b v j at m called. let c = stays_and_tells (call_by_reference g) of f (λ x v. IsToldOrRefused (λ w z. z ≡ w) from (Ok (h x)) v) tests k x b v j at m called in tested_made_of_told of from x b (h x) v c.0 m c.1) l it f tt refl i.runs)

-- ---- `filter_map`

module _ {Y C E : Type 0} (made : Y → C → Type 0) (from : AllocError → E → Type 0) {G X B : Type 0} (x : X) (b : B) where
  picked_made_of_told : (o : Option Y) (v : Result (Option C) E) → G → IsToldOrRefused (OptionMade made) from (Ok o) v → OutcomeMade made from G (filter_map_outcome x (Ok o)) (filter_map_outcome b v)
  picked_made_of_told (Some y) (Ok (Some c)) at m = (at, (y, refl, m))
  picked_made_of_told (Some y) (Ok None) at m = absurd m
  picked_made_of_told None (Ok (Some c)) at m = absurd m
  picked_made_of_told None (Ok None) at m = (at, refl)
  picked_made_of_told o (Err e) at r = r

-- `filter_map` over what lists made values lists what h makes of them, up to an allocation failure
pub made_by_filter_map_of_made : {S F X Y B C E : Type 0} {steps : S → Answered B E → S → Type 0} {g : Mut F (B × Unit {0}) (Result (Option C) E)} {of : X → B → Type 0} {made : Y → C → Type 0} {from : AllocError → E → Type 0} {it : S} {f : F} {l : List (Result X E)} {s : FilterMap S F} (h : X → Option Y) → filter_map_parts s ≡ (it, f) → MakesOf of (OptionMade made) from (call_by_value g) f h → ListsMade of steps from it l
    → ListsMade made (λ u r v. passing_step steps (call_by_value g) filter_map_outcome (filter_map_parts u) r (filter_map_parts v)) from s (filter_mapped (λ x. Ok (h x)) l)
made_by_filter_map_of_made {steps = steps} {g = g} {of = of} {made = made} {from = from} {it = it} {f = f} {l = l} {s = s} h parts picks i = lists_made_seen made from filter_map_parts (passing_step steps (call_by_value g) filter_map_outcome) s (it, f) _ _ parts (passed_is_filter_mapped (λ x. Ok (h x)) l)
    (gives_told steps (call_by_value g) filter_map_outcome of made from (λ k p. k ≡ f) filter_map_outcome (λ (p : Unit {0}) x. Ok (h x)) (λ p x. p) (λ k p x b v j at m called. let c = stays_and_tells (call_by_value g) of f (λ x v. IsToldOrRefused (OptionMade made) from (Ok (h x)) v) picks k x b v j at m called in picked_made_of_told made from x b (h x) v c.0 c.1) l it f tt refl i.runs)

-- ---- `inspect`

module _ {X B E : Type 0} (of : X → B → Type 0) (from : AllocError → E → Type 0) {G : Type 0} (x : X) (b : B) where
  seen_made_of_told : (v : Result (Unit {0}) E) → G → of x b → IsToldOrRefused (λ w z. z ≡ w) from (Ok tt) v → OutcomeMade of from G (Kept x) (inspect_outcome b v)
  seen_made_of_told (Ok u) at m is = (at, (x, refl, m))
  seen_made_of_told (Err e) at m r = r

passed_is_list : {X E : Type 0} (l : List (Result X E)) → passed (λ x (u : Unit {0}). Kept x) (λ (p : Unit {0}) x. tt) (λ p x. p) tt l ≡ l
passed_is_list [] = refl
passed_is_list (Ok x ∷ l) = ap (λ k. Ok x ∷ k) (passed_is_list l)
passed_is_list (Err e ∷ l) = ap (λ k. Err e ∷ k) (passed_is_list l)

-- `inspect` over what lists made values lists the same, up to an allocation failure; the closure may change
pub made_by_inspect_of_made : {S F X B E : Type 0} {steps : S → Answered B E → S → Type 0} {g : Mut F (Bor B × Unit {0}) (Result (Unit {0}) E)} {of : X → B → Type 0} {from : AllocError → E → Type 0} {it : S} {f : F} {l : List (Result X E)} {s : Inspect S F} → inspect_parts s ≡ (it, f) → ((k : F) (x : X) (b : B) (v : Result (Unit {0}) E) (j : F) → of x b → call_by_reference g k b v j → IsToldOrRefused (λ w z. z ≡ w) from (Ok tt) v) → ListsMade of steps from it l
    → ListsMade of (λ u r v. passing_step steps (call_by_reference g) inspect_outcome (inspect_parts u) r (inspect_parts v)) from s l
made_by_inspect_of_made {steps = steps} {g = g} {of = of} {from = from} {it = it} {f = f} {l = l} {s = s} parts sees i = lists_made_seen of from inspect_parts (passing_step steps (call_by_reference g) inspect_outcome) s (it, f) _ _ parts (passed_is_list l)
    (gives_told steps (call_by_reference g) inspect_outcome of of from (λ k p. Unit {0}) (λ x (u : Unit {0}). Kept x) (λ (p : Unit {0}) x. tt) (λ p x. p) (λ k p x b v j at m called. seen_made_of_told of from x b v tt m (sees k x b v j m called)) l it f tt tt i.runs)

-- ---- `skip_while`

module _ {F X B E : Type 0} (call : F → B → Result Bool E → F → Type 0) (of : X → B → Type 0) (from : AllocError → E → Type 0) (f : F) (h : X → Bool) (tests : MakesOf of (λ w z. z ≡ w) from call f h) where
  abbrev SkipsAt : Bool × F → Bool → Type 0
  SkipsAt q b = q ≡ (b, f)

  asked_made_of_told : (k : F) (flag : Bool) (x : X) (b : B) (keep : Bool) (v : Result Bool E) → k ≡ f → flag ≡ answers_false v → of x b → IsToldOrRefused (λ w z. z ≡ w) from (Ok keep) v → OutcomeMade of from (SkipsAt (flag, k) (answers_false {E = E} (Ok keep))) (skip_while_outcome {E = E} x (Some (Ok keep))) (skip_while_outcome b (Some v))
  asked_made_of_told k flag x b true (Ok true) same is m told = (ap (λ (j : F). (flag, j)) same ∙ ap (λ (z : Bool). (z, f)) is, refl)
  asked_made_of_told k flag x b true (Ok false) same is m told = absurd cc
  asked_made_of_told k flag x b false (Ok true) same is m told = absurd cc
  asked_made_of_told k flag x b false (Ok false) same is m told = (ap (λ (j : F). (flag, j)) same ∙ ap (λ (z : Bool). (z, f)) is, (x, refl, m))
  asked_made_of_told k flag x b keep (Err e) same is m r = r

  skip_made_of_call : (q : Bool × F) (p : Bool) (x : X) (b : B) (v : Option (Result Bool E)) (k : Bool × F) → SkipsAt q p → of x b → skip_call call q b v k → OutcomeMade of from (SkipsAt k (flag_after {E = E} (λ y. Ok (h y)) p x)) (skip_while_outcome {E = E} x (asked_by (λ y. Ok (h y)) p x)) (skip_while_outcome b v)
  skip_made_of_call q true x b None k at m called = (called.1 ∙ at, (x, refl, m))
  skip_made_of_call q false x b None k at m called = absurd (let is : q.0 ≡ false = ap (λ z. z.0) at in let found = called.0 in cc)
  skip_made_of_call q true x b (Some v) k at m called = absurd (let is : q.0 ≡ true = ap (λ z. z.0) at in let unfound = called.0 in cc)
  skip_made_of_call q false x b (Some v) k at m called = let c = tests x b v k.1 m (subst (λ (j : F). call j b v k.1) (ap (λ z. z.1) at) called.1) in asked_made_of_told k.1 k.0 x b (h x) v c.0 called.2 m c.1

-- `skip_while` over what lists made values lists those from the first on of which h is false, up to an allocation failure
pub made_by_skip_while_of_made : {S F X B E : Type 0} {steps : S → Answered B E → S → Type 0} {g : Mut F (Bor B × Unit {0}) (Result Bool E)} {of : X → B → Type 0} {from : AllocError → E → Type 0} {it : S} {f : F} {l : List (Result X E)} {s : SkipWhile S F} (h : X → Bool) → skip_while_parts s ≡ (it, (false, f)) → MakesOf of (λ w z. z ≡ w) from (call_by_reference g) f h → ListsMade of steps from it l
    → ListsMade of (λ u r v. passing_step steps (skip_call (call_by_reference g)) skip_while_outcome (skip_while_parts u) r (skip_while_parts v)) from s (skipped_while (λ x. Ok (h x)) l)
made_by_skip_while_of_made {E = E} {steps = steps} {g = g} {of = of} {from = from} {it = it} {f = f} {l = l} {s = s} h parts tests i = lists_made_seen of from skip_while_parts (passing_step steps (skip_call (call_by_reference g)) skip_while_outcome) s (it, (false, f)) _ _ parts (listed_is_skipped_while (λ x. Ok (h x)) l)
    (gives_told steps (skip_call (call_by_reference g)) skip_while_outcome of of from (SkipsAt (call_by_reference g) of from f h tests) skip_while_outcome (asked_by (λ x. Ok (h x))) (flag_after {E = E} (λ x. Ok (h x))) (skip_made_of_call (call_by_reference g) of from f h tests) l it (false, f) false refl i.runs)

-- ---- `cloned`, over references that are the list's

module _ {T E : Type 0} (is_clone : T → T → Type 0) (is_infallible : T → Type 0) (from : AllocError → E → Type 0) where
  clone_made_of_call : (x b : Bor T) (v : Result T E) → b ≡ x → cloned_call is_clone is_infallible from tt b v tt → OutcomeMade is_clone from (Unit {0}) (Kept x.now) (map_outcome b v)
  clone_made_of_call x b (Ok y) same c = (tt, (x.now, refl, subst (λ (z : Bor T). is_clone z.now y) same c))
  clone_made_of_call x b (Err e) same c = c.1

  passed_is_pointed_to : (l : List (Result (Bor T) E)) → passed (λ (x : Bor T) (u : Unit {0}). Kept x.now) (λ (p : Unit {0}) x. tt) (λ p x. p) tt l ≡ pointed_to l
  unfolding pointed_to
  passed_is_pointed_to [] = refl
  passed_is_pointed_to (Ok x ∷ l) = ap (λ k. Ok x.now ∷ k) (passed_is_pointed_to l)
  passed_is_pointed_to (Err e ∷ l) = ap (λ k. Err e ∷ k) (passed_is_pointed_to l)

  -- `cloned` over what lists references up to an allocation failure lists clones of what they point to, up to such a failure
  pub made_by_cloned_of_made : {S : Type 0} {steps : S → Answered (Bor T) E → S → Type 0} {it : S} {l : List (Result (Bor T) E)} {s : Cloned S} → cloned_parts s ≡ (it, tt) → ListsMade (λ x y. y ≡ x) steps from it l
      → ListsMade is_clone (λ u r v. passing_step steps (cloned_call is_clone is_infallible from) map_outcome (cloned_parts u) r (cloned_parts v)) from s (pointed_to l)
  made_by_cloned_of_made {steps = steps} {it = it} {l = l} {s = s} parts i = lists_made_seen is_clone from cloned_parts (passing_step steps (cloned_call is_clone is_infallible from) map_outcome) s (it, tt) _ _ parts (passed_is_pointed_to l)
      (gives_told steps (cloned_call is_clone is_infallible from) map_outcome (λ x y. y ≡ x) is_clone from (λ f p. Unit {0}) (λ x (u : Unit {0}). Kept x.now) (λ (p : Unit {0}) x. tt) (λ p x. p) (λ f p x b v g at same called. clone_made_of_call x b v same called) l it tt tt tt i.runs)

-- ---- an adapter whose draws are some of those of one that lists made values

module _ {Q X B E : Type 0} (made : X → B → Type 0) (less more : Q → Answered B E → Q → Type 0) (from : AllocError → E → Type 0) (by : (q : Q) (r : Answered B E) (t : Q) → less q r t → more q r t) where
  fewer_at_refusal : (r : Answered B E) (t : Q) → AtRefusal made more from r t → AtRefusal made less from r t
  fewer_at_refusal r t (inl q) = inl q
  fewer_at_refusal r t (inr (x, y, m, is, next)) = inr (x, y, m, is, λ a u w. next a u (by t a u w))

  gives_made_of_more : (l : List (Result X E)) (q : Q) → GivesMade made more from q l → GivesMade made less from q l
  gives_made_of_more [] q a = λ r t w. elim (a r t (by q r t w)) [ inl k ↦ inl (fewer_at_refusal r t k) | inr is ↦ inr is ]
  gives_made_of_more (y ∷ l) q a = λ r t w. elim (a r t (by q r t w)) [ inl k ↦ inl (fewer_at_refusal r t k) | inr k ↦ inr (k.0, gives_made_of_more l t k.1) ]

-- ---- `enumerate`

module _ {S X B E : Type 0} (steps : S → Answered B E → S → Type 0) (of : X → B → Type 0) (from : AllocError → E → Type 0) where
  abbrev NumberStep : S × ℕ → Answered (ℕ × B) E → S × ℕ → Type 0
  NumberStep p r q = EnumerateTrace steps p (r ∷ []) q

  passes_of_numbered : (s t : S) (n k : ℕ) (r : Answered (ℕ × B) E) → NumberedTrace steps s n (r ∷ []) t k → Passes steps number_call number_outcome s n (r ∷ []) t k
  passes_of_numbered s t n k _ (numbered_item x step numbered_none) = keeps x n (n, x) step (refl, refl) refl done
  passes_of_numbered s t n k _ (numbered_end step numbered_none) = end_passes step done
  passes_of_numbered s t n k _ (numbered_failure e step numbered_none) = failure_passes e step done

  passing_step_of_number_step : (p : S × ℕ) (r : Answered (ℕ × B) E) (q : S × ℕ) → NumberStep p r q → passing_step steps number_call number_outcome p r q
  passing_step_of_number_step p r q w = pass_trace_of_passes (passes_of_numbered p.0 q.0 p.1 q.1 r (numbered_trace_of_enumerate_trace steps p.0 q.0 p.1 q.1 (r ∷ []) w))

  number_made_of_call : (g n : ℕ) (x : X) (b : B) (v k : ℕ) → g ≡ n → of x b → number_call g b v k → OutcomeMade {E = E} (NumberedMade of) from (k ≡ n + 1) (number_outcome x n) (number_outcome b v)
  number_made_of_call g n x b v k same m called = (called.1 ∙ ap (λ j. j + 1) same, ((n, x), refl, (called.0 ∙ same, m)))

  passed_is_numbered : (l : List (Result X E)) (n : ℕ) → passed number_outcome (λ n x. n) (λ n x. n + 1) n l ≡ numbered n l
  unfolding numbered
  passed_is_numbered [] n = refl
  passed_is_numbered (Ok x ∷ l) n = ap (λ k. Ok (n, x) ∷ k) (passed_is_numbered l (n + 1))
  passed_is_numbered (Err e ∷ l) n = ap (λ k. Err e ∷ k) (passed_is_numbered l n)

  gives_numbered : (l : List (Result X E)) (s : S) (n : ℕ) → GivesMade of steps from s l → GivesMade (NumberedMade of) NumberStep from (s, n) (passed number_outcome (λ n x. n) (λ n x. n + 1) n l)
  gives_numbered l s n a = gives_made_of_more (NumberedMade of) NumberStep (passing_step steps number_call number_outcome) from passing_step_of_number_step _ (s, n)
      (gives_told steps number_call number_outcome of (NumberedMade of) from (λ g n. g ≡ n) number_outcome (λ n x. n) (λ n x. n + 1) number_made_of_call l s n n refl a)

-- `enumerate` over what lists made values lists them beside their numbers, up to an allocation failure
pub made_by_enumerate_of_made : {S X B E : Type 0} {steps : S → Answered B E → S → Type 0} {of : X → B → Type 0} {from : AllocError → E → Type 0} {it : S} {n : ℕ} {l : List (Result X E)} {s : Enumerate S} → enumerate_parts s ≡ (it, n) → ListsMade of steps from it l
    → ListsMade (NumberedMade of) (λ u r v. EnumerateTrace steps (enumerate_parts u) (r ∷ []) (enumerate_parts v)) from s (numbered n l)
made_by_enumerate_of_made {steps = steps} {of = of} {from = from} {it = it} {n = n} {l = l} {s = s} parts i = lists_made_seen (NumberedMade of) from enumerate_parts (λ p r q. EnumerateTrace steps p (r ∷ []) q) s (it, n) _ _ parts (passed_is_numbered steps of from l n) (gives_numbered steps of from l it n i.runs)
