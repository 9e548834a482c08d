-- What one draw of `Flatten` is, and what it lists.
use Rattle.std.specs.Prelude.{◌≡◌, false, List, [], ◌∷◌, Option, Result, Some, None, Ok, Err}
use Rattle.std.proofs.Common.{refl, subst}
use Rattle.fallible_contract.specs.Traces.{Answered, item, failure, end, is_end}
use Rattle.fallible_contract.specs.Contract.{Contract, seen_as}
use Rattle.fallible_contract.specs.Lists.{AlwaysGives, Lists, result_answer}
use Rattle.fallible_contract.proofs.Lemmas.Lists.Passing.{always_gives_by_each_step, lists_seen}
use Rattle.fallible_core.specs.Joining.Flatten.{EachLists, flattened, flatten_contract, FlattenTrace, still_in_hand}
use Rattle.fallible_core.specs.Joining.Chain.{chained}
use Rattle.fallible_core.proofs.Lemmas.Joining.Chain.{item_not_end}
use Rattle.fallible_core.specs.Laws.Joining.FlattenTraces.{Flattens, done, gives, fails, finishes, begins, outer_fails, outer_ends, flattens_of_flatten_trace, flatten_trace_of_flattens, trace_after_inner_end, same_state_where_flattens_nothing}
pub use Rattle.fallible_core.specs.Laws.Joining.FlattenTraces.{flatten_trace_is_by_answers}

-- ---- one draw

module _ {S X C B E : Type 0} {outer : S → Answered X E → S → Type 0} {into : X → C → Type 0} {inner : C → Answered B E → C → Type 0} where
  -- an answer, which is no end, of the current inner iterator
  pub flatten_trace_in_hand : {s : S} {c d : C} {hand : Option C} (r : Answered B E) → hand ≡ Some c → inner c r d → is_end r ≡ false → FlattenTrace outer into inner (s, hand) (r ∷ []) (s, (Some d))
  flatten_trace_in_hand {d = d} r e step free = rw e (still_in_hand {trace = r ∷ []} (record { drawn = (d, step, refl); no_end = (free, tt); not_empty = λ e. absurd cc }))

  -- the current inner iterator ended first
  pub flatten_trace_after_end : {s t : S} {c : C} {hand hand' : Option C} {r : Answered B E} (d : C) → hand ≡ Some c → inner c end d → FlattenTrace outer into inner (s, None) (r ∷ []) (t, hand') → FlattenTrace outer into inner (s, hand) (r ∷ []) (t, hand')
  flatten_trace_after_end {s} {t} {c} {hand} {hand'} {r} d e step p = rw e (trace_after_inner_end outer into inner s t c d None hand' (r ∷ []) step refl (λ k. cc) p)

  -- where none is in hand, an item of the outer source becomes it, and a failure or an end is the answer
  pub flatten_trace_at_item : {s u : S} {c : C} {q : S × Option C} {r : Answered B E} (x : X) → outer s (item x) u → into x c → FlattenTrace outer into inner (u, Some c) (r ∷ []) q → FlattenTrace outer into inner (s, None) (r ∷ []) q
  flatten_trace_at_item {s} {u} {c} {q} {r} x step becomes p = flatten_trace_of_flattens outer into inner s q.0 None q.1 (r ∷ []) (begins x step becomes (flattens_of_flatten_trace outer into inner u q.0 (Some c) q.1 (r ∷ []) p))

  pub flatten_trace_outer_failure : {s t : S} (e : E) → outer s (failure e) t → FlattenTrace outer into inner (s, None) (failure e ∷ []) (t, None)
  flatten_trace_outer_failure {s} {t} e step = flatten_trace_of_flattens outer into inner s t None None (failure e ∷ []) (outer_fails e step done)

  pub flatten_trace_outer_end : {s t : S} → outer s end t → FlattenTrace outer into inner (s, None) (end ∷ []) (t, None)
  flatten_trace_outer_end {s} {t} step = flatten_trace_of_flattens outer into inner s t None None (end ∷ []) (outer_ends step done)

-- ---- what it lists

module _ {S X C B E : Type 0} (outer : S → Answered X E → S → Type 0) (into : X → C → Type 0) (steps : C → Answered B E → C → Type 0) where
  -- one draw
  abbrev DrawsHere : S × Option C → Answered B E → S × Option C → Type 0
  DrawsHere p r q = FlattenTrace outer into steps p (r ∷ []) q

  abbrev GivesInFlatten : S → Option C → List (Result B E) → Type 0
  GivesInFlatten s hand l = AlwaysGives DrawsHere (s, hand) l

  abbrev DrawsOne : S → Option C → Answered B E → S → Option C → Type 0
  DrawsOne s hand r t hand' = Flattens outer into steps s hand (r ∷ []) t hand'

  -- a state from which the same draw is one, and which yields the list
  record DrawnFrom (r : Answered B E) (q : S × Option C) (l : List (Result B E)) : Type 0 where
    from : S × Option C
    draws : DrawsHere from r q
    all : AlwaysGives DrawsHere from l

  gives_in_flatten_where_drawn_from : (l : List (Result B E)) (s : S) (hand : Option C) → ((r : Answered B E) (t : S) (hand' : Option C) → DrawsOne s hand r t hand' → DrawnFrom r (t, hand') l) → GivesInFlatten s hand l
  gives_in_flatten_where_drawn_from l s hand f = always_gives_by_each_step DrawsHere l (s, hand) (λ r q w. let d = f r q.0 q.1 (flattens_of_flatten_trace outer into steps s q.0 hand q.1 (r ∷ []) w) in (d.from, d.draws, d.all))

  drawn_from_where_gives_in_flatten : (s t : S) (hand hand' : Option C) (r : Answered B E) (l : List (Result B E)) → DrawsOne s hand r t hand' → GivesInFlatten s hand l → DrawnFrom r (t, hand') l
  drawn_from_where_gives_in_flatten s t hand hand' r l f g = record { from = (s, hand); draws = flatten_trace_of_flattens outer into steps s t hand hand' (r ∷ []) f; all = g }

  -- the current inner iterator is at its end
  drawn_from_after_end : (rest : List (Result B E)) (c : C) (s : S) → AlwaysGives {A = B} {E = E} steps c [] → GivesInFlatten s None rest → (r : Answered B E) (t : S) (hand : Option C) → DrawsOne s (Some c) r t hand → DrawnFrom r (t, hand) rest
  drawn_from_after_end rest c s a then _ _ _ (gives {d = d} y step f) = absurd (let h = a (Ok (Some y)) d step in cc)
  drawn_from_after_end rest c s a then _ _ _ (fails {d = d} e step f) = absurd (let h = a (Err e) d step in cc)
  drawn_from_after_end rest c s a then r t hand (finishes step f) = drawn_from_where_gives_in_flatten s t None hand r rest f then

  gives_in_flatten_after_no_answer : (l : List (Result B E)) (s t : S) (hand hand' : Option C) → Flattens outer into steps s hand [] t hand' → GivesInFlatten s hand l → GivesInFlatten t hand' l
  gives_in_flatten_after_no_answer l s t hand hand' f g = subst (λ (p : S × Option C). AlwaysGives DrawsHere p l) (same_state_where_flattens_nothing outer into steps s t hand hand' f) g

  -- it has an answer
  answer_is_first_of_inner_in_hand : (y : Result B E) (l rest : List (Result B E)) (c : C) (s : S) → AlwaysGives steps c (y ∷ l) → ((d : C) → AlwaysGives steps d l → GivesInFlatten s (Some d) rest) → (r : Answered B E) (t : S) (hand : Option C) → DrawsOne s (Some c) r t hand → (r ≡ result_answer y) × GivesInFlatten t hand rest
  answer_is_first_of_inner_in_hand y l rest c s a then _ t hand (gives {d = d} z step f) = let h = a (Ok (Some z)) d step in (h.0, gives_in_flatten_after_no_answer rest s t (Some d) hand f (then d h.1))
  answer_is_first_of_inner_in_hand y l rest c s a then _ t hand (fails {d = d} e step f) = let h = a (Err e) d step in (h.0, gives_in_flatten_after_no_answer rest s t (Some d) hand f (then d h.1))
  answer_is_first_of_inner_in_hand y l rest c s a then r t hand (finishes {d = d} step f) = absurd (item_not_end y (a end d step).0)

  gives_chained_where_inner_in_hand : (l rest : List (Result B E)) (c : C) (s : S) → AlwaysGives steps c l → GivesInFlatten s None rest → GivesInFlatten s (Some c) (chained l rest)
  unfolding chained
  gives_chained_where_inner_in_hand [] rest c s a then = gives_in_flatten_where_drawn_from rest s (Some c) (drawn_from_after_end rest c s a then)
  gives_chained_where_inner_in_hand (y ∷ l) rest c s a then = λ r q w. answer_is_first_of_inner_in_hand y l (chained l rest) c s a (λ d b. gives_chained_where_inner_in_hand l rest d s b then) r q.0 q.1 (flattens_of_flatten_trace outer into steps s q.0 (Some c) q.1 (r ∷ []) w)

  -- the outer source is at its end
  answer_is_end_where_outer_ends : (s : S) → AlwaysGives {A = X} {E = E} outer s [] → (r : Answered B E) (t : S) (hand : Option C) → DrawsOne s None r t hand → r ≡ end
  answer_is_end_where_outer_ends s a r t hand (begins {u = u} x step becomes f) = absurd (let h = a (Ok (Some x)) u step in cc)
  answer_is_end_where_outer_ends s a _ _ _ (outer_fails {u = u} e step done) = absurd (let h = a (Err e) u step in cc)
  answer_is_end_where_outer_ends s a _ _ _ (outer_ends step done) = refl

  -- it has a failure
  answer_is_failure_where_outer_fails : (d : E) (l : List (Result X E)) (rest : List (Result B E)) (s : S) → AlwaysGives outer s (Err d ∷ l) → ((u : S) → AlwaysGives outer u l → GivesInFlatten u None rest) → (r : Answered B E) (t : S) (hand : Option C) → DrawsOne s None r t hand → (r ≡ Err d) × GivesInFlatten t hand rest
  answer_is_failure_where_outer_fails d l rest s a then r t hand (begins {u = u} x step becomes f) = absurd (let h = (a (Ok (Some x)) u step).0 in cc)
  answer_is_failure_where_outer_fails d l rest s a then _ _ _ (outer_fails {u = u} e step done) = let h = a (Err e) u step in ((let q = h.0 in cc), then u h.1)
  answer_is_failure_where_outer_fails d l rest s a then _ _ _ (outer_ends {u = u} step done) = absurd (let h = (a (Ok None) u step).0 in cc)

  -- it has an item, which becomes an inner iterator
  drawn_from_item_of_outer : (x : X) (l : List (Result X E)) (rest : List (Result B E)) (s : S) → AlwaysGives outer s (Ok x ∷ l) → ((u : S) (c : C) → into x c → AlwaysGives outer u l → GivesInFlatten u (Some c) rest) → (r : Answered B E) (t : S) (hand : Option C) → DrawsOne s None r t hand → DrawnFrom r (t, hand) rest
  drawn_from_item_of_outer x l rest s a then r t hand (begins {u = u} {c = c} z step becomes f) = let h = a (Ok (Some z)) u step in let same : z ≡ x = (let q = h.0 in cc) in drawn_from_where_gives_in_flatten u t (Some c) hand r rest f (then u c (subst (λ (y : X). into y c) same becomes) h.1)
  drawn_from_item_of_outer x l rest s a then _ _ _ (outer_fails {u = u} e step done) = absurd (let h = (a (Err e) u step).0 in cc)
  drawn_from_item_of_outer x l rest s a then _ _ _ (outer_ends {u = u} step done) = absurd (let h = (a (Ok None) u step).0 in cc)

  gives_flattened : (inner : X → List (Result B E)) → EachLists into steps inner → (l : List (Result X E)) (s : S) → AlwaysGives outer s l → GivesInFlatten s None (flattened inner l)
  unfolding flattened
  gives_flattened inner each [] s a = λ r q w. answer_is_end_where_outer_ends s a r q.0 q.1 (flattens_of_flatten_trace outer into steps s q.0 None q.1 (r ∷ []) w)
  gives_flattened inner each (Err d ∷ l) s a = λ r q w. answer_is_failure_where_outer_fails d l (flattened inner l) s a (λ u b. gives_flattened inner each l u b) r q.0 q.1 (flattens_of_flatten_trace outer into steps s q.0 None q.1 (r ∷ []) w)
  gives_flattened inner each (Ok x ∷ l) s a = gives_in_flatten_where_drawn_from (chained (inner x) (flattened inner l)) s None (drawn_from_item_of_outer x l (chained (inner x) (flattened inner l)) s a (λ u c becomes b. gives_chained_where_inner_in_hand (inner x) (flattened inner l) c u (each x c becomes).runs (gives_flattened inner each l u b)))

module _ {X C B E : Type 0} (into : X → C → Type 0) (k : Contract C B E) (inner : X → List (Result B E)) (l : List (Result X E)) (each : EachLists into k.steps inner) where
  pub lists_flattened : {V S : Type 0} (view : V → S × Option C) (m : Contract S X E) (f : V) (s : S) → view f ≡ (s, None) → Lists m.steps s l → Lists (seen_as view (flatten_contract m into k)).steps f (flattened inner l)
  lists_flattened view m f s parts i = lists_seen view (flatten_contract m into k).steps f parts refl (gives_flattened m.steps into k.steps inner each l s i.runs)
