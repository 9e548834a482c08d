-- The runs of `Flatten` are its definition, over all that the outer source and the inner iterators return.
use Rattle.std.specs.Prelude.{◌≡◌, ◌≢◌, false, List, [], ◌∷◌, ◌++◌, map, Option, Some, None, Ok, Err}
use Rattle.std.specs.List.{flat_map}
use Rattle.std.proofs.Common.{refl, sym, ap, subst}
use Rattle.std.proofs.lemmas.List.{append-nil}
use Rattle.fallible_contract.specs.Traces.{Answered, Run, item, failure, end, is_end, NoEnd}
use Rattle.fallible_contract.specs.Laws.LawForm.{FirstOf, IsByAnswers, run_at_one_answer_iff_law, IsTraced, iff_of_two}
use Rattle.fallible_core.specs.Joining.Flatten.{FlattenTrace, flattens_all, Part, of_inner, of_failure, of_end, outer_answer, part_answers, Finished, Unfinished, FinishedPart, FinishedParts, LastPart, FinishedInHand, JoinedTrace, FlattenAnswers, nothing_drawn, still_in_hand, outer_drawn}

module _ {S X C B E : Type 0} (outer : S → Answered X E → S → Type 0) (into : X → C → Type 0) (inner : C → Answered B E → C → Type 0) where
  -- `FlattenAnswers`, built from the first answer on
  pub data Flattens : S → Option C → List (Answered B E) → S → Option C → Type 0 where
    done : {s : S} {hand : Option C} → Flattens s hand [] s hand
    gives : {s t : S} {c d : C} {hand : Option C} {trace : List (Answered B E)} (y : B) → inner c (item y) d → Flattens s (Some d) trace t hand → Flattens s (Some c) (item y ∷ trace) t hand
    fails : {s t : S} {c d : C} {hand : Option C} {trace : List (Answered B E)} (e : E) → inner c (failure e) d → Flattens s (Some d) trace t hand → Flattens s (Some c) (failure e ∷ trace) t hand
    finishes : {s t : S} {c d : C} {hand : Option C} {r : Answered B E} {trace : List (Answered B E)} → inner c end d → Flattens s None (r ∷ trace) t hand → Flattens s (Some c) (r ∷ trace) t hand
    begins : {s u t : S} {c : C} {hand : Option C} {r : Answered B E} {trace : List (Answered B E)} (x : X) → outer s (item x) u → into x c → Flattens u (Some c) (r ∷ trace) t hand → Flattens s None (r ∷ trace) t hand
    outer_fails : {s u t : S} {hand : Option C} {trace : List (Answered B E)} (e : E) → outer s (failure e) u → Flattens u None trace t hand → Flattens s None (failure e ∷ trace) t hand
    outer_ends : {s u t : S} {hand : Option C} {trace : List (Answered B E)} → outer s end u → Flattens u None trace t hand → Flattens s None (end ∷ trace) t hand

module _ {S X C B E : Type 0} (outer : S → Answered X E → S → Type 0) (into : X → C → Type 0) (inner : C → Answered B E → C → Type 0) where
  abbrev FlattensHere : S → Option C → List (Answered B E) → S → Option C → Type 0
  FlattensHere = Flattens outer into inner

  -- ---- from the definition

  flattens_unfinished : (answers : List (Answered B E)) (s : S) (c d : C) → Run inner c answers d → NoEnd answers → FlattensHere s (Some c) answers s (Some d)
  flattens_unfinished [] s c d ran free = subst (λ (k : C). FlattensHere s (Some c) [] s (Some k)) ran done
  flattens_unfinished (Ok (Some y) ∷ rest) s c d ran free = gives y ran.1 (flattens_unfinished rest s ran.0 d ran.2 free.1)
  flattens_unfinished (Ok None ∷ rest) s c d ran free = absurd (let e = free.0 in cc)
  flattens_unfinished (Err e ∷ rest) s c d ran free = fails e ran.1 (flattens_unfinished rest s ran.0 d ran.2 free.1)

  flattens_finished : (answers : List (Answered B E)) (s t : S) (c d : C) (hand : Option C) (r : Answered B E) (trace : List (Answered B E)) → Run inner c (answers ++ end ∷ []) d → NoEnd answers → FlattensHere s None (r ∷ trace) t hand → FlattensHere s (Some c) (answers ++ r ∷ trace) t hand
  flattens_finished [] s t c d hand r trace ran free rest = finishes ran.1 rest
  flattens_finished (Ok (Some y) ∷ answers) s t c d hand r trace ran free rest = gives y ran.1 (flattens_finished answers s t ran.0 d hand r trace ran.2 free.1 rest)
  flattens_finished (Ok None ∷ answers) s t c d hand r trace ran free rest = absurd (let e = free.0 in cc)
  flattens_finished (Err e ∷ answers) s t c d hand r trace ran free rest = fails e ran.1 (flattens_finished answers s t ran.0 d hand r trace ran.2 free.1 rest)

  -- the traces of what comes after: they have an answer
  record FlattensNonempty (s : S) (hand : Option C) (trace : List (Answered B E)) (t : S) (hand' : Option C) : Type 0 where
    first : Answered B E
    others : List (Answered B E)
    is : trace ≡ first ∷ others
    flattens : FlattensHere s hand (first ∷ others) t hand'

  flattens_nonempty_of_flattens : (trace : List (Answered B E)) (s t : S) (hand hand' : Option C) → trace ≢ [] → FlattensHere s hand trace t hand' → FlattensNonempty s hand trace t hand'
  flattens_nonempty_of_flattens [] s t hand hand' some f = absurd (some refl)
  flattens_nonempty_of_flattens (r ∷ trace) s t hand hand' some f = record { first = r; others = trace; is = refl; flattens = f }

  -- one part, and what comes after it
  flattens_nonempty_of_part : (s u t : S) (c : C) (hand : Option C) (x : X) (trace : List (Answered B E)) → outer s (item x) u → into x c → FlattensNonempty u (Some c) trace t hand → FlattensNonempty s None trace t hand
  flattens_nonempty_of_part s u t c hand x trace step becomes n = record { first = n.first; others = n.others; is = n.is; flattens = begins x step becomes n.flattens }

  appended_not_nil : (answers : List (Answered B E)) (r : Answered B E) (trace : List (Answered B E)) → (answers ++ r ∷ trace) ≢ []
  appended_not_nil [] r trace = λ e. absurd cc
  appended_not_nil (q ∷ answers) r trace = λ e. absurd cc

  flattens_nonempty_after_finished : (s t : S) (c : C) (hand : Option C) (answers trace : List (Answered B E)) → Finished (Run inner) c answers → FlattensNonempty s None trace t hand → FlattensNonempty s (Some c) (answers ++ trace) t hand
  flattens_nonempty_after_finished s t c hand answers trace f n = rw n.is (flattens_nonempty_of_flattens (answers ++ n.first ∷ n.others) s t (Some c) hand (appended_not_nil answers n.first n.others) (flattens_finished answers s t c f.after hand n.first n.others f.drawn f.no_end n.flattens))

  -- the last part
  flattens_nonempty_of_last : (last : Part X C B E) (s t : S) (hand : Option C) → Run outer s (outer_answer last ∷ []) t → LastPart into (Run inner) last hand → FlattensNonempty s None (part_answers last) t hand
  flattens_nonempty_of_last (of_inner x c answers) s t hand ran last = let u = last.1.1 in flattens_nonempty_of_part s t t c hand x answers (subst (λ (v : S). outer s (item x) v) ran.2 ran.1) last.0 (rw last.1.2 (flattens_nonempty_of_flattens answers t t (Some c) (Some last.1.0) u.not_empty (flattens_unfinished answers t c last.1.0 u.drawn u.no_end)))
  flattens_nonempty_of_last (of_failure e) s t hand ran last = record { first = failure e; others = []; is = refl; flattens = outer_fails e ran.1 (rw (ran.2, last) done) }
  flattens_nonempty_of_last of_end s t hand ran last = record { first = end; others = []; is = refl; flattens = outer_ends ran.1 (rw (ran.2, last) done) }

  flattens_nonempty_of_parts : (parts : List (Part X C B E)) (last : Part X C B E) (s t : S) (hand : Option C) → Run outer s (map outer_answer (parts ++ last ∷ [])) t → FinishedParts into (Run inner) parts → LastPart into (Run inner) last hand → FlattensNonempty s None (flat_map part_answers (parts ++ last ∷ [])) t hand
  flattens_nonempty_of_parts [] last s t hand ran parts_finished at_last = rw (append-nil (part_answers last)) (flattens_nonempty_of_last last s t hand ran at_last)
  flattens_nonempty_of_parts (of_inner x c answers ∷ parts) last s t hand ran parts_finished at_last = flattens_nonempty_of_part s ran.0 t c hand x _ ran.1 parts_finished.0.0 (flattens_nonempty_after_finished ran.0 t c hand answers _ parts_finished.0.1 (flattens_nonempty_of_parts parts last ran.0 t hand ran.2 parts_finished.1 at_last))
  flattens_nonempty_of_parts (of_failure e ∷ parts) last s t hand ran parts_finished at_last = let n = flattens_nonempty_of_parts parts last ran.0 t hand ran.2 parts_finished.1 at_last in record { first = failure e; others = n.first ∷ n.others; is = ap (λ l. failure e ∷ l) n.is; flattens = outer_fails e ran.1 n.flattens }
  flattens_nonempty_of_parts (of_end ∷ parts) last s t hand ran parts_finished at_last = let n = flattens_nonempty_of_parts parts last ran.0 t hand ran.2 parts_finished.1 at_last in record { first = end; others = n.first ∷ n.others; is = ap (λ l. end ∷ l) n.is; flattens = outer_ends ran.1 n.flattens }

  flattens_nonempty_of_hand : (s t : S) (hand hand' : Option C) (in_hand trace : List (Answered B E)) → FinishedInHand (Run inner) hand in_hand → FlattensNonempty s None trace t hand' → FlattensNonempty s hand (in_hand ++ trace) t hand'
  flattens_nonempty_of_hand s t (Some c) hand' in_hand trace h n = flattens_nonempty_after_finished s t c hand' in_hand trace h n
  flattens_nonempty_of_hand s t None hand' in_hand trace h n = rw h n

  flattens_of_joined : (s t : S) (hand hand' : Option C) (trace : List (Answered B E)) → JoinedTrace (Run outer) into (Run inner) s hand trace t hand' → FlattensHere s hand trace t hand'
  flattens_of_joined s t hand hand' trace j = let n = flattens_nonempty_of_hand s t hand hand' j.in_hand (flat_map part_answers (j.parts ++ j.last ∷ [])) j.hand_finished (flattens_nonempty_of_parts j.parts j.last s t hand' j.drawn j.finished j.at_last) in rw (j.answers, n.is) n.flattens

  pub flattens_of_flatten_trace : (s t : S) (hand hand' : Option C) (trace : List (Answered B E)) → FlattenAnswers (Run outer) into (Run inner) s hand trace t hand' → FlattensHere s hand trace t hand'
  flattens_of_flatten_trace s t _ _ _ nothing_drawn = done
  flattens_of_flatten_trace s _ _ _ trace (still_in_hand {c = c} {d = d} u) = flattens_unfinished trace s c d u.drawn u.no_end
  flattens_of_flatten_trace s t hand hand' trace (outer_drawn j) = flattens_of_joined s t hand hand' trace j

  -- ---- to the definition

  abbrev TraceHere : S → Option C → List (Answered B E) → S → Option C → Type 0
  TraceHere = FlattenAnswers (Run outer) into (Run inner)

  -- an answer, which is no end, of the current inner iterator
  joined_trace_of_inner_answer_and_rest : (s t : S) (c d : C) (hand : Option C) (r : Answered B E) (trace : List (Answered B E)) → inner c r d → is_end r ≡ false → JoinedTrace (Run outer) into (Run inner) s (Some d) trace t hand → JoinedTrace (Run outer) into (Run inner) s (Some c) (r ∷ trace) t hand
  joined_trace_of_inner_answer_and_rest s t c d hand r trace step free j = let f = j.hand_finished in record {
    in_hand = r ∷ j.in_hand;
    parts = j.parts;
    last = j.last;
    drawn = j.drawn;
    hand_finished = record { after = f.after; drawn = (d, step, f.drawn); no_end = (free, f.no_end) };
    finished = j.finished;
    at_last = j.at_last;
    answers = ap (λ l. r ∷ l) j.answers;
  }

  -- one more answer of the current inner iterator
  trace_with_inner_answer : (s t : S) (c d : C) (hand hand' : Option C) (r : Answered B E) (trace : List (Answered B E)) → inner c r d → is_end r ≡ false → hand ≡ Some d → TraceHere s hand trace t hand' → TraceHere s (Some c) (r ∷ trace) t hand'
  trace_with_inner_answer s t c d hand _ r _ step free e nothing_drawn = rw e (still_in_hand {trace = r ∷ []} (record { drawn = (d, step, refl); no_end = (free, tt); not_empty = λ e. absurd cc }))
  trace_with_inner_answer s _ c d _ _ r trace step free e (still_in_hand {c = k} {d = l} u) = let same : k ≡ d = cc in still_in_hand {trace = r ∷ trace} (record { drawn = (d, step, rw (sym same) u.drawn); no_end = (free, u.no_end); not_empty = λ e. absurd cc })
  trace_with_inner_answer s t c d hand hand' r trace step free e (outer_drawn j) = outer_drawn (joined_trace_of_inner_answer_and_rest s t c d hand' r trace step free (rw (sym e) j))

  none_in_hand : (hand : Option C) (answers : List (Answered B E)) → hand ≡ None → FinishedInHand (Run inner) hand answers → answers ≡ []
  none_in_hand None answers e h = h
  none_in_hand (Some c) answers e h = absurd cc

  finished_of_finished_in_hand : (hand : Option C) (c : C) (answers : List (Answered B E)) → hand ≡ Some c → FinishedInHand (Run inner) hand answers → Finished (Run inner) c answers
  finished_of_finished_in_hand (Some k) c answers e h = let same : k ≡ c = cc in rw (sym same) h
  finished_of_finished_in_hand None c answers e h = absurd cc

  -- the current inner iterator ended
  pub trace_after_inner_end : (s t : S) (c d : C) (hand hand' : Option C) (trace : List (Answered B E)) → inner c end d → hand ≡ None → (trace ≡ [] → ⊥) → TraceHere s hand trace t hand' → TraceHere s (Some c) trace t hand'
  trace_after_inner_end s t c d _ _ _ step e some nothing_drawn = absurd (some refl)
  trace_after_inner_end s _ c d _ _ trace step e some (still_in_hand u) = absurd cc
  trace_after_inner_end s t c d hand hand' trace step e some (outer_drawn j) = let none = none_in_hand hand j.in_hand e j.hand_finished in outer_drawn (record { in_hand = []; parts = j.parts; last = j.last; drawn = j.drawn; hand_finished = record { after = d; drawn = (d, step, refl); no_end = tt }; finished = j.finished; at_last = j.at_last; answers = subst (λ (l : List (Answered B E)). trace ≡ l ++ flat_map part_answers (j.parts ++ j.last ∷ [])) none j.answers })

  -- an answer of the outer source, which left it as u
  module _ (s u : S) where
    -- one that is no item
    trace_with_part_answers : (t : S) (hand hand' : Option C) (p : Part X C B E) (trace : List (Answered B E)) → outer s (outer_answer p) u → FinishedPart into (Run inner) p → (hand' ≡ None → LastPart into (Run inner) p hand') → hand ≡ None → TraceHere u hand trace t hand' → TraceHere s None (part_answers p ++ trace) t hand'
    trace_with_part_answers _ hand _ p _ step whole last e nothing_drawn = outer_drawn (record { in_hand = []; parts = []; last = p; drawn = (u, step, refl); hand_finished = refl; finished = tt; at_last = last e; answers = refl })
    trace_with_part_answers _ _ _ p trace step whole last e (still_in_hand k) = absurd cc
    trace_with_part_answers t hand hand' p trace step whole last e (outer_drawn j) = let none = none_in_hand hand j.in_hand e j.hand_finished in let rest : trace ≡ flat_map part_answers (j.parts ++ j.last ∷ []) = subst (λ (l : List (Answered B E)). trace ≡ l ++ flat_map part_answers (j.parts ++ j.last ∷ [])) none j.answers in
        outer_drawn (record { in_hand = []; parts = p ∷ j.parts; last = j.last; drawn = (u, step, j.drawn); hand_finished = refl; finished = (whole, j.finished); at_last = j.at_last; answers = ap (λ l. part_answers p ++ l) rest })

    -- an item that became an inner iterator
    trace_where_item_begins_inner : (t : S) (c : C) (hand hand' : Option C) (x : X) (trace : List (Answered B E)) → outer s (item x) u → into x c → hand ≡ Some c → (trace ≡ [] → ⊥) → TraceHere u hand trace t hand' → TraceHere s None trace t hand'
    trace_where_item_begins_inner t c hand _ x _ step becomes e some nothing_drawn = absurd (some refl)
    trace_where_item_begins_inner _ c _ _ x trace step becomes e some (still_in_hand {c = k} {d = d} h) = let same : k ≡ c = cc in outer_drawn {hand' = Some d} (record { in_hand = []; parts = []; last = of_inner x c trace; drawn = (u, step, refl); hand_finished = refl; finished = tt; at_last = (becomes, (d, rw (sym same) h, refl)); answers = sym (append-nil trace) })
    trace_where_item_begins_inner t c hand hand' x trace step becomes e some (outer_drawn j) = outer_drawn (record { in_hand = []; parts = of_inner x c j.in_hand ∷ j.parts; last = j.last; drawn = (u, step, j.drawn); hand_finished = refl; finished = ((becomes, finished_of_finished_in_hand hand c j.in_hand e j.hand_finished), j.finished); at_last = j.at_last; answers = j.answers })

  pub flatten_trace_of_flattens : (s t : S) (hand hand' : Option C) (trace : List (Answered B E)) → FlattensHere s hand trace t hand' → TraceHere s hand trace t hand'
  flatten_trace_of_flattens s _ hand _ _ done = nothing_drawn
  flatten_trace_of_flattens s t _ hand' _ (gives {c = c} {d = d} {trace = trace} y step f) = trace_with_inner_answer s t c d (Some d) hand' (item y) trace step refl refl (flatten_trace_of_flattens s t (Some d) hand' trace f)
  flatten_trace_of_flattens s t _ hand' _ (fails {c = c} {d = d} {trace = trace} e step f) = trace_with_inner_answer s t c d (Some d) hand' (failure e) trace step refl refl (flatten_trace_of_flattens s t (Some d) hand' trace f)
  flatten_trace_of_flattens s t _ hand' _ (finishes {c = c} {d = d} {r = r} {trace = trace} step f) = trace_after_inner_end s t c d None hand' (r ∷ trace) step refl (λ e. cc) (flatten_trace_of_flattens s t None hand' (r ∷ trace) f)
  flatten_trace_of_flattens s t _ hand' _ (begins {u = u} {c = c} {r = r} {trace = trace} x step becomes f) = trace_where_item_begins_inner s u t c (Some c) hand' x (r ∷ trace) step becomes refl (λ e. cc) (flatten_trace_of_flattens u t (Some c) hand' (r ∷ trace) f)
  flatten_trace_of_flattens s t _ hand' _ (outer_fails {u = u} {trace = trace} e step f) = trace_with_part_answers s u t None hand' (of_failure e) trace step tt (λ h. h) refl (flatten_trace_of_flattens u t None hand' trace f)
  flatten_trace_of_flattens s t _ hand' _ (outer_ends {u = u} {trace = trace} step f) = trace_with_part_answers s u t None hand' of_end trace step tt (λ h. h) refl (flatten_trace_of_flattens u t None hand' trace f)

  -- ---- a whole trace is its answers, one draw after another

  flattens_cons : (s u t : S) (hand h hand' : Option C) (r : Answered B E) (rest : List (Answered B E)) → FlattensHere s hand (r ∷ []) u h → FlattensHere u h rest t hand' → FlattensHere s hand (r ∷ rest) t hand'
  flattens_cons s _ t _ _ hand' _ rest (gives y step done) q = gives y step q
  flattens_cons s _ t _ _ hand' _ rest (fails e step done) q = fails e step q
  flattens_cons s u t _ h hand' r rest (finishes step p) q = finishes step (flattens_cons s u t None h hand' r rest p q)
  flattens_cons s u t _ h hand' r rest (begins {u = w} {c = c} x step becomes p) q = begins x step becomes (flattens_cons w u t (Some c) h hand' r rest p q)
  flattens_cons s u t _ _ hand' _ rest (outer_fails e step done) q = outer_fails e step q
  flattens_cons s u t _ _ hand' _ rest (outer_ends step done) q = outer_ends step q

  -- what the first answer leaves, and the rest from there
  record FirstFlattened (s : S) (hand : Option C) (r : Answered B E) (rest : List (Answered B E)) (t : S) (hand' : Option C) : Type 0 where
    source : S
    hand_after : Option C
    first : FlattensHere s hand (r ∷ []) source hand_after
    others : FlattensHere source hand_after rest t hand'

  first_flattened_of_flattens : (s t : S) (hand hand' : Option C) (r : Answered B E) (rest : List (Answered B E)) → FlattensHere s hand (r ∷ rest) t hand' → FirstFlattened s hand r rest t hand'
  first_flattened_of_flattens s t _ hand' _ rest (gives {d = d} y step p) = record { source = s; hand_after = Some d; first = gives y step done; others = p }
  first_flattened_of_flattens s t _ hand' _ rest (fails {d = d} e step p) = record { source = s; hand_after = Some d; first = fails e step done; others = p }
  first_flattened_of_flattens s t _ hand' r rest (finishes step p) = let q = first_flattened_of_flattens s t None hand' r rest p in record { source = q.source; hand_after = q.hand_after; first = finishes step q.first; others = q.others }
  first_flattened_of_flattens s t _ hand' r rest (begins {u = u} {c = c} x step becomes p) = let q = first_flattened_of_flattens u t (Some c) hand' r rest p in record { source = q.source; hand_after = q.hand_after; first = begins x step becomes q.first; others = q.others }
  first_flattened_of_flattens s t _ hand' _ rest (outer_fails {u = u} e step p) = record { source = u; hand_after = None; first = outer_fails e step done; others = p }
  first_flattened_of_flattens s t _ hand' _ rest (outer_ends {u = u} step p) = record { source = u; hand_after = None; first = outer_ends step done; others = p }

  -- what a trace of no answers leaves
  pub same_state_where_flattens_nothing : (s t : S) (hand hand' : Option C) → FlattensHere s hand [] t hand' → ◌≡◌ {A = S × Option C} (s, hand) (t, hand')
  same_state_where_flattens_nothing s _ hand _ done = refl

  first_of_flatten_trace_of_first_flattened : (s t : S) (hand hand' : Option C) (r : Answered B E) (rest : List (Answered B E)) → FirstFlattened s hand r rest t hand' → FirstOf (FlattenTrace outer into inner) (s, hand) r rest (t, hand')
  first_of_flatten_trace_of_first_flattened s t hand hand' r rest q = record { left_by_first = (q.source, q.hand_after); first = flatten_trace_of_flattens s q.source hand q.hand_after (r ∷ []) q.first; others = flatten_trace_of_flattens q.source t q.hand_after hand' rest q.others }

  pub flatten_trace_is_by_answers : IsByAnswers (FlattenTrace outer into inner)
  flatten_trace_is_by_answers = record {
    none = λ p. nothing_drawn;
    same = λ p q d. same_state_where_flattens_nothing p.0 q.0 p.1 q.1 (flattens_of_flatten_trace p.0 q.0 p.1 q.1 [] d);
    joins = λ p u q r rest d e. flatten_trace_of_flattens p.0 q.0 p.1 q.1 (r ∷ rest) (flattens_cons p.0 u.0 q.0 p.1 u.1 q.1 r rest (flattens_of_flatten_trace p.0 u.0 p.1 u.1 (r ∷ []) d) (flattens_of_flatten_trace u.0 q.0 u.1 q.1 rest e));
    splits = λ p q r rest d. first_of_flatten_trace_of_first_flattened p.0 q.0 p.1 q.1 r rest (first_flattened_of_flattens p.0 q.0 p.1 q.1 r rest (flattens_of_flatten_trace p.0 q.0 p.1 q.1 (r ∷ rest) d));
  }

-- ---- the definition over what is returned

-- Where all that may be returned by one account of the outer source and the inner iterators may be by another, the definition's traces by the one are traces by the other.
module _ {S X C B E : Type 0} {outer other_outer : S → List (Answered X E) → S → Type 0} {inner other_inner : C → List (Answered B E) → C → Type 0} (into : X → C → Type 0) (outer_over : (s : S) (l : List (Answered X E)) (t : S) → outer s l t → other_outer s l t) (inner_over : (c : C) (l : List (Answered B E)) (d : C) → inner c l d → other_inner c l d) where
  finished_over : (c : C) (answers : List (Answered B E)) → Finished inner c answers → Finished other_inner c answers
  finished_over c answers f = record { after = f.after; drawn = inner_over c (answers ++ end ∷ []) f.after f.drawn; no_end = f.no_end }

  unfinished_over : (c : C) (answers : List (Answered B E)) (d : C) → Unfinished inner c answers d → Unfinished other_inner c answers d
  unfinished_over c answers d u = record { drawn = inner_over c answers d u.drawn; no_end = u.no_end; not_empty = u.not_empty }

  finished_parts_over : (parts : List (Part X C B E)) → FinishedParts into inner parts → FinishedParts into other_inner parts
  finished_parts_over [] h = tt
  finished_parts_over (of_inner x c answers ∷ parts) h = ((h.0.0, finished_over c answers h.0.1), finished_parts_over parts h.1)
  finished_parts_over (of_failure e ∷ parts) h = (tt, finished_parts_over parts h.1)
  finished_parts_over (of_end ∷ parts) h = (tt, finished_parts_over parts h.1)

  last_part_over : (last : Part X C B E) (hand : Option C) → LastPart into inner last hand → LastPart into other_inner last hand
  last_part_over (of_inner x c answers) hand h = (h.0, (h.1.0, unfinished_over c answers h.1.0 h.1.1, h.1.2))
  last_part_over (of_failure e) hand h = h
  last_part_over of_end hand h = h

  finished_in_hand_over : (hand : Option C) (answers : List (Answered B E)) → FinishedInHand inner hand answers → FinishedInHand other_inner hand answers
  finished_in_hand_over (Some c) answers h = finished_over c answers h
  finished_in_hand_over None answers h = h

  flattens_over : (s t : S) (hand hand' : Option C) (trace : List (Answered B E)) → FlattenAnswers outer into inner s hand trace t hand' → FlattenAnswers other_outer into other_inner s hand trace t hand'
  flattens_over s _ hand _ _ nothing_drawn = nothing_drawn
  flattens_over s _ _ _ trace (still_in_hand {c = c} {d = d} u) = still_in_hand (unfinished_over c trace d u)
  flattens_over s t hand hand' trace (outer_drawn j) = outer_drawn (record {
    in_hand = j.in_hand;
    parts = j.parts;
    last = j.last;
    drawn = outer_over s (map outer_answer (j.parts ++ j.last ∷ [])) t j.drawn;
    hand_finished = finished_in_hand_over hand j.in_hand j.hand_finished;
    finished = finished_parts_over j.parts j.finished;
    at_last = last_part_over j.last hand' j.at_last;
    answers = j.answers;
  })

pub flatten_traced : {S X C B E : Type 0} {steps : S → Answered X E → S → Type 0} {inner : C → Answered B E → C → Type 0} {traces : S → List (Answered X E) → S → Type 0} {inner_traces : C → List (Answered B E) → C → Type 0} (into : X → C → Type 0) → IsTraced steps traces → IsTraced inner inner_traces → IsTraced (λ p r q. FlattenTrace steps into inner p (r ∷ []) q) (flattens_all traces into inner_traces)
flatten_traced {steps = steps} {inner = inner} into law inner_law p trace q = iff_of_two (run_at_one_answer_iff_law _ (flatten_trace_is_by_answers steps into inner) p trace q) (
  flattens_over into (λ s l t. (law s l t).0) (λ c l d. (inner_law c l d).0) p.0 q.0 p.1 q.1 trace,
  flattens_over into (λ s l t. (law s l t).1) (λ c l d. (inner_law c l d).1) p.0 q.0 p.1 q.1 trace,
)
