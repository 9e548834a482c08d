-- The runs of rows are their definition.
use Rattle.std.specs.Prelude.{◌≡◌, ℕ, ◌==◌, Bool, true, false, if◌then◌else◌, ◌↔◌, All, List, [], ◌∷◌, ◌++◌, map, slice_index, Option, Some, None, Ok, Err}
use Rattle.std.proofs.Common.{refl, sym, ap, subst, ◌∙◌}
use Rattle.std.proofs.lemmas.List.Elements.{All-nil, All-cons, All-head, All-tail}
use Rattle.fallible_iterator.specs.Traces.{Answered, Run, Yields, item}
use Rattle.fallible_iterator.specs.Contract.{Lawful, around, traces_around}
use Rattle.fallible_iterator.specs.Laws.BoundsRuns.{lawful_unbounded}
use Rattle.fallible_iterator.specs.Laws.Closures.{folds_to_in_turn}
use Rattle.fallible_iterator.specs.Laws.Contract.{lawful_seen, lawful_with_traces}
use Rattle.fallible_iterator.specs.Laws.LawForm.{IsTraced}
use Rattle.fallible_pg.specs.Kinds.{kind_of}
use Rattle.fallible_pg.specs.Laws.Messages.{messages_traced}
use Rattle.fallible_pg.specs.Messages.{message_bytes}
use Rattle.fallible_pg.specs.Progress.{Reached, bytes_of, came, one_more, passed, reached_by, ready_by, shows_progress, statements_by}
use Rattle.fallible_pg.specs.Reading.{message_step, messages_parts, place_of}
use Rattle.fallible_pg.specs.Rows.{all_bytes, DrawsRow, IsSkipped, MadeOfLast, rows_parts, rows_step}
use Rattle.fallible_pg.specs.Traces.{MakesRows, RowsTrace, makes_nothing, makes_end, makes_later, makes_first, place_after, rows_contract}
use Rattle.fallible_pg.specs.declared.fault.PgFault.{PgFault}
use Rattle.fallible_pg.specs.declared.kind.Kind.{Kind}
use Rattle.fallible_pg.specs.declared.kind.Kind.TheVariants.{Row, Notice, Skipped, Refusal, Ready, Damaged}
use Rattle.fallible_pg.specs.declared.message.Message.{Message}
use Rattle.fallible_pg.specs.declared.progress.Progress.{Progress}
use Rattle.fallible_pg.specs.declared.rows.Reply.{Reply}
use Rattle.fallible_pg.specs.declared.rows.Rows.{Rows}

-- ---- some value has the parts that a draw leaves

description_of : (tag_is_t tag_is_n : Bool) (m : Message) (before : Option Message) → bytes_of (if tag_is_t then Some m else if tag_is_n then None else before) ≡ (if tag_is_t then Some (message_bytes m) else if tag_is_n then None else bytes_of before)
description_of true tag_is_n m before = refl
description_of false true m before = refl
description_of false false m before = refl

came_shown : (kind : Kind) (m : Message) (s : Progress) → (t : Progress) × (shows_progress t ≡ came kind (message_bytes m) (shows_progress s))
came_shown Row m s = (record s { ready = false }, refl)
came_shown Notice m s = (s, refl)
came_shown Skipped m s = let tag = slice_index (message_bytes m) 0 in (
  record s { ready = ready_by tag s.ready; statements = statements_by tag s.statements; description = if tag == 84 then Some m else if tag == 110 then None else s.description },
  ap (λ (d : Option (List ℕ)). record { recorded = s.recorded; ready = ready_by tag s.ready; statements = statements_by tag s.statements; description = d }) (description_of (tag == 84) (tag == 110) m s.description),
)
came_shown Refusal m s = (record s { ready = false; statements = one_more s.statements }, refl)
came_shown Ready m s = (s, refl)
came_shown (Damaged damage) m s = (s, refl)

reached_shown : (messages : List Message) (s : Progress) → (t : Progress) × (shows_progress t ≡ reached_by (shows_progress s) (all_bytes messages))
reached_shown [] s = (s, refl)
reached_shown (m ∷ messages) s =
    let one = came_shown (kind_of s.recorded (message_bytes m)) m s in
    let rest = reached_shown messages one.0 in
    (rest.0, rest.1 ∙ ap (λ (u : Reached). reached_by u (all_bytes messages)) one.1)

last_shown : (place : ℕ) (reached : Reached) (last : Answered Message PgFault) (answer : Answered Reply PgFault) (new : Reached) (ended : Bool) (s : Progress) → shows_progress s ≡ reached → MadeOfLast place reached last answer new ended → (t : Progress) × (shows_progress t ≡ new)
last_shown place reached (Ok (Some m)) answer new ended s is made =
    let kind = kind_of reached.recorded (message_bytes m) in
    let t = came_shown kind m s in
    (t.0, t.1 ∙ ap (came kind (message_bytes m)) is ∙ sym made.1)
last_shown place reached (Ok None) answer new ended s is made = (s, is ∙ sym made.2)
last_shown place reached (Err fault) answer new ended s is made = (s, is ∙ sym made.2)

module _ {R : Type 0} (left : R → Option (List ℕ)) (stays : Bool → R → R → Type 0) (no_room : List ℕ → Type 0) where
  abbrev Parts : Type 0
  Parts = (R × Option ℕ) × Reached × Bool

  abbrev Steps : Parts → Answered Reply PgFault → Parts → Type 0
  Steps = rows_step left stays no_room

  shown_after : (s : Rows R) (ended : Bool) (r : Answered Reply PgFault) (q : Parts) → Steps (messages_parts s.messages, shows_progress s.progress, ended) r q → (u : Rows R) × (rows_parts u ≡ q)
  shown_after s true r q step = (record s { ended = true }, sym step.1)
  shown_after s false r q step =
      let skipped = reached_shown step.skipped s.progress in
      let t = last_shown (place_of step.middle.1) _ step.last r q.1 q.2 skipped.0 skipped.1 step.made in
      (record { messages = record s.messages { reader = q.0.0; place = q.0.1 }; progress = t.0; ended = q.2 }, ap (λ (u : Reached). (q.0, u, q.2)) t.1)

  -- so runs of the parts are runs of rows
  run_of_parts : (trace : List (Answered Reply PgFault)) (s t : Rows R) → Run (λ u r v. Steps (rows_parts u) r (rows_parts v)) s trace t → Run Steps (rows_parts s) trace (rows_parts t)
  run_of_parts [] s t ran = ap rows_parts ran
  run_of_parts (r ∷ rest) s t ran = (rows_parts ran.0, ran.1, run_of_parts rest ran.0 t ran.2)

  run_of_rows : (trace : List (Answered Reply PgFault)) (s t : Rows R) → (trace ≡ [] → s ≡ t) → Run Steps (rows_parts s) trace (rows_parts t) → Run (λ u r v. Steps (rows_parts u) r (rows_parts v)) s trace t
  run_of_rows [] s t none ran = none refl
  run_of_rows (r ∷ []) s t none ran = (t, subst (λ (p : Parts). Steps (rows_parts s) r p) ran.2 ran.1, refl)
  run_of_rows (r ∷ a ∷ rest) s t none ran =
      let u = shown_after s s.ended r ran.0 ran.1 in
      (u.0, subst (λ (p : Parts). Steps (rows_parts s) r p) (sym u.1) ran.1, run_of_rows (a ∷ rest) u.0 t (λ no. absurd (let h = no in cc)) (subst (λ (p : Parts). Run Steps p (a ∷ rest) (rows_parts t)) (sym u.1) ran.2))

  no_draw_leaves_itself : (trace : List (Answered Reply PgFault)) (s t : Rows R) → Run (λ u r v. Steps (rows_parts u) r (rows_parts v)) s trace t → trace ≡ [] → s ≡ t
  no_draw_leaves_itself [] s t ran none = ran
  no_draw_leaves_itself (r ∷ rest) s t ran none = absurd (let h = none in cc)

  -- ---- what is made of the messages

  abbrev Drawn : (R × Option ℕ) → List (Answered Message PgFault) → (R × Option ℕ) → Type 0
  Drawn = Run (message_step left stays no_room)

  -- what rows make of draws of messages
  abbrev Made : Parts → List (Answered Reply PgFault) → Parts → Type 0
  Made p trace q = (answers : List (Answered Message PgFault)) × Drawn p.0 answers q.0 × MakesRows (place_of p.0.1) p.1 p.2 answers trace q.1 q.2

  place_moves : (p q : R × Option ℕ) (a : Answered Message PgFault) → message_step left stays no_room p a q → place_of q.1 ≡ place_after (place_of p.1) a
  place_moves (r, Some place) q (Ok (Some m)) step = ap place_of step.2
  place_moves (r, Some place) q (Ok None) step = ap place_of step.0
  place_moves (r, Some place) q (Err fault) step = ap place_of step.0
  place_moves (r, None) q (Ok (Some m)) step = absurd (let h = step.0 in cc)
  place_moves (r, None) q (Ok None) step = ap (λ (v : R × Option ℕ). place_of v.1) step.1
  place_moves (r, None) q (Err fault) step = absurd (let h = step.0 in cc)

  -- messages that are skipped, before others
  made_after_skipped : (skipped : List Message) (p middle : R × Option ℕ) (reached : Reached) {drawn : List (Answered Message PgFault)} {r : Answered Reply PgFault} {trace : List (Answered Reply PgFault)} {new : Reached} {ended : Bool} → All (IsSkipped reached.recorded) skipped → Yields (message_step left stays no_room) p skipped middle → MakesRows (place_of middle.1) (reached_by reached (all_bytes skipped)) false drawn (r ∷ trace) new ended → MakesRows (place_of p.1) reached false (map item skipped ++ drawn) (r ∷ trace) new ended
  made_after_skipped [] p middle reached {drawn = drawn} {r = r} {trace = trace} {new = new} {ended = ended} each passed made = subst (λ (u : R × Option ℕ). MakesRows (place_of u.1) reached false drawn (r ∷ trace) new ended) (sym passed) made
  made_after_skipped (m ∷ skipped) p middle reached {drawn = drawn} {r = r} {trace = trace} {new = new} {ended = ended} each yielded made =
      let is = All-head (IsSkipped reached.recorded) m skipped each in
      let rest = made_after_skipped skipped yielded.0 middle (passed (message_bytes m) reached) (All-tail (IsSkipped reached.recorded) m skipped each) yielded.2 (subst (λ (k : Kind). MakesRows (place_of middle.1) (reached_by (came k (message_bytes m) reached) (all_bytes skipped)) false drawn (r ∷ trace) new ended) is made) in
      makes_later m is (subst (λ (n : ℕ). MakesRows n (passed (message_bytes m) reached) false (map item skipped ++ drawn) (r ∷ trace) new ended) (place_moves p yielded.0 (item m) yielded.1) rest)

  yields_drawn : (messages : List Message) (p q : R × Option ℕ) → Yields (message_step left stays no_room) p messages q → Drawn p (map item messages) q
  yields_drawn [] p q h = h
  yields_drawn (m ∷ messages) p q h = (h.0, h.1, yields_drawn messages h.0 q h.2)

  made_of_run : (trace : List (Answered Reply PgFault)) (p : R × Option ℕ) (reached : Reached) (ended : Bool) (q : Parts) → Run Steps (p, reached, ended) trace q → Made (p, reached, ended) trace q
  made_of_run [] p reached ended q ran = subst (λ (u : Parts). Made (p, reached, ended) [] u) ran ([], refl, makes_nothing)
  made_of_run (r ∷ rest) p reached true q ran =
      let h = made_of_run rest p reached true q (subst (λ (u : Parts). Run Steps u rest q) ran.1.1 ran.2) in
      (h.0, h.1, subst (λ (a : Answered Reply PgFault). MakesRows (place_of p.1) reached true h.0 (a ∷ rest) q.1 q.2) (sym ran.1.0) (makes_end h.2))
  made_of_run (r ∷ rest) p reached false q ran =
      let d = ran.1 in
      let u = ran.0 in
      let h = made_of_run rest u.0 u.1 u.2 q ran.2 in
      let first = subst (λ (n : ℕ). MakesRows n u.1 u.2 h.0 rest q.1 q.2) (place_moves d.middle u.0 d.last d.drawn) h.2 in (
        map item d.skipped ++ d.last ∷ h.0,
        folds_to_in_turn (message_step left stays no_room) (map item d.skipped) (d.last ∷ h.0) p d.middle q.0 (yields_drawn d.skipped p d.middle d.passed) (u.0, d.drawn, h.1),
        made_after_skipped d.skipped p d.middle reached d.each d.passed (makes_first d.last r d.made first),
      )

  draws_after_skipped : {p u : R × Option ℕ} {reached : Reached} {r : Answered Reply PgFault} {q : Parts} (m : Message) → IsSkipped reached.recorded m → message_step left stays no_room p (item m) u → DrawsRow left stays no_room u (passed (message_bytes m) reached) r q.0 q.1 q.2 → DrawsRow left stays no_room p reached r q.0 q.1 q.2
  draws_after_skipped {u = u} {reached = reached} {r = r} {q = q} m is step d = record {
    skipped = m ∷ d.skipped;
    each = All-cons (IsSkipped reached.recorded) m d.skipped is d.each;
    middle = d.middle;
    passed = (u, step, d.passed);
    last = d.last;
    drawn = d.drawn;
    made = subst (λ (k : Kind). MadeOfLast (place_of d.middle.1) (reached_by (came k (message_bytes m) reached) (all_bytes d.skipped)) d.last r q.1 q.2) (sym is) d.made;
  }

  run_of_made : {place : ℕ} {reached new : Reached} {begun ended : Bool} {answers : List (Answered Message PgFault)} {trace : List (Answered Reply PgFault)} → MakesRows place reached begun answers trace new ended → (p q : R × Option ℕ) → place_of p.1 ≡ place → Drawn p answers q → Run Steps (p, reached, begun) trace (q, new, ended)
  run_of_made {reached = reached} {begun = begun} makes_nothing p q at ran = ap (λ (u : R × Option ℕ). (u, reached, begun)) ran
  run_of_made {reached = reached} (makes_end h) p q at ran = ((p, reached, true), (refl, refl), run_of_made h p q at ran)
  run_of_made (makes_later m is h) p q at ran =
      let rest = run_of_made h ran.0 q (place_moves p ran.0 (item m) ran.1 ∙ ap (λ (n : ℕ). place_after n (item m)) at) ran.2 in
      (rest.0, draws_after_skipped m is ran.1 rest.1, rest.2)
  run_of_made {reached = reached} (makes_first {next = next} {ends = ends} a r made h) p q at ran =
      let draw : DrawsRow left stays no_room p reached r ran.0 next ends = record { skipped = []; each = All-nil (IsSkipped reached.recorded); middle = p; passed = refl; last = a; drawn = ran.1; made = subst (λ (n : ℕ). MadeOfLast n reached a r next ends) (sym at) made } in
      ((ran.0, next, ends), draw, run_of_made h ran.0 q (place_moves p ran.0 a ran.1 ∙ ap (λ (n : ℕ). place_after n a) at) ran.2)

  -- ---- the definition

  pub rows_traced : IsTraced Steps (RowsTrace left stays no_room)
  rows_traced p trace q = (
    (λ ran. let h = made_of_run trace p.0 p.1 p.2 q ran in record { answers = h.0; drawn = (messages_traced left stays no_room p.0 h.0 q.0).0 h.1; made = h.2 }),
    (λ d. run_of_made d.made p.0 q.0 refl ((messages_traced left stays no_room p.0 d.answers q.0).1 d.drawn)),
  )

  abbrev Definition : Rows R → List (Answered Reply PgFault) → Rows R → Type 0
  Definition = traces_around rows_parts (RowsTrace left stays no_room)

  rows_are_defined : (s : Rows R) (trace : List (Answered Reply PgFault)) (t : Rows R) → Run (λ u r v. Steps (rows_parts u) r (rows_parts v)) s trace t ↔ Definition s trace t
  rows_are_defined s trace t = let both = rows_traced (rows_parts s) trace (rows_parts t) in (
    (λ ran. (no_draw_leaves_itself trace s t ran, both.0 (run_of_parts trace s t ran))),
    (λ d. run_of_rows trace s t d.0 (both.1 d.1)),
  )

  pub lawful_rows : Lawful (around rows_parts (rows_contract left stays no_room))
  lawful_rows = lawful_with_traces Definition rows_are_defined (lawful_seen rows_parts (lawful_unbounded Steps))
