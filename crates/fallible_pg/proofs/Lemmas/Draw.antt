-- What a draw of rows reads, by the messages that it takes.
use Rattle.std.proofs.Common.{◌≡◌, ℕ, ◌+◌, inl, inr, Bool, true, false, List, [], ◌∷◌, ◌++◌, length, Option, Some, None, Ok, Err, refl, sym, ap, subst, ◌∙◌, arith, length-append}
use Rattle.std.specs.Prelude.{All}
use Rattle.std.specs.List.{concat}
use Rattle.std.proofs.lemmas.List.Elements.{All-nil, All-cons, All-head, All-tail}
use Rattle.program_io.specs.Bytes.{GivesByte, GivesBytes, GivesEnd}
use Rattle.fallible_iterator.specs.Laws.Closures.{folds_to_in_turn}
use Rattle.fallible_iterator.specs.Traces.{Answered, Yields}
use Rattle.fallible_pg.specs.Draws.{IsOfKind, CountsStatements, ReadsAnswer, GoesOn, DrawsBytes}
use Rattle.fallible_pg.specs.Kinds.{kind_of}
use Rattle.fallible_pg.specs.Messages.{message_bytes}
use Rattle.fallible_pg.specs.Progress.{Reached, came, reached_by}
use Rattle.fallible_pg.specs.Reading.{message_step, place_of, TellsWhy}
use Rattle.fallible_pg.specs.Rows.{all_bytes, at_end, MadeOfKind, MadeOfLast, IsSkipped, DrawsRow, rows_step}
use Rattle.fallible_pg.specs.declared.fault.PgFault.{PgFault}
use Rattle.fallible_pg.specs.declared.fault.PgFault.TheVariants.{Server, Damaged, Read, Memory}
use Rattle.fallible_pg.specs.declared.message.Message.{Message}
use Rattle.fallible_pg.specs.declared.kind.Kind.{Kind}
use Rattle.fallible_pg.specs.declared.kind.Kind.TheVariants as Is
use Rattle.fallible_pg.specs.declared.rows.Reply.{Reply}

skipped_bytes : (recorded : Bool) (ms : List Message) → All (IsSkipped recorded) ms → All (IsOfKind recorded Is.Skipped) (all_bytes ms)
skipped_bytes recorded [] h = All-nil (IsOfKind recorded Is.Skipped)
skipped_bytes recorded (m ∷ ms) h = All-cons (IsOfKind recorded Is.Skipped) (message_bytes m) (all_bytes ms) (m.whole, All-head (IsSkipped recorded) m ms h) (skipped_bytes recorded ms (All-tail (IsSkipped recorded) m ms h))

module _ {R : Type 0} (left : R → Option (List ℕ)) (stays : Bool → R → R → Type 0) (no_room : List ℕ → Type 0) where
  abbrev Parts : Type 0
  Parts = R × Option ℕ

  -- messages that were drawn one after the other
  yields_bytes : (ms : List Message) (r : R) (n : ℕ) (q : Parts) → Yields (message_step left stays no_room) (r, Some n) ms q → GivesBytes left stays r (concat (all_bytes ms)) q.0 × (q.1 ≡ Some (n + length (concat (all_bytes ms))))
  yields_bytes [] r n q h = subst (λ (p : Parts). GivesBytes left stays r [] p.0 × (p.1 ≡ Some (n + 0))) h (refl, ap (λ (k : ℕ). Some k) (omega arith))
  yields_bytes (m ∷ ms) r n q h =
      let u = h.0 in
      let step = h.1 in
      let rest = yields_bytes ms u.0 (n + length (message_bytes m)) q (subst (λ (o : Option ℕ). Yields (message_step left stays no_room) (u.0, o) ms q) step.2 h.2) in
      let long : (n + length (message_bytes m)) + length (concat (all_bytes ms)) ≡ n + length (message_bytes m ++ concat (all_bytes ms)) = omega (arith, length-append (message_bytes m) (concat (all_bytes ms))) in
      (folds_to_in_turn (GivesByte left stays) (message_bytes m) (concat (all_bytes ms)) r u.0 q.0 step.0 rest.0, rest.1 ∙ ap (λ (k : ℕ). Some k) long)

  -- the last message, by its kind
  reads_kind : (place : ℕ) (reached : Reached) (m : Message) (r : R) (q : Parts) (kind : Kind) (answer : Answered Reply PgFault) (ended : Bool) → kind_of reached.recorded (message_bytes m) ≡ kind → GivesBytes left stays r (message_bytes m) q.0 → MadeOfKind place reached m kind answer ended → ReadsAnswer left stays no_room place reached r answer q.0
  reads_kind place reached m r q Is.Row answer ended is given h = subst (λ (a : Answered Reply PgFault). ReadsAnswer left stays no_room place reached r a q.0) (sym h.0) ((m.whole, is), given)
  reads_kind place reached m r q Is.Notice answer ended is given h = subst (λ (a : Answered Reply PgFault). ReadsAnswer left stays no_room place reached r a q.0) (sym h.0) ((m.whole, is), given)
  reads_kind place reached m r q Is.Skipped answer ended is given h = absurd h
  reads_kind place reached m r q Is.Refusal answer ended is given h = subst (λ (a : Answered Reply PgFault). ReadsAnswer left stays no_room place reached r a q.0) (sym h.0) ((m.whole, is), given)
  reads_kind place reached m r q Is.Ready answer ended is given h = subst (λ (a : Answered Reply PgFault). ReadsAnswer left stays no_room place reached r a q.0) (sym h.0) (inl (message_bytes m, ((m.whole, is), given)))
  reads_kind place reached m r q (Is.Damaged damage) answer ended is given h = subst (λ (a : Answered Reply PgFault). ReadsAnswer left stays no_room place reached r a q.0) (sym h.0) (refl, inl (message_bytes m, ((m.whole, is), given)))

  -- the end of the messages
  reads_end : (place : ℕ) (reached : Reached) (r q : R) (ready : Bool) (answer : Answered Reply PgFault) → reached.ready ≡ ready → GivesEnd left stays r q → answer ≡ at_end ready place → ReadsAnswer left stays no_room place reached r answer q
  reads_end place reached r q true answer is given h = subst (λ (a : Answered Reply PgFault). ReadsAnswer left stays no_room place reached r a q) (sym h) (inr (is, given))
  reads_end place reached r q false answer is given h = subst (λ (a : Answered Reply PgFault). ReadsAnswer left stays no_room place reached r a q) (sym h) (refl, inr (inr (refl, (is, given))))

  -- a message that wasn't read, by the fault
  reads_fault : (place : ℕ) (reached : Reached) (r q : R) (begun : List ℕ) (last : R) (fault : PgFault) → GivesBytes left stays r begun last → TellsWhy left stays no_room place begun last fault q → ReadsAnswer left stays no_room place reached r (Err fault) q
  reads_fault place reached r q begun last (Server m) given h = absurd h
  reads_fault place reached r q begun last (Damaged at damage) given h = (h.0, inr (inl (begun, last, given, h.1)))
  reads_fault place reached r q begun last Read given (inl h) = inl (begun, last, given, h)
  reads_fault place reached r q begun last Read given (inr h) = inr (h.0, h.2 ∙ sym (subst (λ l. GivesBytes left stays r l last) h.1 given))
  reads_fault place reached r q begun last Memory given h = (begun, last, given, h)

  -- the last answer that was drawn
  reads_last : (place : ℕ) (reached : Reached) (r : R) (q : Parts) (last : Answered Message PgFault) (answer : Answered Reply PgFault) (new : Reached) (ended : Bool) → message_step left stays no_room (r, Some place) last q → MadeOfLast place reached last answer new ended → ReadsAnswer left stays no_room place reached r answer q.0
  reads_last place reached r q (Ok (Some m)) answer new ended h made = reads_kind place reached m r q (kind_of reached.recorded (message_bytes m)) answer ended refl h.0 made.0
  reads_last place reached r q (Ok None) answer new ended h made = reads_end place reached r q.0 reached.ready answer refl h.1 made.0
  reads_last place reached r q (Err fault) answer new ended h made = let d = h.1 in subst (λ (a : Answered Reply PgFault). ReadsAnswer left stays no_room place reached r a q.0) (sym made.0) (reads_fault place reached r q.0 d.0 d.1 fault d.2 d.3)

  goes_on_kind : (place : ℕ) (reached : Reached) (m : Message) (at : Option ℕ) (kind : Kind) (answer : Answered Reply PgFault) (new : Reached) (ended : Bool) → at ≡ Some (place + length (message_bytes m)) → new ≡ came kind (message_bytes m) reached → MadeOfKind place reached m kind answer ended → GoesOn place reached answer at new ended
  goes_on_kind place reached m at Is.Row answer new ended is next h = subst (λ (a : Answered Reply PgFault). GoesOn place reached a at new ended) (sym h.0) (is, next, h.1)
  goes_on_kind place reached m at Is.Notice answer new ended is next h = subst (λ (a : Answered Reply PgFault). GoesOn place reached a at new ended) (sym h.0) (is, next, h.1)
  goes_on_kind place reached m at Is.Skipped answer new ended is next h = absurd h
  goes_on_kind place reached m at Is.Refusal answer new ended is next h = subst (λ (a : Answered Reply PgFault). GoesOn place reached a at new ended) (sym h.0) (is, next, h.1)
  goes_on_kind place reached m at Is.Ready answer new ended is next h = subst (λ (a : Answered Reply PgFault). GoesOn place reached a at new ended) (sym h.0) (next, h.1)
  goes_on_kind place reached m at (Is.Damaged damage) answer new ended is next h = subst (λ (a : Answered Reply PgFault). GoesOn place reached a at new ended) (sym h.0) (next, h.1)

  ends_at_end : (place : ℕ) (reached : Reached) (at : Option ℕ) (ready : Bool) (new : Reached) (ended : Bool) → new ≡ reached → ended ≡ true → GoesOn place reached (at_end ready place) at new ended
  ends_at_end place reached at true new ended next e = (next, e)
  ends_at_end place reached at false new ended next e = (next, e)

  ends_at_fault : (place : ℕ) (reached : Reached) (q : R) (begun : List ℕ) (last : R) (fault : PgFault) (at : Option ℕ) (new : Reached) (ended : Bool) → TellsWhy left stays no_room place begun last fault q → new ≡ reached → ended ≡ true → GoesOn place reached (Err fault) at new ended
  ends_at_fault place reached q begun last (Server m) at new ended h next e = absurd h
  ends_at_fault place reached q begun last (Damaged n damage) at new ended h next e = (next, e)
  ends_at_fault place reached q begun last Read at new ended h next e = (next, e)
  ends_at_fault place reached q begun last Memory at new ended h next e = (next, e)

  goes_on_last : (place : ℕ) (reached : Reached) (r : R) (q : Parts) (last : Answered Message PgFault) (answer : Answered Reply PgFault) (new : Reached) (ended : Bool) → message_step left stays no_room (r, Some place) last q → MadeOfLast place reached last answer new ended → GoesOn place reached answer q.1 new ended
  goes_on_last place reached r q (Ok (Some m)) answer new ended h made = goes_on_kind place reached m q.1 (kind_of reached.recorded (message_bytes m)) answer new ended h.2 made.1 made.0
  goes_on_last place reached r q (Ok None) answer new ended h made = subst (λ (a : Answered Reply PgFault). GoesOn place reached a q.1 new ended) (sym made.0) (ends_at_end place reached q.1 reached.ready new ended made.2 made.1)
  goes_on_last place reached r q (Err fault) answer new ended h made = let d = h.1 in subst (λ (a : Answered Reply PgFault). GoesOn place reached a q.1 new ended) (sym made.0) (ends_at_fault place reached q.0 d.0 d.1 fault q.1 new ended d.3 made.2 made.1)

  counts_kind : (place : ℕ) (reached : Reached) (m : Message) (kind : Kind) (answer : Answered Reply PgFault) (ended : Bool) → MadeOfKind place reached m kind answer ended → CountsStatements reached answer
  counts_kind place reached m Is.Row answer ended h = subst (λ (a : Answered Reply PgFault). CountsStatements reached a) (sym h.0) refl
  counts_kind place reached m Is.Notice answer ended h = subst (λ (a : Answered Reply PgFault). CountsStatements reached a) (sym h.0) tt
  counts_kind place reached m Is.Skipped answer ended h = absurd h
  counts_kind place reached m Is.Refusal answer ended h = subst (λ (a : Answered Reply PgFault). CountsStatements reached a) (sym h.0) tt
  counts_kind place reached m Is.Ready answer ended h = subst (λ (a : Answered Reply PgFault). CountsStatements reached a) (sym h.0) tt
  counts_kind place reached m (Is.Damaged damage) answer ended h = subst (λ (a : Answered Reply PgFault). CountsStatements reached a) (sym h.0) tt

  counts_at_end : (place : ℕ) (reached : Reached) (ready : Bool) → CountsStatements reached (at_end ready place)
  counts_at_end place reached true = tt
  counts_at_end place reached false = tt

  counts_last : (place : ℕ) (reached : Reached) (last : Answered Message PgFault) (answer : Answered Reply PgFault) (new : Reached) (ended : Bool) → MadeOfLast place reached last answer new ended → CountsStatements reached answer
  counts_last place reached (Ok (Some m)) answer new ended made = counts_kind place reached m (kind_of reached.recorded (message_bytes m)) answer ended made.0
  counts_last place reached (Ok None) answer new ended made = subst (λ (a : Answered Reply PgFault). CountsStatements reached a) (sym made.0) (counts_at_end place reached reached.ready)
  counts_last place reached (Err fault) answer new ended made = subst (λ (a : Answered Reply PgFault). CountsStatements reached a) (sym made.0) tt

  pub draws_bytes : (r : R) (place : ℕ) (reached : Reached) (answer : Answered Reply PgFault) (q : Parts) (new : Reached) (ended : Bool) → DrawsRow left stays no_room (r, Some place) reached answer q new ended → DrawsBytes left stays no_room place reached r answer q new ended
  draws_bytes r place reached answer q new ended d =
      let passed = yields_bytes d.skipped r place d.middle d.passed in
      let at : place_of d.middle.1 ≡ place + length (concat (all_bytes d.skipped)) = ap place_of passed.1 in
      let before = reached_by reached (all_bytes d.skipped) in
      let drawn = subst (λ (o : Option ℕ). message_step left stays no_room (d.middle.0, o) d.last q) passed.1 d.drawn in
      let made = subst (λ (n : ℕ). MadeOfLast n before d.last answer new ended) at d.made in
      record {
        skipped = all_bytes d.skipped;
        each = skipped_bytes reached.recorded d.skipped d.each;
        last = d.middle.0;
        given = passed.0;
        answers = reads_last (place + length (concat (all_bytes d.skipped))) before d.middle.0 q d.last answer new ended drawn made;
        counts = counts_last (place + length (concat (all_bytes d.skipped))) before d.last answer new ended made;
        goes_on = goes_on_last (place + length (concat (all_bytes d.skipped))) before d.middle.0 q d.last answer new ended drawn made;
      }

  pub draws_bytes_of : {p : Parts × Reached × Bool} (q : Parts × Reached × Bool) (r : R) (place : ℕ) (reached : Reached) (answer : Answered Reply PgFault) → p ≡ ((r, Some place), reached, false) → rows_step left stays no_room p answer q → DrawsBytes left stays no_room place reached r answer q.0 q.1 q.2
  draws_bytes_of q r place reached answer is h = draws_bytes r place reached answer q.0 q.1 q.2 (subst (λ (u : Parts × Reached × Bool). rows_step left stays no_room u answer q) is h)
