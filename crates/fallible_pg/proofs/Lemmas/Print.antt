-- What was printed of the messages that were read.
use Rattle.std.proofs.Common.{◌≡◌, ℕ, ◌+◌, ◌*◌, ◌≤◌, inl, inr, Bool, false, List, [], ◌∷◌, ◌++◌, length, Option, Some, Result, Ok, Err, refl, sym, ap, subst, ◌∙◌, arith, append_assoc, append-nil, length-append}
use Rattle.std.specs.Prelude.{All}
use Rattle.std.specs.List.{concat}
use Rattle.std.specs.Io.KnownBytes.{Appends}
use Rattle.std.proofs.KnownBytes.{Appends-nil, Appends-trans}
use Rattle.std.proofs.lemmas.List.Elements.{All-nil, All-cons, All-append, All-head, All-tail}
use Rattle.std.proofs.lemmas.List.Folds.{concat-append}
use Rattle.program_io.specs.Bytes.{GivesByte, GivesBytes}
use Rattle.fallible_iterator.specs.Laws.Closures.{folds_to_in_turn}
use Rattle.fallible_iterator.specs.Traces.{Answered, item}
use Rattle.fallible_pg.specs.Draws.{row_bytes, reply_bytes, reply_kind, IsOfKind, ReadsAnswer, DrawsBytes}
use Rattle.fallible_pg.specs.Kinds.{kind_of}
use Rattle.fallible_pg.specs.Progress.{Reached, came, reached_by}
use Rattle.fallible_pg.specs.Rows.{rows_step}
use Rattle.fallible_pg.specs.Text.{Form}
use Rattle.fallible_pg.specs.Messages.{message_bytes}
use Rattle.fallible_pg.proofs.Lemmas.Draw.{draws_bytes_of}
use Rattle.fallible_pg.proofs.Lemmas.Turn.{skipped_recorded}
use Rattle.fallible_pg.specs.declared.fault.PgFault.{PgFault}
use Rattle.fallible_pg.specs.declared.fault.PgFault.TheVariants.{Server, Damaged, Read, Memory}
use Rattle.fallible_pg.specs.declared.kind.Kind.{Kind}
use Rattle.fallible_pg.specs.declared.kind.Kind.TheVariants as Is
use Rattle.fallible_pg.specs.declared.rows.Reply.{Reply}
use Rattle.fallible_pg.specs.declared.rows.Reply.TheVariants as Came
use Rattle.program_io.specs.declared.fault.RunFault.{RunFault}
use Rattle.program_io.specs.declared.fault.RunFault.TheVariants as Run
use Rattle.fallible_pg.specs.Report.{as_run_fault, text_by, told_by, made_text, rows_text, notices_text, IsPassed, ReadsOutcome, WritesTexts, PutsReply, ComesTo}
use Rattle.fallible_pg.specs.declared.printing.PgInput.{PgInput}

-- ---- the texts

module _ (recorded : Bool) (by : Kind → List ℕ → List ℕ) where
  made_text-append : (ms ns : List (List ℕ)) → made_text recorded by (ms ++ ns) ≡ made_text recorded by ms ++ made_text recorded by ns
  made_text-append [] ns = refl
  made_text-append (m ∷ ms) ns = ap (λ l. by (kind_of recorded m) m ++ l) (made_text-append ms ns) ∙ sym (append_assoc (by (kind_of recorded m) m) (made_text recorded by ms) (made_text recorded by ns))

  -- where nothing is made of messages that are skipped
  module _ (none : (m : List ℕ) → by Is.Skipped m ≡ []) where
    made_text-skipped : (ms : List (List ℕ)) → All (IsOfKind recorded Is.Skipped) ms → made_text recorded by ms ≡ []
    made_text-skipped [] h = refl
    made_text-skipped (m ∷ ms) h = ap (λ (k : Kind). by k m ++ made_text recorded by ms) (All-head (IsOfKind recorded Is.Skipped) m ms h).1 ∙ ap (λ l. l ++ made_text recorded by ms) (none m) ∙ made_text-skipped ms (All-tail (IsOfKind recorded Is.Skipped) m ms h)

    -- after messages that are skipped
    made_text-after : (ms ns : List (List ℕ)) → All (IsOfKind recorded Is.Skipped) ns → made_text recorded by (ms ++ ns) ≡ made_text recorded by ms
    made_text-after ms ns h = made_text-append ms ns ∙ ap (λ l. made_text recorded by ms ++ l) (made_text-skipped ns h) ∙ append-nil (made_text recorded by ms)

    -- with one message more, of a kind
    made_text-with : (ms ns : List (List ℕ)) (m : List ℕ) {kind : Kind} → All (IsOfKind recorded Is.Skipped) ns → kind_of recorded m ≡ kind → made_text recorded by (ms ++ (ns ++ m ∷ [])) ≡ made_text recorded by ms ++ by kind m
    made_text-with ms ns m h is =
        made_text-append ms (ns ++ m ∷ [])
        ∙ ap (λ l. made_text recorded by ms ++ l) (made_text-append ns (m ∷ []) ∙ ap (λ l. l ++ made_text recorded by (m ∷ [])) (made_text-skipped ns h) ∙ append-nil (by (kind_of recorded m) m) ∙ ap (λ (k : Kind). by k m) is)

passed_skipped : (recorded : Bool) (ms : List (List ℕ)) → All (IsOfKind recorded Is.Skipped) ms → All (IsPassed recorded) ms
passed_skipped recorded [] h = All-nil (IsPassed recorded)
passed_skipped recorded (m ∷ ms) h = All-cons (IsPassed recorded) m ms (inr (inr (All-head (IsOfKind recorded Is.Skipped) m ms h))) (passed_skipped recorded ms (All-tail (IsOfKind recorded Is.Skipped) m ms h))

-- ---- how far rows have come

reached_by-append : (reached : Reached) (ms ns : List (List ℕ)) → reached_by reached (ms ++ ns) ≡ reached_by (reached_by reached ms) ns
reached_by-append reached [] ns = refl
reached_by-append reached (m ∷ ms) ns = reached_by-append (came (kind_of reached.recorded m) m reached) ms ns

-- messages that are passed leave it whether rows are those of a recording
came_recorded : (reached : Reached) (m : List ℕ) → IsPassed reached.recorded m → (came (kind_of reached.recorded m) m reached).recorded ≡ reached.recorded
came_recorded reached m (inl h) = ap (λ (k : Kind). (came k m reached).recorded) h.1
came_recorded reached m (inr (inl h)) = ap (λ (k : Kind). (came k m reached).recorded) h.1
came_recorded reached m (inr (inr h)) = ap (λ (k : Kind). (came k m reached).recorded) h.1

pub passed_recorded : (reached : Reached) (ms : List (List ℕ)) → All (IsPassed reached.recorded) ms → (reached_by reached ms).recorded ≡ reached.recorded
passed_recorded reached [] each = refl
passed_recorded reached (m ∷ ms) each =
    let same = came_recorded reached m (All-head (IsPassed reached.recorded) m ms each) in
    passed_recorded (came (kind_of reached.recorded m) m reached) ms (subst (λ (b : Bool). All (IsPassed b) ms) (sym same) (All-tail (IsPassed reached.recorded) m ms each)) ∙ same

-- ---- replies

passed_reply : (recorded : Bool) (reply : Reply) → IsOfKind recorded (reply_kind reply) (reply_bytes reply) → IsPassed recorded (reply_bytes reply)
passed_reply recorded (Came.Row row) h = inl h
passed_reply recorded (Came.Notice m) h = inr (inl h)

long_reply : (reply : Reply) → 5 ≤ length (reply_bytes reply)
long_reply (Came.Row row) = row.message.long
long_reply (Came.Notice m) = m.long

module _ {R : Type 0} (left : R → Option (List ℕ)) (stays : Bool → R → R → Type 0) where
  abbrev Parts : Type 0
  Parts = (R × Option ℕ) × Reached × Bool

  gives_all : (ms ns : List (List ℕ)) (p q r : R) → GivesBytes left stays p (concat ms) q → GivesBytes left stays q (concat ns) r → GivesBytes left stays p (concat (ms ++ ns)) r
  gives_all ms ns p q r h k = subst (λ l. GivesBytes left stays p l r) (sym (concat-append ms ns)) (folds_to_in_turn (GivesByte left stays) (concat ms) (concat ns) p q r h k)

  length_all : (ms ns : List (List ℕ)) → length (concat (ms ++ ns)) ≡ length (concat ms) + length (concat ns)
  length_all ms ns = ap length (concat-append ms ns) ∙ length-append (concat ms) (concat ns)

  -- messages that are rows, notices or skipped were read, and the text of these rows was written and that of these notices told; so many draws made it
  pub record Printed (form : Form) (reached : Reached) (r : R) (p : Parts) (written written' told told' : Option (List ℕ)) (n : ℕ) : Type 0 where
    pub messages : List (List ℕ)
    pub each : All (IsPassed reached.recorded) messages
    pub given : GivesBytes left stays r (concat messages) p.0.0
    pub goes_on : p ≡ ((p.0.0, Some (length (concat messages))), reached_by reached messages, false)
    pub wrote : Appends written written' (rows_text reached.recorded form messages)
    pub tells : Appends told told' (notices_text reached.recorded messages)
    pub many : 5 * n ≤ length (concat messages)

  pub printed_first : (form : Form) (reached : Reached) (r : R) (p : Parts) (written told : Option (List ℕ)) → p ≡ ((r, Some 0), reached, false) → Printed form reached r p written written told told 0
  printed_first form reached r p written told is = record {
    messages = [];
    each = All-nil (IsPassed reached.recorded);
    given = sym (ap (λ (u : Parts). u.0.0) is);
    goes_on = is ∙ ap (λ (t : R). ((t, Some 0), reached, false)) (sym (ap (λ (u : Parts). u.0.0) is));
    wrote = Appends-nil written;
    tells = Appends-nil told;
    many = omega arith;
  }

-- the texts were written, where the outcome tells no failed write
writes_texts : {W E : Type 0} (failed : W → Type 0) (written written' : Option (List ℕ)) (output' : W) (unheard : E → Type 0) (told told' : Option (List ℕ)) (errors' : E) (outcome : Result (Unit {0}) (RunFault PgInput)) (text line : List ℕ) → (outcome ≡ Err Run.Write → ⊥) → Appends written written' text → Appends told told' line → WritesTexts failed written written' output' unheard told told' errors' text line outcome
writes_texts failed written written' output' unheard told told' errors' (Ok done) text line other h k = (h, k)
writes_texts failed written written' output' unheard told told' errors' (Err (Run.Input fault)) text line other h k = (h, k)
writes_texts failed written written' output' unheard told told' errors' (Err Run.Read) text line other h k = (h, k)
writes_texts failed written written' output' unheard told told' errors' (Err Run.Memory) text line other h k = (h, k)
writes_texts failed written written' output' unheard told told' errors' (Err Run.Write) text line other h k = absurd (other refl)

-- what a failure says of the input, its outcome says
pub reads_fault_outcome : {R : Type 0} (left : R → Option (List ℕ)) (stays : Bool → R → R → Type 0) (no_room unheld : List ℕ → Type 0) (fault : PgFault) (place : ℕ) (reached : Reached) (t q : R) → ReadsAnswer left stays no_room place reached t (Err fault) q → ReadsOutcome left stays no_room unheld {T = Unit {0}} place reached t (Err (as_run_fault fault)) q
reads_fault_outcome left stays no_room unheld (Server m) place reached t q h = h
reads_fault_outcome left stays no_room unheld (Damaged at damage) place reached t q h = h
reads_fault_outcome left stays no_room unheld Read place reached t q h = h
reads_fault_outcome left stays no_room unheld Memory place reached t q h = inl h

-- and it tells no failed write
pub no_fault_writes : (fault : PgFault) → ◌≡◌ {A = Result (Unit {0}) (RunFault PgInput)} (Err (as_run_fault fault)) (Err Run.Write) → ⊥
no_fault_writes (Server m) e = cc
no_fault_writes (Damaged at damage) e = cc
no_fault_writes Read e = cc
no_fault_writes Memory e = cc

module _ {R : Type 0} {left : R → Option (List ℕ)} {stays : Bool → R → R → Type 0} (no_room : List ℕ → Type 0) {form : Form} {reached : Reached} {r : R} {p : (R × Option ℕ) × Reached × Bool} {written written' told told' : Option (List ℕ)} {n : ℕ} (q : (R × Option ℕ) × Reached × Bool) (before : Printed left stays form reached r p written written' told told' n) where
  abbrev now : Reached
  now = reached_by reached before.messages

  abbrev same_recorded : now.recorded ≡ reached.recorded
  same_recorded = passed_recorded reached before.messages before.each

  abbrev drawn_of : (answer : Answered Reply PgFault) → rows_step left stays no_room p answer q → DrawsBytes left stays no_room (length (concat before.messages)) now p.0.0 answer q.0 q.1 q.2
  drawn_of answer step = draws_bytes_of left stays no_room q p.0.0 (length (concat before.messages)) now answer before.goes_on step

  skipped_of : (answer : Answered Reply PgFault) (step : rows_step left stays no_room p answer q) → All (IsOfKind reached.recorded Is.Skipped) (drawn_of answer step).skipped
  skipped_of answer step = subst (λ (b : Bool). All (IsOfKind b Is.Skipped) (drawn_of answer step).skipped) same_recorded (drawn_of answer step).each

  -- before the last message
  abbrev last_reached : (answer : Answered Reply PgFault) → rows_step left stays no_room p answer q → Reached
  last_reached answer step = reached_by now (drawn_of answer step).skipped

  last_recorded : (answer : Answered Reply PgFault) (step : rows_step left stays no_room p answer q) → (last_reached answer step).recorded ≡ reached.recorded
  last_recorded answer step = skipped_recorded now (drawn_of answer step).skipped (drawn_of answer step).each ∙ same_recorded

  -- a row or a notice was drawn
  module _ (reply : Reply) (step : rows_step left stays no_room p (item reply) q) where
    abbrev drawn : DrawsBytes left stays no_room (length (concat before.messages)) now p.0.0 (item reply) q.0 q.1 q.2
    drawn = drawn_of (item reply) step

    abbrev last_bytes : List ℕ
    last_bytes = reply_bytes reply

    abbrev with_reply : List (List ℕ)
    with_reply = drawn.skipped ++ last_bytes ∷ []

    is_reply : IsOfKind reached.recorded (reply_kind reply) last_bytes
    is_reply = subst (λ (b : Bool). IsOfKind b (reply_kind reply) last_bytes) (last_recorded (item reply) step) drawn.answers.0

    given_reply : GivesBytes left stays r (concat (before.messages ++ with_reply)) q.0.0
    given_reply = gives_all left stays before.messages with_reply r p.0.0 q.0.0 before.given (gives_all left stays drawn.skipped (last_bytes ∷ []) p.0.0 drawn.last q.0.0 drawn.given (subst (λ l. GivesBytes left stays drawn.last l q.0.0) (sym (append-nil last_bytes)) drawn.answers.1))

    each_reply : All (IsPassed reached.recorded) (before.messages ++ with_reply)
    each_reply = All-append (IsPassed reached.recorded) before.messages with_reply before.each (All-append (IsPassed reached.recorded) drawn.skipped (last_bytes ∷ []) (passed_skipped reached.recorded drawn.skipped (skipped_of (item reply) step)) (All-cons (IsPassed reached.recorded) last_bytes [] (passed_reply reached.recorded reply is_reply) (All-nil (IsPassed reached.recorded))))

    long_all : length (concat (before.messages ++ with_reply)) ≡ (length (concat before.messages) + length (concat drawn.skipped)) + length last_bytes
    long_all = let one = length_all left stays drawn.skipped (last_bytes ∷ []) in let whole = length_all left stays before.messages with_reply in let last : length (concat (last_bytes ∷ [])) ≡ length last_bytes = ap length (append-nil last_bytes) in omega (arith, one, whole, last)

    reached_reply : q.1 ≡ reached_by reached (before.messages ++ with_reply)
    reached_reply =
        drawn.goes_on.1
        ∙ ap (λ (k : Kind). came k last_bytes (last_reached (item reply) step)) (sym drawn.answers.0.1)
        ∙ sym (reached_by-append now drawn.skipped (last_bytes ∷ []))
        ∙ sym (reached_by-append reached before.messages with_reply)

    text_with : (by : Kind → List ℕ → List ℕ) → ((m : List ℕ) → by Is.Skipped m ≡ []) → made_text reached.recorded by (before.messages ++ with_reply) ≡ made_text reached.recorded by before.messages ++ by (reply_kind reply) last_bytes
    text_with by none = made_text-with reached.recorded by none before.messages drawn.skipped last_bytes (skipped_of (item reply) step) is_reply.1

    pub printed_reply : (written'' told'' : Option (List ℕ)) → Appends written' written'' (text_by form (reply_kind reply) (reply_bytes reply)) → Appends told' told'' (told_by (reply_kind reply) (reply_bytes reply)) → Printed left stays form reached r q written written'' told told'' (n + 1)
    printed_reply written'' told'' wrote tells = record {
      messages = before.messages ++ with_reply;
      each = each_reply;
      given = given_reply;
      goes_on =
          ap (λ (o : Option ℕ). ((q.0.0, o), q.1, q.2)) (drawn.goes_on.0 ∙ ap (λ (k : ℕ). Some k) (sym long_all))
          ∙ ap (λ (u : Reached). ((q.0.0, Some (length (concat (before.messages ++ with_reply)))), u, q.2)) reached_reply
          ∙ ap (λ (b : Bool). ((q.0.0, Some (length (concat (before.messages ++ with_reply)))), reached_by reached (before.messages ++ with_reply), b)) drawn.goes_on.2;
      wrote = subst (Appends written written'') (sym (text_with (text_by form) (λ m. refl))) (Appends-trans written written' written'' (rows_text reached.recorded form before.messages) (text_by form (reply_kind reply) last_bytes) before.wrote wrote);
      tells = subst (Appends told told'') (sym (text_with told_by (λ m. refl))) (Appends-trans told told' told'' (notices_text reached.recorded before.messages) (told_by (reply_kind reply) last_bytes) before.tells tells);
      many = let many = before.many in let five = long_reply reply in let all = long_all in omega (arith, many, five, all);
    }

  module _ (unheld : List ℕ → Type 0) {W E : Type 0} (failed : W → Type 0) (written'' : Option (List ℕ)) (output' : W) (unheard : E → Type 0) (told'' : Option (List ℕ)) (errors' : E) where
    abbrev Comes : Result (Unit {0}) (RunFault PgInput) → Type 0
    Comes outcome = ComesTo left stays no_room unheld reached form r q.0.0 failed written written'' output' unheard told told'' errors' outcome

    abbrev Writes : List ℕ → List ℕ → Result (Unit {0}) (RunFault PgInput) → Type 0
    Writes text line outcome = WritesTexts failed written written'' output' unheard told told'' errors' text line outcome

    -- messages that are skipped were passed before an answer
    pub comes_to_after : (answer : Answered Reply PgFault) (outcome : Result (Unit {0}) (RunFault PgInput)) (step : rows_step left stays no_room p answer q) → ((place : ℕ) (at : Reached) (t : R) → ReadsAnswer left stays no_room place at t answer q.0.0 → ReadsOutcome left stays no_room unheld place at t outcome q.0.0) → ((text line : List ℕ) → Appends written written' text → Appends told told' line → Writes text line outcome) → Comes outcome
    comes_to_after answer outcome step reads writes =
        let drawn = drawn_of answer step in
        let skipped = skipped_of answer step in
        let text = made_text-after reached.recorded (text_by form) (λ m. refl) before.messages drawn.skipped skipped in
        let line = made_text-after reached.recorded told_by (λ m. refl) before.messages drawn.skipped skipped in
        record {
          messages = before.messages ++ drawn.skipped;
          each = All-append (IsPassed reached.recorded) before.messages drawn.skipped before.each (passed_skipped reached.recorded drawn.skipped skipped);
          last = drawn.last;
          given = gives_all left stays before.messages drawn.skipped r p.0.0 drawn.last before.given drawn.given;
          reads = subst (λ (k : ℕ). ReadsOutcome left stays no_room unheld k (reached_by reached (before.messages ++ drawn.skipped)) drawn.last outcome q.0.0) (sym (length_all left stays before.messages drawn.skipped)) (subst (λ (u : Reached). ReadsOutcome left stays no_room unheld (length (concat before.messages) + length (concat drawn.skipped)) u drawn.last outcome q.0.0) (sym (reached_by-append reached before.messages drawn.skipped)) (reads (length (concat before.messages) + length (concat drawn.skipped)) (last_reached answer step) drawn.last drawn.answers));
          writes = writes _ _ (subst (Appends written written') (sym text) before.wrote) (subst (Appends told told') (sym line) before.tells);
        }

    -- a row or a notice was drawn, and it could not be printed or told
    pub comes_to_put : (reply : Reply) (fault : RunFault PgInput) → rows_step left stays no_room p (item reply) q → PutsReply failed written' written'' output' unheard told' told'' errors' form unheld reply (Err fault) → Comes (Err fault)
    comes_to_put (Came.Row row) Run.Memory step h = comes_to_after (item (Came.Row row)) (Err Run.Memory) step (λ place at t reads. inr (row_bytes row, reads, h.0)) (λ text line wrote tells. (subst (λ (o : Option (List ℕ)). Appends written o text) (sym h.1) wrote, subst (λ (o : Option (List ℕ)). Appends told o line) (sym h.2) tells))
    comes_to_put (Came.Row row) Run.Write step h = comes_to_after (item (Came.Row row)) (Err Run.Write) step (λ place at t reads. (row_bytes row, inl reads)) (λ text line wrote tells. inl (h.0, subst (λ (o : Option (List ℕ)). Appends told o line) (sym h.1) tells))
    comes_to_put (Came.Row row) Run.Read step h = absurd h
    comes_to_put (Came.Row row) (Run.Input fault) step h = absurd h
    comes_to_put (Came.Notice m) Run.Write step h = comes_to_after (item (Came.Notice m)) (Err Run.Write) step (λ place at t reads. (message_bytes m, inr reads)) (λ text line wrote tells. inr (subst (λ (o : Option (List ℕ)). Appends written o text) (sym h.0) wrote, h.1))
    comes_to_put (Came.Notice m) Run.Memory step h = absurd h
    comes_to_put (Came.Notice m) Run.Read step h = absurd h
    comes_to_put (Came.Notice m) (Run.Input fault) step h = absurd h

  module _ (unheld : List ℕ → Type 0) {W E : Type 0} (failed : W → Type 0) (output' : W) (unheard : E → Type 0) (errors' : E) where
    -- an end or a failure was drawn
    pub comes_to : (answer : Answered Reply PgFault) {outcome : Result (Unit {0}) (RunFault PgInput)} → rows_step left stays no_room p answer q → (outcome ≡ Err Run.Write → ⊥) → ((place : ℕ) (at : Reached) (t : R) → ReadsAnswer left stays no_room place at t answer q.0.0 → ReadsOutcome left stays no_room unheld place at t outcome q.0.0) → ComesTo left stays no_room unheld reached form r q.0.0 failed written written' output' unheard told told' errors' outcome
    comes_to answer {outcome = outcome} step other reads = comes_to_after unheld failed written' output' unheard told' errors' answer outcome step reads (λ text line wrote tells. writes_texts failed written written' output' unheard told told' errors' outcome text line other wrote tells)
