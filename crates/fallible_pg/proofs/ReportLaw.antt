-- What a run reports of known bytes.
use Rattle.std.proofs.Common.{◌≡◌, ℕ, ◌+◌, inl, inr, Bool, true, false, List, [], ◌∷◌, ◌++◌, length, Option, Some, None, Result, Ok, Err, refl, sym, ap, subst, ◌∙◌, arith, append_assoc, append-nil, length-append}
use Rattle.std.specs.Prelude.{All}
use Rattle.std.specs.List.{concat}
use Rattle.std.specs.Io.KnownBytes.{Appends}
use Rattle.std.proofs.lemmas.List.Elements.{All-head, All-tail}
use Rattle.fallible_pg.specs.Messages.{message_bytes}
use Rattle.fallible_pg.specs.Report.{text_by, told_by, made_text, rows_text, notices_text, IsPassed, ReadsOutcome, WritesTexts, ComesTo, turns_text, turns_told, first_fault, ReportsTurns, IsReportOf}
use Rattle.fallible_pg.specs.Kinds.{kind_of}
use Rattle.fallible_pg.specs.Progress.{Reached, came, reached_by}
use Rattle.fallible_pg.specs.Sizes.{IsMessage}
use Rattle.fallible_pg.specs.Text.{Form}
use Rattle.fallible_pg.specs.Turns.{Turn, refused, damaged, turn_by, turns_of}
use Rattle.fallible_pg.proofs.TurnLaw.{known_left, consumes_given, turns_last, turns_ended, turns_broken}
use Rattle.fallible_pg.proofs.Lemmas.Turn.{turns_of_first_message}
use Rattle.fallible_pg.specs.declared.kind.Kind.{Kind}
use Rattle.fallible_pg.specs.declared.fault.Damage.{Damage}
use Rattle.fallible_pg.specs.declared.fault.Damage.TheVariants as What
use Rattle.fallible_pg.specs.declared.printing.PgInput.{PgInput}
use Rattle.fallible_pg.specs.declared.printing.PgInput.TheVariants.{Server, Damaged}
use Rattle.program_io.specs.declared.fault.RunFault.{RunFault}
use Rattle.program_io.specs.declared.fault.RunFault.TheVariants as Run

-- a message that is passed, before what comes after it
module _ (recorded : Bool) (reached : Reached) (place : ℕ) (m : List ℕ) (turns : Reached → List Turn) where
  abbrev kind : Kind
  kind = kind_of recorded m

  text_passed : (form : Form) → IsPassed recorded m → turns_text form (turn_by kind place m reached turns) ≡ text_by form kind m ++ turns_text form (turns (came kind m reached))
  text_passed form (inl h) = rw (h.1) refl
  text_passed form (inr (inl h)) = rw (h.1) refl
  text_passed form (inr (inr h)) = rw (h.1) refl

  told_passed : IsPassed recorded m → turns_told (turn_by kind place m reached turns) ≡ told_by kind m ++ turns_told (turns (came kind m reached))
  told_passed (inl h) = rw (h.1) refl
  told_passed (inr (inl h)) = rw (h.1) refl
  told_passed (inr (inr h)) = rw (h.1) refl

  fault_passed : IsPassed recorded m → first_fault (turn_by kind place m reached turns) ≡ first_fault (turns (came kind m reached))
  fault_passed (inl h) = rw (h.1) refl
  fault_passed (inr (inl h)) = rw (h.1) refl
  fault_passed (inr (inr h)) = rw (h.1) refl

  came_alike : IsPassed recorded m → (came kind m reached).recorded ≡ reached.recorded
  came_alike (inl h) = rw (h.1) refl
  came_alike (inr (inl h)) = rw (h.1) refl
  came_alike (inr (inr h)) = rw (h.1) refl

whole_of_passed : (recorded : Bool) (m : List ℕ) → IsPassed recorded m → IsMessage m
whole_of_passed recorded m (inl h) = h.0
whole_of_passed recorded m (inr (inl h)) = h.0
whole_of_passed recorded m (inr (inr h)) = h.0

module _ (recorded : Bool) where
  turns_message : (reached : Reached) → reached.recorded ≡ recorded → (place : ℕ) (m rest : List ℕ) → IsPassed recorded m → turns_of reached place (m ++ rest) ≡ turn_by (kind_of recorded m) place m reached (λ next. turns_of next (place + length m) rest)
  turns_message reached same place m rest is = turns_of_first_message reached place m rest (whole_of_passed recorded m is) ∙ ap (λ (b : Bool). turn_by (kind_of b m) place m reached (λ next. turns_of next (place + length m) rest)) same

  -- messages that are passed, before what comes after them, by what is made of each
  module _ (by : Kind → List ℕ → List ℕ) (made : List Turn → List ℕ) (passes : (reached : Reached) (place : ℕ) (m : List ℕ) (turns : Reached → List Turn) → IsPassed recorded m → made (turn_by (kind_of recorded m) place m reached turns) ≡ by (kind_of recorded m) m ++ made (turns (came (kind_of recorded m) m reached))) where
    made_of_passed : (reached : Reached) → reached.recorded ≡ recorded → (place : ℕ) (ms : List (List ℕ)) (rest : List ℕ) → All (IsPassed recorded) ms → made (turns_of reached place (concat ms ++ rest)) ≡ made_text recorded by ms ++ made (turns_of (reached_by reached ms) (place + length (concat ms)) rest)
    made_of_passed reached same place [] rest each = ap (λ (n : ℕ). made (turns_of reached n rest)) (omega arith)
    made_of_passed reached same place (m ∷ ms) rest each =
        let one = All-head (IsPassed recorded) m ms each in
        let next = came (kind_of recorded m) m reached in
        let long = length-append m (concat ms) in
        let on : (place + length m) + length (concat ms) ≡ place + length (m ++ concat ms) = omega (arith, long) in
        ap (λ l. made (turns_of reached place l)) (append_assoc m (concat ms) rest)
        ∙ ap made (turns_message reached same place m (concat ms ++ rest) one)
        ∙ passes reached place m (λ after. turns_of after (place + length m) (concat ms ++ rest)) one
        ∙ ap (λ l. by (kind_of recorded m) m ++ l) (made_of_passed next (came_alike recorded reached place m (λ after. []) one ∙ same) (place + length m) ms rest (All-tail (IsPassed recorded) m ms each))
        ∙ sym (append_assoc (by (kind_of recorded m) m) (made_text recorded by ms) (made (turns_of (reached_by next ms) ((place + length m) + length (concat ms)) rest)))
        ∙ ap (λ (n : ℕ). made_text recorded by (m ∷ ms) ++ made (turns_of (reached_by next ms) n rest)) on
        ∙ ap (λ (b : Bool). made_text recorded by (m ∷ ms) ++ made (turns_of (reached_by (came (kind_of b m) m reached) ms) (place + length (m ++ concat ms)) rest)) (sym same)

    -- of all bytes, where nothing is made of what comes after the messages
    all_made : (reached : Reached) → reached.recorded ≡ recorded → (ms : List (List ℕ)) (rest bytes : List ℕ) → All (IsPassed recorded) ms → bytes ≡ concat ms ++ rest → made (turns_of (reached_by reached ms) (length (concat ms)) rest) ≡ [] → made (turns_of reached 0 bytes) ≡ made_text recorded by ms
    all_made reached same ms rest bytes each are none =
        let from : 0 + length (concat ms) ≡ length (concat ms) = omega arith in
        ap (λ l. made (turns_of reached 0 l)) are ∙ made_of_passed reached same 0 ms rest each ∙ ap (λ (n : ℕ). made_text recorded by ms ++ made (turns_of (reached_by reached ms) n rest)) from ∙ ap (λ l. made_text recorded by ms ++ l) none ∙ append-nil (made_text recorded by ms)

  fault_of_passed : (reached : Reached) → reached.recorded ≡ recorded → (place : ℕ) (ms : List (List ℕ)) (rest : List ℕ) → All (IsPassed recorded) ms → first_fault (turns_of reached place (concat ms ++ rest)) ≡ first_fault (turns_of (reached_by reached ms) (place + length (concat ms)) rest)
  fault_of_passed reached same place [] rest each = ap (λ (n : ℕ). first_fault (turns_of reached n rest)) (omega arith)
  fault_of_passed reached same place (m ∷ ms) rest each =
      let one = All-head (IsPassed recorded) m ms each in
      let next = came (kind_of recorded m) m reached in
      let long = length-append m (concat ms) in
      let on : (place + length m) + length (concat ms) ≡ place + length (m ++ concat ms) = omega (arith, long) in
      ap (λ l. first_fault (turns_of reached place l)) (append_assoc m (concat ms) rest)
      ∙ ap first_fault (turns_message reached same place m (concat ms ++ rest) one)
      ∙ fault_passed recorded reached place m (λ after. turns_of after (place + length m) (concat ms ++ rest)) one
      ∙ fault_of_passed next (came_alike recorded reached place m (λ after. []) one ∙ same) (place + length m) ms rest (All-tail (IsPassed recorded) m ms each)
      ∙ ap (λ (n : ℕ). first_fault (turns_of (reached_by next ms) n rest)) on
      ∙ ap (λ (b : Bool). first_fault (turns_of (reached_by (came (kind_of b m) m reached) ms) (place + length (m ++ concat ms)) rest)) (sym same)

module _ {R W E : Type 0} (left : R → Option (List ℕ)) (stays : Bool → R → R → Type 0) (no_room unheld : List ℕ → Type 0) (reached : Reached) (form : Form) (failed : W → Type 0) (unheard : E → Type 0) (input after : R) (written written' told told' : Option (List ℕ)) (output : W) (errors : E) (bytes : List ℕ) (known : left input ≡ Some bytes) where
  -- what comes of all the bytes, by what comes of those after the messages that were passed: nothing is made of that
  reports : (ms : List (List ℕ)) (rest : List ℕ) (fault : Option Turn) (turns : List Turn) → All (IsPassed reached.recorded) ms → bytes ≡ concat ms ++ rest → turns_of (reached_by reached ms) (length (concat ms)) rest ≡ turns → first_fault turns ≡ fault → turns_text form turns ≡ [] → turns_told turns ≡ [] → Appends written written' (rows_text reached.recorded form ms) × Appends told told' (notices_text reached.recorded ms) → ReportsTurns form (turns_of reached 0 bytes) written written' told told' fault
  reports ms rest fault turns each are come is none silent wrote =
      let recorded = reached.recorded in
      let from : 0 + length (concat ms) ≡ length (concat ms) = omega arith in (
        ap (λ l. first_fault (turns_of reached 0 l)) are ∙ fault_of_passed recorded reached refl 0 ms rest each ∙ ap (λ (n : ℕ). first_fault (turns_of (reached_by reached ms) n rest)) from ∙ ap first_fault come ∙ is,
        subst (Appends written written') (sym (all_made recorded (text_by form) (turns_text form) (λ u place m turns. text_passed recorded u place m turns form) reached refl ms rest bytes each are (ap (turns_text form) come ∙ none))) wrote.0,
        subst (Appends told told') (sym (all_made recorded told_by turns_told (told_passed recorded) reached refl ms rest bytes each are (ap turns_told come ∙ silent))) wrote.1,
      )

  report_by : (outcome : Result (Unit {0}) (RunFault PgInput)) (ms : List (List ℕ)) (last : R) (rest : List ℕ) → All (IsPassed reached.recorded) ms → bytes ≡ concat ms ++ rest → left last ≡ Some rest → ReadsOutcome left stays no_room unheld (length (concat ms)) (reached_by reached ms) last outcome after → WritesTexts failed written written' output unheard told told' errors (rows_text reached.recorded form ms) (notices_text reached.recorded ms) outcome → IsReportOf form (turns_of reached 0 bytes) written written' told told' outcome
  report_by (Ok done) ms last rest each are at (inl h) wrote = let g = turns_last left stays (reached_by reached ms) (length (concat ms)) last at h.0 after h.1 in reports ms rest None [] each are g.1 refl refl refl wrote
  report_by (Ok done) ms last rest each are at (inr h) wrote = reports ms rest None [] each are (turns_ended left stays (reached_by reached ms) (length (concat ms)) last at true after h) refl refl refl wrote
  report_by (Err (Run.Input (Server m))) ms last rest each are at h wrote = let g = turns_last left stays (reached_by reached ms) (length (concat ms)) last at (message_bytes m) after h in reports ms rest (Some (refused (message_bytes m))) _ each are g.1 refl refl refl wrote
  report_by (Err (Run.Input (Damaged place damage))) ms last rest each are at (is, inl h) wrote = let g = turns_last left stays (reached_by reached ms) (length (concat ms)) last at h.0 after h.1 in reports ms rest (Some (damaged place damage)) _ each are g.1 (ap (λ (n : ℕ). Some (damaged n damage)) (sym is)) refl refl wrote
  report_by (Err (Run.Input (Damaged place damage))) ms last rest each are at (is, inr (inl h)) wrote = let g = turns_broken left stays no_room (length (concat ms)) last at (reached_by reached ms) damage after h in reports ms rest (Some (damaged place damage)) _ each are g (ap (λ (n : ℕ). Some (damaged n damage)) (sym is)) refl refl wrote
  report_by (Err (Run.Input (Damaged place damage))) ms last rest each are at (is, inr (inr h)) wrote = let g = turns_ended left stays (reached_by reached ms) (length (concat ms)) last at false after h.1 in reports ms rest (Some (damaged place damage)) _ each are g (ap (λ (n : ℕ). Some (damaged n What.Cut)) (sym is) ∙ ap (λ (d : Damage). Some (damaged place d)) (sym h.0)) refl refl wrote
  report_by (Err Run.Read) ms last rest each are at h wrote = tt
  report_by (Err Run.Memory) ms last rest each are at h wrote = tt
  report_by (Err Run.Write) ms last rest each are at h wrote = tt

pub is_report : {R W E : Type 0} {left : R → Option (List ℕ)} {stays : Bool → R → R → Type 0} {no_room unheld : List ℕ → Type 0} {reached : Reached} {form : Form} {failed : W → Type 0} {unheard : E → Type 0} {input after : R} {written written' told told' : Option (List ℕ)} {output : W} {errors : E} {bytes : List ℕ} {outcome : Result (Unit {0}) (RunFault PgInput)} → left input ≡ Some bytes → ComesTo left stays no_room unheld reached form input after failed written written' output unheard told told' errors outcome → IsReportOf form (turns_of reached 0 bytes) written written' told told' outcome
is_report {left = left} {stays = stays} {no_room = no_room} {unheld = unheld} {reached = reached} {form = form} {failed = failed} {unheard = unheard} {input = input} {after = after} {written = written} {written' = written'} {told = told} {told' = told'} {output = output} {errors = errors} {bytes = bytes} {outcome = outcome} known c =
    let k = known_left (left input) (left c.last) (concat c.messages) bytes known (consumes_given left stays (concat c.messages) input c.last c.given) in
    report_by left stays no_room unheld reached form failed unheard input after written written' told told' output errors bytes known outcome c.messages c.last k.0 c.each k.2 k.1 c.reads c.writes
