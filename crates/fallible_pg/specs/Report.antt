-- What a run prints, by how it comes out.
use Rattle.std.specs.Prelude.{◌≡◌, ℕ, ◌^◌, ◌<◌, ◌⊎◌, Bool, List, [], ◌∷◌, ◌++◌, length, All, Option, Some, None, Result, Ok, Err}
use Rattle.std.specs.List.{concat}
use Rattle.std.specs.Io.KnownBytes.{Appends}
use Rattle.program_io.specs.Bytes.{GivesBytes}
use Rattle.program_io.specs.declared.fault.RunFault.{RunFault}
use Rattle.program_io.specs.declared.fault.RunFault.TheVariants.{Input, Read, Memory, Write}
use Rattle.fallible_pg.specs.Draws.{row_bytes, reply_bytes, reply_kind, IsOfKind, ReadsKind, ReadsEnd, ReadsDamage, Breaks}
use Rattle.fallible_pg.specs.Faults.{notice_text}
use Rattle.fallible_pg.specs.Kinds.{kind_of}
use Rattle.fallible_pg.specs.Messages.{message_bytes}
use Rattle.fallible_pg.specs.Progress.{Reached, reached_by}
use Rattle.fallible_pg.specs.Text.{Form, row_text}
use Rattle.fallible_pg.specs.Turns.{Turn, row, notice, refused, damaged}
use Rattle.fallible_pg.specs.declared.fault.PgFault.{PgFault}
use Rattle.fallible_pg.specs.declared.fault.PgFault.TheVariants as Why
use Rattle.fallible_pg.specs.declared.reading.Broken.TheVariants as Broke
use Rattle.fallible_pg.specs.declared.kind.Kind.{Kind}
use Rattle.fallible_pg.specs.declared.kind.Kind.TheVariants as Is
use Rattle.fallible_pg.specs.declared.rows.Reply.{Reply}
use Rattle.fallible_pg.specs.declared.rows.Reply.TheVariants as Came
use Rattle.fallible_pg.specs.declared.printing.PgInput.{PgInput}
use Rattle.fallible_pg.specs.declared.printing.PgInput.TheVariants.{Server, Damaged}

-- what a fault of rows is for the run
abbrev pub as_run_fault : PgFault → RunFault PgInput
as_run_fault (Why.Server message) = Input (Server message)
as_run_fault (Why.Damaged place damage) = Input (Damaged place damage)
as_run_fault Why.Read = Read
as_run_fault Why.Memory = Memory

-- what is printed in this form of a message of a kind: the text of a row
abbrev pub text_by : Form → Kind → List ℕ → List ℕ
text_by form Is.Row message = row_text form message
text_by form kind message = []

-- what is told of a message of a kind: the text of a notice
abbrev pub told_by : Kind → List ℕ → List ℕ
told_by Is.Notice message = notice_text message
told_by kind message = []

-- what is made of messages by their kinds, one after another
abbrev pub made_text : Bool → (Kind → List ℕ → List ℕ) → List (List ℕ) → List ℕ
made_text recorded by [] = []
made_text recorded by (message ∷ messages) = by (kind_of recorded message) message ++ made_text recorded by messages

-- the text of the rows among messages
abbrev pub rows_text : Bool → Form → List (List ℕ) → List ℕ
rows_text recorded form messages = made_text recorded (text_by form) messages

-- the text of the notices among messages
abbrev pub notices_text : Bool → List (List ℕ) → List ℕ
notices_text recorded messages = made_text recorded told_by messages

-- the message is a row, a notice, or one that is skipped
abbrev pub IsPassed : Bool → List ℕ → Type 0
IsPassed recorded message = IsOfKind recorded Is.Row message ⊎ (IsOfKind recorded Is.Notice message ⊎ IsOfKind recorded Is.Skipped message)

module _ {W E : Type 0} (failed : W → Type 0) (written written' : Option (List ℕ)) (output' : W) (unheard : E → Type 0) (told told' : Option (List ℕ)) (errors' : E) where
  -- One text was printed and the other told, and nothing else; or printing a row failed, or telling a notice.
  abbrev pub WritesTexts : {T : Type 0} → List ℕ → List ℕ → Result T (RunFault PgInput) → Type 0
  WritesTexts text line (Err Write) = (failed output' × Appends told told' line) ⊎ (Appends written written' text × unheard errors')
  WritesTexts text line outcome = Appends written written' text × Appends told told' line

  -- A row was printed, or a notice told; or there was no room for the text of the row, printing it failed, or telling the notice.
  abbrev pub PutsReply : Form → (List ℕ → Type 0) → Reply → Result (Unit {0}) (RunFault PgInput) → Type 0
  PutsReply form unheld reply (Ok done) = Appends written written' (text_by form (reply_kind reply) (reply_bytes reply)) × Appends told told' (told_by (reply_kind reply) (reply_bytes reply))
  PutsReply form unheld (Came.Row x) (Err Memory) = unheld (row_bytes x) × (written' ≡ written) × (told' ≡ told)
  PutsReply form unheld (Came.Row x) (Err Write) = failed output' × (told' ≡ told)
  PutsReply form unheld (Came.Notice m) (Err Write) = (written' ≡ written) × unheard errors'
  PutsReply form unheld reply (Err fault) = ⊥

-- over a reader that may refuse room for some bytes, and a buffer that may have none for the text of some row
module _ {R : Type 0} (left : R → Option (List ℕ)) (stays : Bool → R → R → Type 0) (no_room unheld : List ℕ → Type 0) where
  -- What was read at a place, where rows had come so far, by the outcome: the end; the server's refusal; damage; the first bytes of a message, up to a read that failed, or to where room was refused for them; a row for whose text the buffer had no room; a row or a notice whose write failed. After 2 ^ 63 bytes nothing is read.
  abbrev pub ReadsOutcome : {T : Type 0} → ℕ → Reached → R → Result T (RunFault PgInput) → R → Type 0
  ReadsOutcome place reached r (Ok done) q = ReadsEnd left stays no_room reached r q
  ReadsOutcome place reached r (Err (Input (Server m))) q = ReadsKind left stays reached.recorded Is.Refusal (message_bytes m) r q
  ReadsOutcome place reached r (Err (Input (Damaged at damage))) q = (at ≡ place) × ReadsDamage left stays no_room reached damage r q
  ReadsOutcome place reached r (Err Read) q = Breaks left stays no_room Broke.Read r q ⊎ ((2 ^ 63 < place) × (q ≡ r))
  ReadsOutcome place reached r (Err Memory) q = Breaks left stays no_room Broke.Memory r q ⊎ ((bytes : List ℕ) × ReadsKind left stays reached.recorded Is.Row bytes r q × unheld bytes)
  ReadsOutcome place reached r (Err Write) q = (bytes : List ℕ) × (ReadsKind left stays reached.recorded Is.Row bytes r q ⊎ ReadsKind left stays reached.recorded Is.Notice bytes r q)

  module _ {W E : Type 0} (reached : Reached) (form : Form) (input input' : R) (failed : W → Type 0) (written written' : Option (List ℕ)) (output' : W) (unheard : E → Type 0) (told told' : Option (List ℕ)) (errors' : E) where
    -- An outcome of rows that had come so far, printed in this form: the input gave messages that are rows, notices or skipped, then what the outcome says; and the text of these rows was written, and that of these notices told, and nothing else, or writing failed.
    pub record ComesTo {T : Type 0} (outcome : Result T (RunFault PgInput)) : Type 0 where
      pub messages : List (List ℕ)
      pub each : All (IsPassed reached.recorded) messages
      pub last : R
      pub given : GivesBytes left stays input (concat messages) last
      pub reads : ReadsOutcome (length (concat messages)) (reached_by reached messages) last outcome input'
      pub writes : WritesTexts failed written written' output' unheard told told' errors' (rows_text reached.recorded form messages) (notices_text reached.recorded messages) outcome

-- ---- over known bytes

-- the text of what comes, in this form: that of the rows up to the first refusal or damage
abbrev pub turns_text : Form → List Turn → List ℕ
turns_text form [] = []
turns_text form (row n message ∷ turns) = row_text form message ++ turns_text form turns
turns_text form (notice message ∷ turns) = turns_text form turns
turns_text form (refused message ∷ turns) = []
turns_text form (damaged place damage ∷ turns) = []

-- that of the notices up to there
abbrev pub turns_told : List Turn → List ℕ
turns_told [] = []
turns_told (row n message ∷ turns) = turns_told turns
turns_told (notice message ∷ turns) = notice_text message ++ turns_told turns
turns_told (refused message ∷ turns) = []
turns_told (damaged place damage ∷ turns) = []

-- the first refusal or damage of what comes, where there is one
abbrev pub first_fault : List Turn → Option Turn
first_fault [] = None
first_fault (row n message ∷ turns) = first_fault turns
first_fault (notice message ∷ turns) = first_fault turns
first_fault (refused message ∷ turns) = Some (refused message)
first_fault (damaged place damage ∷ turns) = Some (damaged place damage)

-- the turn that a fault of the input is
abbrev pub turn_of : PgInput → Turn
turn_of (Server message) = refused (message_bytes message)
turn_of (Damaged place damage) = damaged place damage

module _ (form : Form) (turns : List Turn) (written written' told told' : Option (List ℕ)) where
  -- What comes has this fault first, and the text of its rows was written and that of its notices told, and nothing else.
  abbrev pub ReportsTurns : Option Turn → Type 0
  ReportsTurns fault = (first_fault turns ≡ fault) × Appends written written' (turns_text form turns) × Appends told told' (turns_told turns)

  -- An outcome tells the first fault of what comes, and its texts were written, unless a read, an allocation or a write failed.
  abbrev pub IsReportOf : {T : Type 0} → Result T (RunFault PgInput) → Type 0
  IsReportOf (Ok done) = ReportsTurns None
  IsReportOf (Err (Input fault)) = ReportsTurns (Some (turn_of fault))
  IsReportOf (Err Read) = Unit {0}
  IsReportOf (Err Memory) = Unit {0}
  IsReportOf (Err Write) = Unit {0}
