-- What a draw of rows reads.
use Rattle.std.specs.Prelude.{◌≡◌, ℕ, ◌+◌, ◌^◌, ◌<◌, ◌⊎◌, Bool, true, false, List, length, All, Option, Some, None, Ok, Err}
use Rattle.std.specs.List.{concat}
use Rattle.program_io.specs.Bytes.{GivesBytes, GivesEnd}
use Rattle.fallible_iterator.specs.Traces.{Answered}
use Rattle.fallible_pg.specs.Messages.{message_bytes}
use Rattle.fallible_pg.specs.Reading.{BreaksOff}
use Rattle.fallible_pg.specs.Kinds.{kind_of}
use Rattle.fallible_pg.specs.Progress.{Reached, came, reached_by}
use Rattle.fallible_pg.specs.Sizes.{IsMessage}
use Rattle.fallible_pg.specs.declared.fault.Damage.{Damage}
use Rattle.fallible_pg.specs.declared.fault.Damage.TheVariants.{Cut}
use Rattle.fallible_pg.specs.declared.fault.PgFault.{PgFault}
use Rattle.fallible_pg.specs.declared.fault.PgFault.TheVariants.{Server, Damaged, Read, Memory}
use Rattle.fallible_pg.specs.declared.reading.Broken.{Broken}
use Rattle.fallible_pg.specs.declared.reading.Broken.TheVariants as Why
use Rattle.fallible_pg.specs.declared.kind.Kind.{Kind}
use Rattle.fallible_pg.specs.declared.kind.Kind.TheVariants as Is
use Rattle.fallible_pg.specs.declared.rows.Reply.{Reply}
use Rattle.fallible_pg.specs.declared.rows.Reply.TheVariants as Came
use Rattle.fallible_pg.specs.declared.rows.Row.{Row}

-- the bytes of the message of a row
abbrev pub row_bytes : Row → List ℕ
row_bytes row = message_bytes row.message

-- the bytes of the message of a reply, and which kind that is
abbrev pub reply_bytes : Reply → List ℕ
reply_bytes (Came.Row row) = row_bytes row
reply_bytes (Came.Notice m) = message_bytes m

abbrev pub reply_kind : Reply → Kind
reply_kind (Came.Row row) = Is.Row
reply_kind (Came.Notice m) = Is.Notice

-- these bytes are one message, of this kind in a recording or in the results of one query
abbrev pub IsOfKind : Bool → Kind → List ℕ → Type 0
IsOfKind recorded kind bytes = IsMessage bytes × (kind_of recorded bytes ≡ kind)

-- the answer is a row, with how many statements ended before it; each other answer says nothing
abbrev pub CountsStatements : Reached → Answered Reply PgFault → Type 0
CountsStatements reached (Ok (Some (Came.Row row))) = row.statement ≡ reached.statements
CountsStatements reached answer = Unit {0}

-- after a row, a notice and a refusal the next draw goes on after it; after all else they ended
abbrev pub GoesOn : ℕ → Reached → Answered Reply PgFault → Option ℕ → Reached → Bool → Type 0
GoesOn place reached (Ok (Some reply)) at new ended = (at ≡ Some (place + length (reply_bytes reply))) × (new ≡ came (reply_kind reply) (reply_bytes reply) reached) × (ended ≡ false)
GoesOn place reached (Err (Server m)) at new ended = (at ≡ Some (place + length (message_bytes m))) × (new ≡ came Is.Refusal (message_bytes m) reached) × (ended ≡ false)
GoesOn place reached answer at new ended = (new ≡ reached) × (ended ≡ true)

module _ {R : Type 0} (left : R → Option (List ℕ)) (stays : Bool → R → R → Type 0) (recorded : Bool) where
  -- one message of this kind was read, and no byte after it
  abbrev pub ReadsKind : Kind → List ℕ → R → R → Type 0
  ReadsKind kind bytes r q = IsOfKind recorded kind bytes × GivesBytes left stays r bytes q

module _ {R : Type 0} (left : R → Option (List ℕ)) (stays : Bool → R → R → Type 0) where
  -- the input ended where a message was to come, after the server was ready, or not
  abbrev pub EndsAt : Bool → Reached → R → R → Type 0
  EndsAt ready reached r q = (reached.ready ≡ ready) × GivesEnd left stays r q

module _ {R : Type 0} (left : R → Option (List ℕ)) (stays : Bool → R → R → Type 0) (no_room : List ℕ → Type 0) where
  -- some first bytes of a message were read, and it broke off so
  abbrev pub Breaks : Broken → R → R → Type 0
  Breaks why r q = (begun : List ℕ) × (last : R) × GivesBytes left stays r begun last × BreaksOff left stays no_room begun last why q

  -- How rows end: by the message that says the server is ready, or at the end of a recording.
  abbrev pub ReadsEnd : Reached → R → R → Type 0
  ReadsEnd reached r q = ((bytes : List ℕ) × ReadsKind left stays reached.recorded Is.Ready bytes r q) ⊎ EndsAt left stays true reached r q

  -- How damage is met: a damaged message was read, or such first bytes of one as tell the damage; or the input ended before the server was ready.
  abbrev pub ReadsDamage : Reached → Damage → R → R → Type 0
  ReadsDamage reached damage r q = ((bytes : List ℕ) × ReadsKind left stays reached.recorded (Is.Damaged damage) bytes r q) ⊎ (Breaks (Why.Damaged damage) r q ⊎ ((damage ≡ Cut) × EndsAt left stays false reached r q))

  -- What was read at this place, by the answer of a draw: the message of the row or the notice; the end; that of the refusal; damage; the first bytes of a message, up to a read that failed or to where there was no memory. After 2 ^ 63 bytes nothing is read.
  abbrev pub ReadsAnswer : ℕ → Reached → R → Answered Reply PgFault → R → Type 0
  ReadsAnswer place reached r (Ok (Some reply)) q = ReadsKind left stays reached.recorded (reply_kind reply) (reply_bytes reply) r q
  ReadsAnswer place reached r (Ok None) q = ReadsEnd reached r q
  ReadsAnswer place reached r (Err (Server m)) q = ReadsKind left stays reached.recorded Is.Refusal (message_bytes m) r q
  ReadsAnswer place reached r (Err (Damaged at damage)) q = (at ≡ place) × ReadsDamage reached damage r q
  ReadsAnswer place reached r (Err Read) q = Breaks Why.Read r q ⊎ ((2 ^ 63 < place) × (q ≡ r))
  ReadsAnswer place reached r (Err Memory) q = Breaks Why.Memory r q

  -- A draw at a place, where rows had come so far, read messages that are skipped, and then what its answer says.
  pub record DrawsBytes (place : ℕ) (reached : Reached) (r : R) (answer : Answered Reply PgFault) (q : R × Option ℕ) (new : Reached) (ended : Bool) : Type 0 where
    pub skipped : List (List ℕ)
    pub each : All (IsOfKind reached.recorded Is.Skipped) skipped
    pub last : R
    pub given : GivesBytes left stays r (concat skipped) last
    pub answers : ReadsAnswer (place + length (concat skipped)) (reached_by reached skipped) last answer q.0
    pub counts : CountsStatements (reached_by reached skipped) answer
    pub goes_on : GoesOn (place + length (concat skipped)) (reached_by reached skipped) answer q.1 new ended
