-- What a draw of rows takes of the messages.
use Rattle.std.specs.Prelude.{◌≡◌, ℕ, Bool, true, false, List, All, map, Option, Some, None, Ok, Err}
use Rattle.fallible_iterator.specs.Traces.{Answered, Yields, item, end}
use Rattle.fallible_pg.specs.Kinds.{kind_of}
use Rattle.fallible_pg.specs.Messages.{message_bytes}
use Rattle.fallible_pg.specs.Progress.{Reached, came, reached_by, shows_progress}
use Rattle.fallible_pg.specs.Reading.{messages_parts, message_step, place_of}
use Rattle.fallible_pg.specs.declared.fault.Damage.TheVariants.{Cut}
use Rattle.fallible_pg.specs.declared.fault.PgFault.{PgFault}
use Rattle.fallible_pg.specs.declared.fault.PgFault.TheVariants as Why
use Rattle.fallible_pg.specs.declared.message.Message.{Message}
use Rattle.fallible_pg.specs.declared.kind.Kind.{Kind}
use Rattle.fallible_pg.specs.declared.kind.Kind.TheVariants.{Row, Notice, Skipped, Refusal, Ready, Damaged}
use Rattle.fallible_pg.specs.declared.rows.Reply.{Reply}
use Rattle.fallible_pg.specs.declared.rows.Reply.TheVariants as Came
use Rattle.fallible_pg.specs.declared.rows.Row as Item
use Rattle.fallible_pg.specs.declared.rows.Rows.{Rows}

-- the parts of rows: those of the messages, how far they have come, and whether they ended
abbrev pub rows_parts : {R : Type 0} → Rows R → (R × Option ℕ) × Reached × Bool
rows_parts s = (messages_parts s.messages, shows_progress s.progress, s.ended)

-- the reply has this row, if it is one
abbrev pub row_in : Reply → Option Item.Row
row_in (Came.Row row) = Some row
row_in (Came.Notice m) = None

-- the bytes of messages
abbrev pub all_bytes : List Message → List (List ℕ)
all_bytes messages = map message_bytes messages

-- what is made of a message of a kind, at a place, where rows have come so far: a row, with how many statements ended before it; a notice; the end; a refusal, after which more may come; or damage
abbrev pub MadeOfKind : ℕ → Reached → Message → Kind → Answered Reply PgFault → Bool → Type 0
MadeOfKind place reached m Row answer ended = (answer ≡ item (Came.Row (record { message = m; statement = reached.statements }))) × (ended ≡ false)
MadeOfKind place reached m Notice answer ended = (answer ≡ item (Came.Notice m)) × (ended ≡ false)
MadeOfKind place reached m Skipped answer ended = ⊥
MadeOfKind place reached m Refusal answer ended = (answer ≡ Err (Why.Server m)) × (ended ≡ false)
MadeOfKind place reached m Ready answer ended = (answer ≡ end) × (ended ≡ true)
MadeOfKind place reached m (Damaged damage) answer ended = (answer ≡ Err (Why.Damaged place damage)) × (ended ≡ true)

-- what is made of the end of the messages: the end where the server was ready, and else damage
abbrev pub at_end : Bool → ℕ → Answered Reply PgFault
at_end true place = end
at_end false place = Err (Why.Damaged place Cut)

-- what is made of the last answer that was drawn at a place, where rows had come so far, and how far they have come then
abbrev pub MadeOfLast : ℕ → Reached → Answered Message PgFault → Answered Reply PgFault → Reached → Bool → Type 0
MadeOfLast place reached (Ok (Some m)) answer new ended = MadeOfKind place reached m (kind_of reached.recorded (message_bytes m)) answer ended × (new ≡ came (kind_of reached.recorded (message_bytes m)) (message_bytes m) reached)
MadeOfLast place reached (Ok None) answer new ended = (answer ≡ at_end reached.ready place) × (ended ≡ true) × (new ≡ reached)
MadeOfLast place reached (Err fault) answer new ended = (answer ≡ Err fault) × (ended ≡ true) × (new ≡ reached)

-- the message is skipped
abbrev pub IsSkipped : Bool → Message → Type 0
IsSkipped recorded m = kind_of recorded (message_bytes m) ≡ Skipped

module _ {R : Type 0} (left : R → Option (List ℕ)) (stays : Bool → R → R → Type 0) (no_room : List ℕ → Type 0) where
  -- One draw passes the messages that are skipped, and makes its answer of the next.
  pub record DrawsRow (p : R × Option ℕ) (reached : Reached) (answer : Answered Reply PgFault) (q : R × Option ℕ) (new : Reached) (ended : Bool) : Type 0 where
    pub skipped : List Message
    pub each : All (IsSkipped reached.recorded) skipped
    pub middle : R × Option ℕ
    pub passed : Yields (message_step left stays no_room) p skipped middle
    pub last : Answered Message PgFault
    pub drawn : message_step left stays no_room middle last q
    pub made : MadeOfLast (place_of middle.1) (reached_by reached (all_bytes skipped)) last answer new ended

  -- One answer; an end without a read once they ended.
  abbrev pub rows_step : (R × Option ℕ) × Reached × Bool → Answered Reply PgFault → (R × Option ℕ) × Reached × Bool → Type 0
  rows_step (p, reached, false) answer q = DrawsRow p reached answer q.0 q.1 q.2
  rows_step (p, reached, true) answer q = (answer ≡ end) × (q ≡ (p, reached, true))
