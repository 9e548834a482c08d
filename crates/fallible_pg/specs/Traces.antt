-- What messages and rows return, over all the bytes that are read.
use Rattle.std.specs.Prelude.{◌≡◌, ℕ, ◌+◌, Bool, true, false, ⊤, All, List, [], ◌∷◌, ◌++◌, map, length, Option, Some, None, Ok, Err}
use Rattle.std.specs.List.{concat}
use Rattle.program_io.specs.Bytes.{GivesBytes}
use Rattle.fallible_iterator.specs.Traces.{Answered, item, end}
use Rattle.fallible_iterator.specs.Contract.{Contract, unbounded_contract}
use Rattle.fallible_pg.specs.Messages.{message_bytes}
use Rattle.fallible_pg.specs.Progress.{Reached, passed}
use Rattle.fallible_pg.specs.Reading.{DrawsMessage, message_step, place_of}
use Rattle.fallible_pg.specs.Rows.{all_bytes, IsSkipped, MadeOfLast, rows_step}
use Rattle.fallible_pg.specs.Sizes.{IsMessage}
use Rattle.fallible_pg.specs.declared.fault.PgFault.{PgFault}
use Rattle.fallible_pg.specs.declared.message.Message.{Message}
use Rattle.fallible_pg.specs.declared.rows.Reply.{Reply}

-- each answer is an end
abbrev pub AllEnds : {A E : Type 0} → List (Answered A E) → Type 0
AllEnds [] = ⊤
AllEnds (r ∷ ends) = (r ≡ end) × AllEnds ends

-- ---- messages

module _ {R : Type 0} (left : R → Option (List ℕ)) (stays : Bool → R → R → Type 0) (no_room : List ℕ → Type 0) where
  -- What comes after the last message, at this place: nothing, if no more is drawn; or the end of the bytes or a fault, and then ends, at which nothing is read.
  abbrev pub NoMessageComes : R → ℕ → List (Answered Message PgFault) → R × Option ℕ → Type 0
  NoMessageComes r place [] q = q ≡ (r, Some place)
  NoMessageComes r place (Ok (Some m) ∷ ends) q = ⊥
  NoMessageComes r place (last ∷ ends) q = DrawsMessage left stays no_room r place last q × AllEnds ends

  -- What comes of a reader from a place on: it yields the bytes of messages, one after the other. Each message is an answer, in that order. Then comes what comes after the last.
  pub record MessagesCome (r : R) (place : ℕ) (trace : List (Answered Message PgFault)) (q : R × Option ℕ) : Type 0 where
    pub messages : List Message
    pub each : All IsMessage (all_bytes messages)
    pub middle : R
    pub given : GivesBytes left stays r (concat (all_bytes messages)) middle
    pub others : List (Answered Message PgFault)
    pub answers : trace ≡ map item messages ++ others
    pub last : NoMessageComes middle (place + length (concat (all_bytes messages))) others q

  -- The definition of messages: what comes of the reader from the place on; once no message can be found, ends, at which nothing is read.
  abbrev pub MessagesTrace : R × Option ℕ → List (Answered Message PgFault) → R × Option ℕ → Type 0
  MessagesTrace (r, Some place) trace q = MessagesCome r place trace q
  MessagesTrace (r, None) trace q = AllEnds trace × (q ≡ (r, None))

  -- the contract of messages
  abbrev pub messages_contract : Contract (R × Option ℕ) Message PgFault
  messages_contract = record (unbounded_contract (message_step left stays no_room)) { traces = MessagesTrace }

-- ---- rows

-- where the next message is, after an answer at a place; 0 once no message can be found
abbrev pub place_after : ℕ → Answered Message PgFault → ℕ
place_after place (Ok (Some m)) = place + length (message_bytes m)
place_after place (Ok None) = 0
place_after place (Err fault) = 0

-- What rows make of answers of messages, the first of which is at this place. Rows have come so far, and ended or not. Of a message that is skipped they make nothing, and it isn't the last. Of each other answer they make one, which may end them. Once they ended they take no more, and make ends. Last is how far they have come then, and whether they ended.
pub data MakesRows : ℕ → Reached → Bool → List (Answered Message PgFault) → List (Answered Reply PgFault) → Reached → Bool → Type 0 where
  makes_nothing : {place : ℕ} {reached : Reached} {ended : Bool} → MakesRows place reached ended [] [] reached ended
  makes_end : {place : ℕ} {reached new : Reached} {drawn : List (Answered Message PgFault)} {trace : List (Answered Reply PgFault)} {ended : Bool} → MakesRows place reached true drawn trace new ended → MakesRows place reached true drawn (end ∷ trace) new ended
  makes_later : {place : ℕ} {reached new : Reached} {drawn : List (Answered Message PgFault)} {r : Answered Reply PgFault} {trace : List (Answered Reply PgFault)} {ended : Bool} (m : Message) → IsSkipped reached.recorded m → MakesRows (place_after place (item m)) (passed (message_bytes m) reached) false drawn (r ∷ trace) new ended → MakesRows place reached false (item m ∷ drawn) (r ∷ trace) new ended
  makes_first : {place : ℕ} {reached next new : Reached} {drawn : List (Answered Message PgFault)} {trace : List (Answered Reply PgFault)} {ends ended : Bool} (a : Answered Message PgFault) (r : Answered Reply PgFault) → MadeOfLast place reached a r next ends → MakesRows (place_after place a) next ends drawn trace new ended → MakesRows place reached false (a ∷ drawn) (r ∷ trace) new ended

module _ {R : Type 0} (left : R → Option (List ℕ)) (stays : Bool → R → R → Type 0) (no_room : List ℕ → Type 0) where
  -- The definition of rows: messages return these answers, by their definition, and rows make the trace of them.
  pub record RowsTrace (p : (R × Option ℕ) × Reached × Bool) (trace : List (Answered Reply PgFault)) (q : (R × Option ℕ) × Reached × Bool) : Type 0 where
    pub answers : List (Answered Message PgFault)
    pub drawn : MessagesTrace left stays no_room p.0 answers q.0
    pub made : MakesRows (place_of p.0.1) p.1 p.2 answers trace q.1 q.2

  -- the contract of rows
  abbrev pub rows_contract : Contract ((R × Option ℕ) × Reached × Bool) Reply PgFault
  rows_contract = record (unbounded_contract (rows_step left stays no_room)) { traces = RowsTrace }
