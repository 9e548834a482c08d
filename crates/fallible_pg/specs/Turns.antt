-- What rows come of bytes.
use Rattle.std.specs.Prelude.{◌≡◌, ℕ, ◌+◌, ◌⊎◌, Bool, true, false, List, [], ◌∷◌, length, Some, Result, Ok, Err}
use Rattle.fallible_iterator.specs.Traces.{Answered, end}
use Rattle.fallible_pg.specs.Draws.{row_bytes}
use Rattle.fallible_pg.specs.Kinds.{kind_of}
use Rattle.fallible_pg.specs.Listed.{messages_of}
use Rattle.fallible_pg.specs.Messages.{message_bytes}
use Rattle.fallible_pg.specs.Progress.{Reached, passed, within, refused_by}
use Rattle.fallible_pg.specs.declared.fault.Damage.{Damage}
use Rattle.fallible_pg.specs.declared.fault.Damage.TheVariants.{Cut}
use Rattle.fallible_pg.specs.declared.fault.PgFault.{PgFault}
use Rattle.fallible_pg.specs.declared.fault.PgFault.TheVariants.{Server, Damaged, Memory}
use Rattle.fallible_pg.specs.declared.kind.Kind.{Kind}
use Rattle.fallible_pg.specs.declared.kind.Kind.TheVariants as Is
use Rattle.fallible_pg.specs.declared.rows.Reply.{Reply}
use Rattle.fallible_pg.specs.declared.rows.Reply.TheVariants as Came

-- what comes at a turn: a row, by how many statements ended before it and its message; a notice or a refusal, by its message; or damage at a place
pub data Turn : Type 0 where
  row : ℕ → List ℕ → Turn
  notice : List ℕ → Turn
  refused : List ℕ → Turn
  damaged : ℕ → Damage → Turn

-- what comes of a message of a kind at a place, before what comes after it; nothing comes after the end and after damage
abbrev pub turn_by : Kind → ℕ → List ℕ → Reached → (Reached → List Turn) → List Turn
turn_by Is.Row place message reached turns = row reached.statements message ∷ turns (within reached)
turn_by Is.Notice place message reached turns = notice message ∷ turns reached
turn_by Is.Skipped place message reached turns = turns (passed message reached)
turn_by Is.Refusal place message reached turns = refused message ∷ turns (refused_by reached)
turn_by Is.Ready place message reached turns = []
turn_by (Is.Damaged damage) place message reached turns = damaged place damage ∷ []

-- what comes at the end of the messages: nothing where the server was ready, and else damage
abbrev pub turns_at_end : Bool → ℕ → List Turn
turns_at_end true place = []
turns_at_end false place = damaged place Cut ∷ []

-- what comes of the damage that ends messages
abbrev pub turns_of_fault : PgFault → List Turn
turns_of_fault (Damaged place damage) = damaged place damage ∷ []
turns_of_fault fault = []

-- what comes of messages, the first of which has this place, where rows have come so far
abbrev pub turns_from : Reached → ℕ → List (Result (List ℕ) PgFault) → List Turn
turns_from reached place [] = turns_at_end reached.ready place
turns_from reached place (Ok message ∷ messages) = turn_by (kind_of reached.recorded message) place message reached (λ next. turns_from next (place + length message) messages)
turns_from reached place (Err fault ∷ messages) = turns_of_fault fault

-- what comes of bytes, the first of which has this place, where rows have come so far: the rows, the notices and the refusals, up to the end or the first damage
abbrev pub turns_of : Reached → ℕ → List ℕ → List Turn
turns_of reached place bytes = turns_from reached place (messages_of place bytes)

-- the answer of a draw is what comes
abbrev pub AnswersTurn : Turn → Answered Reply PgFault → Type 0
AnswersTurn (row n message) (Ok (Some (Came.Row r))) = (r.statement ≡ n) × (row_bytes r ≡ message)
AnswersTurn (notice message) (Ok (Some (Came.Notice m))) = message_bytes m ≡ message
AnswersTurn (refused message) (Err (Server m)) = message_bytes m ≡ message
AnswersTurn (damaged place damage) (Err (Damaged at found)) = (at ≡ place) × (found ≡ damage)
AnswersTurn turn answer = ⊥

module _ {S : Type 0} (steps : S → Answered Reply PgFault → S → Type 0) where
  -- Whatever is drawn from s, the answers are what comes, in order, and then an end; up to an allocation failure.
  abbrev pub GivesTurns : S → List Turn → Type 0
  GivesTurns s [] = (answer : Answered Reply PgFault) (t : S) → steps s answer t → (answer ≡ Err Memory) ⊎ (answer ≡ end)
  GivesTurns s (turn ∷ turns) = (answer : Answered Reply PgFault) (t : S) → steps s answer t → (answer ≡ Err Memory) ⊎ (AnswersTurn turn answer × GivesTurns t turns)
