-- How far rows have come, by the messages that came.
use Rattle.std.specs.Prelude.{ℕ, ◌+◌, ◌==◌, Bool, true, false, ◌||◌, if◌then◌else◌, List, [], ◌∷◌, slice_index, Option, Some, None}
use Rattle.fallible_pg.specs.Kinds.{kind_of}
use Rattle.fallible_pg.specs.Messages.{message_bytes}
use Rattle.fallible_pg.specs.declared.message.Message.{Message}
use Rattle.fallible_pg.specs.declared.kind.Kind.{Kind}
use Rattle.fallible_pg.specs.declared.kind.Kind.TheVariants.{Row, Notice, Skipped, Refusal, Ready, Damaged}
use Rattle.fallible_pg.specs.declared.progress.Progress.{Progress}

-- How far rows have come: whether they are those of a recording, which goes on where the server is ready; whether the server is ready, and nothing of a query came since; how many statements ended; and the message that describes rows, where one came.
pub record Reached : Type 0 where
  pub recorded : Bool
  pub ready : Bool
  pub statements : ℕ
  pub description : Option (List ℕ)

-- before the first message
abbrev pub begun : Bool → Reached
begun recorded = record { recorded = recorded; ready = false; statements = 0; description = None }

-- whether messages with this tag may come at any time: a parameter, S, or a notification, A
abbrev pub comes_any_time : ℕ → Bool
comes_any_time tag = tag == 83 || tag == 65

-- whether the server is ready after a skipped message with this tag: after Z
abbrev pub ready_by : ℕ → Bool → Bool
ready_by tag ready = if tag == 90 then true else if comes_any_time tag then ready else false

-- one statement more; at most 2 ^ 64 - 1 are counted
abbrev pub one_more : ℕ → ℕ
one_more n = if n == 18446744073709551615 then n else n + 1

-- how many statements ended, after a skipped message with this tag: C ends a statement, and I an empty one
abbrev pub statements_by : ℕ → ℕ → ℕ
statements_by tag n = if tag == 67 || tag == 73 then one_more n else n

-- the description of rows, after a skipped message: T is one, and n says that there are no rows
abbrev pub description_by : List ℕ → Option (List ℕ) → Option (List ℕ)
description_by message before = if slice_index message 0 == 84 then Some message else if slice_index message 0 == 110 then None else before

-- what a skipped message changes
abbrev pub passed : List ℕ → Reached → Reached
passed message reached = record { recorded = reached.recorded; ready = ready_by (slice_index message 0) reached.ready; statements = statements_by (slice_index message 0) reached.statements; description = description_by message reached.description }

-- what a row changes: the server isn't ready
abbrev pub within : Reached → Reached
within reached = record { recorded = reached.recorded; ready = false; statements = reached.statements; description = reached.description }

-- what a refusal changes: the server isn't ready, and a statement ended
abbrev pub refused_by : Reached → Reached
refused_by reached = record { recorded = reached.recorded; ready = false; statements = one_more reached.statements; description = reached.description }

-- what a message of a kind changes
abbrev pub came : Kind → List ℕ → Reached → Reached
came Row message reached = within reached
came Notice message reached = reached
came Skipped message reached = passed message reached
came Refusal message reached = refused_by reached
came Ready message reached = reached
came (Damaged damage) message reached = reached

-- how far rows have come after these messages
abbrev pub reached_by : Reached → List (List ℕ) → Reached
reached_by reached [] = reached
reached_by reached (message ∷ messages) = reached_by (came (kind_of reached.recorded message) message reached) messages

-- the bytes of a message, where there is one
abbrev pub bytes_of : Option Message → Option (List ℕ)
bytes_of None = None
bytes_of (Some m) = Some (message_bytes m)

-- how far rows have come, by what they hold
abbrev pub shows_progress : Progress → Reached
shows_progress s = record { recorded = s.recorded; ready = s.ready; statements = s.statements; description = bytes_of s.description }
