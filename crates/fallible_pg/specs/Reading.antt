-- What reading a message takes of a reader.
use Rattle.std.specs.Prelude.{◌≡◌, ℕ, ◌+◌, ◌-◌, ◌^◌, ◌<◌, ◌≤◌, ◌⊎◌, Bool, List, [], ◌∷◌, length, take, Option, Some, None, Result, Ok, Err, vec_items}
use Rattle.std.specs.declared.alloc.Global.{Global}
use Rattle.std.specs.declared.vec.Vec.{Vec}
use Rattle.program_io.specs.declared.reading.Unread.{Unread}
use Rattle.program_io.specs.declared.reading.Unread.TheVariants as Short
use Rattle.fallible_iterator.specs.Traces.{Answered, end}
use Rattle.program_io.specs.Bytes.{GivesByte, GivesBytes, GivesEnd, FailsToRead}
use Rattle.fallible_pg.specs.Messages.{message_bytes}
use Rattle.fallible_pg.specs.Sizes.{first_size, IsMessage}
use Rattle.fallible_pg.specs.declared.fault.Damage.TheVariants.{Cut, Length}
use Rattle.fallible_pg.specs.declared.fault.PgFault.{PgFault}
use Rattle.fallible_pg.specs.declared.fault.PgFault.TheVariants.{Server, Damaged, Read, Memory}
use Rattle.fallible_pg.specs.declared.message.Message.{Message}
use Rattle.fallible_pg.specs.declared.messages.Messages.{Messages}
use Rattle.fallible_pg.specs.declared.reading.Broken.{Broken}
use Rattle.fallible_pg.specs.declared.reading.Broken.TheVariants as Why

-- the parts of the messages of a reader: the reader, and how many bytes were read, until no message can be found
abbrev pub messages_parts : {R : Type 0} → Messages R → R × Option ℕ
messages_parts s = (s.reader, s.place)

-- how many bytes were read; 0 once no message can be found
abbrev pub place_of : Option ℕ → ℕ
place_of (Some place) = place
place_of None = 0

-- what reading a message broke off with, where fewer bytes came
abbrev pub broken_by : Unread → Broken
broken_by Short.End = Why.Damaged Cut
broken_by Short.Failed = Why.Read
broken_by Short.Memory = Why.Memory

-- the bytes of a tag that was read
abbrev pub tag_bytes : Result (Option (Vec ℕ Global)) Broken → Result (Option (List ℕ)) Broken
tag_bytes (Ok (Some bytes)) = Ok (Some (vec_items bytes))
tag_bytes (Ok None) = Ok None
tag_bytes (Err why) = Err why

-- the bytes but the last
abbrev pub but_last : List ℕ → List ℕ
but_last bytes = take (length bytes - 1) bytes

module _ {R : Type 0} (left : R → Option (List ℕ)) (stays : Bool → R → R → Type 0) (no_room : List ℕ → Type 0) where
  -- ---- one message

  -- Why a message that begins with these bytes wasn't read: the end was met after its first byte and before its last; it states a length that none has; a read failed; or room was refused for these bytes, the last of which is at most its last.
  abbrev pub BreaksOff : List ℕ → R → Broken → R → Type 0
  BreaksOff begun last (Why.Damaged Cut) q = (first_size begun ≡ Err Cut) × GivesEnd left stays last q × (1 ≤ length begun)
  BreaksOff begun last (Why.Damaged (Length n)) q = (first_size begun ≡ Err (Length n)) × (length begun ≡ 5) × (q ≡ last)
  BreaksOff begun last (Why.Damaged damage) q = ⊥
  BreaksOff begun last Why.Read q = (first_size begun ≡ Err Cut) × FailsToRead left stays last q
  BreaksOff begun last Why.Memory q = (first_size (but_last begun) ≡ Err Cut) × no_room begun × (q ≡ last) × (1 ≤ length begun)

  -- One message was read, and no byte after it; the end was met before it; or reading it broke off.
  abbrev pub ReadsMessage : R → Result (Option Message) Broken → R → Type 0
  ReadsMessage r (Ok (Some m)) q = GivesBytes left stays r (message_bytes m) q × IsMessage (message_bytes m)
  ReadsMessage r (Ok None) q = GivesEnd left stays r q
  ReadsMessage r (Err why) q = (begun : List ℕ) × (last : R) × GivesBytes left stays r begun last × BreaksOff begun last why q

  -- ---- one draw

  -- The fault is that of the message at this place, which wasn't read so; nothing is read after 2 ^ 63 bytes.
  abbrev pub TellsWhy : ℕ → List ℕ → R → PgFault → R → Type 0
  TellsWhy place begun last (Damaged at damage) q = (at ≡ place) × BreaksOff begun last (Why.Damaged damage) q
  TellsWhy place begun last Read q = BreaksOff begun last Why.Read q ⊎ ((2 ^ 63 < place) × (begun ≡ []) × (q ≡ last))
  TellsWhy place begun last Memory q = BreaksOff begun last Why.Memory q
  TellsWhy place begun last (Server m) q = ⊥

  -- One draw reads the bytes of one message; or it meets the end, or fails, and no message can be found any more.
  abbrev pub DrawsMessage : R → ℕ → Answered Message PgFault → R × Option ℕ → Type 0
  DrawsMessage r place (Ok (Some m)) p = GivesBytes left stays r (message_bytes m) p.0 × IsMessage (message_bytes m) × (p.1 ≡ Some (place + length (message_bytes m)))
  DrawsMessage r place (Ok None) p = (p.1 ≡ None) × GivesEnd left stays r p.0
  DrawsMessage r place (Err fault) p = (p.1 ≡ None) × ((begun : List ℕ) × (last : R) × GivesBytes left stays r begun last × TellsWhy place begun last fault p.0)

  -- One answer: a message, the end or a failure, and an end without a read once no message can be found.
  abbrev pub message_step : R × Option ℕ → Answered Message PgFault → R × Option ℕ → Type 0
  message_step (r, Some place) answer p = DrawsMessage r place answer p
  message_step (r, None) answer p = (answer ≡ end) × (p ≡ (r, None))

-- ---- the first byte of a message

module _ {R : Type 0} (left : R → Option (List ℕ)) (stays : Bool → R → R → Type 0) where
  -- The tag of a message was read, into a vector of its own; or the end was met; or the read failed, or no room was found for the tag.
  abbrev pub ReadsTag : R → Result (Option (List ℕ)) Broken → R → Type 0
  ReadsTag r (Ok (Some bytes)) q = (tag : ℕ) × (bytes ≡ tag ∷ []) × GivesByte left stays r tag q
  ReadsTag r (Ok None) q = GivesEnd left stays r q
  ReadsTag r (Err Why.Read) q = FailsToRead left stays r q
  ReadsTag r (Err Why.Memory) q = (tag : ℕ) × GivesByte left stays r tag q
  ReadsTag r (Err (Why.Damaged damage)) q = ⊥
