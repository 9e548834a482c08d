-- What reads of one byte do to the bytes that a reader has left, where they are known.
use Rattle.std.specs.Prelude.{◌≡◌, ◌<◌, ◌≤◌, ◌++◌, length, Bool, true, false, ℕ, List, [], ◌∷◌, drop, ◌==◌, if◌then◌else◌, Option, Some, None, Result, Ok, Err}
use Rattle.std.specs.List.{FoldsTo}
use Rattle.std.specs.Io.Buffered.{reader_buffer, reader_capacity, reader_inner}
use Rattle.std.specs.Io.KnownBytes.{Consumes, Keeps, IsAtEnd, prepend_known}
use Rattle.program_io.specs.declared.reading.Buffered.{Buffered}
use Rattle.program_io.specs.declared.reading.Bytes.{Bytes}
use Rattle.program_io.specs.declared.reading.Unread.{Unread}
use Rattle.program_io.specs.declared.reading.Unread.TheVariants.{End, Failed, Memory}

module _ {R : Type 0} (left : R → Option (List ℕ)) (stays : Bool → R → R → Type 0) where
  -- it yielded this byte, the first of those that were left
  abbrev pub GivesByte : R → ℕ → R → Type 0
  GivesByte r byte q = Consumes (left r) (left q) (byte ∷ []) × stays false r q

  -- it met the end
  abbrev pub GivesEnd : R → R → Type 0
  GivesEnd r q = Consumes (left r) (left q) [] × IsAtEnd (left q) × stays false r q

  -- it failed, and took nothing
  abbrev pub FailsToRead : R → R → Type 0
  FailsToRead r q = Keeps (left r) (left q) × stays true r q

  -- one read: a byte, the end or a failure
  abbrev pub ReadsOne : {E : Type 0} → R → Result (Option ℕ) E → R → Type 0
  ReadsOne r (Ok (Some byte)) q = GivesByte r byte q
  ReadsOne r (Ok None) q = GivesEnd r q
  ReadsOne r (Err e) q = FailsToRead r q

  -- the reader yielded these bytes, one at a time
  abbrev pub GivesBytes : R → List ℕ → R → Type 0
  GivesBytes r bytes q = FoldsTo GivesByte r bytes q

  -- ---- so many bytes

  -- Why fewer bytes came than these: the end was met, a read failed, or the room for the last of them was refused.
  abbrev pub StopsShort : ℕ → ℕ → R → Unread → R → Type 0
  StopsShort n many last End q = (many < n) × GivesEnd last q
  StopsShort n many last Failed q = (many < n) × FailsToRead last q
  StopsShort n many last Memory q = (many ≤ n) × (q ≡ last)

  -- Some bytes were read after those that were there, at most so many; or fewer came.
  abbrev pub ReadsSome : {U : Type 0} → R → List ℕ → ℕ → Result U Unread → List ℕ → R → Type 0
  ReadsSome r old room (Ok done) new q = (more : List ℕ) × (new ≡ old ++ more) × GivesBytes r more q × (1 ≤ length more) × (length more ≤ room)
  ReadsSome r old room (Err why) new q = (more : List ℕ) × (last : R) × GivesBytes r more last × StopsShort room (length more) last why q

  -- Bytes were read after those that were there, until they were n; or fewer came.
  abbrev pub ReadsUpTo : {U : Type 0} → R → List ℕ → ℕ → Result U Unread → List ℕ → R → Type 0
  ReadsUpTo r old n (Ok done) new q = (more : List ℕ) × (new ≡ old ++ more) × GivesBytes r more q × (length new ≡ n)
  ReadsUpTo r old n (Err why) new q = (more : List ℕ) × (last : R) × GivesBytes r more last × StopsShort n (length (old ++ more)) last why q

-- no read of any such reader fails
abbrev pub NoReadFails : {R : Type 0} → (Bool → R → R → Type 0) → Type 0
NoReadFails {R} stays = (r q : R) → stays true r q → ⊥

-- what is left of bytes: they themselves
abbrev pub bytes_left : Bytes → Option (List ℕ)
bytes_left s = Some s.bytes.now

-- the bytes that a buffered reader holds and has not yielded
abbrev pub held_bytes : {R : Type 0} → Buffered R → List ℕ
held_bytes s = drop s.given (reader_buffer s.reader)

-- what is left of a buffered reader: those bytes and then what the reader below has left, where that is known; `None` with no capacity
abbrev pub buffered_left : {R : Type 0} → (R → Option (List ℕ)) → Buffered R → Option (List ℕ)
buffered_left remaining s = if reader_capacity s.reader == 0 then None else prepend_known (held_bytes s) (remaining (reader_inner s.reader))
