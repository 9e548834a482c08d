-- What reading does to the bytes that a reader has left, where they are known.
use Rattle.std.specs.Prelude.{◌≡◌, ◌≢◌, ◌<◌, ◌≤◌, ◌+◌, ◌⊎◌, ℕ, List, length, take, drop, Option, IfSome, Result, Ok, Err}
use Rattle.std.specs.Io.{StartsWith, appended_bytes}
use Rattle.std.specs.IoError.{error_kind}
use Rattle.std.specs.Io.BufRead.{take_through}
use Rattle.std.specs.Io.KnownBytes.{Consumes, Keeps, IsAtEnd}
use Rattle.std.specs.declared.alloc.Global.{Global}
use Rattle.std.specs.declared.io.Error.{Error}
use Rattle.std.specs.declared.io.ErrorKind.{ErrorKind}
use Rattle.std.specs.declared.io.ErrorKind.TheVariants.{Interrupted, TimedOut}
use Rattle.std.specs.declared.vec.Vec.{Vec}

-- a reader lost some first bytes of those that it had, and no others
abbrev pub TakesSome : Option (List ℕ) → Option (List ℕ) → Type 0
TakesSome old new = (bytes : List ℕ) × Consumes old new bytes

-- A reader's bytes were read up to its end, and this holds of them.
abbrev pub ReadsAll : Option (List ℕ) → Option (List ℕ) → (List ℕ → Type 0) → Type 0
ReadsAll unread unread' Holds = (bytes : List ℕ) × Consumes unread unread' bytes × IsAtEnd unread' × Holds bytes

-- a line is the first of the bytes, where they are known: those up to the first newline, with it, or all of them
abbrev pub IsFirstLine : Option (List ℕ) → List ℕ → Type 0
IsFirstLine unread line = IfSome unread (λ bytes. line ≡ take_through 10 bytes)

module _ {R : Type 0} (left : R → Option (List ℕ)) (fails : ErrorKind → R → R → Type 0) where
  -- one read: so many bytes, none only at the end or where there is no room; or it failed or was interrupted, and took nothing
  abbrev pub ReadsOnce : R → Result ℕ Error → List ℕ → R → Type 0
  ReadsOnce r (Ok count) buf q = (count ≤ length buf) × Consumes (left r) (left q) (take count buf) × (count ≡ 0 → 0 < length buf → IsAtEnd (left q))
  ReadsOnce r (Err e) buf q = Keeps (left r) (left q) × fails (error_kind e) r q

  -- Reading failed so: bytes were read, and then a read failed with this kind, which is no interruption; or it was interrupted as often as it was tried, which comes to `TimedOut`.
  pub record Fails (kind : ErrorKind) (r q : R) : Type 0 where
    pub retried : kind ≢ Interrupted
    pub bytes : List ℕ
    pub last : R
    pub taken : Consumes (left r) (left last) bytes
    pub failed : fails kind last q ⊎ ((kind ≡ TimedOut) × fails Interrupted last q)

  -- bytes were put after the first ones that a buffer held, up to this place at most, and none only at the end; or it failed, and took nothing
  abbrev pub ReadsAfter : R → List ℕ → ℕ → ℕ → Result ℕ Error → List ℕ → R → Type 0
  ReadsAfter r old held end (Ok count) buf q = (take held buf ≡ take held old) × (held + count ≤ end) × Consumes (left r) (left q) (take count (drop held buf)) × (count ≡ 0 → IsAtEnd (left q))
  ReadsAfter r old held end (Err e) buf q = (take held buf ≡ take held old) × Keeps (left r) (left q) × Fails (error_kind e) r q

  -- it yielded its first line, and nothing after it; or it failed
  abbrev pub ReadsLine : R → Result (Vec ℕ Global) Error → R → Type 0
  ReadsLine r (Ok line) q = IsFirstLine (left r) line.items × Consumes (left r) (left q) line.items
  ReadsLine r (Err e) q = Fails (error_kind e) r q

  -- it yielded all bytes that were left, which stand after those before, and is at its end; or it failed
  abbrev pub ReadsRest : R → List ℕ → Result (Vec ℕ Global) Error → R → Type 0
  ReadsRest r before (Ok bytes) q = StartsWith bytes.items before × Consumes (left r) (left q) (appended_bytes before bytes.items) × IsAtEnd (left q)
  ReadsRest r before (Err e) q = Fails (error_kind e) r q
