-- What is written of the texts while they are read.
use Rattle.std.specs.Prelude.{◌≡◌, ◌≢◌, ◌⊎◌, ⊤, ℕ, ◌+◌, ◌<◌, ◌≤◌, ◌^◌, true, List, [], ◌∷◌, ◌++◌, length, take, drop, Option, Ok, Err, Result}
use Rattle.std.specs.Option.{is_some}
use Rattle.std.specs.Io.KnownBytes.{Appends, Consumes, IsAtEnd, Keeps}
use Rattle.std.specs.declared.io.ErrorKind.{ErrorKind}
use Rattle.std.specs.declared.io.ErrorKind.TheVariants.{OutOfMemory}
use Rattle.std.specs.Str.Lossy.{utf8_error_len, utf8_valid_len}
use Rattle.fallible_iterator.specs.Fault.{Fault}
use Rattle.fallible_iterator.specs.Fault.TheVariants.{Source, Memory}
use Rattle.fallible_json.specs.Json.{not_text_at}
use Rattle.fallible_json.specs.Places.{place_after_bytes}
use Rattle.fallible_json.specs.Taking.{EndTexts, FindsFault, FindsLastFault, Takes, TakesAll, begun_of, ended_of, ◌before◌}
use Rattle.fallible_json.specs.Texts.{IsUnbroken, cut, lines_of, texts_after}
use Rattle.fallible_json.specs.declared.fault.JsonFault.{JsonFault}
use Rattle.fallible_json.specs.declared.fault.TextFault.{TextFault}
use Rattle.fallible_json.specs.declared.report.Prints.{Prints}
use Rattle.fallible_json.specs.declared.report.Prints.TheVariants as how
use Rattle.fallible_json.specs.declared.texts.Texts.{Texts}
use Rattle.program_io.specs.declared.fault.RunFault.{RunFault}
use Rattle.program_io.specs.declared.fault.RunFault.TheVariants as run

-- what is printed of texts that ended, and of the bytes of the tokens of the one after them
abbrev pub printed : Prints → List (List ℕ) → List ℕ → List ℕ
printed how.Texts texts json = lines_of texts
printed how.Tokens texts json = lines_of texts ++ json

module _ {R : Type 0} (left : R → Option (List ℕ)) (fails : ErrorKind → R → R → Type 0) (refused : Type 0) where
  -- Bytes were put after those that a buffer held, so many at most, and none only at the end; or nothing was read, since a read failed or no memory was there.
  abbrev pub Fills : R → List ℕ → ℕ → ℕ → Result ℕ (RunFault TextFault) → List ℕ → R → Type 0
  Fills r old held most (Ok count) buffer q = (take held buffer ≡ take held old) × (held + count ≤ length buffer) × (count ≤ most) × Consumes (left r) (left q) (take count (drop held buffer)) × (count ≡ 0 → IsAtEnd (left q))
  Fills r old held most (Err run.Read) buffer q = Keeps (left r) (left q) × ((kind : ErrorKind) × (kind ≢ OutOfMemory) × fails kind r q)
  Fills r old held most (Err run.Memory) buffer q = Keeps (left r) (left q) × (fails OutOfMemory r q ⊎ refused)
  Fills r old held most (Err other) buffer q = ⊥

-- the lines that are printed at last: those of the texts that ended, and where tokens are printed those of the one that is begun
abbrev pub last_lines : Prints → Texts → List ℕ
last_lines how.Texts t = ended_of t
last_lines how.Tokens t = ended_of t ++ (begun_of t).1

-- The lines that were there were written, with the bytes `sent` of what is begun: none where texts are printed, and where tokens are printed all of an array or an object that is open, and none else.
pub record Sends (prints : Prints) (written written' : Option (List ℕ)) (t u : Texts) : Type 0 where
  pub sent : List ℕ
  pub wrote : Appends written written' (ended_of t ++ sent)
  pub plain : prints ≡ how.Texts → sent ≡ []
  pub within : (sent ≡ []) ⊎ (0 < length (begun_of t).0.0)
  pub all : prints ≡ how.Tokens → 0 < length (begun_of t).0.0 → (begun_of u).1 ≡ []
  pub state : (begun_of u).0 ≡ (begun_of t).0
  pub json : (begun_of t).1 ≡ sent ++ (begun_of u).1
  pub none : ended_of u ≡ []
  pub whole : u.whole ≤ length u.lines.items
  pub count : u.count ≡ t.count
  pub place : u.place ≡ t.place
  pub seen : u.seen ≡ t.seen

-- These texts ended, and the byte after the bytes is no UTF-8, which is this fault.
pub record FindsBroken (t : Texts) (bytes : List ℕ) (fault : JsonFault) (u : Texts) : Type 0 where
  pub texts : List (List ℕ)
  pub ended : EndTexts t texts u
  pub place : ℕ × ℕ
  pub is : fault ≡ not_text_at place
  pub breaks : texts_after cut t.place (begun_of t) bytes ≡ texts before Err ((begun_of u).1, fault) ∷ []

module _ (t : Texts) (bytes : List ℕ) (checked : ℕ) where
  -- how many of the bytes are UTF-8, if so many are
  abbrev pub valid_of : ℕ
  valid_of = checked + utf8_valid_len (drop checked bytes)

  -- Bytes were taken, so many are UTF-8, and none is known to be no UTF-8; or they have a fault, which is that of a text or of a byte that is no UTF-8; or no memory was there.
  abbrev pub TakesPart : Type 0 → Texts → Result (ℕ × ℕ) (Fault JsonFault) → Type 0
  TakesPart refused u (Ok (taken, valid)) = (valid ≡ valid_of) × (valid ≤ length bytes) × Takes t (take valid bytes) taken u × IsUnbroken (drop checked bytes)
  TakesPart refused u (Err (Source f)) = (valid_of ≤ length bytes) × (FindsFault t (take valid_of bytes) f u ⊎ (FindsBroken t (take valid_of bytes) f u × (is_some (utf8_error_len (drop valid_of bytes)) ≡ true)))
  TakesPart refused u (Err (Memory e)) = refused

  -- The last bytes were taken; or they have a fault, which is that of a text or of a character that is cut off; or no memory was there.
  abbrev pub TakesLast : Type 0 → Texts → Result (Unit {0}) (Fault JsonFault) → Type 0
  TakesLast refused u (Ok done) = (length bytes ≤ checked) × TakesAll t bytes u
  TakesLast refused u (Err (Source f)) = ((length bytes ≤ checked) × FindsLastFault t bytes f u) ⊎ ((checked < length bytes) × (u ≡ t) × (f ≡ not_text_at (place_after_bytes t.place (take checked bytes))))
  TakesLast refused u (Err (Memory e)) = refused

-- what a fault of the texts can be told of: of none, or of those that are counted
abbrev pub CanTell : Texts → Fault JsonFault → Type 0
CanTell t (Source f) = (t.whole ≤ length t.lines.items) × (t.count + 1 < 2 ^ 64)
CanTell t (Memory e) = ⊤

module _ (prints : Prints) (written written' : Option (List ℕ)) (failed : Type 0) where
  -- The lines before a fault were written, and it is told; or they could not be.
  abbrev pub EndsFault : Texts → RunFault TextFault → RunFault TextFault → Type 0
  EndsFault u fault told = ((told ≡ fault) × Appends written written' (last_lines prints u)) ⊎ ((told ≡ run.Write) × failed)

  -- A fault of the texts is told so; or there was no memory, and nothing was written.
  abbrev pub TellsFault : Texts → Fault JsonFault → RunFault TextFault → Type 0
  TellsFault u (Source f) told = EndsFault u (run.Input (record { text = u.count + 1; fault = f })) told
  TellsFault u (Memory e) told = (told ≡ run.Memory) × Appends written written' []

  module _ (refused : Type 0) (t : Texts) (bytes : List ℕ) (checked : ℕ) where
    -- Bytes were taken, and what is printed of them was written; or a fault is told.
    abbrev pub PrintsPart : Texts → Result (ℕ × ℕ) (RunFault TextFault) → Type 0
    PrintsPart v (Ok part) = ((u : Texts) × TakesPart t bytes checked refused u (Ok part) × Sends prints written written' u v)
    PrintsPart v (Err told) = ((told ≡ run.Write) × failed) ⊎ ((u : Texts) × (f : Fault JsonFault) × TakesPart t bytes checked refused u (Err f) × TellsFault u f told)

    -- The last bytes were taken, and the texts that ended were written; or a fault is told.
    abbrev pub PrintsLast : Result (Unit {0}) (RunFault TextFault) → Type 0
    PrintsLast (Ok done) = ((u : Texts) × TakesLast t bytes checked refused u (Ok done) × Appends written written' (ended_of u))
    PrintsLast (Err told) = ((told ≡ run.Write) × failed) ⊎ ((u : Texts) × (f : Fault JsonFault) × TakesLast t bytes checked refused u (Err f) × TellsFault u f told)
