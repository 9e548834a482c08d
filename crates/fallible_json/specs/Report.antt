-- What a run over texts reads and writes, by how it comes out.
use Rattle.std.specs.Prelude.{◌≡◌, ◌≢◌, ◌⊎◌, ℕ, ◌+◌, ◌^◌, ◌≤◌, List, [], ◌∷◌, ◌++◌, length, map, Option, Result, Ok, Err}
use Rattle.std.specs.Io.KnownBytes.{Appends, Consumes, IsAtEnd}
use Rattle.std.specs.declared.io.ErrorKind.{ErrorKind}
use Rattle.std.specs.declared.io.ErrorKind.TheVariants.{OutOfMemory}
use Rattle.program_io.specs.Reading.{ReadsAll, TakesSome}
use Rattle.program_io.specs.declared.fault.RunFault.{RunFault}
use Rattle.program_io.specs.declared.fault.RunFault.TheVariants.{Input, Read, Memory, Write}
use Rattle.fallible_json.specs.Json.{not_text_at}
use Rattle.fallible_json.specs.Taking.{◌before◌}
use Rattle.fallible_json.specs.Texts.{IsUnbroken, TextResult, lines_of, texts_of, texts_so_far}
use Rattle.fallible_json.specs.Writing.{printed}
use Rattle.fallible_json.specs.declared.fault.TextFault.{TextFault}
use Rattle.fallible_json.specs.declared.report.Prints.{Prints}

-- A reader's first bytes were read, and decide which texts its input has: whatever comes after them, or since nothing does, they are these.
pub record HasTexts (unread unread' : Option (List ℕ)) (texts : List TextResult) : Type 0 where
  pub bytes : List ℕ
  pub taken : Consumes unread unread' bytes
  pub are : ((more : List ℕ) → texts_of (bytes ++ more) ≡ texts) ⊎ (IsAtEnd unread' × (texts_of bytes ≡ texts))

-- A reader yielded so many bytes that it is read no further.
abbrev pub YieldsMany : Option (List ℕ) → Option (List ℕ) → Type 0
YieldsMany unread unread' = (bytes : List ℕ) × Consumes unread unread' bytes × (2 ^ 61 ≤ length bytes)

module _ (prints : Prints) (unread unread' written written' : Option (List ℕ)) where
  -- Bytes were read, which have no fault so far, and what is printed of their texts was written.
  pub record WritesRead : Type 0 where
    pub bytes : List ℕ
    pub taken : Consumes unread unread' bytes
    pub texts : List (List ℕ)
    pub json : List ℕ
    pub place : ℕ × ℕ
    pub are : texts_so_far bytes ≡ texts before Err (json, not_text_at place) ∷ []
    pub unbroken : IsUnbroken bytes
    pub wrote : Appends written written' (printed prints texts json)

  -- Bytes were read, the first of which have no fault, and of these the texts that ended were written; where tokens are printed, also the first ones of the text that is begun.
  pub record WritesSome : Type 0 where
    pub bytes : List ℕ
    pub more : List ℕ
    pub taken : Consumes unread unread' (bytes ++ more)
    pub texts : List (List ℕ)
    pub sent : List ℕ
    pub unsent : List ℕ
    pub place : ℕ × ℕ
    pub are : texts_so_far bytes ≡ texts before Err (sent ++ unsent, not_text_at place) ∷ []
    pub unbroken : IsUnbroken bytes
    pub wrote : Appends written written' (printed prints texts sent)

module _ {R W : Type 0} (left : R → Option (List ℕ)) (fails : ErrorKind → R → R → Type 0) (input input' : R) (refused : Type 0) (prints : Prints) (failed : W → Type 0) (written written' : Option (List ℕ)) (output' : W) where
  -- What an outcome says of the input, and of what was written. `Ok`: all of it was read, it has no fault, and its texts were written, each on a line, and nothing else. `Input`: its first fault is this, of the text with this number; what is printed before it was written. `Read`: a read failed, or too many bytes came; what is printed of those before was written. `Memory`: a read failed for want of memory, or the maker had none; what was written is some of that. `Write`: writing failed.
  abbrev pub ComesTo : {T : Type 0} → Result T (RunFault TextFault) → Type 0
  ComesTo (Ok done) = (texts : List (List ℕ)) × ReadsAll (left input) (left input') (λ bytes. texts_of bytes ≡ map (λ text. Ok text) texts) × Appends written written' (lines_of texts)
  ComesTo (Err (Input fault)) = (texts : List (List ℕ)) × (json : List ℕ) × HasTexts (left input) (left input') (texts before Err (json, fault.fault) ∷ []) × (fault.text ≡ length texts + 1) × Appends written written' (printed prints texts json)
  ComesTo (Err Read) = (((kind : ErrorKind) × (kind ≢ OutOfMemory) × fails kind input input') ⊎ YieldsMany (left input) (left input')) × WritesRead prints (left input) (left input') written written'
  ComesTo (Err Memory) = (fails OutOfMemory input input' ⊎ refused) × WritesSome prints (left input) (left input') written written'
  ComesTo (Err Write) = TakesSome (left input) (left input') × failed output'
