-- What the words that a program is given ask for, and what is told of them.
use Rattle.std.specs.Prelude.{ℕ, ◌≡◌, ◌≢◌, ◌⊎◌, ◌==◌, ◌||◌, List, [], ◌∷◌, ◌++◌, Bool, false, if◌then◌else◌, Option, Some, None, codes, bytes_eq, string_bytes}
use Rattle.std.specs.Io.KnownBytes.{Appends}
use Rattle.std.specs.declared.string.String.{String}
use Rattle.std.specs.declared.alloc.Global.{Global}
use Rattle.std.specs.declared.io.ErrorKind.{ErrorKind}
use Rattle.std.specs.declared.io.ErrorKind.TheVariants.{NotFound, PermissionDenied, IsADirectory, OutOfMemory}
use Rattle.program_io.specs.Faults.{line_of, status_of}
use Rattle.program_io.specs.Showing.{shown}
use Rattle.program_io.specs.declared.arguments.Asked.{Asked}
use Rattle.program_io.specs.declared.arguments.Asked.TheVariants.{Help, Unexpected, Standard, File}
use Rattle.program_io.specs.declared.arguments.Given.{Given}
use Rattle.program_io.specs.declared.arguments.Input.{Input}
use Rattle.program_io.specs.declared.arguments.Input.TheVariants as Reads
use Rattle.program_io.specs.declared.arguments.Reason.{Reason}
use Rattle.program_io.specs.declared.arguments.Reason.TheVariants as Why
use Rattle.program_io.specs.declared.arguments.Refusal.{Refusal}
use Rattle.program_io.specs.declared.arguments.Refusal.TheVariants.{Word, Unopened, NoText}
use Rattle.program_io.specs.declared.fault.RunFault.{RunFault}
use Rattle.program_io.specs.declared.fault.RunFault.TheVariants as Fails

-- whether a text begins with a minus
abbrev pub begins_with_minus : List ℕ → Bool
begins_with_minus [] = false
begins_with_minus (byte ∷ bytes) = byte == 45

-- what a word asks for that is no option: `-` for standard input, and each other word for the file that it names
abbrev pub asked_named : String Global → Asked
asked_named word = if bytes_eq (string_bytes word) (codes "-") then Standard else File word

-- what the first word asks for: `--help` and `-h` for the usage text, `-` for standard input, another word that begins with a minus for nothing that there is, and each other word for the file that it names
abbrev pub asked_first : String Global → Asked
asked_first word =
    if bytes_eq (string_bytes word) (codes "--help") || bytes_eq (string_bytes word) (codes "-h") then Help
    else if bytes_eq (string_bytes word) (codes "-") then Standard
    else if begins_with_minus (string_bytes word) then Unexpected word
    else File word

-- what the first word asks for, where it may have further words after it: an input has none
abbrev pub with_further : Asked → List (String Global) → Asked
with_further Standard (word ∷ words) = Unexpected word
with_further (File path) (word ∷ words) = Unexpected word
with_further asked words = asked

-- what words ask for after `--`, which ends the options
abbrev pub asked_after_options : List (String Global) → Asked
asked_after_options [] = Standard
asked_after_options (word ∷ words) = with_further (asked_named word) words

-- what a word and those after it ask for
abbrev pub asked_from : String Global → List (String Global) → Asked
asked_from word words = if bytes_eq (string_bytes word) (codes "--") then asked_after_options words else with_further (asked_first word) words

-- what a program's words ask for, of which the first is its name: standard input, where there is no other
abbrev pub asked_by : List (String Global) → Asked
asked_by [] = Standard
asked_by (name ∷ []) = Standard
asked_by (name ∷ word ∷ words) = asked_from word words

-- ---- what is told

-- the reason of a failed opening, by the kind of its error
abbrev pub reason_of : ErrorKind → Reason
reason_of NotFound = Why.Missing
reason_of IsADirectory = Why.Folder
reason_of PermissionDenied = Why.Forbidden
reason_of kind = Why.Other

-- what is told of a reason after the file's name
abbrev pub reason_text : Reason → List ℕ
reason_text Why.Missing = codes ": no such file"
reason_text Why.Folder = codes ": a folder"
reason_text Why.Forbidden = codes ": not permitted"
reason_text Why.Other = []

-- what is told of a word that asks for nothing: the word as it is shown, and the usage text
abbrev pub word_text : List ℕ → List ℕ → List ℕ
word_text word usage = shown word ++ (codes ": unexpected\n" ++ usage)

-- what is told of a file that can't be opened: its name as it is shown, and the reason
abbrev pub unopened_text : List ℕ → Reason → List ℕ
unopened_text path reason = codes "cannot open " ++ shown path ++ reason_text reason

-- the text that tells of a refusal, without its last newline
abbrev pub text_of : Refusal → List ℕ
text_of (Word word usage) = word_text (string_bytes word) usage.now
text_of (Unopened path reason) = unopened_text (string_bytes path) reason
text_of NoText = codes "not UTF-8"

-- This is why the system's words are not known, by the kind of its error: no memory, or a word that is no UTF-8.
abbrev pub IsFaultOfWords : ErrorKind → RunFault Refusal → Type 0
IsFaultOfWords kind Fails.Memory = kind ≡ OutOfMemory
IsFaultOfWords kind (Fails.Input fault) = (kind ≢ OutOfMemory) × (fault ≡ NoText)
IsFaultOfWords kind Fails.Read = ⊥
IsFaultOfWords kind Fails.Write = ⊥

-- A program ends with a status that is 0, or that of a fault; and the fault's line was told and nothing else, or writing failed.
abbrev pub EndsTold : Option (List ℕ) → Option (List ℕ) → Type 0 → ℕ → Type 0
EndsTold told told' failed status = status ≢ 0 → (fault : RunFault Refusal) × (status ≡ status_of (λ _. 2) fault) × (Appends told told' (line_of text_of None fault) ⊎ failed)

-- ---- what is read

-- what is left of an input, where it is known
abbrev pub input_left : {S F : Type 0} → (S → Option (List ℕ)) → (F → Option (List ℕ)) → Input S F → Option (List ℕ)
input_left standard file (Reads.Standard s) = standard s
input_left standard file (Reads.File f) = file f

-- It is standard input, which has no name, or a file, which has one.
abbrev pub IsGiven : {S F : Type 0} → S → Given S F → Type 0
IsGiven {F = F} standard given = ((given.input ≡ Reads.Standard standard) × (given.name ≡ None)) ⊎ ((file : F) × (name : String Global) × (given.input ≡ Reads.File file) × (given.name ≡ Some name))
