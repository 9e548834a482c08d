-- Why a run fails, and what is told of it.
use Rattle.std.specs.Prelude.{◌≡◌, ◌≢◌, ℕ, List, [], ◌∷◌, ◌++◌, Option, Some, None, codes, decimal}
use Rattle.std.specs.Borrow.{Bor}
use Rattle.std.specs.declared.io.ErrorKind.{ErrorKind}
use Rattle.std.specs.declared.io.ErrorKind.TheVariants.{OutOfMemory}
use Rattle.program_io.specs.Showing.{shown}
use Rattle.program_io.specs.declared.fault.RunFault.{RunFault}
use Rattle.program_io.specs.declared.fault.RunFault.TheVariants.{Input, Read, Memory, Write}

-- This is what a failed read of a kind comes to.
abbrev pub IsFaultOfRead : {F : Type 0} → ErrorKind → RunFault F → Type 0
IsFaultOfRead kind (Input fault) = ⊥
IsFaultOfRead kind Read = kind ≢ OutOfMemory
IsFaultOfRead kind Memory = kind ≡ OutOfMemory
IsFaultOfRead kind Write = ⊥

-- the status that a program ends with: that of the input's fault, or one that all programs have
abbrev pub status_of : {F : Type 0} → (F → ℕ) → RunFault F → ℕ
status_of status (Input fault) = status fault
status_of status Read = 2
status_of status Memory = 3
status_of status Write = 4

-- the text of the line that tells a fault, without its newline
abbrev pub text_of : {F : Type 0} → (F → List ℕ) → RunFault F → List ℕ
text_of text (Input fault) = text fault
text_of text Read = codes "read failed"
text_of text Memory = codes "no memory"
text_of text Write = codes "write failed"

-- what stands in front of a line for the name of an input: the name as it is shown, and a colon; nothing, where it has no name
abbrev pub name_text : Option (Bor (List ℕ)) → List ℕ
name_text (Some name) = shown name.now ++ codes ": "
name_text None = []

-- what stands in front of the line of a fault: the name of the input at a fault of it and at a failed read
abbrev pub front_of : {F : Type 0} → Option (Bor (List ℕ)) → RunFault F → List ℕ
front_of name (Input fault) = name_text name
front_of name Read = name_text name
front_of name Memory = []
front_of name Write = []

-- the line, with its newline
abbrev pub line_of : {F : Type 0} → (F → List ℕ) → Option (Bor (List ℕ)) → RunFault F → List ℕ
line_of text name fault = front_of name fault ++ text_of text fault ++ 10 ∷ []

-- the text that tells what is wrong at a place of the input, without its newline
abbrev pub placed_text : List ℕ → ℕ → List ℕ → List ℕ
placed_text unit place text = unit ++ codes " " ++ decimal place ++ codes ": " ++ text
