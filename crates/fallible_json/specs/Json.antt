-- A JSON text without blanks, of its bytes.
use Rattle.std.specs.Prelude.{◌≡◌, ◌⊎◌, ℕ, ◌+◌, nat_lt, if◌then◌else◌, List, length, take, Result, Ok, Err}
use Rattle.std.specs.Str.{IsUtf8, IsValidUpTo}
use Rattle.std.specs.declared.alloc.Global.{Global}
use Rattle.std.specs.declared.convert.Infallible.{Infallible}
use Rattle.std.specs.declared.vec.Vec.{Vec}
use Rattle.fallible_iterator.specs.Fault.{Fault}
use Rattle.fallible_iterator.specs.Fault.TheVariants.{Source, Memory}
use Rattle.fallible_iterator.specs.Lists.{items, numbered}
use Rattle.fallible_json.specs.Faults.{fault_at}
use Rattle.fallible_json.specs.Lexing.{lexed}
use Rattle.fallible_json.specs.Minifying.{minified_or_wanted}
use Rattle.fallible_json.specs.Places.{place_of}
use Rattle.fallible_json.specs.declared.fault.JsonFault.{JsonFault}
use Rattle.fallible_json.specs.declared.fault.JsonFault.TheVariants.{Unexpected, Ended, NotText}
use Rattle.fallible_json.specs.declared.lexer.LexFault.{LexFault}
use Rattle.fallible_json.specs.declared.lexer.LexFault.TheVariants as lexer
use Rattle.fallible_json.specs.declared.minifying.Misplaced.{Misplaced}
use Rattle.fallible_json.specs.declared.minifying.Misplaced.TheVariants as misplaced
use Rattle.fallible_json.specs.declared.wanted.Wanted.{Wanted}

-- how many bytes come before that at which a fault was met: before the byte that begins no token, before the one after the last of an unfinished token, before the token that may not stand there, or before the end
abbrev pub fault_place : List ℕ → Misplaced (LexFault Infallible) → ℕ
fault_place text (misplaced.Source (lexer.Source never)) = 0
fault_place text (misplaced.Source (lexer.Unknown place)) = place
fault_place text (misplaced.Source (lexer.Unfinished last wanted)) = if nat_lt last (length text) then last + 1 else length text
fault_place text (misplaced.Unexpected place) = place
fault_place text misplaced.Ended = length text

-- what could come at a fault: what goes on with a token that isn't whole, or the tokens that may come
abbrev pub wanted_at : Misplaced (LexFault Infallible) → Wanted → Wanted
wanted_at (misplaced.Source (lexer.Unfinished last within)) tokens = within
wanted_at fault tokens = tokens

-- a fault, told of the text in which it was met
abbrev pub told : {A : Type 0} → List ℕ → Result A (Misplaced (LexFault Infallible) × Wanted) → Result A JsonFault
told text (Ok x) = Ok x
told text (Err (fault, wanted)) = Err (fault_at text (fault_place text fault) (wanted_at fault wanted))

-- The bytes of the tokens of a text, one after the other, where they are one JSON text; or its first fault.
abbrev pub minified_text : List ℕ → Result (List ℕ) JsonFault
minified_text text = told text (minified_or_wanted text (lexed (numbered 0 (items text))))

-- The bytes are UTF-8 and a JSON text, and this is it without blanks.
abbrev pub IsJson : List ℕ → List ℕ → Type 0
IsJson bytes json = IsUtf8 bytes × (minified_text bytes ≡ Ok json)

-- the fault at a byte that is no UTF-8
abbrev pub not_text_at : ℕ × ℕ → JsonFault
not_text_at (line, column) = NotText line column

-- a fault of a byte of a text, or otherwise another fault: the text without blanks, and a fault of its end, say nothing of the bytes after it
abbrev pub unexpected_or : JsonFault → Result (List ℕ) JsonFault → JsonFault
unexpected_or other (Err (Unexpected line column byte wanted)) = Unexpected line column byte wanted
unexpected_or other (Err (Ended line column wanted)) = other
unexpected_or other (Err (NotText line column)) = other
unexpected_or other (Ok json) = other

-- the first fault of bytes that are UTF-8 up to a place, and no further: that of a byte before it, or otherwise that place
abbrev pub fault_before : List ℕ → ℕ → JsonFault
fault_before bytes place = unexpected_or (not_text_at (place_of bytes place)) (minified_text (take place bytes))

-- The bytes are UTF-8, and this is the first fault for which they are no JSON text; or they are no UTF-8, and this is their first fault.
abbrev pub HasFault : List ℕ → JsonFault → Type 0
HasFault bytes fault = (IsUtf8 bytes × (minified_text bytes ≡ Err fault)) ⊎ (¬ (IsUtf8 bytes) × ((place : ℕ) × IsValidUpTo bytes place × (fault ≡ fault_before bytes place)))

-- The text without blanks was made, or the bytes have this fault, or there was no memory for it.
abbrev pub MakesJson : (List ℕ → Type 0) → List ℕ → Result (Vec ℕ Global) (Fault JsonFault) → Type 0
MakesJson refused bytes (Ok json) = IsJson bytes json.items
MakesJson refused bytes (Err (Source fault)) = HasFault bytes fault
MakesJson refused bytes (Err (Memory a)) = refused bytes
