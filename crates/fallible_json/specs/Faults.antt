-- What is wrong with a text that is no JSON, and what is told of it.
use Rattle.std.specs.Prelude.{ℕ, nat_le, nat_lt, ◌&&◌, Bool, [], ◌∷◌, if◌then◌else◌, List, length, take, slice_index, ◌++◌, codes, decimal}
use Rattle.fallible_json.specs.Places.{place_after_bytes}
use Rattle.fallible_json.specs.Wanted.{wanted_text}
use Rattle.fallible_json.specs.declared.fault.JsonFault.{JsonFault}
use Rattle.fallible_json.specs.declared.fault.JsonFault.TheVariants.{Unexpected, Ended, NotText}
use Rattle.fallible_json.specs.declared.fault.TextFault.{TextFault}
use Rattle.fallible_json.specs.declared.wanted.Wanted.{Wanted}

-- the fault at the byte with so many before it, of bytes of which the first has this line and column: that byte, with its line and column, or the end; and what could come there
abbrev pub fault_from : ℕ × ℕ → List ℕ → ℕ → Wanted → JsonFault
fault_from origin text place wanted = let p = place_after_bytes origin (take place text) in if nat_lt place (length text) then Unexpected p.0 p.1 (slice_index text place) wanted else Ended p.0 p.1 wanted

-- the same of a text
abbrev pub fault_at : List ℕ → ℕ → Wanted → JsonFault
fault_at text place wanted = fault_from (1, 1) text place wanted

-- the status that a program ends with
abbrev pub status_of : JsonFault → ℕ
status_of fault = 1

-- whether a byte is a character of ASCII that is printed
abbrev pub is_printed : ℕ → Bool
is_printed byte = nat_le 32 byte && nat_lt byte 127

-- a byte as it is told: itself between quotes, if it is printed, or else its number
abbrev pub byte_text : ℕ → List ℕ
byte_text byte = if is_printed byte then 39 ∷ byte ∷ 39 ∷ [] else codes "byte " ++ decimal byte

-- the text of the line that tells a fault, without its newline
abbrev pub text_of : JsonFault → List ℕ
text_of (Unexpected line column byte wanted) = codes "line " ++ decimal line ++ codes ", column " ++ decimal column ++ codes ": unexpected " ++ byte_text byte ++ wanted_text wanted
text_of (Ended line column wanted) = codes "line " ++ decimal line ++ codes ", column " ++ decimal column ++ codes ": unexpected end" ++ wanted_text wanted
text_of (NotText line column) = codes "line " ++ decimal line ++ codes ", column " ++ decimal column ++ codes ": not UTF-8"

-- the same of one of several texts: from the second on, which it is comes first
abbrev pub text_of_text : TextFault → List ℕ
text_of_text fault = (if nat_lt 1 fault.text then codes "text " ++ decimal fault.text ++ codes ", " else []) ++ text_of fault.fault
