-- What is told of a fault.
use Rattle.std.specs.Prelude.{ℕ, ◌==◌, List, [], ◌∷◌, ◌++◌, Bool, true, false, ◌||◌, if◌then◌else◌, codes, decimal, drop}
use Rattle.fallible_pg.specs.declared.fault.Damage.{Damage}
use Rattle.fallible_pg.specs.declared.fault.Damage.TheVariants.{Cut, Length, Tag, Row, Columns}
use Rattle.fallible_pg.specs.Kinds.{is_start}
use Rattle.fallible_pg.specs.Messages.{message_bytes}
use Rattle.fallible_pg.specs.Strings.{before_zero}
use Rattle.fallible_pg.specs.declared.printing.PgInput.{PgInput}
use Rattle.fallible_pg.specs.declared.printing.PgInput.TheVariants.{Server, Damaged}

-- The field that a letter names: the first text that begins with it, without it, of texts that each end with a 0. A text begins here, or it doesn't.
unfoldable pub field_from : Bool → ℕ → List ℕ → List ℕ
field_from begins letter [] = []
field_from true letter (b ∷ bs) = if b == letter then before_zero bs else field_from (b == 0) letter bs
field_from false letter (b ∷ bs) = field_from (b == 0) letter bs

-- the field that a letter names
abbrev pub field : ℕ → List ℕ → List ℕ
field letter fields = field_from true letter fields

-- a further line, where the server tells a field: a newline, the field's name and the field
abbrev pub further_line : List ℕ → List ℕ → List ℕ
further_line name [] = []
further_line name (b ∷ bs) = codes "\n" ++ name ++ codes ":  " ++ (b ∷ bs)

-- what the server tells by a refusal or a notice: how severe it is, the SQLSTATE and the message; and on a line each the detail and the hint, where there are some
abbrev pub refusal_text : List ℕ → List ℕ
refusal_text fields = field 83 fields ++ codes ":  " ++ field 67 fields ++ codes ": " ++ field 77 fields ++ further_line (codes "DETAIL") (field 68 fields) ++ further_line (codes "HINT") (field 72 fields)

-- the lines that are told of a notice, by its message, with the last newline
abbrev pub notice_text : List ℕ → List ℕ
notice_text message = refusal_text (drop 5 message) ++ 10 ∷ []

-- whether the tag is one of COPY
abbrev pub is_copy : ℕ → Bool
is_copy tag = tag == 71 || tag == 72 || tag == 87 || tag == 99 || tag == 100

-- whether the tag is that of what a function's call returns, V
abbrev pub is_call : ℕ → Bool
is_call tag = tag == 86

-- whether a message with this tag is known, and isn't read
abbrev pub is_known : ℕ → Bool
is_known tag = is_copy tag || is_start tag || is_call tag

-- the status of a tag that isn't read
abbrev pub tag_status : ℕ → ℕ
tag_status tag = if is_known tag then 7 else 5

-- what is told of a tag that isn't read
abbrev pub tag_text : ℕ → List ℕ
tag_text tag = if is_copy tag then codes "COPY isn't read"
    else if is_start tag then codes "a session's start isn't read"
    else if is_call tag then codes "a function's call isn't read"
    else codes "a message has the unexpected tag " ++ decimal tag

-- the status of a damage: 6 where the bytes were cut, 7 where they are of a kind that isn't read, else 5
abbrev pub damage_status : Damage → ℕ
damage_status Cut = 6
damage_status (Length n) = 5
damage_status (Tag tag) = tag_status tag
damage_status Row = 5
damage_status Columns = 5

-- what is told of a damage
abbrev pub damage_text : Damage → List ℕ
damage_text Cut = codes "the connection ended within a message"
damage_text (Length n) = codes "a message states the length " ++ decimal n
damage_text (Tag tag) = tag_text tag
damage_text Row = codes "the cells of a row don't fill it"
damage_text Columns = codes "the columns of a description don't fill it"

-- the status that a program ends with
abbrev pub status_of : PgInput → ℕ
status_of (Server message) = 1
status_of (Damaged place damage) = damage_status damage

-- the text of the line that tells of a fault, without its newline
abbrev pub text_of : PgInput → List ℕ
text_of (Server message) = refusal_text (drop 5 (message_bytes message))
text_of (Damaged place damage) = codes "byte " ++ decimal place ++ codes ": " ++ damage_text damage
