-- What is printed of a file.
use Rattle.std.specs.Prelude.{ℕ, ◌+◌, List, [], ◌∷◌, ◌++◌, length, false, Result, Ok, Err, codes, decimal}
use Rattle.std.specs.Char.Escape.{escape_ascii}
use Rattle.std.specs.Fmt.{digits}
use Rattle.std.specs.List.{flat_map}
use Rattle.fallible_elf.specs.Names.{name_or_none}
use Rattle.fallible_elf.specs.declared.fault.ElfFault.{ElfFault}
use Rattle.fallible_elf.specs.declared.section.Section.{Section}
use Rattle.fallible_elf.specs.declared.set.Range.{Range}
use Rattle.fallible_elf.specs.declared.set.Set.{Set}

-- ---- words

-- a number to the base 16, after `0x`
abbrev pub hex : ℕ → List ℕ
hex n = codes "0x" ++ digits 16 false n

-- a name as Rust's `escape_ascii` shows it
abbrev pub shown : List ℕ → List ℕ
shown name = flat_map escape_ascii name

-- the lines of a list's items, one after the other, by their numbers, the first of which is n
abbrev pub lines_from : {A : Type 0} → (ℕ → A → List ℕ) → ℕ → List A → List ℕ
lines_from line n [] = []
lines_from line n (x ∷ xs) = line n x ++ lines_from line (n + 1) xs

-- the lines of items, one after the other, up to the first failure
unfoldable pub lines_of : {A : Type 0} → (A → List ℕ) → List (Result A ElfFault) → List ℕ
lines_of line [] = []
lines_of line (Ok x ∷ l) = line x ++ lines_of line l
lines_of line (Err f ∷ l) = []

-- how many there are, on a line after a word, and then their lines
abbrev pub table_text : {A : Type 0} → List ℕ → (ℕ → A → List ℕ) → List A → List ℕ
table_text word line xs = word ++ decimal (length xs) ++ 10 ∷ lines_from line 0 xs

-- ---- lines

-- the type and the address of a section
abbrev pub section_type : Section → List ℕ
section_type s = codes " type " ++ decimal s.kind ++ codes " address " ++ hex s.address

-- the offset and the size of a section, and the word before its name
abbrev pub section_extent : Section → List ℕ
section_extent s = codes " offset " ++ hex s.offset ++ codes " size " ++ hex s.size ++ codes " name "

-- the line of a section: its number among the sections, these and its name
abbrev pub section_line : List ℕ → ℕ → Section → List ℕ
section_line bytes number s = decimal number ++ section_type s ++ section_extent s ++ shown (name_or_none bytes s.name) ++ 10 ∷ []

-- the line of a set: the offset of its unit, and where its ranges begin and where it ends in the file
abbrev pub set_line : Set → List ℕ
set_line s = codes "unit " ++ hex s.unit ++ codes " from " ++ hex s.place ++ codes " to " ++ hex s.end ++ 10 ∷ []

-- the line of a range: the offset of its unit, its first address and how many addresses there are
abbrev pub range_line : Range → List ℕ
range_line r = codes "unit " ++ hex r.unit ++ codes " address " ++ hex r.address ++ codes " length " ++ hex r.length ++ 10 ∷ []

-- ---- tables

-- the sections of a file, a line for each
abbrev pub sections_text : List ℕ → List Section → List ℕ
sections_text bytes sections = table_text (codes "sections ") (section_line bytes) sections

-- the sets, a line for each
abbrev pub sets_text : List Set → List ℕ
sets_text sets = table_text (codes "sets ") (λ _. set_line) sets

-- the ranges, a line for each
abbrev pub ranges_text : List Range → List ℕ
ranges_text ranges = table_text (codes "ranges ") (λ _. range_line) ranges

-- the text of what there is, and none of a fault
abbrev pub text_where : {A : Type 0} → (A → List ℕ) → Result A ElfFault → List ℕ
text_where text (Ok x) = text x
text_where text (Err f) = []
