-- Names, which end with a 0.
use Rattle.std.specs.Prelude.{ℕ, ◌-◌, ◌*◌, List, [], ◌∷◌, Option, Some, None, Result, Ok, Err, length, drop, eqb, nat_le, if◌then◌else◌}
use Rattle.std.specs.List.{position_or_len, before_first}
use Rattle.fallible_elf.specs.Faults.{fault_at}
use Rattle.fallible_elf.specs.declared.fault.ElfFault.{ElfFault}
use Rattle.fallible_elf.specs.declared.fault.Damage.TheVariants.{NamesTooLong}
use Rattle.fallible_elf.specs.declared.section.Section.{Section}

-- how many bytes stand before the first 0
abbrev pub name_length : List ℕ → ℕ
name_length bytes = position_or_len (λ byte. eqb byte 0) bytes

-- the bytes from a place on that stand before the first 0
abbrev pub name_at : List ℕ → ℕ → List ℕ
name_at bytes place = before_first (λ byte. eqb byte 0) (drop place bytes)

-- the name that begins at a place, or no bytes where there is none
abbrev pub name_or_none : List ℕ → Option ℕ → List ℕ
name_or_none bytes (Some place) = name_at bytes place
name_or_none bytes None = []

-- how many bytes the name of a section has
abbrev pub length_of_name : List ℕ → Section → ℕ
length_of_name bytes section = length (name_or_none bytes section.name)

-- where a name begins in the file, or 0 where there is none
abbrev pub place_or_0 : Option ℕ → ℕ
place_or_0 (Some place) = place
place_or_0 None = 0

-- the room that is left after a section's name, or the fault where it has too little: it is where the name begins
abbrev pub room_after : List ℕ → ℕ → Section → Result ℕ ElfFault
room_after bytes room section = if nat_le (length_of_name bytes section) room then Ok (room - length_of_name bytes section) else Err (fault_at (place_or_0 section.name) NamesTooLong)

-- The names of sections, in the order of these, have room for so many bytes together: the fault is where the first name begins for which too few are left.
unfoldable pub names_within : List ℕ → ℕ → List Section → Result (Unit {0}) ElfFault
names_within bytes room [] = Ok tt
names_within bytes room (section ∷ rest) = if nat_le (length_of_name bytes section) room then names_within bytes (room - length_of_name bytes section) rest else Err (fault_at (place_or_0 section.name) NamesTooLong)

-- The names of a file's sections have together at most four times as many bytes as the file.
abbrev pub names_check : List ℕ → List Section → Result (Unit {0}) ElfFault
names_check bytes sections = names_within bytes (4 * length bytes) sections
