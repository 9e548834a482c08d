-- Sections whose bytes overlap.
use Rattle.std.specs.Prelude.{◌≡◌, ℕ, ◌+◌, ◌<◌, ◌≤◌, List, [], ◌∷◌, ◌++◌, Bool, true, false, Result, Ok, Err, length, slice_index_or, min, max, nat_le, nat_lt, ◌&&◌, ◌||◌, if◌then◌else◌}
use Rattle.std.specs.List.{list_any}
use Rattle.fallible_elf.specs.Faults.{fault_at}
use Rattle.fallible_elf.specs.declared.fault.ElfFault.{ElfFault}
use Rattle.fallible_elf.specs.declared.fault.Damage.TheVariants.{SetsOverlap}
use Rattle.fallible_elf.specs.declared.section.Section.{Section}

-- where a section ends in the file
abbrev pub end_of : Section → ℕ
end_of section = section.offset + section.size

-- whether the bytes of a section lie in the file
abbrev pub lies_in : List ℕ → Section → Bool
lies_in bytes section = nat_le (end_of section) (length bytes)

-- whether two sections, which lie in the file, have a byte in common
abbrev pub share_a_byte : List ℕ → Section → Section → Bool
share_a_byte bytes a b = (lies_in bytes a && lies_in bytes b) && nat_lt (max a.offset b.offset) (min (end_of a) (end_of b))

-- No section shares a byte with one of those before it: the fault is where the first one begins that does.
unfoldable pub apart_after : List ℕ → List Section → List Section → Result (Unit {0}) ElfFault
apart_after bytes before [] = Ok tt
apart_after bytes before (section ∷ rest) = if list_any (share_a_byte bytes section) before then Err (fault_at section.offset SetsOverlap) else apart_after bytes (before ++ section ∷ []) rest

-- No two of these sections have a byte in common.
abbrev pub apart_check : List ℕ → List Section → Result (Unit {0}) ElfFault
apart_check bytes sections = apart_after bytes [] sections

-- ---- bytes that are marked

-- whether a byte stands from a place up to an end
abbrev pub stands_between : ℕ → ℕ → ℕ → Bool
stands_between place end at = nat_le place at && nat_lt at end

-- Each byte is marked that was, and each from a place up to an end; and no others.
abbrev pub MarksMore : List Bool → ℕ → ℕ → List Bool → Type 0
MarksMore old place end new = (length new ≡ length old) × ((at : ℕ) → slice_index_or new at false ≡ (slice_index_or old at false || stands_between place end at))

-- Bytes from a place up to an end were marked, where none was before; or one was.
abbrev pub Claims : List Bool → ℕ → ℕ → Bool → List Bool → Type 0
Claims old place end true new = MarksMore old place end new × ((at : ℕ) → place ≤ at → at < end → slice_index_or old at false ≡ false)
Claims old place end false new = (length new ≡ length old) × ((at : ℕ) × (place ≤ at) × (at < end) × (slice_index_or old at false ≡ true))

-- whether a section, which lies in the file, has the byte at a place
abbrev pub has_byte : List ℕ → ℕ → Section → Bool
has_byte bytes at s = lies_in bytes s && stands_between s.offset (end_of s) at

-- The marks are those of the bytes that these sections have.
abbrev pub MarksAre : List ℕ → List Section → List Bool → Type 0
MarksAre bytes before marks = (length marks ≡ length bytes) × ((at : ℕ) → slice_index_or marks at false ≡ list_any (has_byte bytes at) before)

-- The bytes of a section that lies in the file were marked, which shares none with those whose bytes the marks are; or it shares one.
abbrev pub ClaimsSection : List ℕ → Section → List Bool → Bool → List Bool → Type 0
ClaimsSection bytes section old true new = (before : List Section) → MarksAre bytes before old → MarksAre bytes (before ++ section ∷ []) new × (list_any (share_a_byte bytes section) before ≡ false)
ClaimsSection bytes section old false new = (before : List Section) → MarksAre bytes before old → list_any (share_a_byte bytes section) before ≡ true
