-- The line and the column of a byte of a text.
use Rattle.std.specs.Prelude.{ℕ, ◌+◌, ◌==◌, ◌&&◌, nat_le, nat_lt, if◌then◌else◌, Bool, not, List, [], ◌∷◌, count_by, take}

-- whether a byte goes on with a character of UTF-8: whether it is 128 to 191
abbrev pub is_within : ℕ → Bool
is_within byte = nat_le 128 byte && nat_lt byte 192

-- the line and the column of what comes after a byte that has this line and column: after a line feed the next line begins, and each other byte that begins a character is a column
abbrev pub after_byte : ℕ × ℕ → ℕ → ℕ × ℕ
after_byte (line, column) byte = if byte == 10 then (line + 1, 1) else if is_within byte then (line, column) else (line, column + 1)

-- the line and the column of what comes after bytes of which the first has this line and column
unfoldable pub place_after_bytes : ℕ × ℕ → List ℕ → ℕ × ℕ
place_after_bytes place [] = place
place_after_bytes place (byte ∷ bytes) = place_after_bytes (after_byte place byte) bytes

-- how many line feeds there are
abbrev pub lines_in : List ℕ → ℕ
lines_in bytes = count_by (λ byte. byte == 10) bytes

-- how many characters begin
abbrev pub chars_in : List ℕ → ℕ
chars_in bytes = count_by (λ byte. not (is_within byte)) bytes

-- the line and the column of the byte that has so many before it
abbrev pub place_of : List ℕ → ℕ → ℕ × ℕ
place_of text byte = place_after_bytes (1, 1) (take byte text)
