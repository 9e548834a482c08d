-- Words as they are shown.
use Rattle.std.specs.Prelude.{ℕ, ◌==◌, ◌||◌, nat_lt, if◌then◌else◌, Bool, List, [], ◌∷◌}
use Rattle.std.specs.Char.Escape.{escape_ascii}
use Rattle.std.specs.List.{flat_map}

-- whether a byte is a control character of ASCII
abbrev pub is_control : ℕ → Bool
is_control byte = nat_lt byte 32 || byte == 127

-- a byte of a word: itself, and a control character as Rust's `escape_ascii` shows it
abbrev pub shown_byte : ℕ → List ℕ
shown_byte byte = if is_control byte then escape_ascii byte else byte ∷ []

-- a word, in which control characters are escaped
abbrev pub shown : List ℕ → List ℕ
shown word = flat_map shown_byte word
