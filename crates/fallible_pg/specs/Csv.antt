-- Fields of CSV, as psql writes them.
use Rattle.std.specs.Prelude.{ℕ, ◌==◌, Bool, false, ◌||◌, if◌then◌else◌, List, [], ◌∷◌, ◌++◌, bytes_eq, codes}

-- whether a field with this byte is quoted: a quote, a comma, or an end of a line
abbrev pub is_special : ℕ → Bool
is_special byte = byte == 34 || byte == 44 || byte == 10 || byte == 13

-- whether a field has such a byte
unfoldable pub has_special : List ℕ → Bool
has_special [] = false
has_special (byte ∷ bytes) = is_special byte || has_special bytes

-- whether a field is quoted: it has such a byte, or is the mark that ends the data of COPY
abbrev pub is_quoted : List ℕ → Bool
is_quoted field = has_special field || bytes_eq field (codes "\\.")

-- a byte within quotes: a quote twice
abbrev pub within_quotes : ℕ → List ℕ
within_quotes byte = if byte == 34 then 34 ∷ 34 ∷ [] else byte ∷ []

-- bytes within quotes
unfoldable pub doubled : List ℕ → List ℕ
doubled [] = []
doubled (byte ∷ bytes) = within_quotes byte ++ doubled bytes

-- the text of a field: itself, or within quotes
abbrev pub csv_text : List ℕ → List ℕ
csv_text field = if is_quoted field then 34 ∷ doubled field ++ 34 ∷ [] else field
