-- Bytes as text in base64, with padding.
use Rattle.std.specs.Prelude.{ℕ, ◌+◌, ◌-◌, ◌*◌, ◌/◌, ◌%◌, ◌==◌, if◌then◌else◌, nat_le, nat_lt, ◌&&◌, List, [], ◌∷◌, ◌++◌}

-- the symbol of a number below 64: A to Z, a to z, 0 to 9, plus and slash
abbrev pub symbol : ℕ → ℕ
symbol n = if nat_lt n 26 then n + 65 else if nat_lt n 52 then n + 71 else if nat_lt n 62 then n - 4 else if n == 62 then 43 else 47

-- the symbols of three bytes
abbrev pub symbols_of : ℕ → ℕ → ℕ → List ℕ
symbols_of a b c = symbol (a / 4) ∷ symbol (a % 4 * 16 + b / 16) ∷ symbol (b % 16 * 4 + c / 64) ∷ symbol (c % 64) ∷ []

-- the symbols of bytes: four of each three, and of one or two at the end with equals signs
unfoldable pub base64 : List ℕ → List ℕ
base64 [] = []
base64 (a ∷ []) = symbol (a / 4) ∷ symbol (a % 4 * 16) ∷ 61 ∷ 61 ∷ []
base64 (a ∷ b ∷ []) = symbol (a / 4) ∷ symbol (a % 4 * 16 + b / 16) ∷ symbol (b % 16 * 4) ∷ 61 ∷ []
base64 (a ∷ b ∷ c ∷ rest) = symbols_of a b c ++ base64 rest

-- ---- what a text may write

-- the number of a symbol; 63 of what is none
abbrev pub number_in : ℕ → ℕ
number_in s = if nat_le 65 s && nat_lt s 91 then s - 65 else if nat_le 97 s && nat_lt s 123 then s - 71 else if nat_le 48 s && nat_lt s 58 then s + 4 else if s == 43 then 62 else 63

-- the bytes that four symbols may stand for: one where two equals signs end them, two where one does
abbrev pub bytes_in : ℕ → ℕ → ℕ → ℕ → List ℕ
bytes_in a b c d =
    let first = number_in a * 4 + number_in b / 16 in
    let second = number_in b % 16 * 16 + number_in c / 4 in
    let third = number_in c % 4 * 64 + number_in d in
    if c == 61 then first ∷ [] else (if d == 61 then first ∷ second ∷ [] else first ∷ second ∷ third ∷ [])

-- the bytes that a text may write in base64
unfoldable pub read_loosely : List ℕ → List ℕ
read_loosely [] = []
read_loosely (a ∷ []) = []
read_loosely (a ∷ b ∷ []) = []
read_loosely (a ∷ b ∷ c ∷ []) = []
read_loosely (a ∷ b ∷ c ∷ d ∷ rest) = bytes_in a b c d ++ read_loosely rest
