-- Strings in bytes.
use Rattle.std.specs.Prelude.{ℕ, ◌==◌, if◌then◌else◌, List, [], ◌∷◌}

-- the bytes before the first one that is a mark
unfoldable pub before : ℕ → List ℕ → List ℕ
before mark [] = []
before mark (b ∷ bs) = if b == mark then [] else b ∷ before mark bs

-- the bytes before the first 0
abbrev pub before_zero : List ℕ → List ℕ
before_zero = before 0
