-- Where a text was put that a buffer or a writer didn't take whole.
use Rattle.std.specs.Prelude.{◌≡◌, ℕ, List, [], ◌++◌, Option, Some}
use Rattle.std.specs.Io.KnownBytes.{Appends}

-- over what says which bytes are held, and what is left where some are refused
module _ {W : Type 0} (written : W → Option (List ℕ)) (refuses : W → List ℕ → W → Type 0) where
  -- The front of a text was put, and the bytes after it were refused.
  pub record StopsWithin (old new : W) (text : List ℕ) : Type 0 where
    pub front : List ℕ
    pub next : List ℕ
    pub rest : List ℕ
    pub parts : text ≡ front ++ (next ++ rest)
    pub at : W
    pub wrote : Appends (written old) (written at) front
    pub refused : refuses at next new

  -- Of a text that was put where nothing was held some bytes were refused.
  abbrev pub LacksRoom : List ℕ → Type 0
  LacksRoom text = (old : W) × (new : W) × (written old ≡ Some []) × StopsWithin old new text
