-- The tokens that bytes are by these rules, at their places.
use Rattle.std.specs.Prelude.{◌≡◌, ℕ, ◌+◌, ⊤, List, [], ◌∷◌, ◌++◌, length, map}
use Rattle.fallible_json.specs.Lexing.{Lexeme}
use Rattle.fallible_json.specs.Minifying.{bytes_of}
use Rattle.fallible_json.specs.Spelling.{IsBlank, IsSpelled, Many}
use Rattle.fallible_json.specs.declared.token.Token.{Token}

-- A token is as long as can be: none begins with its bytes and the one after them.
abbrev pub IsLongest : List ℕ → List ℕ → Type 0
IsLongest spelling [] = ⊤
IsLongest spelling (byte ∷ rest) = (token : Token) (more : List ℕ) → ¬ (IsSpelled token (spelling ++ byte ∷ more))

-- The bytes from a place on are these tokens at their places, with any blanks before, between and after them; and `Ends` holds of the bytes of each and of what comes after.
unfoldable pub SpellEach : (List ℕ → List ℕ → Type 0) → ℕ → List ℕ → List Lexeme → Type 0
SpellEach Ends place bytes [] = Many IsBlank bytes
SpellEach Ends place bytes ((first, last, token) ∷ lexemes) = (blanks spelling rest : List ℕ) × (bytes ≡ blanks ++ (spelling ++ rest)) × Many IsBlank blanks × (first ≡ place + length blanks) × IsSpelled token spelling × (last + 1 ≡ first + length spelling) × Ends spelling rest × SpellEach Ends (last + 1) rest lexemes

-- Bytes are these tokens and blanks.
abbrev pub Spell : List ℕ → List Lexeme → Type 0
Spell bytes lexemes = SpellEach (λ _ _. ⊤) 0 bytes lexemes

-- They are, and each token is as long as can be.
abbrev pub SpellLongest : List ℕ → List Lexeme → Type 0
SpellLongest bytes lexemes = SpellEach IsLongest 0 bytes lexemes

-- tokens of a text, each with its bytes
abbrev pub tokens_with_bytes : List ℕ → List Lexeme → List (Token × List ℕ)
tokens_with_bytes text lexemes = map (λ x. (x.2, bytes_of text x.0 x.1)) lexemes
