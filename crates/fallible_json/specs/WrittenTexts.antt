-- Which tokens are those of texts, one after the other.
use Rattle.std.specs.Prelude.{◌≡◌, List, [], ◌∷◌, ◌++◌, ℕ}
use Rattle.fallible_iterator.specs.Lists.{items}
use Rattle.fallible_json.specs.Lexing.{Lexeme}
use Rattle.fallible_json.specs.Minifying.{bytes_of_all}
use Rattle.fallible_json.specs.Texts.{Tokens}
use Rattle.fallible_json.specs.Trees.{BeginsTree, Tree, tokens_of, written}

-- The tokens of bytes begin with those of these texts, and then come others: each text is the bytes of its tokens, and these are what is written of a tree.
unfoldable pub BeginWithTexts : List ℕ → List (List ℕ) → Tokens → Tokens → Type 0
BeginWithTexts bytes [] tokens others = tokens ≡ others
BeginWithTexts bytes (text ∷ texts) tokens others = (tree : Tree) × (lexemes : List Lexeme) × (rest : Tokens) × (tokens ≡ items lexemes ++ rest) × (tokens_of lexemes ≡ written tree) × (text ≡ bytes_of_all bytes lexemes) × BeginWithTexts bytes texts rest others

-- The tokens of bytes begin with some that begin a tree, and these are their bytes.
abbrev pub BeginWithPart : List ℕ → List ℕ → Tokens → Type 0
BeginWithPart bytes json tokens = (lexemes : List Lexeme) × (rest : Tokens) × (tokens ≡ items lexemes ++ rest) × BeginsTree (tokens_of lexemes) × (json ≡ bytes_of_all bytes lexemes)
