-- JSON values as trees, and the tokens that are written of them.
use Rattle.std.specs.Prelude.{◌≡◌, List, [], ◌∷◌, ◌++◌, map}
use Rattle.fallible_json.specs.Lexing.{Lexeme}
use Rattle.fallible_json.specs.declared.token.Token.{Token}
use Rattle.fallible_json.specs.declared.token.Token.TheVariants.{BeginArray, EndArray, BeginObject, EndObject, NameSeparator, ValueSeparator, Text, Number, Literal}

mutual
  -- A value is a string, a number, a literal, an array of values or an object of members. It has no more of a scalar and of a name than its token says.
  pub data Tree : Type 0 where
    text : Tree
    number : Tree
    literal : Tree
    array : Values → Tree
    object : Members → Tree

  -- no values, or a value and those after it
  pub data Values : Type 0 where
    no_values : Values
    value : Tree → Values → Values

  -- no members, or one and those after it, of which this has the values
  pub data Members : Type 0 where
    no_members : Members
    member : Tree → Members → Members

unfoldable mutual
  -- the tokens of a value
  pub written : Tree → List Token
  -- A string is a token.
  written text = Text ∷ []
  -- A number is a token.
  written number = Number ∷ []
  -- `true`, `false` and `null` are a token each.
  written literal = Literal ∷ []
  -- An array is an opening bracket, its values and a closing bracket.
  written (array values) = BeginArray ∷ (written_values values ++ EndArray ∷ [])
  -- An object is an opening brace, its members and a closing brace.
  written (object members) = BeginObject ∷ (written_members members ++ EndObject ∷ [])

  -- the tokens of an array's values
  pub written_values : Values → List Token
  -- An array may have none.
  written_values no_values = []
  -- The first value has no comma in front.
  written_values (value first others) = written first ++ further_values others

  -- the tokens of the values after the first
  pub further_values : Values → List Token
  -- None may come further.
  further_values no_values = []
  -- Each further value has a comma in front.
  further_values (value next others) = ValueSeparator ∷ (written next ++ further_values others)

  -- the tokens of an object's members
  pub written_members : Members → List Token
  -- An object may have none.
  written_members no_members = []
  -- A member is a name, which is a string, a colon and a value. The first has no comma in front.
  written_members (member first others) = Text ∷ NameSeparator ∷ (written first ++ further_members others)

  -- the tokens of the members after the first
  pub further_members : Members → List Token
  -- None may come further.
  further_members no_members = []
  -- Each further member has a comma in front.
  further_members (member next others) = ValueSeparator ∷ Text ∷ NameSeparator ∷ (written next ++ further_members others)

-- Tokens with which a tree begins, or which are all of it.
abbrev pub BeginsTree : List Token → Type 0
BeginsTree tokens = (tree : Tree) × (more : List Token) × (tokens ++ more ≡ written tree)

-- placed tokens without their places
abbrev pub tokens_of : List Lexeme → List Token
tokens_of lexemes = map (λ x. x.2) lexemes
