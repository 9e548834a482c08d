-- Which tokens are those that could come at a fault.
use Rattle.std.specs.Prelude.{◌≡◌, Bool, true, false, List, [], ◌∷◌, ◌++◌}
use Rattle.fallible_json.specs.Trees.{BeginsTree}
use Rattle.fallible_json.specs.declared.token.Token.{Token}
use Rattle.fallible_json.specs.declared.token.Token.TheVariants.{BeginArray, EndArray, BeginObject, EndObject, NameSeparator, ValueSeparator, Text, Number, Literal}
use Rattle.fallible_json.specs.declared.wanted.Wanted.{Wanted}
use Rattle.fallible_json.specs.declared.wanted.Wanted.TheVariants.{Value, ValueOrEnd, Name, NameOrEnd, Colon, CommaOrBracket, CommaOrBrace}

-- whether a value begins with a token
abbrev pub begins_value : Token → Bool
begins_value Text = true
begins_value Number = true
begins_value Literal = true
begins_value BeginArray = true
begins_value BeginObject = true
begins_value token = false

-- whether a token is one of those that could come
abbrev pub is_wanted : Wanted → Token → Bool
is_wanted Value token = begins_value token
is_wanted ValueOrEnd EndArray = true
is_wanted ValueOrEnd token = begins_value token
is_wanted Name Text = true
is_wanted NameOrEnd Text = true
is_wanted NameOrEnd EndObject = true
is_wanted Colon NameSeparator = true
is_wanted CommaOrBracket ValueSeparator = true
is_wanted CommaOrBracket EndArray = true
is_wanted CommaOrBrace ValueSeparator = true
is_wanted CommaOrBrace EndObject = true
is_wanted wanted token = false

-- What could come after tokens are those with which they begin a tree.
abbrev pub GoOnWith : List Token → Wanted → Type 0
GoOnWith tokens wanted = (token : Token) → (is_wanted wanted token ≡ true → BeginsTree (tokens ++ token ∷ [])) × (BeginsTree (tokens ++ token ∷ []) → is_wanted wanted token ≡ true)
