-- Which token bytes are.
use Rattle.std.specs.Prelude.{ℕ, Option, Some, None, option_and_then, List}
use Rattle.fallible_json.specs.Reading.{read}
use Rattle.fallible_json.specs.Tokens.{token_of}
use Rattle.fallible_json.specs.declared.token.Phase.{Phase}
use Rattle.fallible_json.specs.declared.token.Token.{Token}

-- the token that is begun, if its bytes so far are one
abbrev pub token_begun : Option Phase → Option Token
token_begun None = None
token_begun (Some phase) = token_of phase

-- the token that bytes are, if they are one
abbrev pub token_read : List ℕ → Option Token
token_read bytes = option_and_then token_begun (read None bytes)
