-- What the bytes of a token make of it.
use Rattle.std.specs.Prelude.{ℕ, Option, Some, None, option_and_then, List, [], ◌∷◌}
use Rattle.fallible_json.specs.Tokens.{after, begun_by}
use Rattle.fallible_json.specs.declared.token.Phase.{Phase}

-- what a byte makes of what is begun, which is nothing before the first
abbrev pub step : Option Phase → ℕ → Option Phase
step None byte = begun_by byte
step (Some phase) byte = after phase byte

-- what bytes make of it, if each goes on with it
unfoldable pub read : Option Phase → List ℕ → Option (Option Phase)
read begun [] = Some begun
read begun (byte ∷ bytes) = option_and_then (λ phase. read (Some phase) bytes) (step begun byte)
