-- What could come where a text has a fault.
use Rattle.std.specs.Prelude.{ℕ, List, [], ◌∷◌, ◌++◌, codes}
use Rattle.fallible_json.specs.Grammar.{State}
use Rattle.fallible_json.specs.declared.grammar.Container.TheVariants.{Array, Object}
use Rattle.fallible_json.specs.declared.grammar.Expects.TheVariants as expects
use Rattle.fallible_json.specs.declared.token.Phase.{Phase}
use Rattle.fallible_json.specs.declared.token.Phase.TheVariants as phase
use Rattle.fallible_json.specs.declared.wanted.Wanted.{Wanted}
use Rattle.fallible_json.specs.declared.wanted.Wanted.TheVariants.{Value, ValueOrEnd, Name, NameOrEnd, Colon, CommaOrBracket, CommaOrBrace, End, Character, Escaped, HexDigit, Digit, SignOrDigit, Letter}

-- which tokens may come in a state: after a value what the innermost container allows, and the end where none is open
abbrev pub wanted_of : State → Wanted
wanted_of (containers, expects.Value) = Value
wanted_of (containers, expects.ValueOrEnd) = ValueOrEnd
wanted_of (containers, expects.NameOrEnd) = NameOrEnd
wanted_of (containers, expects.Name) = Name
wanted_of (containers, expects.Separator) = Colon
wanted_of ([], expects.AfterValue) = End
wanted_of (Array ∷ containers, expects.AfterValue) = CommaOrBracket
wanted_of (Object ∷ containers, expects.AfterValue) = CommaOrBrace

-- which bytes go on with a token that isn't whole
abbrev pub wanted_in : Phase → Wanted
wanted_in phase.Inside = Character
wanted_in phase.Escape = Escaped
wanted_in phase.FourDigits = HexDigit
wanted_in phase.ThreeDigits = HexDigit
wanted_in phase.TwoDigits = HexDigit
wanted_in phase.OneDigit = HexDigit
wanted_in phase.Exponent = SignOrDigit
wanted_in phase.T = Letter 114
wanted_in phase.Tr = Letter 117
wanted_in phase.Tru = Letter 101
wanted_in phase.F = Letter 97
wanted_in phase.Fa = Letter 108
wanted_in phase.Fal = Letter 115
wanted_in phase.Fals = Letter 101
wanted_in phase.N = Letter 117
wanted_in phase.Nu = Letter 108
wanted_in phase.Nul = Letter 108
wanted_in begun = Digit

-- how that is told
abbrev pub wanted_text : Wanted → List ℕ
wanted_text Value = codes ", expected a value"
wanted_text ValueOrEnd = codes ", expected a value or ']'"
wanted_text Name = codes ", expected a name"
wanted_text NameOrEnd = codes ", expected a name or '}'"
wanted_text Colon = codes ", expected ':'"
wanted_text CommaOrBracket = codes ", expected ',' or ']'"
wanted_text CommaOrBrace = codes ", expected ',' or '}'"
wanted_text End = codes ", expected the end"
wanted_text Character = codes ", expected a character or '\"'"
wanted_text Escaped = codes ", expected an escape"
wanted_text HexDigit = codes ", expected a hexadecimal digit"
wanted_text Digit = codes ", expected a digit"
wanted_text SignOrDigit = codes ", expected a sign or a digit"
wanted_text (Letter byte) = codes ", expected '" ++ byte ∷ 39 ∷ []
