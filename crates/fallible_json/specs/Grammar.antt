-- Which tokens are one JSON text, token by token.
use Rattle.std.specs.Prelude.{◌≡◌, List, [], ◌∷◌, Bool, true, false, Option, Some, None, option_and_then, option_map}
use Rattle.fallible_json.specs.declared.grammar.Container.{Container}
use Rattle.fallible_json.specs.declared.grammar.Container.TheVariants.{Array, Object}
use Rattle.fallible_json.specs.declared.grammar.Expects.{Expects}
use Rattle.fallible_json.specs.declared.grammar.Expects.TheVariants.{Value, ValueOrEnd, NameOrEnd, Name, Separator, AfterValue}
use Rattle.fallible_json.specs.declared.grammar.Step.{Step}
use Rattle.fallible_json.specs.declared.grammar.Step.TheVariants.{Scalar, Opens, Closes, Names, Separates, GoesOn}
use Rattle.fallible_json.specs.declared.token.Token.{Token}
use Rattle.fallible_json.specs.declared.token.Token.TheVariants.{BeginArray, EndArray, BeginObject, EndObject, NameSeparator, ValueSeparator, Text, Number, Literal}

-- A value is a string, a number, a literal, an array or an object.
abbrev pub value_step : Token → Option Step
value_step Text = Some Scalar
value_step Number = Some Scalar
value_step Literal = Some Scalar
value_step BeginArray = Some (Opens Array)
value_step BeginObject = Some (Opens Object)
value_step token = None

-- What a token is where this may come. A value may stand where one is wanted, and first in an array, which may also end there. A string names a member where a name is wanted, and first in an object, which may also end there. A colon comes after a name. After a value comes a comma, or the end of what encloses it.
abbrev pub step_of : Expects → Token → Option Step
step_of Value token = value_step token
step_of ValueOrEnd EndArray = Some (Closes Array)
step_of ValueOrEnd token = value_step token
step_of NameOrEnd EndObject = Some (Closes Object)
step_of NameOrEnd Text = Some Names
step_of NameOrEnd token = None
step_of Name Text = Some Names
step_of Name token = None
step_of Separator NameSeparator = Some Separates
step_of Separator token = None
step_of AfterValue ValueSeparator = Some GoesOn
step_of AfterValue EndArray = Some (Closes Array)
step_of AfterValue EndObject = Some (Closes Object)
step_of AfterValue token = None

-- what may come first in a container: a value or its end, or a name or its end
abbrev pub expected_first_in : Container → Expects
expected_first_in Array = ValueOrEnd
expected_first_in Object = NameOrEnd

-- what may come after a comma in a container: a value, or a name
abbrev pub next_in : Container → Expects
next_in Array = Value
next_in Object = Name

-- the containers that are open, the innermost first, and what may come next
abbrev pub State : Type 0
State = List Container × Expects

-- What a step makes of the containers that are open. A container ends where it is the innermost. A comma stands in a container.
abbrev pub taken : List Container → Step → Option State
taken containers Scalar = Some (containers, AfterValue)
taken containers (Opens container) = Some (container ∷ containers, expected_first_in container)
taken (Array ∷ containers) (Closes Array) = Some (containers, AfterValue)
taken (Object ∷ containers) (Closes Object) = Some (containers, AfterValue)
taken containers (Closes container) = None
taken containers Names = Some (containers, Separator)
taken containers Separates = Some (containers, Value)
taken (container ∷ containers) GoesOn = Some (container ∷ containers, next_in container)
taken [] GoesOn = None

-- what a token makes of the containers that are open, where it is this step
abbrev pub taken_if : List Container → Option Step → Option State
taken_if containers (Some step) = taken containers step
taken_if containers None = None

-- what one token makes of the state, if it may stand there
abbrev pub after_token : State → Token → Option State
after_token (containers, expects) token = taken_if containers (step_of expects token)

-- whether the tokens so far are one JSON text: a value came, and no container is open
abbrev pub is_whole : State → Bool
is_whole ([], AfterValue) = true
is_whole (containers, expects) = false

-- the state before the first token: a value is wanted
abbrev pub begin : State
begin = ([], Value)

-- what tokens make of the state, if each may stand where it stands
unfoldable pub after_tokens : State → List Token → Option State
after_tokens state [] = Some state
after_tokens state (token ∷ tokens) = option_and_then (λ next. after_tokens next tokens) (after_token state token)

-- The tokens are one JSON text: each may stand where it stands, and the text may end after the last.
abbrev pub IsJsonText : List Token → Type 0
IsJsonText tokens = option_map is_whole (after_tokens begin tokens) ≡ Some true
