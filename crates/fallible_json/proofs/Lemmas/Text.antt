-- Each JSON text is written of a tree.
use Rattle.std.proofs.Common.{◌≡◌, ◌⊎◌, inl, inr, true, List, [], ◌∷◌, ◌++◌, Some, option_map, refl, sym, ap, ◌∙◌, append_assoc, append-nil}
use Rattle.fallible_json.specs.Grammar.{after_tokens, is_whole, IsJsonText}
use Rattle.fallible_json.specs.Trees.{Tree, text, number, literal, array, object, Values, no_values, value, Members, no_members, member, written, further_values, further_members}
use Rattle.fallible_json.specs.declared.grammar.Container.{Container}
use Rattle.fallible_json.specs.declared.grammar.Container.TheVariants.{Array, Object}
use Rattle.fallible_json.specs.declared.grammar.Expects.{Expects}
use Rattle.fallible_json.specs.declared.grammar.Expects.TheVariants.{Value, ValueOrEnd, NameOrEnd, Name, Separator, AfterValue}
use Rattle.fallible_json.specs.declared.token.Token.{Token}
use Rattle.fallible_json.specs.declared.token.Token.TheVariants.{BeginArray, EndArray, BeginObject, EndObject, NameSeparator, ValueSeparator, Text, Number, Literal}

-- ---- what tokens are by which a text ends, by what is open

-- after a value: what comes further in each container that is open, and its end
abbrev EndsAll : List Container → List Token → Type 0
EndsAll [] tokens = tokens ≡ []
EndsAll (Array ∷ containers) tokens = (values : Values) × (rest : List Token) × (tokens ≡ further_values values ++ EndArray ∷ rest) × EndsAll containers rest
EndsAll (Object ∷ containers) tokens = (members : Members) × (rest : List Token) × (tokens ≡ further_members members ++ EndObject ∷ rest) × EndsAll containers rest

-- a value in front
abbrev HasValue : List Container → List Token → Type 0
HasValue containers tokens = (tree : Tree) × (rest : List Token) × (tokens ≡ written tree ++ rest) × EndsAll containers rest

-- a colon in front, and a value after it
abbrev HasSeparator : List Container → List Token → Type 0
HasSeparator containers tokens = (rest : List Token) × (tokens ≡ NameSeparator ∷ rest) × HasValue containers rest

-- a name in front, with its value
abbrev HasName : List Container → List Token → Type 0
HasName containers tokens = (rest : List Token) × (tokens ≡ Text ∷ rest) × HasSeparator containers rest

-- the end of an array in front, if that is the innermost
abbrev HasEndOfArray : List Container → List Token → Type 0
HasEndOfArray (Array ∷ containers) tokens = (rest : List Token) × (tokens ≡ EndArray ∷ rest) × EndsAll containers rest
HasEndOfArray containers tokens = ⊥

abbrev HasEndOfObject : List Container → List Token → Type 0
HasEndOfObject (Object ∷ containers) tokens = (rest : List Token) × (tokens ≡ EndObject ∷ rest) × EndsAll containers rest
HasEndOfObject containers tokens = ⊥

-- by what may come next
abbrev Ends : List Container → Expects → List Token → Type 0
Ends containers Value tokens = HasValue containers tokens
Ends containers ValueOrEnd tokens = HasEndOfArray containers tokens ⊎ HasValue containers tokens
Ends containers NameOrEnd tokens = HasEndOfObject containers tokens ⊎ HasName containers tokens
Ends containers Name tokens = HasName containers tokens
Ends containers Separator tokens = HasSeparator containers tokens
Ends containers AfterValue tokens = EndsAll containers tokens

-- the tokens end a text from a state on
abbrev Completes : List Container → Expects → List Token → Type 0
Completes containers expects tokens = option_map is_whole (after_tokens (containers, expects) tokens) ≡ Some true

-- ---- what one token in front makes of it

array_in_front : (containers : List Container) (tokens : List Token) → Ends (Array ∷ containers) ValueOrEnd tokens → HasValue containers (BeginArray ∷ tokens)
unfolding written
array_in_front containers tokens (inl (rest, is, ends)) = (array no_values, rest, ap (λ l. BeginArray ∷ l) is, ends)
array_in_front containers tokens (inr (first, _, is, (others, rest, further, ends))) =
    (array (value first others), rest, ap (λ l. BeginArray ∷ l) (is ∙ ap (λ l. written first ++ l) further ∙ sym (append_assoc (written first) (further_values others) (EndArray ∷ rest)) ∙ sym (append_assoc (written first ++ further_values others) (EndArray ∷ []) rest)), ends)

object_in_front : (containers : List Container) (tokens : List Token) → Ends (Object ∷ containers) NameOrEnd tokens → HasValue containers (BeginObject ∷ tokens)
unfolding written
object_in_front containers tokens (inl (rest, is, ends)) = (object no_members, rest, ap (λ l. BeginObject ∷ l) is, ends)
object_in_front containers tokens (inr (_, name, (_, colon, (first, _, is, (others, rest, further, ends))))) =
    (object (member first others), rest, ap (λ l. BeginObject ∷ l) (name ∙ ap (λ l. Text ∷ l) colon ∙ ap (λ l. Text ∷ NameSeparator ∷ l) (is ∙ ap (λ l. written first ++ l) further ∙ sym (append_assoc (written first) (further_members others) (EndObject ∷ rest)) ∙ sym (append_assoc (written first ++ further_members others) (EndObject ∷ []) rest))), ends)

-- what is known of the tokens after the first
abbrev TailEnds : List Token → Type 0
TailEnds tokens = (containers : List Container) (expects : Expects) → Completes containers expects tokens → Ends containers expects tokens

value_in_front : (containers : List Container) (token : Token) (tokens : List Token) → TailEnds tokens → Completes containers Value (token ∷ tokens) → HasValue containers (token ∷ tokens)
unfolding after_tokens written
value_in_front containers Text tokens ends whole = (text, tokens, refl, ends containers AfterValue whole)
value_in_front containers Number tokens ends whole = (number, tokens, refl, ends containers AfterValue whole)
value_in_front containers Literal tokens ends whole = (literal, tokens, refl, ends containers AfterValue whole)
value_in_front containers BeginArray tokens ends whole = array_in_front containers tokens (ends (Array ∷ containers) ValueOrEnd whole)
value_in_front containers BeginObject tokens ends whole = object_in_front containers tokens (ends (Object ∷ containers) NameOrEnd whole)
value_in_front containers _ tokens ends whole = absurd cc

end_of_array_in_front : (containers : List Container) (tokens : List Token) → TailEnds tokens → Completes containers ValueOrEnd (EndArray ∷ tokens) → HasEndOfArray containers (EndArray ∷ tokens)
unfolding after_tokens
end_of_array_in_front (Array ∷ containers) tokens ends whole = (tokens, refl, ends containers AfterValue whole)
end_of_array_in_front _ tokens ends whole = absurd cc

end_of_object_in_front : (containers : List Container) (tokens : List Token) → TailEnds tokens → Completes containers NameOrEnd (EndObject ∷ tokens) → HasEndOfObject containers (EndObject ∷ tokens)
unfolding after_tokens
end_of_object_in_front (Object ∷ containers) tokens ends whole = (tokens, refl, ends containers AfterValue whole)
end_of_object_in_front _ tokens ends whole = absurd cc

name_in_front : (containers : List Container) (token : Token) (tokens : List Token) → TailEnds tokens → Completes containers Name (token ∷ tokens) → HasName containers (token ∷ tokens)
unfolding after_tokens
name_in_front containers Text tokens ends whole = (tokens, refl, ends containers Separator whole)
name_in_front containers _ tokens ends whole = absurd cc

separator_in_front : (containers : List Container) (token : Token) (tokens : List Token) → TailEnds tokens → Completes containers Separator (token ∷ tokens) → HasSeparator containers (token ∷ tokens)
unfolding after_tokens
separator_in_front containers NameSeparator tokens ends whole = (tokens, refl, ends containers Value whole)
separator_in_front containers _ tokens ends whole = absurd cc

value_further : (containers : List Container) (tokens : List Token) → HasValue (Array ∷ containers) tokens → EndsAll (Array ∷ containers) (ValueSeparator ∷ tokens)
unfolding written
value_further containers tokens (next, _, is, (others, rest, further, ends)) =
    (value next others, rest, ap (λ l. ValueSeparator ∷ l) (is ∙ ap (λ l. written next ++ l) further ∙ sym (append_assoc (written next) (further_values others) (EndArray ∷ rest))), ends)

member_further : (containers : List Container) (tokens : List Token) → HasName (Object ∷ containers) tokens → EndsAll (Object ∷ containers) (ValueSeparator ∷ tokens)
unfolding written
member_further containers tokens (_, name, (_, colon, (next, _, is, (others, rest, further, ends)))) =
    (member next others, rest, ap (λ l. ValueSeparator ∷ l) (name ∙ ap (λ l. Text ∷ l) colon ∙ ap (λ l. Text ∷ NameSeparator ∷ l) (is ∙ ap (λ l. written next ++ l) further ∙ sym (append_assoc (written next) (further_members others) (EndObject ∷ rest)))), ends)

after_value_in_front : (token : Token) (containers : List Container) (tokens : List Token) → TailEnds tokens → Completes containers AfterValue (token ∷ tokens) → EndsAll containers (token ∷ tokens)
unfolding after_tokens written
after_value_in_front ValueSeparator (Array ∷ containers) tokens ends whole = value_further containers tokens (ends (Array ∷ containers) Value whole)
after_value_in_front ValueSeparator (Object ∷ containers) tokens ends whole = member_further containers tokens (ends (Object ∷ containers) Name whole)
after_value_in_front EndArray (Array ∷ containers) tokens ends whole = (no_values, tokens, refl, ends containers AfterValue whole)
after_value_in_front EndObject (Object ∷ containers) tokens ends whole = (no_members, tokens, refl, ends containers AfterValue whole)
after_value_in_front _ _ tokens ends whole = absurd cc

value_or_end_in_front : (containers : List Container) (token : Token) (tokens : List Token) → TailEnds tokens → Completes containers ValueOrEnd (token ∷ tokens) → Ends containers ValueOrEnd (token ∷ tokens)
unfolding after_tokens
value_or_end_in_front containers EndArray tokens ends whole = inl (end_of_array_in_front containers tokens ends whole)
value_or_end_in_front containers token tokens ends whole = inr (value_in_front containers token tokens ends whole)

name_or_end_in_front : (containers : List Container) (token : Token) (tokens : List Token) → TailEnds tokens → Completes containers NameOrEnd (token ∷ tokens) → Ends containers NameOrEnd (token ∷ tokens)
unfolding after_tokens
name_or_end_in_front containers EndObject tokens ends whole = inl (end_of_object_in_front containers tokens ends whole)
name_or_end_in_front containers token tokens ends whole = inr (name_in_front containers token tokens ends whole)

in_front : (containers : List Container) (expects : Expects) (token : Token) (tokens : List Token) → TailEnds tokens → Completes containers expects (token ∷ tokens) → Ends containers expects (token ∷ tokens)
in_front containers Value token tokens ends whole = value_in_front containers token tokens ends whole
in_front containers ValueOrEnd token tokens ends whole = value_or_end_in_front containers token tokens ends whole
in_front containers NameOrEnd token tokens ends whole = name_or_end_in_front containers token tokens ends whole
in_front containers Name token tokens ends whole = name_in_front containers token tokens ends whole
in_front containers Separator token tokens ends whole = separator_in_front containers token tokens ends whole
in_front containers AfterValue token tokens ends whole = after_value_in_front token containers tokens ends whole

-- ---- the text

at_end : (containers : List Container) (expects : Expects) → Completes containers expects [] → Ends containers expects []
unfolding after_tokens
at_end [] AfterValue whole = refl
at_end _ _ whole = absurd cc

completes_ends : (tokens : List Token) → TailEnds tokens
completes_ends [] containers expects whole = at_end containers expects whole
completes_ends (token ∷ tokens) containers expects whole = in_front containers expects token tokens (completes_ends tokens) whole

pub text_is_written : (tokens : List Token) → IsJsonText tokens → (tree : Tree) × (tokens ≡ written tree)
text_is_written tokens whole =
    let ends : HasValue [] tokens = completes_ends tokens [] Value whole in
    (ends.0, ends.2 ∙ ap (λ l. written ends.0 ++ l) ends.3 ∙ append-nil (written ends.0))
