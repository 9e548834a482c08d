-- What is written of a tree is one JSON text, and each JSON text is written of a tree.
use Rattle.std.proofs.Common.{◌≡◌, List, [], ◌∷◌, ◌++◌, option_map, refl, sym, ap, ◌∙◌, append_assoc, append-nil}
use Rattle.fallible_json.specs.Grammar.{after_tokens, begin, is_whole, IsJsonText}
use Rattle.fallible_json.specs.Trees.{Tree, text, number, literal, array, object, Values, no_values, value, Members, no_members, member, written, written_values, further_values, written_members, further_members}
use Rattle.fallible_json.specs.declared.grammar.Container.{Container}
use Rattle.fallible_json.specs.declared.grammar.Container.TheVariants.{Array, Object}
use Rattle.fallible_json.specs.declared.grammar.Expects.TheVariants.{Value, ValueOrEnd, NameOrEnd, AfterValue}
use Rattle.fallible_json.specs.declared.token.Token.{Token}
use Rattle.fallible_json.specs.declared.token.Token.TheVariants.{EndArray, EndObject}

-- no value begins with the end of an array
first_is_value : (tree : Tree) (containers : List Container) (rest : List Token) → after_tokens (containers, ValueOrEnd) (written tree ++ rest) ≡ after_tokens (containers, Value) (written tree ++ rest)
unfolding after_tokens written
first_is_value text containers rest = refl
first_is_value number containers rest = refl
first_is_value literal containers rest = refl
first_is_value (array _) containers rest = refl
first_is_value (object _) containers rest = refl

mutual
  unfolding after_tokens written

  -- whatever is containers and whatever follows, a tree is a value
  tree_is_value : (tree : Tree) (containers : List Container) (rest : List Token) → after_tokens (containers, Value) (written tree ++ rest) ≡ after_tokens (containers, AfterValue) rest
  tree_is_value text containers rest = refl
  tree_is_value number containers rest = refl
  tree_is_value literal containers rest = refl
  tree_is_value (array values) containers rest = ap (after_tokens (Array ∷ containers, ValueOrEnd)) (append_assoc (written_values values) (EndArray ∷ []) rest) ∙ values_end values containers rest
  tree_is_value (object members) containers rest = ap (after_tokens (Object ∷ containers, NameOrEnd)) (append_assoc (written_members members) (EndObject ∷ []) rest) ∙ members_end members containers rest

  values_end : (values : Values) (containers : List Container) (rest : List Token) → after_tokens (Array ∷ containers, ValueOrEnd) (written_values values ++ EndArray ∷ rest) ≡ after_tokens (containers, AfterValue) rest
  values_end no_values containers rest = refl
  values_end (value first others) containers rest =
      ap (after_tokens (Array ∷ containers, ValueOrEnd)) (append_assoc (written first) (further_values others) (EndArray ∷ rest))
      ∙ first_is_value first (Array ∷ containers) (further_values others ++ EndArray ∷ rest)
      ∙ tree_is_value first (Array ∷ containers) (further_values others ++ EndArray ∷ rest)
      ∙ further_values_end others containers rest

  further_values_end : (values : Values) (containers : List Container) (rest : List Token) → after_tokens (Array ∷ containers, AfterValue) (further_values values ++ EndArray ∷ rest) ≡ after_tokens (containers, AfterValue) rest
  further_values_end no_values containers rest = refl
  further_values_end (value next others) containers rest =
      ap (after_tokens (Array ∷ containers, Value)) (append_assoc (written next) (further_values others) (EndArray ∷ rest))
      ∙ tree_is_value next (Array ∷ containers) (further_values others ++ EndArray ∷ rest)
      ∙ further_values_end others containers rest

  members_end : (members : Members) (containers : List Container) (rest : List Token) → after_tokens (Object ∷ containers, NameOrEnd) (written_members members ++ EndObject ∷ rest) ≡ after_tokens (containers, AfterValue) rest
  members_end no_members containers rest = refl
  members_end (member first others) containers rest =
      ap (after_tokens (Object ∷ containers, Value)) (append_assoc (written first) (further_members others) (EndObject ∷ rest))
      ∙ tree_is_value first (Object ∷ containers) (further_members others ++ EndObject ∷ rest)
      ∙ further_members_end others containers rest

  further_members_end : (members : Members) (containers : List Container) (rest : List Token) → after_tokens (Object ∷ containers, AfterValue) (further_members members ++ EndObject ∷ rest) ≡ after_tokens (containers, AfterValue) rest
  further_members_end no_members containers rest = refl
  further_members_end (member next others) containers rest =
      ap (after_tokens (Object ∷ containers, Value)) (append_assoc (written next) (further_members others) (EndObject ∷ rest))
      ∙ tree_is_value next (Object ∷ containers) (further_members others ++ EndObject ∷ rest)
      ∙ further_members_end others containers rest

pub is_text_written : (tree : Tree) → IsJsonText (written tree)
unfolding after_tokens
is_text_written tree = ap (λ tokens. option_map is_whole (after_tokens begin tokens)) (sym (append-nil (written tree))) ∙ ap (option_map is_whole) (tree_is_value tree [] [])
