-- Tokens that may stand where they stand begin a tree, and no others do.
use Rattle.std.proofs.Common.{◌≡◌, ◌≢◌, true, List, [], ◌∷◌, ◌++◌, Option, Some, None, option_and_then, option_map, refl, sym, ap, subst, ◌∙◌}
use Rattle.fallible_json.specs.Grammar.{State, after_token, after_tokens, begin, is_whole, IsJsonText}
use Rattle.fallible_json.specs.Trees.{Tree, written, BeginsTree}
use Rattle.fallible_json.specs.declared.grammar.Container.{Container}
use Rattle.fallible_json.specs.declared.grammar.Container.TheVariants.{Array, Object}
use Rattle.fallible_json.specs.declared.grammar.Expects.TheVariants.{Value, ValueOrEnd, NameOrEnd, Name, Separator, AfterValue}
use Rattle.fallible_json.specs.declared.token.Token.{Token}
use Rattle.fallible_json.specs.declared.token.Token.TheVariants.{EndArray, EndObject, NameSeparator, Text, Number}
use Rattle.fallible_json.proofs.Lemmas.Text.{text_is_written}
use Rattle.fallible_json.proofs.Lemmas.Tree.{is_text_written}

-- ---- from each state a text can be ended

-- the ends of what is open
ends_of : List Container → List Token
ends_of [] = []
ends_of (Array ∷ containers) = EndArray ∷ ends_of containers
ends_of (Object ∷ containers) = EndObject ∷ ends_of containers

ends_come_to_whole : (containers : List Container) → after_tokens (containers, AfterValue) (ends_of containers) ≡ Some ([], AfterValue)
unfolding after_tokens ends_of
ends_come_to_whole [] = refl
ends_come_to_whole (Array ∷ containers) = ends_come_to_whole containers
ends_come_to_whole (Object ∷ containers) = ends_come_to_whole containers

ending_of : State → List Token
ending_of (containers, Value) = Number ∷ ends_of containers
ending_of (containers, ValueOrEnd) = Number ∷ ends_of containers
ending_of (containers, NameOrEnd) = Text ∷ NameSeparator ∷ Number ∷ ends_of containers
ending_of (containers, Name) = Text ∷ NameSeparator ∷ Number ∷ ends_of containers
ending_of (containers, Separator) = NameSeparator ∷ Number ∷ ends_of containers
ending_of (containers, AfterValue) = ends_of containers

ending_comes_to_whole : (state : State) → after_tokens state (ending_of state) ≡ Some ([], AfterValue)
unfolding after_tokens ending_of
ending_comes_to_whole (containers, Value) = ends_come_to_whole containers
ending_comes_to_whole (containers, ValueOrEnd) = ends_come_to_whole containers
ending_comes_to_whole (containers, NameOrEnd) = ends_come_to_whole containers
ending_comes_to_whole (containers, Name) = ends_come_to_whole containers
ending_comes_to_whole (containers, Separator) = ends_come_to_whole containers
ending_comes_to_whole (containers, AfterValue) = ends_come_to_whole containers

-- ---- tokens and more

after_first_and_more : (tokens more : List Token) (o : Option State) → ((state : State) → after_tokens state (tokens ++ more) ≡ option_and_then (λ next. after_tokens next more) (after_tokens state tokens)) → option_and_then (λ state. after_tokens state (tokens ++ more)) o ≡ option_and_then (λ next. after_tokens next more) (option_and_then (λ state. after_tokens state tokens) o)
after_first_and_more tokens more (Some state) then = then state
after_first_and_more tokens more None then = refl

pub after_more : (tokens more : List Token) (state : State) → after_tokens state (tokens ++ more) ≡ option_and_then (λ next. after_tokens next more) (after_tokens state tokens)
unfolding after_tokens
after_more [] more state = refl
after_more (token ∷ tokens) more state = after_first_and_more tokens more (after_token state token) (λ next. after_more tokens more next)

pub begins_tree : (tokens : List Token) (state : State) → after_tokens begin tokens ≡ Some state → BeginsTree tokens
begins_tree tokens state alive =
    let more = ending_of state in
    let whole : after_tokens begin (tokens ++ more) ≡ Some ([], AfterValue) = after_more tokens more begin ∙ ap (option_and_then (λ next. after_tokens next more)) alive ∙ ending_comes_to_whole state in
    let tree = text_is_written (tokens ++ more) (ap (option_map is_whole) whole) in
    (tree.0, more, tree.1)

pub begins_no_tree : (tokens : List Token) → after_tokens begin tokens ≡ None → ¬ (BeginsTree tokens)
begins_no_tree tokens dead (tree, more, is) =
    let whole : IsJsonText (tokens ++ more) = subst IsJsonText (sym is) (is_text_written tree) in
    let never : after_tokens begin (tokens ++ more) ≡ None = after_more tokens more begin ∙ ap (option_and_then (λ next. after_tokens next more)) dead in
    absurd (let no : None ≡ Some true = sym (ap (option_map is_whole) never) ∙ whole in cc)

-- and a token that may not stand there
pub begins_no_tree_with : (tokens : List Token) (state : State) (token : Token) → after_tokens begin tokens ≡ Some state → after_token state token ≡ None → ¬ (BeginsTree (tokens ++ token ∷ []))
unfolding after_tokens
begins_no_tree_with tokens state token alive stops = begins_no_tree (tokens ++ token ∷ []) (after_more tokens (token ∷ []) begin ∙ ap (option_and_then (λ next. after_tokens next (token ∷ []))) alive ∙ ap (option_and_then (λ next. after_tokens next [])) stops)

-- tokens that are not yet a text
pub no_tree_yet : (tokens : List Token) (state : State) → after_tokens begin tokens ≡ Some state → is_whole state ≢ true → ¬ ((tree : Tree) × (tokens ≡ written tree))
no_tree_yet tokens state alive open_yet (tree, is) =
    let whole : IsJsonText tokens = subst IsJsonText (sym is) (is_text_written tree) in
    let same : Some (is_whole state) ≡ Some true = sym (ap (option_map is_whole) alive) ∙ whole in
    open_yet cc
