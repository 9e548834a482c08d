-- What could come at the first fault is what the tokens before it go on with.
use Rattle.std.specs.Prelude.{◌≡◌, ◌⊎◌, ℕ, Bool, true, false, ⊤, Option, Some, None, option_and_then, Result, Ok, Err, List, [], ◌∷◌, ◌++◌}
use Rattle.std.specs.Option.{is_some}
use Rattle.std.proofs.Common.{refl, sym, ap, subst, inl, inr, ◌∙◌, append-nil}
use Rattle.fallible_iterator.specs.Lists.{items}
use Rattle.fallible_json.specs.Grammar.{State, after_token, after_tokens, begin}
use Rattle.fallible_json.specs.Lexing.{Lexeme}
use Rattle.fallible_json.specs.Minifying.{minified, minified_or_wanted, state_at, with_wanted}
use Rattle.fallible_json.specs.Expected.{GoOnWith, is_wanted}
use Rattle.fallible_json.specs.Trees.{BeginsTree, tokens_of}
use Rattle.fallible_json.specs.Wanted.{wanted_of}
use Rattle.fallible_json.specs.declared.grammar.Container.{Container}
use Rattle.fallible_json.specs.declared.grammar.Container.TheVariants.{Array, Object}
use Rattle.fallible_json.specs.declared.grammar.Expects.{Expects}
use Rattle.fallible_json.specs.declared.grammar.Expects.TheVariants.{Value, ValueOrEnd, NameOrEnd, Name, Separator, AfterValue}
use Rattle.fallible_json.specs.declared.minifying.Misplaced.{Misplaced}
use Rattle.fallible_json.specs.declared.token.Token.{Token}
use Rattle.fallible_json.specs.declared.token.Token.TheVariants.{BeginArray, EndArray, BeginObject, EndObject, NameSeparator, ValueSeparator, Text, Number, Literal}
use Rattle.fallible_json.specs.declared.wanted.Wanted.{Wanted}
use Rattle.fallible_json.proofs.Lemmas.Beginning.{after_more, begins_no_tree, begins_no_tree_with, begins_tree}

-- ---- the states that tokens lead to

-- where an end of a container may come first, that is the innermost
abbrev pub IsReachedIn : Expects → List Container → Type 0
IsReachedIn ValueOrEnd (Array ∷ containers) = ⊤
IsReachedIn ValueOrEnd containers = ⊥
IsReachedIn NameOrEnd (Object ∷ containers) = ⊤
IsReachedIn NameOrEnd containers = ⊥
IsReachedIn expects containers = ⊤

abbrev pub IsReached : State → Type 0
IsReached state = IsReachedIn state.1 state.0

reached_if : (state next : State) → ◌≡◌ {A = Option State} (Some state) (Some next) → IsReached state → IsReached next
reached_if state next is here = let same : state ≡ next = cc in subst IsReached same here

reached_after : (expects : Expects) (token : Token) (containers : List Container) (next : State) → after_token (containers, expects) token ≡ Some next → IsReached next
reached_after Value BeginArray containers next is = reached_if (Array ∷ containers, ValueOrEnd) next is tt
reached_after Value EndArray containers next is = absurd cc
reached_after Value BeginObject containers next is = reached_if (Object ∷ containers, NameOrEnd) next is tt
reached_after Value EndObject containers next is = absurd cc
reached_after Value NameSeparator containers next is = absurd cc
reached_after Value ValueSeparator containers next is = absurd cc
reached_after Value Text containers next is = reached_if (containers, AfterValue) next is tt
reached_after Value Number containers next is = reached_if (containers, AfterValue) next is tt
reached_after Value Literal containers next is = reached_if (containers, AfterValue) next is tt
reached_after ValueOrEnd BeginArray containers next is = reached_if (Array ∷ containers, ValueOrEnd) next is tt
reached_after ValueOrEnd EndArray [] next is = absurd cc
reached_after ValueOrEnd EndArray (Array ∷ containers) next is = reached_if (containers, AfterValue) next is tt
reached_after ValueOrEnd EndArray (Object ∷ containers) next is = absurd cc
reached_after ValueOrEnd BeginObject containers next is = reached_if (Object ∷ containers, NameOrEnd) next is tt
reached_after ValueOrEnd EndObject containers next is = absurd cc
reached_after ValueOrEnd NameSeparator containers next is = absurd cc
reached_after ValueOrEnd ValueSeparator containers next is = absurd cc
reached_after ValueOrEnd Text containers next is = reached_if (containers, AfterValue) next is tt
reached_after ValueOrEnd Number containers next is = reached_if (containers, AfterValue) next is tt
reached_after ValueOrEnd Literal containers next is = reached_if (containers, AfterValue) next is tt
reached_after NameOrEnd BeginArray containers next is = absurd cc
reached_after NameOrEnd EndArray containers next is = absurd cc
reached_after NameOrEnd BeginObject containers next is = absurd cc
reached_after NameOrEnd EndObject [] next is = absurd cc
reached_after NameOrEnd EndObject (Object ∷ containers) next is = reached_if (containers, AfterValue) next is tt
reached_after NameOrEnd EndObject (Array ∷ containers) next is = absurd cc
reached_after NameOrEnd NameSeparator containers next is = absurd cc
reached_after NameOrEnd ValueSeparator containers next is = absurd cc
reached_after NameOrEnd Text containers next is = reached_if (containers, Separator) next is tt
reached_after NameOrEnd Number containers next is = absurd cc
reached_after NameOrEnd Literal containers next is = absurd cc
reached_after Name BeginArray containers next is = absurd cc
reached_after Name EndArray containers next is = absurd cc
reached_after Name BeginObject containers next is = absurd cc
reached_after Name EndObject containers next is = absurd cc
reached_after Name NameSeparator containers next is = absurd cc
reached_after Name ValueSeparator containers next is = absurd cc
reached_after Name Text containers next is = reached_if (containers, Separator) next is tt
reached_after Name Number containers next is = absurd cc
reached_after Name Literal containers next is = absurd cc
reached_after Separator BeginArray containers next is = absurd cc
reached_after Separator EndArray containers next is = absurd cc
reached_after Separator BeginObject containers next is = absurd cc
reached_after Separator EndObject containers next is = absurd cc
reached_after Separator NameSeparator containers next is = reached_if (containers, Value) next is tt
reached_after Separator ValueSeparator containers next is = absurd cc
reached_after Separator Text containers next is = absurd cc
reached_after Separator Number containers next is = absurd cc
reached_after Separator Literal containers next is = absurd cc
reached_after AfterValue BeginArray containers next is = absurd cc
reached_after AfterValue EndArray [] next is = absurd cc
reached_after AfterValue EndArray (Array ∷ containers) next is = reached_if (containers, AfterValue) next is tt
reached_after AfterValue EndArray (Object ∷ containers) next is = absurd cc
reached_after AfterValue BeginObject containers next is = absurd cc
reached_after AfterValue EndObject [] next is = absurd cc
reached_after AfterValue EndObject (Object ∷ containers) next is = reached_if (containers, AfterValue) next is tt
reached_after AfterValue EndObject (Array ∷ containers) next is = absurd cc
reached_after AfterValue NameSeparator containers next is = absurd cc
reached_after AfterValue ValueSeparator [] next is = absurd cc
reached_after AfterValue ValueSeparator (Array ∷ containers) next is = reached_if (Array ∷ containers, Value) next is tt
reached_after AfterValue ValueSeparator (Object ∷ containers) next is = reached_if (Object ∷ containers, Name) next is tt
reached_after AfterValue Text containers next is = absurd cc
reached_after AfterValue Number containers next is = absurd cc
reached_after AfterValue Literal containers next is = absurd cc

reached_by : (o : Option State) (token : Token) (tokens : List Token) (state last : State) → after_token state token ≡ o → IsReached state → option_and_then (λ next. after_tokens next tokens) o ≡ Some last → ((next : State) → IsReached next → after_tokens next tokens ≡ Some last → IsReached last) → IsReached last
reached_by (Some next) token tokens (containers, expects) last is here goes others = others next (reached_after expects token containers next is) goes
reached_by None token tokens state last is here goes others = absurd cc

reached : (tokens : List Token) (state last : State) → IsReached state → after_tokens state tokens ≡ Some last → IsReached last
unfolding after_tokens
reached [] state last here is = reached_if state last is here
reached (token ∷ tokens) state last here is = reached_by (after_token state token) token tokens state last refl here is (λ next there goes. reached tokens next last there goes)

-- ---- what may stand there

may_stand : (expects : Expects) (token : Token) (containers : List Container) → IsReached (containers, expects) → is_some (after_token (containers, expects) token) ≡ is_wanted (wanted_of (containers, expects)) token
may_stand Value BeginArray containers here = refl
may_stand Value EndArray containers here = refl
may_stand Value BeginObject containers here = refl
may_stand Value EndObject containers here = refl
may_stand Value NameSeparator containers here = refl
may_stand Value ValueSeparator containers here = refl
may_stand Value Text containers here = refl
may_stand Value Number containers here = refl
may_stand Value Literal containers here = refl
may_stand ValueOrEnd BeginArray [] here = absurd here
may_stand ValueOrEnd BeginArray (Array ∷ containers) here = refl
may_stand ValueOrEnd BeginArray (Object ∷ containers) here = absurd here
may_stand ValueOrEnd EndArray [] here = absurd here
may_stand ValueOrEnd EndArray (Array ∷ containers) here = refl
may_stand ValueOrEnd EndArray (Object ∷ containers) here = absurd here
may_stand ValueOrEnd BeginObject [] here = absurd here
may_stand ValueOrEnd BeginObject (Array ∷ containers) here = refl
may_stand ValueOrEnd BeginObject (Object ∷ containers) here = absurd here
may_stand ValueOrEnd EndObject [] here = absurd here
may_stand ValueOrEnd EndObject (Array ∷ containers) here = refl
may_stand ValueOrEnd EndObject (Object ∷ containers) here = absurd here
may_stand ValueOrEnd NameSeparator [] here = absurd here
may_stand ValueOrEnd NameSeparator (Array ∷ containers) here = refl
may_stand ValueOrEnd NameSeparator (Object ∷ containers) here = absurd here
may_stand ValueOrEnd ValueSeparator [] here = absurd here
may_stand ValueOrEnd ValueSeparator (Array ∷ containers) here = refl
may_stand ValueOrEnd ValueSeparator (Object ∷ containers) here = absurd here
may_stand ValueOrEnd Text [] here = absurd here
may_stand ValueOrEnd Text (Array ∷ containers) here = refl
may_stand ValueOrEnd Text (Object ∷ containers) here = absurd here
may_stand ValueOrEnd Number [] here = absurd here
may_stand ValueOrEnd Number (Array ∷ containers) here = refl
may_stand ValueOrEnd Number (Object ∷ containers) here = absurd here
may_stand ValueOrEnd Literal [] here = absurd here
may_stand ValueOrEnd Literal (Array ∷ containers) here = refl
may_stand ValueOrEnd Literal (Object ∷ containers) here = absurd here
may_stand NameOrEnd BeginArray [] here = absurd here
may_stand NameOrEnd BeginArray (Array ∷ containers) here = absurd here
may_stand NameOrEnd BeginArray (Object ∷ containers) here = refl
may_stand NameOrEnd EndArray [] here = absurd here
may_stand NameOrEnd EndArray (Array ∷ containers) here = absurd here
may_stand NameOrEnd EndArray (Object ∷ containers) here = refl
may_stand NameOrEnd BeginObject [] here = absurd here
may_stand NameOrEnd BeginObject (Array ∷ containers) here = absurd here
may_stand NameOrEnd BeginObject (Object ∷ containers) here = refl
may_stand NameOrEnd EndObject [] here = absurd here
may_stand NameOrEnd EndObject (Array ∷ containers) here = absurd here
may_stand NameOrEnd EndObject (Object ∷ containers) here = refl
may_stand NameOrEnd NameSeparator [] here = absurd here
may_stand NameOrEnd NameSeparator (Array ∷ containers) here = absurd here
may_stand NameOrEnd NameSeparator (Object ∷ containers) here = refl
may_stand NameOrEnd ValueSeparator [] here = absurd here
may_stand NameOrEnd ValueSeparator (Array ∷ containers) here = absurd here
may_stand NameOrEnd ValueSeparator (Object ∷ containers) here = refl
may_stand NameOrEnd Text [] here = absurd here
may_stand NameOrEnd Text (Array ∷ containers) here = absurd here
may_stand NameOrEnd Text (Object ∷ containers) here = refl
may_stand NameOrEnd Number [] here = absurd here
may_stand NameOrEnd Number (Array ∷ containers) here = absurd here
may_stand NameOrEnd Number (Object ∷ containers) here = refl
may_stand NameOrEnd Literal [] here = absurd here
may_stand NameOrEnd Literal (Array ∷ containers) here = absurd here
may_stand NameOrEnd Literal (Object ∷ containers) here = refl
may_stand Name BeginArray containers here = refl
may_stand Name EndArray containers here = refl
may_stand Name BeginObject containers here = refl
may_stand Name EndObject containers here = refl
may_stand Name NameSeparator containers here = refl
may_stand Name ValueSeparator containers here = refl
may_stand Name Text containers here = refl
may_stand Name Number containers here = refl
may_stand Name Literal containers here = refl
may_stand Separator BeginArray containers here = refl
may_stand Separator EndArray containers here = refl
may_stand Separator BeginObject containers here = refl
may_stand Separator EndObject containers here = refl
may_stand Separator NameSeparator containers here = refl
may_stand Separator ValueSeparator containers here = refl
may_stand Separator Text containers here = refl
may_stand Separator Number containers here = refl
may_stand Separator Literal containers here = refl
may_stand AfterValue BeginArray [] here = refl
may_stand AfterValue BeginArray (Array ∷ containers) here = refl
may_stand AfterValue BeginArray (Object ∷ containers) here = refl
may_stand AfterValue EndArray [] here = refl
may_stand AfterValue EndArray (Array ∷ containers) here = refl
may_stand AfterValue EndArray (Object ∷ containers) here = refl
may_stand AfterValue BeginObject [] here = refl
may_stand AfterValue BeginObject (Array ∷ containers) here = refl
may_stand AfterValue BeginObject (Object ∷ containers) here = refl
may_stand AfterValue EndObject [] here = refl
may_stand AfterValue EndObject (Array ∷ containers) here = refl
may_stand AfterValue EndObject (Object ∷ containers) here = refl
may_stand AfterValue NameSeparator [] here = refl
may_stand AfterValue NameSeparator (Array ∷ containers) here = refl
may_stand AfterValue NameSeparator (Object ∷ containers) here = refl
may_stand AfterValue ValueSeparator [] here = refl
may_stand AfterValue ValueSeparator (Array ∷ containers) here = refl
may_stand AfterValue ValueSeparator (Object ∷ containers) here = refl
may_stand AfterValue Text [] here = refl
may_stand AfterValue Text (Array ∷ containers) here = refl
may_stand AfterValue Text (Object ∷ containers) here = refl
may_stand AfterValue Number [] here = refl
may_stand AfterValue Number (Array ∷ containers) here = refl
may_stand AfterValue Number (Object ∷ containers) here = refl
may_stand AfterValue Literal [] here = refl
may_stand AfterValue Literal (Array ∷ containers) here = refl
may_stand AfterValue Literal (Object ∷ containers) here = refl

-- ---- by the tokens before the fault

-- with one token more they begin a tree, or they don't
begins_or_not : (o : Option State) (tokens : List Token) (state : State) (token : Token) → after_tokens begin tokens ≡ Some state → after_token state token ≡ o → ((is_some o ≡ true) × BeginsTree (tokens ++ token ∷ [])) ⊎ ((is_some o ≡ false) × ¬ (BeginsTree (tokens ++ token ∷ [])))
unfolding after_tokens
begins_or_not (Some next) tokens state token alive is = inl (refl, begins_tree (tokens ++ token ∷ []) next (after_more tokens (token ∷ []) begin ∙ ap (option_and_then (λ s. after_tokens s (token ∷ []))) alive ∙ ap (option_and_then (λ s. after_tokens s [])) is))
begins_or_not None tokens state token alive is = inr (refl, begins_no_tree_with tokens state token alive is)

goes_on_if : (wanted : Wanted) (tokens : List Token) (token : Token) (some : Bool) → some ≡ is_wanted wanted token → ((some ≡ true) × BeginsTree (tokens ++ token ∷ [])) ⊎ ((some ≡ false) × ¬ (BeginsTree (tokens ++ token ∷ []))) → (is_wanted wanted token ≡ true → BeginsTree (tokens ++ token ∷ [])) × (BeginsTree (tokens ++ token ∷ []) → is_wanted wanted token ≡ true)
goes_on_if wanted tokens token some same (inl (is, begins)) = (λ w. begins, λ b. sym same ∙ is)
goes_on_if wanted tokens token some same (inr (is, fails)) = (λ w. absurd (let never : true ≡ false = sym w ∙ sym same ∙ is in cc), λ b. absurd (fails b))

pub goes_on_with : (tokens : List Token) (state : State) → after_tokens begin tokens ≡ Some state → GoOnWith tokens (wanted_of state)
goes_on_with tokens (containers, expects) alive token = goes_on_if (wanted_of (containers, expects)) tokens token (is_some (after_token (containers, expects) token)) (may_stand expects token containers (reached tokens begin (containers, expects) tt alive)) (begins_or_not (after_token (containers, expects) token) tokens (containers, expects) token alive refl)

-- ---- the state of a fault

state_first : {E : Type 0} (o : Option State) (x : Lexeme) (xs : List Lexeme) (rest : List (Result Lexeme E)) (state next : State) → after_token state x.2 ≡ o → option_and_then (λ s. after_tokens s (tokens_of xs)) o ≡ Some next → ((s : State) → after_tokens s (tokens_of xs) ≡ Some next → state_at s (items xs ++ rest) ≡ state_at next rest) → state_at state (items (x ∷ xs) ++ rest) ≡ state_at next rest
unfolding state_at items
state_first (Some s) x xs rest state next is goes others = rw is (others s goes)
state_first None x xs rest state next is goes others = absurd cc

state_through : {E : Type 0} (xs : List Lexeme) (rest : List (Result Lexeme E)) (state next : State) → after_tokens state (tokens_of xs) ≡ Some next → state_at state (items xs ++ rest) ≡ state_at next rest
unfolding after_tokens items
state_through [] rest state next is = let same : state ≡ next = cc in ap (λ s. state_at s rest) same
state_through (x ∷ xs) rest state next is = state_first (after_token state x.2) x xs rest state next refl is (λ s goes. state_through xs rest s next goes)

state_at_end : (E : Type 0) (state : State) → state_at {E = E} state [] ≡ state
unfolding state_at
state_at_end E state = refl

state_at_failure : {E : Type 0} (state : State) (e : E) (rest : List (Result Lexeme E)) → state_at state (Err e ∷ rest) ≡ state
unfolding state_at
state_at_failure state e rest = refl

state_at_token : {E : Type 0} (state : State) (x : Lexeme) (rest : List (Result Lexeme E)) → after_token state x.2 ≡ None → state_at state (Ok x ∷ rest) ≡ state
unfolding state_at
state_at_token state x rest is = rw is refl

wanted_told : {E : Type 0} (told wanted : Wanted) (fault : Misplaced E) (r : Result (List ℕ) (Misplaced E)) → with_wanted told r ≡ Err (fault, wanted) → told ≡ wanted
wanted_told told wanted fault (Ok json) is = absurd cc
wanted_told {E = E} told wanted fault (Err f) is =
    let same : ◌≡◌ {A = Misplaced E × Wanted} (f, told) (fault, wanted) = cc in
    ap (λ p. p.1) same

-- the state that tokens which begin a tree lead to
state_of : (o : Option State) (tokens : List Token) → after_tokens begin tokens ≡ o → BeginsTree tokens → (state : State) × (after_tokens begin tokens ≡ Some state)
state_of (Some state) tokens is begins = (state, is)
state_of None tokens is begins = absurd (begins_no_tree tokens is begins)

stands_not : (o : Option State) (tokens : List Token) (state : State) (token : Token) → after_tokens begin tokens ≡ Some state → after_token state token ≡ o → ¬ (BeginsTree (tokens ++ token ∷ [])) → o ≡ None
unfolding after_tokens
stands_not (Some next) tokens state token alive is fails = absurd (fails (begins_tree (tokens ++ token ∷ []) next (after_more tokens (token ∷ []) begin ∙ ap (option_and_then (λ s. after_tokens s (token ∷ []))) alive ∙ ap (option_and_then (λ s. after_tokens s [])) is)))
stands_not None tokens state token alive is fails = refl

wanted_at_state : {E : Type 0} (text : List ℕ) (before : List Lexeme) (rest : List (Result Lexeme E)) (fault : Misplaced E) (wanted : Wanted) (state : State) → minified_or_wanted text (items before ++ rest) ≡ Err (fault, wanted) → after_tokens begin (tokens_of before) ≡ Some state → state_at state rest ≡ state → GoOnWith (tokens_of before) wanted
wanted_at_state text before rest fault wanted state is alive stays =
    let same : wanted_of state ≡ wanted = ap wanted_of (sym (state_through before rest begin state alive ∙ stays)) ∙ wanted_told (wanted_of (state_at begin (items before ++ rest))) wanted fault (minified text (items before ++ rest)) is in
    subst (λ w. GoOnWith (tokens_of before) w) same (goes_on_with (tokens_of before) state alive)

pub wanted_at_end : {E : Type 0} (text : List ℕ) (before : List Lexeme) (fault : Misplaced E) (wanted : Wanted) → minified_or_wanted text (items before) ≡ Err (fault, wanted) → BeginsTree (tokens_of before) → GoOnWith (tokens_of before) wanted
wanted_at_end {E = E} text before fault wanted is begins =
    let k = state_of (after_tokens begin (tokens_of before)) (tokens_of before) refl begins in
    wanted_at_state {E = E} text before [] fault wanted k.0 (ap (minified_or_wanted text) (append-nil (items before)) ∙ is) k.1 (state_at_end E k.0)

pub wanted_at_failure : {E : Type 0} (text : List ℕ) (before : List Lexeme) (e : E) (rest : List (Result Lexeme E)) (fault : Misplaced E) (wanted : Wanted) → minified_or_wanted text (items before ++ Err e ∷ rest) ≡ Err (fault, wanted) → BeginsTree (tokens_of before) → GoOnWith (tokens_of before) wanted
wanted_at_failure text before e rest fault wanted is begins =
    let k = state_of (after_tokens begin (tokens_of before)) (tokens_of before) refl begins in
    wanted_at_state text before (Err e ∷ rest) fault wanted k.0 is k.1 (state_at_failure k.0 e rest)

pub wanted_at_token : {E : Type 0} (text : List ℕ) (before : List Lexeme) (x : Lexeme) (rest : List (Result Lexeme E)) (fault : Misplaced E) (wanted : Wanted) → minified_or_wanted text (items before ++ Ok x ∷ rest) ≡ Err (fault, wanted) → BeginsTree (tokens_of before) → ¬ (BeginsTree (tokens_of before ++ x.2 ∷ [])) → GoOnWith (tokens_of before) wanted
wanted_at_token text before x rest fault wanted is begins fails =
    let k = state_of (after_tokens begin (tokens_of before)) (tokens_of before) refl begins in
    wanted_at_state text before (Ok x ∷ rest) fault wanted k.0 is k.1 (state_at_token k.0 x rest (stands_not (after_token k.0 x.2) (tokens_of before) k.0 x.2 k.1 refl fails))
