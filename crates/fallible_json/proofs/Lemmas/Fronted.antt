-- Texts of which the first bytes of the first are told apart.
use Rattle.std.proofs.Common.{Bool, true, false, ◌≡◌, ◌⊎◌, inl, inr, ℕ, ◌<◌, List, [], ◌∷◌, ◌++◌, length, Option, Some, None, Ok, Err, if◌then◌else◌, arith, refl, sym, ap, subst, ◌∙◌, append_assoc, append-nil}
use Rattle.std.specs.Prelude.{◌≢◌}
use Rattle.fallible_iterator.specs.Lists.{items, numbered}
use Rattle.fallible_json.specs.Grammar.{State, after_token, begin, expected_first_in, is_whole, next_in, step_of, taken, taken_if}
use Rattle.fallible_json.specs.Lexing.{lexed}
use Rattle.fallible_json.specs.Minifying.{bytes_of}
use Rattle.fallible_json.specs.Taking.{◌before◌}
use Rattle.fallible_json.specs.Texts.{Ending, complete, cut, TextResult, Tokens, at_ending, ends_text, is_begin, lines_of, texts_after, texts_from, tokens_by, where_ends, where_stands}
use Rattle.fallible_json.specs.declared.fault.JsonFault.{JsonFault}
use Rattle.fallible_json.specs.declared.grammar.Container.{Container}
use Rattle.fallible_json.specs.declared.grammar.Container.TheVariants.{Array, Object}
use Rattle.fallible_json.specs.declared.grammar.Expects.{Expects}
use Rattle.fallible_json.specs.declared.grammar.Expects.TheVariants.{Value, Separator, AfterValue}
use Rattle.fallible_json.specs.declared.grammar.Step.{Step}
use Rattle.fallible_json.specs.declared.grammar.Step.TheVariants.{Scalar, Opens, Closes, Names, Separates, GoesOn}
use Rattle.fallible_json.specs.declared.token.Token.{Token}
use Rattle.fallible_json.specs.declared.token.Token.TheVariants.{BeginArray, EndArray, BeginObject, EndObject, NameSeparator, ValueSeparator, Number, Literal}
use Rattle.fallible_json.specs.declared.token.Token.TheVariants as token

-- texts, with bytes in front of the first
abbrev pub fronted : List ℕ → List TextResult → List TextResult
fronted sent [] = []
fronted sent (Ok json ∷ l) = Ok (sent ++ json) ∷ l
fronted sent (Err (json, fault) ∷ l) = Err (sent ++ json, fault) ∷ l

-- the same of texts that have no fault
abbrev pub fronted_texts : List ℕ → List (List ℕ) → List (List ℕ)
fronted_texts sent [] = []
fronted_texts sent (json ∷ l) = (sent ++ json) ∷ l

-- bytes that stand in front of no text yet
abbrev pub left_of : List ℕ → List (List ℕ) → List ℕ
left_of sent [] = sent
left_of sent (json ∷ l) = []

pub fronted_nil : (l : List TextResult) → fronted [] l ≡ l
fronted_nil [] = refl
fronted_nil (Ok json ∷ l) = refl
fronted_nil (Err (json, fault) ∷ l) = refl

pub fronted_twice : (a b : List ℕ) (l : List TextResult) → fronted a (fronted b l) ≡ fronted (a ++ b) l
fronted_twice a b [] = refl
fronted_twice a b (Ok json ∷ l) = ap (λ x. Ok x ∷ l) (sym (append_assoc a b json))
fronted_twice a b (Err (json, fault) ∷ l) = ap (λ x. Err (x, fault) ∷ l) (sym (append_assoc a b json))

pub fronted_before : (sent : List ℕ) (texts : List (List ℕ)) (l : List TextResult) → fronted sent (texts before l) ≡ fronted_texts sent texts before fronted (left_of sent texts) l
fronted_before sent [] l = refl
fronted_before sent (json ∷ texts) l = ap (λ x. Ok (sent ++ json) ∷ (texts before x)) (sym (fronted_nil l))

pub before_twice : (a b : List (List ℕ)) (l : List TextResult) → a before (b before l) ≡ (a ++ b) before l
before_twice [] b l = refl
before_twice (x ∷ a) b l = ap (λ y. Ok x ∷ y) (before_twice a b l)

pub length_fronted : (sent : List ℕ) (texts : List (List ℕ)) → length (fronted_texts sent texts) ≡ length texts
length_fronted sent [] = refl
length_fronted sent (json ∷ texts) = refl

pub fronted_lines : (sent : List ℕ) (texts : List (List ℕ)) → lines_of (fronted_texts sent texts) ++ left_of sent texts ≡ sent ++ lines_of texts
fronted_lines sent [] = sym (append-nil sent)
fronted_lines sent (json ∷ texts) = append-nil _ ∙ ap (λ l. l ++ lines_of texts) (append_assoc sent json (10 ∷ [])) ∙ append_assoc sent (json ++ 10 ∷ []) (lines_of texts)

-- ---- the texts of tokens after those of one of which the first bytes are told apart

fronted_if : (c d : Bool) (sent json : List ℕ) (fault : JsonFault) → (if c then [] else if d then Ok (sent ++ json) ∷ [] else Err (sent ++ json, fault) ∷ []) ≡ fronted sent (if c then [] else if d then Ok json ∷ [] else Err (json, fault) ∷ [])
fronted_if true d sent json fault = refl
fronted_if false true sent json fault = refl
fronted_if false false sent json fault = refl

fronted_stands : (o : Option State) (sent : List ℕ) (a b : List TextResult) (f g : State → List TextResult) → a ≡ fronted sent b → ((s : State) → f s ≡ fronted sent (g s)) → where_stands o a f ≡ fronted sent (where_stands o b g)
fronted_stands None sent a b f g p q = p
fronted_stands (Some s) sent a b f g p q = q s

fronted_ends : (c : Bool) (s : State) (sent json more : List ℕ) (tail : State × List ℕ → List TextResult) → tail (s, sent ++ (json ++ more)) ≡ fronted sent (tail (s, json ++ more)) → where_ends c (s, (sent ++ json) ++ more) tail ≡ fronted sent (where_ends c (s, json ++ more) tail)
fronted_ends true s sent json more tail h = ap (λ x. Ok x ∷ tail (begin, [])) (append_assoc sent json more)
fronted_ends false s sent json more tail h = ap (λ x. tail (s, x)) (append_assoc sent json more) ∙ h

module _ (origin : ℕ × ℕ) (text sent : List ℕ) where
  fronted_ending : (ending : Ending) (state : State) (json : List ℕ) → at_ending origin text ending (state, sent ++ json) ≡ fronted sent (at_ending origin text ending (state, json))
  fronted_ending complete state json = fronted_if (is_begin state) (is_whole state) sent json _
  fronted_ending cut state json = refl

  fronted_from : (ending : Ending) (state : State) (json : List ℕ) (l : Tokens) → texts_from origin text ending (state, sent ++ json) l ≡ fronted sent (texts_from origin text ending (state, json) l)
  unfolding texts_from
  fronted_from ending state json [] = fronted_ending ending state json
  fronted_from ending state json (Err e ∷ l) = refl
  fronted_from ending state json (Ok x ∷ l) =
      fronted_stands (after_token state x.2) sent _ _ _ _ refl
      (λ next. fronted_ends (ends_text text next (x.1, x.2)) next sent json (bytes_of text x.0 x.1) (λ c. texts_from origin text ending c l) (fronted_from ending next (json ++ bytes_of text x.0 x.1) l))

  pub fronted_after : (ending : Ending) (state : State) (json : List ℕ) → texts_after ending origin (state, sent ++ json) text ≡ fronted sent (texts_after ending origin (state, json) text)
  fronted_after ending state json = fronted_from ending state json (tokens_by ending text (lexed (numbered 0 (items text))))

-- ---- within an array or an object a text doesn't end as if it were none

-- a container is open, or a value came
abbrev pub IsIn : State → Type 0
IsIn s = (0 < length s.0) ⊎ (s.1 ≡ AfterValue)

in_taken : (containers : List Container) (step : Step) (next : State) → 0 < length containers → taken containers step ≡ Some next → IsIn next
in_taken containers Scalar next some is = let e : (containers, AfterValue) ≡ next = cc in inr (sym (ap (λ (s : State). s.1) e))
in_taken containers (Opens c) next some is = let e : (c ∷ containers, expected_first_in c) ≡ next = cc in inl (subst (λ (s : State). 0 < length s.0) e (omega arith))
in_taken [] (Closes c) next some is = absurd (omega arith)
in_taken (Array ∷ containers) (Closes Array) next some is = let e : (containers, AfterValue) ≡ next = cc in inr (sym (ap (λ (s : State). s.1) e))
in_taken (Array ∷ containers) (Closes Object) next some is = absurd cc
in_taken (Object ∷ containers) (Closes Array) next some is = absurd cc
in_taken (Object ∷ containers) (Closes Object) next some is = let e : (containers, AfterValue) ≡ next = cc in inr (sym (ap (λ (s : State). s.1) e))
in_taken containers Names next some is = let e : (containers, Separator) ≡ next = cc in inl (subst (λ (s : State). 0 < length s.0) e some)
in_taken containers Separates next some is = let e : (containers, Value) ≡ next = cc in inl (subst (λ (s : State). 0 < length s.0) e some)
in_taken [] GoesOn next some is = absurd (omega arith)
in_taken (c ∷ containers) GoesOn next some is = let e : (c ∷ containers, next_in c) ≡ next = cc in inl (subst (λ (s : State). 0 < length s.0) e some)

in_step : (containers : List Container) (o : Option Step) (next : State) → 0 < length containers → taken_if containers o ≡ Some next → IsIn next
in_step containers (Some step) next some is = in_taken containers step next some is
in_step containers None next some is = absurd cc

no_token_after_whole_value : (token : Token) → after_token ([], AfterValue) token ≡ None
no_token_after_whole_value BeginArray = refl
no_token_after_whole_value EndArray = refl
no_token_after_whole_value BeginObject = refl
no_token_after_whole_value EndObject = refl
no_token_after_whole_value NameSeparator = refl
no_token_after_whole_value ValueSeparator = refl
no_token_after_whole_value token.Text = refl
no_token_after_whole_value Number = refl
no_token_after_whole_value Literal = refl

in_after : (containers : List Container) (expects : Expects) (token : Token) (next : State) → IsIn (containers, expects) → after_token (containers, expects) token ≡ Some next → IsIn next
in_after containers expects token next (inl some) is = in_step containers (step_of expects token) next some is
in_after (c ∷ containers) expects token next (inr after) is = in_step (c ∷ containers) (step_of expects token) next (omega arith) is
in_after [] expects token next (inr after) is =
    let none : after_token ([], expects) token ≡ None = subst (λ e. after_token ([], e) token ≡ None) (sym after) (no_token_after_whole_value token) in
    absurd cc

in_begins_not : (containers : List Container) (expects : Expects) → IsIn (containers, expects) → is_begin (containers, expects) ≡ false
in_begins_not (c ∷ containers) expects h = refl
in_begins_not [] expects (inl some) = absurd (omega arith)
in_begins_not [] expects (inr after) = subst (λ e. is_begin ([], e) ≡ false) (sym after) refl

some_at_end : (c d : Bool) (json : List ℕ) (x : TextResult) → c ≡ false → (if c then [] else if d then Ok json ∷ [] else x ∷ []) ≢ []
some_at_end true d json x h e = absurd cc
some_at_end false true json x h e = absurd cc
some_at_end false false json x h e = absurd cc

some_stands : (o : Option State) (x : TextResult) (tail : State → List TextResult) → ((s : State) → o ≡ Some s → tail s ≢ []) → where_stands o (x ∷ []) tail ≢ []
some_stands None x tail q e = absurd cc
some_stands (Some s) x tail q e = q s refl e

some_ends : (c : Bool) (s : State) (json : List ℕ) (tail : State × List ℕ → List TextResult) → tail (s, json) ≢ [] → where_ends c (s, json) tail ≢ []
some_ends true s json tail q e = absurd cc
some_ends false s json tail q e = q e

module _ (origin : ℕ × ℕ) (text : List ℕ) where
  some_from : (state : State) (json : List ℕ) (l : Tokens) → IsIn state → texts_from origin text complete (state, json) l ≢ []
  unfolding texts_from
  some_from state json [] h = some_at_end (is_begin state) (is_whole state) json _ (in_begins_not state.0 state.1 h)
  some_from state json (Err e ∷ l) h = λ is. absurd cc
  some_from state json (Ok x ∷ l) h =
      some_stands (after_token state x.2) _ _
      (λ next is. some_ends (ends_text text next (x.1, x.2)) next (json ++ bytes_of text x.0 x.1) (λ c. texts_from origin text complete c l) (some_from next (json ++ bytes_of text x.0 x.1) l (in_after state.0 state.1 x.2 next h is)))

  pub some_after : (state : State) (json : List ℕ) → IsIn state → texts_after complete origin (state, json) text ≢ []
  some_after state json h = some_from state json (lexed (numbered 0 (items text))) h
