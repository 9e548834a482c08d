-- The texts of an input are what is written of trees, and its fault is that of the tokens after these.
use Rattle.std.specs.Prelude.{◌≡◌, ◌⊎◌, ℕ, zero, suc, ◌≤◌, ◌==◌, if◌then◌else◌, ⊤, Bool, true, false, Option, Some, None, option_and_then, option_map, Result, Ok, Err, List, [], ◌∷◌, ◌++◌, length, map, take}
use Rattle.std.specs.Str.{IsUtf8, is_utf8}
use Rattle.std.specs.Str.Lossy.{utf8_valid_len, valid_len_up_to}
use Rattle.std.specs.declared.convert.Infallible.{Infallible}
use Rattle.std.proofs.Common.{arith, refl, sym, ap, subst, inl, inr, ◌∙◌, append-nil, append_assoc}
use Rattle.std.proofs.Math.Seq.{take-length}
use Rattle.std.proofs.lemmas.Bool.{and_parts}
use Rattle.std.proofs.lemmas.Bool.Decides.{Decides-eqb}
use Rattle.std.proofs.lemmas.List.{map-append}
use Rattle.std.proofs.lemmas.Str.{IsUtf8-from_is_utf8, IsUtf8-nil, utf8_valid_len-IsUtf8}
use Rattle.fallible_iterator.specs.Lists.{items, numbered}
use Rattle.fallible_json.specs.Faults.{fault_from}
use Rattle.fallible_json.specs.Grammar.{IsJsonText, State, after_token, after_tokens, begin, is_whole}
use Rattle.fallible_json.specs.Json.{IsJson, not_text_at, told}
use Rattle.fallible_json.specs.Lexing.{Lexeme, lexed}
use Rattle.fallible_json.specs.Minifying.{bytes_of, bytes_of_all, minified_or_wanted, wanting_from}
use Rattle.fallible_json.specs.Places.{place_after_bytes, place_of}
use Rattle.fallible_json.specs.Taking.{◌before◌}
use Rattle.fallible_json.specs.Texts.{Ending, complete, cut, TextResult, Tokens, at_end, ends_text, is_begin, texts_after, texts_from, texts_of, tokens_by}
use Rattle.fallible_json.specs.Trees.{BeginsTree, Tree, tokens_of, written, text, number, literal, array, object, written_values, written_members}
use Rattle.fallible_json.specs.Wanted.{wanted_of}
use Rattle.fallible_json.specs.WrittenTexts.{BeginWithPart, BeginWithTexts}
use Rattle.fallible_json.specs.declared.fault.JsonFault.{JsonFault}
use Rattle.fallible_json.specs.declared.grammar.Expects.TheVariants.{Value, ValueOrEnd, NameOrEnd, Name, Separator, AfterValue}
use Rattle.fallible_json.specs.declared.lexer.LexFault.{LexFault}
use Rattle.fallible_json.specs.declared.token.Token.{Token}
use Rattle.fallible_json.specs.declared.token.Token.TheVariants.{BeginArray, EndArray, BeginObject, EndObject, NameSeparator, ValueSeparator, Text as string, Number, Literal}
use Rattle.fallible_json.proofs.Lemmas.Beginning.{after_more, begins_tree}
use Rattle.fallible_json.proofs.Lemmas.Json.{tree_of_json}
use Rattle.fallible_json.proofs.Lemmas.Lexeme.{alive_of_text}
use Rattle.fallible_json.proofs.Lemmas.Minifying.{minified_ends, minified_fails, minified_goes_on, minified_stops}
use Rattle.fallible_json.proofs.Lemmas.Taken.{whole_no_begin}
use Rattle.fallible_json.proofs.Lemmas.Text.{text_is_written}
use Rattle.fallible_json.proofs.Lemmas.Tree.{is_text_written}

-- ---- only no tokens lead to the begin

no_last : (xs : List Token) (a : Token) → ¬ ([] ≡ xs ++ a ∷ [])
no_last [] a same = absurd cc
no_last (x ∷ xs) a same = absurd cc

same_last : (xs ys : List Token) (a b : Token) → xs ++ a ∷ [] ≡ ys ++ b ∷ [] → a ≡ b
same_last [] [] a b same = cc
same_last [] (y ∷ ys) a b same = let none : [] ≡ ys ++ b ∷ [] = cc in absurd (no_last ys b none)
same_last (x ∷ xs) [] a b same = let none : [] ≡ xs ++ a ∷ [] = cc in absurd (no_last xs a none)
same_last (x ∷ xs) (y ∷ ys) a b same = let tail : xs ++ a ∷ [] ≡ ys ++ b ∷ [] = cc in same_last xs ys a b tail

none_before : (tokens : List Token) (tree : Tree) → tokens ++ Number ∷ [] ≡ written tree → tokens ≡ []
unfolding written
none_before tokens text same = let never : Number ≡ string = same_last tokens [] Number string same in absurd cc
none_before [] number same = refl
none_before (x ∷ tokens) number same = let none : [] ≡ tokens ++ Number ∷ [] = cc in absurd (no_last tokens Number none)
none_before tokens literal same = let never : Number ≡ Literal = same_last tokens [] Number Literal same in absurd cc
none_before tokens (array values) same = let never : Number ≡ EndArray = same_last tokens (BeginArray ∷ written_values values) Number EndArray same in absurd cc
none_before tokens (object members) same = let never : Number ≡ EndObject = same_last tokens (BeginObject ∷ written_members members) Number EndObject same in absurd cc

is_begin_only : (state : State) → is_begin state ≡ true → state ≡ begin
is_begin_only ([], Value) is = refl
is_begin_only ([], ValueOrEnd) is = absurd cc
is_begin_only ([], NameOrEnd) is = absurd cc
is_begin_only ([], Name) is = absurd cc
is_begin_only ([], Separator) is = absurd cc
is_begin_only ([], AfterValue) is = absurd cc
is_begin_only (container ∷ containers, expects) is = absurd cc

no_lexemes : (lexemes : List Lexeme) → tokens_of lexemes ≡ [] → lexemes ≡ []
no_lexemes [] is = refl
no_lexemes (x ∷ lexemes) is = absurd cc

none_begun : (begun : List Lexeme) (state : State) → after_tokens begin (tokens_of begun) ≡ Some state → is_begin state ≡ true → begun ≡ []
unfolding after_tokens
none_begun begun state alive is =
    let at : after_tokens begin (tokens_of begun) ≡ Some begin = alive ∙ ap (λ s. Some s) (is_begin_only state is) in
    let more : after_tokens begin (tokens_of begun ++ Number ∷ []) ≡ Some ([], AfterValue) = after_more (tokens_of begun) (Number ∷ []) begin ∙ ap (option_and_then (λ s. after_tokens s (Number ∷ []))) at in
    let tree = text_is_written (tokens_of begun ++ Number ∷ []) (ap (option_map is_whole) more) in
    no_lexemes begun (none_before (tokens_of begun) tree.0 tree.1)

-- ---- nothing may come after a whole text

stands_no_more : (state : State) (token : Token) → is_whole state ≡ true → after_token state token ≡ None
stands_no_more ([], AfterValue) BeginArray is = refl
stands_no_more ([], AfterValue) EndArray is = refl
stands_no_more ([], AfterValue) BeginObject is = refl
stands_no_more ([], AfterValue) EndObject is = refl
stands_no_more ([], AfterValue) NameSeparator is = refl
stands_no_more ([], AfterValue) ValueSeparator is = refl
stands_no_more ([], AfterValue) string is = refl
stands_no_more ([], AfterValue) Number is = refl
stands_no_more ([], AfterValue) Literal is = refl
stands_no_more ([], Value) token is = absurd cc
stands_no_more ([], ValueOrEnd) token is = absurd cc
stands_no_more ([], NameOrEnd) token is = absurd cc
stands_no_more ([], Name) token is = absurd cc
stands_no_more ([], Separator) token is = absurd cc
stands_no_more (container ∷ containers, expects) token is = absurd cc

-- ---- one token more

items_more : {E : Type 0} (begun : List Lexeme) (x : Lexeme) (l : List (Result Lexeme E)) → items (begun ++ x ∷ []) ++ l ≡ items begun ++ Ok x ∷ l
unfolding items
items_more [] x l = refl
items_more (y ∷ begun) x l = ap (λ z. Ok y ∷ z) (items_more begun x l)

bytes_more : (bytes : List ℕ) (begun : List Lexeme) (x : Lexeme) → bytes_of_all bytes begun ++ bytes_of bytes x.0 x.1 ≡ bytes_of_all bytes (begun ++ x ∷ [])
unfolding bytes_of_all
bytes_more bytes [] x = sym (append-nil (bytes_of bytes x.0 x.1))
bytes_more bytes (y ∷ begun) x = append_assoc (bytes_of bytes y.0 y.1) (bytes_of_all bytes begun) (bytes_of bytes x.0 x.1) ∙ ap (λ z. bytes_of bytes y.0 y.1 ++ z) (bytes_more bytes begun x)

alive_more : (begun : List Lexeme) (x : Lexeme) (state next : State) → after_tokens begin (tokens_of begun) ≡ Some state → after_token state x.2 ≡ Some next → after_tokens begin (tokens_of (begun ++ x ∷ [])) ≡ Some next
unfolding after_tokens
alive_more begun x state next alive is = ap (after_tokens begin) (map-append (λ (y : Lexeme). y.2) begun (x ∷ [])) ∙ after_more (tokens_of begun) (x.2 ∷ []) begin ∙ ap (option_and_then (λ s. after_tokens s (x.2 ∷ []))) alive ∙ ap (option_and_then (λ s. after_tokens s [])) is

-- ---- what comes to the same as the text of these alone

module _ {E : Type 0} (bytes : List ℕ) (l : List (Result Lexeme E)) where
  through_first : (o : Option State) (x : Lexeme) (xs : List Lexeme) (state last : State) (json : List ℕ) → after_token state x.2 ≡ o → option_and_then (λ s. after_tokens s (tokens_of xs)) o ≡ Some last → ((s : State) (more : List ℕ) → after_tokens s (tokens_of xs) ≡ Some last → wanting_from bytes (s, more) (items xs ++ l) ≡ wanting_from bytes (last, more ++ bytes_of_all bytes xs) l) → wanting_from bytes (state, json) (Ok x ∷ (items xs ++ l)) ≡ wanting_from bytes (last, json ++ bytes_of_all bytes (x ∷ xs)) l
  unfolding bytes_of_all
  through_first (Some next) x xs state last json is goes others = minified_goes_on bytes (state, json) x next (json ++ bytes_of bytes x.0 x.1) is refl (items xs ++ l) ∙ others next (json ++ bytes_of bytes x.0 x.1) goes ∙ ap (λ z. wanting_from bytes (last, z) l) (append_assoc json (bytes_of bytes x.0 x.1) (bytes_of_all bytes xs))
  through_first None x xs state last json is goes others = absurd cc

  wanting_through : (xs : List Lexeme) (state last : State) (json : List ℕ) → after_tokens state (tokens_of xs) ≡ Some last → wanting_from bytes (state, json) (items xs ++ l) ≡ wanting_from bytes (last, json ++ bytes_of_all bytes xs) l
  unfolding after_tokens items bytes_of_all
  wanting_through [] state last json is =
      let same : state ≡ last = cc in
      ap (λ s. wanting_from bytes (s, json) l) same ∙ ap (λ z. wanting_from bytes (last, z) l) (sym (append-nil json))
  wanting_through (x ∷ xs) state last json is = through_first (after_token state x.2) x xs state last json refl is (λ s more goes. wanting_through xs s last more goes)

-- ---- the texts of tokens

-- what could be told of the bytes
abbrev FaultOf : List ℕ → Ending → Tokens → JsonFault → Type 0
FaultOf bytes ending others fault = (told bytes (minified_or_wanted bytes others) ≡ Err fault) ⊎ ((ending ≡ cut) × (fault ≡ not_text_at (place_after_bytes (1, 1) bytes)))

-- a fault after the texts: of what is begun, and of the tokens that are left
record Left (bytes : List ℕ) (ending : Ending) (others : Tokens) (last : List TextResult) : Type 0 where
  begun : List Lexeme
  rest : Tokens
  fault : JsonFault
  are : others ≡ items begun ++ rest
  begins : BeginsTree (tokens_of begun)
  is : last ≡ Err (bytes_of_all bytes begun, fault) ∷ []
  by : FaultOf bytes ending others fault

-- no tokens are left, or a fault
abbrev IsLast : List ℕ → Ending → Tokens → List TextResult → Type 0
IsLast bytes ending others last = ((ending ≡ complete) × (others ≡ []) × (last ≡ [])) ⊎ Left bytes ending others last

-- the texts of tokens, after which others come
record Runs (bytes : List ℕ) (ending : Ending) (l : Tokens) (out : List TextResult) : Type 0 where
  texts : List (List ℕ)
  others : Tokens
  last : List TextResult
  begin_with : BeginWithTexts bytes texts l others
  is : out ≡ texts before last
  by : IsLast bytes ending others last

module _ (bytes : List ℕ) (ending : Ending) where
  -- the texts of tokens after those that are begun
  abbrev From : List Lexeme → State → Tokens → List TextResult
  From begun state l = texts_from (1, 1) bytes ending (state, bytes_of_all bytes begun) l

  -- what tokens come to, whatever is begun before them
  abbrev EachFrom : Tokens → Type 0
  EachFrom l = (begun : List Lexeme) (state : State) → after_tokens begin (tokens_of begun) ≡ Some state → Runs bytes ending (items begun ++ l) (From begun state l)

  told_through : (begun : List Lexeme) (state : State) (l : Tokens) → after_tokens begin (tokens_of begun) ≡ Some state → told bytes (minified_or_wanted bytes (items begun ++ l)) ≡ told bytes (wanting_from bytes (state, bytes_of_all bytes begun) l)
  told_through begun state l alive = ap (told bytes) (wanting_through bytes l begun begin state [] alive)

  runs_left : (begun : List Lexeme) (state : State) (l : Tokens) (fault : JsonFault) (out : List TextResult) → after_tokens begin (tokens_of begun) ≡ Some state → FaultOf bytes ending (items begun ++ l) fault → out ≡ Err (bytes_of_all bytes begun, fault) ∷ [] → Runs bytes ending (items begun ++ l) out
  unfolding BeginWithTexts
  runs_left begun state l fault out alive by is = record {
    texts = [];
    others = items begun ++ l;
    last = out;
    begin_with = refl;
    is = refl;
    by = inr (record { begun = begun; rest = l; fault = fault; are = refl; begins = begins_tree (tokens_of begun) state alive; is = is; by = by });
  }

  -- a text, and those after it
  runs_on : (begun : List Lexeme) (state : State) (l : Tokens) (out : List TextResult) → after_tokens begin (tokens_of begun) ≡ Some state → is_whole state ≡ true → Runs bytes ending l out → Runs bytes ending (items begun ++ l) (Ok (bytes_of_all bytes begun) ∷ out)
  unfolding BeginWithTexts
  runs_on begun state l out alive whole k =
      let tree = text_is_written (tokens_of begun) (ap (option_map is_whole) alive ∙ ap (λ w. Some w) whole) in
      record {
        texts = bytes_of_all bytes begun ∷ k.texts;
        others = k.others;
        last = k.last;
        begin_with = (tree.0, begun, l, refl, tree.1, refl, k.begin_with);
        is = ap (λ z. Ok (bytes_of_all bytes begun) ∷ z) k.is;
        by = k.by;
      }

-- ---- at the end

-- no text, where the bytes end
none_left : (bytes : List ℕ) → Runs bytes complete [] []
unfolding BeginWithTexts
none_left bytes = record { texts = []; others = []; last = []; begin_with = refl; is = refl; by = inl (refl, refl, refl) }

runs_if : (begins whole : Bool) (bytes : List ℕ) (begun : List Lexeme) (state : State) → after_tokens begin (tokens_of begun) ≡ Some state → is_begin state ≡ begins → is_whole state ≡ whole → Runs bytes complete (items begun ++ []) (at_end (1, 1) bytes (state, bytes_of_all bytes begun))
unfolding items
runs_if true whole bytes begun state alive begins is =
    let none : begun ≡ [] = none_begun begun state alive begins in
    rw begins (subst (λ z. Runs bytes complete (items z ++ []) []) (sym none) (none_left bytes))
runs_if false true bytes begun state alive begins is = rw (begins, is) (runs_on bytes complete begun state [] [] alive is (none_left bytes))
runs_if false false bytes begun state alive begins is =
    let fault = fault_from (1, 1) bytes (length bytes) (wanted_of state) in
    let by : told bytes (minified_or_wanted bytes (items begun ++ [])) ≡ Err fault = told_through bytes complete begun state [] alive ∙ ap (told bytes) (sym (minified_ends bytes (state, bytes_of_all bytes begun))) ∙ rw is refl in
    rw (begins, is) (runs_left bytes complete begun state [] fault (Err (bytes_of_all bytes begun, fault) ∷ []) alive (inl by) refl)

at_the_end : (bytes : List ℕ) (ending : Ending) → EachFrom bytes ending []
unfolding texts_from
at_the_end bytes complete begun state alive = runs_if (is_begin state) (is_whole state) bytes begun state alive refl refl
at_the_end bytes cut begun state alive =
    let fault = not_text_at (place_after_bytes (1, 1) bytes) in
    runs_left bytes cut begun state [] fault (Err (bytes_of_all bytes begun, fault) ∷ []) alive (inr (refl, refl)) refl

-- ---- token by token

module _ (bytes : List ℕ) (ending : Ending) where
  after_failure : (e : LexFault Infallible) (l : Tokens) → EachFrom bytes ending (Err e ∷ l)
  unfolding texts_from
  after_failure e l begun state alive = runs_left bytes ending begun state (Err e ∷ l) _ _ alive (inl (told_through bytes ending begun state (Err e ∷ l) alive ∙ ap (told bytes) (sym (minified_fails bytes (state, bytes_of_all bytes begun) e l)))) refl

  -- a token that may stand there ends a text, or goes on with it
  goes_on : (ends : Bool) (x : Lexeme) (l : Tokens) (begun : List Lexeme) (state next : State) → EachFrom bytes ending l → after_tokens begin (tokens_of begun) ≡ Some state → after_token state x.2 ≡ Some next → ends_text bytes next (x.1, x.2) ≡ ends → Runs bytes ending (items begun ++ Ok x ∷ l) (From bytes ending begun state (Ok x ∷ l))
  unfolding texts_from items bytes_of_all after_tokens
  goes_on true x l begun state next others alive is ends =
      let more = begun ++ x ∷ [] in
      let there = alive_more begun x state next alive is in
      let whole : is_whole next ≡ true = (and_parts _ _ ends).0 in
      let k = runs_on bytes ending more next l (From bytes ending [] begin l) there whole (others [] begin refl) in
      rw (is, ends, bytes_more bytes begun x) (subst (λ z. Runs bytes ending z (Ok (bytes_of_all bytes more) ∷ From bytes ending [] begin l)) (items_more begun x l) k)
  goes_on false x l begun state next others alive is ends =
      let more = begun ++ x ∷ [] in
      let k = others more next (alive_more begun x state next alive is) in
      rw (is, ends, bytes_more bytes begun x) (subst (λ z. Runs bytes ending z (From bytes ending more next l)) (items_more begun x l) k)

  by_token : (o : Option State) (x : Lexeme) (l : Tokens) (begun : List Lexeme) (state : State) → EachFrom bytes ending l → after_tokens begin (tokens_of begun) ≡ Some state → after_token state x.2 ≡ o → Runs bytes ending (items begun ++ Ok x ∷ l) (From bytes ending begun state (Ok x ∷ l))
  unfolding texts_from
  by_token (Some next) x l begun state others alive is = goes_on (ends_text bytes next (x.1, x.2)) x l begun state next others alive is refl
  by_token None x l begun state others alive is =
      let fault = fault_from (1, 1) bytes x.0 (wanted_of state) in
      let by : told bytes (minified_or_wanted bytes (items begun ++ Ok x ∷ l)) ≡ Err fault = told_through bytes ending begun state (Ok x ∷ l) alive ∙ ap (told bytes) (sym (minified_stops bytes (state, bytes_of_all bytes begun) x is l)) in
      rw is (runs_left bytes ending begun state (Ok x ∷ l) fault (Err (bytes_of_all bytes begun, fault) ∷ []) alive (inl by) refl)

  each_from : (l : Tokens) → EachFrom bytes ending l
  each_from [] = at_the_end bytes ending
  each_from (Ok x ∷ l) = λ begun state alive. by_token (after_token state x.2) x l begun state (each_from l) alive refl
  each_from (Err e ∷ l) = after_failure e l

  runs : (l : Tokens) → Runs bytes ending l (texts_from (1, 1) bytes ending (begin, []) l)
  unfolding items after_tokens bytes_of_all
  runs l = each_from l [] begin refl

-- ---- the texts of an input

abbrev NoText : List TextResult → Type 0
NoText [] = ⊤
NoText (Ok json ∷ l) = ⊥
NoText (Err e ∷ l) = ⊤

same_texts : (a b : List (List ℕ)) (l m : List TextResult) → NoText l → NoText m → a before l ≡ b before m → (a ≡ b) × (l ≡ m)
same_texts [] [] l m first other same = (refl, same)
same_texts [] (y ∷ b) l m first other same = absurd (subst NoText same first)
same_texts (x ∷ a) [] l m first other same = absurd (subst NoText (sym same) other)
same_texts (x ∷ a) (y ∷ b) l m first other same =
    let head : x ≡ y = cc in
    let tail : a before l ≡ b before m = cc in
    let k = same_texts a b l m first other tail in
    (ap (λ z. z ∷ a) head ∙ ap (λ z. y ∷ z) k.0, k.1)

last_no_text : (bytes : List ℕ) (ending : Ending) (others : Tokens) (last : List TextResult) → IsLast bytes ending others last → NoText last
last_no_text bytes ending others last (inl (_, _, is)) = subst NoText (sym is) tt
last_no_text bytes ending others last (inr k) = subst NoText (sym k.is) tt

none_others : (bytes : List ℕ) (ending : Ending) (others : Tokens) (last : List TextResult) → IsLast bytes ending others last → last ≡ [] → (ending ≡ complete) × (others ≡ [])
none_others bytes ending others last (inl (ends, none, _)) is = (ends, none)
none_others bytes ending others last (inr k) is = let e = k.is in absurd cc

left_of : (bytes json : List ℕ) (fault : JsonFault) (ending : Ending) (others : Tokens) (last : List TextResult) → IsLast bytes ending others last → last ≡ Err (json, fault) ∷ [] → BeginWithPart bytes json others × FaultOf bytes ending others fault
left_of bytes json fault ending others last (inl (_, _, none)) is = absurd cc
left_of bytes json fault ending others last (inr k) is =
    let both : ◌≡◌ {A = List TextResult} (Err (bytes_of_all bytes k.begun, k.fault) ∷ []) (Err (json, fault) ∷ []) = sym k.is ∙ is in
    let same : ◌≡◌ {A = List ℕ × JsonFault} (bytes_of_all bytes k.begun, k.fault) (json, fault) = cc in
    ((k.begun, k.rest, k.are, k.begins, sym (ap (λ p. p.0) same)), subst (FaultOf bytes ending others) (ap (λ p. p.1) same) k.by)

-- what texts and a fault come to, of tokens
faulty_runs : (bytes json : List ℕ) (fault : JsonFault) (ending : Ending) (l : Tokens) (texts : List (List ℕ)) → texts_from (1, 1) bytes ending (begin, []) l ≡ texts before Err (json, fault) ∷ [] → (others : Tokens) × BeginWithTexts bytes texts l others × BeginWithPart bytes json others × FaultOf bytes ending others fault
faulty_runs bytes json fault ending l texts is =
    let k = runs bytes ending l in
    let same = same_texts k.texts texts k.last (Err (json, fault) ∷ []) (last_no_text bytes ending k.others k.last k.by) tt (sym k.is ∙ is) in
    let left = left_of bytes json fault ending k.others k.last k.by same.1 in
    (k.others, subst (λ z. BeginWithTexts bytes z l k.others) same.0 k.begin_with, left.0, left.1)

-- what texts alone come to, of tokens
ended_runs : (bytes : List ℕ) (ending : Ending) (l : Tokens) (texts : List (List ℕ)) → texts_from (1, 1) bytes ending (begin, []) l ≡ map (λ text. Ok text) texts → (ending ≡ complete) × BeginWithTexts bytes texts l []
ended_runs bytes ending l texts is =
    let k = runs bytes ending l in
    let same = same_texts k.texts texts k.last [] (last_no_text bytes ending k.others k.last k.by) tt (sym k.is ∙ is ∙ sym (append-nil (map (λ text. Ok text) texts))) in
    let none = none_others bytes ending k.others k.last k.by same.1 in
    (none.0, subst (λ z. BeginWithTexts bytes z l []) same.0 (subst (λ z. BeginWithTexts bytes k.texts l z) none.1 k.begin_with))

-- ---- UTF-8

least_of : (test : Bool) (n m : ℕ) → m ≤ n → (if test then suc n else m) ≤ suc n
least_of true n m less = omega arith
least_of false n m less = omega arith

valid_up_to : (bytes : List ℕ) (n : ℕ) → valid_len_up_to bytes n ≤ n
valid_up_to bytes zero = omega arith
valid_up_to bytes (suc n) = least_of (is_utf8 (take (suc n) bytes)) n (valid_len_up_to bytes n) (valid_up_to bytes n)

utf8_if : (test : Bool) (bytes : List ℕ) (n : ℕ) → is_utf8 (take (suc n) bytes) ≡ test → (if test then suc n else valid_len_up_to bytes n) ≡ suc n → IsUtf8 (take (suc n) bytes)
utf8_if true bytes n is same = IsUtf8-from_is_utf8 (take (suc n) bytes) is
utf8_if false bytes n is same = absurd (let less = valid_up_to bytes n in let never : suc n ≤ n = omega (arith, less, same) in omega (arith, never))

utf8_front : (bytes : List ℕ) (n : ℕ) → valid_len_up_to bytes n ≡ n → IsUtf8 (take n bytes)
utf8_front bytes zero same = IsUtf8-nil
utf8_front bytes (suc n) same = utf8_if (is_utf8 (take (suc n) bytes)) bytes n refl same

utf8_of_valid : (bytes : List ℕ) → utf8_valid_len bytes ≡ length bytes → IsUtf8 bytes
unfolding utf8_valid_len
utf8_of_valid bytes same = subst IsUtf8 (take-length bytes) (utf8_front bytes (length bytes) same)

-- ---- the laws

pub texts_of_utf8 : (bytes : List ℕ) → IsUtf8 bytes → texts_of bytes ≡ texts_after complete (1, 1) (begin, []) bytes
texts_of_utf8 bytes utf8 =
    let all : (utf8_valid_len bytes == length bytes) ≡ true = (Decides-eqb (utf8_valid_len bytes) (length bytes)).1 (utf8_valid_len-IsUtf8 bytes utf8) in
    rw all refl

broken_if : (test : Bool) (bytes : List ℕ) → (utf8_valid_len bytes == length bytes) ≡ test → ¬ (IsUtf8 bytes) → texts_of bytes ≡ texts_after cut (1, 1) (begin, []) (take (utf8_valid_len bytes) bytes)
broken_if true bytes is broken = absurd (broken (utf8_of_valid bytes ((Decides-eqb (utf8_valid_len bytes) (length bytes)).0 is)))
broken_if false bytes is broken = rw is refl

ended_if : (test : Bool) (bytes : List ℕ) (texts : List (List ℕ)) → (utf8_valid_len bytes == length bytes) ≡ test → texts_of bytes ≡ map (λ text. Ok text) texts → IsUtf8 bytes × BeginWithTexts bytes texts (lexed (numbered 0 (items bytes))) []
ended_if true bytes texts is same =
    let utf8 = utf8_of_valid bytes ((Decides-eqb (utf8_valid_len bytes) (length bytes)).0 is) in
    (utf8, (ended_runs bytes complete (lexed (numbered 0 (items bytes))) texts (sym (texts_of_utf8 bytes utf8) ∙ same)).1)
ended_if false bytes texts is same =
    let front = take (utf8_valid_len bytes) bytes in
    let k = ended_runs front cut (tokens_by cut front (lexed (numbered 0 (items front)))) texts (rw is at same) in
    absurd (let never : cut ≡ complete = k.0 in cc)

pub ended_texts : (bytes : List ℕ) (texts : List (List ℕ)) → texts_of bytes ≡ map (λ text. Ok text) texts → IsUtf8 bytes × BeginWithTexts bytes texts (lexed (numbered 0 (items bytes))) []
ended_texts bytes texts same = ended_if (utf8_valid_len bytes == length bytes) bytes texts refl same

told_of_complete : (bytes : List ℕ) (others : Tokens) (fault : JsonFault) → FaultOf bytes complete others fault → told bytes (minified_or_wanted bytes others) ≡ Err fault
told_of_complete bytes others fault (inl is) = is
told_of_complete bytes others fault (inr (never, _)) = absurd cc

pub faulty_texts : (bytes json : List ℕ) (texts : List (List ℕ)) (fault : JsonFault) → IsUtf8 bytes → texts_of bytes ≡ texts before Err (json, fault) ∷ [] → (others : Tokens) × BeginWithTexts bytes texts (lexed (numbered 0 (items bytes))) others × BeginWithPart bytes json others × (told bytes (minified_or_wanted bytes others) ≡ Err fault)
faulty_texts bytes json texts fault utf8 is =
    let k = faulty_runs bytes json fault complete (lexed (numbered 0 (items bytes))) texts (sym (texts_of_utf8 bytes utf8) ∙ is) in
    (k.0, k.1, k.2, told_of_complete bytes k.0 fault k.3)

told_of_cut : (bytes : List ℕ) (others : Tokens) (fault : JsonFault) → FaultOf bytes cut others fault → (told bytes (minified_or_wanted bytes others) ≡ Err fault) ⊎ (fault ≡ not_text_at (place_after_bytes (1, 1) bytes))
told_of_cut bytes others fault (inl is) = inl is
told_of_cut bytes others fault (inr (_, is)) = inr is

pub broken_texts : (bytes json : List ℕ) (texts : List (List ℕ)) (fault : JsonFault) → ¬ (IsUtf8 bytes) → texts_of bytes ≡ texts before Err (json, fault) ∷ [] → let front = take (utf8_valid_len bytes) bytes in (others : Tokens) × BeginWithTexts front texts (tokens_by cut front (lexed (numbered 0 (items front)))) others × BeginWithPart front json others × ((told front (minified_or_wanted front others) ≡ Err fault) ⊎ (fault ≡ not_text_at (place_of bytes (utf8_valid_len bytes))))
broken_texts bytes json texts fault broken is =
    let front = take (utf8_valid_len bytes) bytes in
    let k = faulty_runs front json fault cut (tokens_by cut front (lexed (numbered 0 (items front)))) texts (sym (broken_if (utf8_valid_len bytes == length bytes) bytes refl broken) ∙ is) in
    (k.0, k.1, k.2, told_of_cut front k.0 fault k.3)

-- ---- one text

module _ (bytes : List ℕ) where
  -- a text whose last token this is, whether another could stand right after it
  one_if : (ends : Bool) (x : Lexeme) (xs : List Lexeme) (state next last : State) (json : List ℕ) → after_token state x.2 ≡ Some next → ends_text bytes next (x.1, x.2) ≡ ends → after_tokens next (tokens_of xs) ≡ Some last → ((more : List ℕ) → texts_from (1, 1) bytes complete (next, more) (items xs) ≡ Ok (more ++ bytes_of_all bytes xs) ∷ []) → texts_from (1, 1) bytes complete (state, json) (Ok x ∷ items xs) ≡ Ok (json ++ bytes_of_all bytes (x ∷ xs)) ∷ []
  unfolding texts_from items after_tokens bytes_of_all
  one_if true x [] state next last json is ends goes others = rw (is, ends) (ap (λ z. Ok (json ++ z) ∷ []) (sym (append-nil (bytes_of bytes x.0 x.1))))
  one_if true x (y ∷ xs) state next last json is ends goes others =
      let none : after_token next y.2 ≡ None = stands_no_more next y.2 (and_parts _ _ ends).0 in
      absurd (let never : option_and_then (λ s. after_tokens s (tokens_of xs)) None ≡ Some last = rw none at goes in cc)
  one_if false x xs state next last json is ends goes others = rw (is, ends) (others (json ++ bytes_of bytes x.0 x.1) ∙ ap (λ z. Ok z ∷ []) (append_assoc json (bytes_of bytes x.0 x.1) (bytes_of_all bytes xs)))

  one_by : (o : Option State) (x : Lexeme) (xs : List Lexeme) (state last : State) (json : List ℕ) → after_token state x.2 ≡ o → option_and_then (λ s. after_tokens s (tokens_of xs)) o ≡ Some last → ((s : State) (more : List ℕ) → after_tokens s (tokens_of xs) ≡ Some last → texts_from (1, 1) bytes complete (s, more) (items xs) ≡ Ok (more ++ bytes_of_all bytes xs) ∷ []) → texts_from (1, 1) bytes complete (state, json) (Ok x ∷ items xs) ≡ Ok (json ++ bytes_of_all bytes (x ∷ xs)) ∷ []
  one_by (Some next) x xs state last json is goes others = one_if (ends_text bytes next (x.1, x.2)) x xs state next last json is refl goes (λ more. others next more goes)
  one_by None x xs state last json is goes others = absurd cc

  one_from : (xs : List Lexeme) (state last : State) (json : List ℕ) → after_tokens state (tokens_of xs) ≡ Some last → is_whole last ≡ true → texts_from (1, 1) bytes complete (state, json) (items xs) ≡ Ok (json ++ bytes_of_all bytes xs) ∷ []
  unfolding texts_from items after_tokens bytes_of_all
  one_from [] state last json is whole =
      let same : state ≡ last = cc in
      let here : is_whole state ≡ true = ap is_whole same ∙ whole in
      rw (whole_no_begin state here, here) (ap (λ z. Ok z ∷ []) (sym (append-nil json)))
  one_from (x ∷ xs) state last json is whole = one_by (after_token state x.2) x xs state last json refl is (λ s more goes. one_from xs s last more goes whole)

pub one_text : (bytes json : List ℕ) → IsJson bytes json → texts_of bytes ≡ Ok json ∷ []
one_text bytes json is =
    let k = tree_of_json bytes json is in
    let state = alive_of_text (tokens_of k.2) (subst IsJsonText (sym k.4) (is_text_written k.1)) in
    texts_of_utf8 bytes k.0 ∙ ap (texts_from (1, 1) bytes complete (begin, [])) k.3 ∙ one_from bytes k.2 begin state.0 [] state.1 state.2 ∙ ap (λ z. Ok z ∷ []) (sym k.5)
