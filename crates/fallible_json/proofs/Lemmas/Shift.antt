-- Bytes that stand after others have the same tokens and the same texts, at places that are as many further on.
use Rattle.std.specs.Prelude.{◌≡◌, ℕ, suc, ◌+◌, ◌-◌, ◌&&◌, nat_le, nat_lt, Bool, true, false, Option, Some, None, Result, Ok, Err, List, [], ◌∷◌, ◌++◌, length, map, take, drop, slice_index}
use Rattle.std.specs.declared.convert.Infallible.{Infallible}
use Rattle.std.proofs.Common.{arith, refl, sym, ap, subst, ◌∙◌, length-append, get_or-append-add}
use Rattle.std.proofs.lemmas.Bool.Decides.{nat_tests}
use lib.Seq.{drop-append-add, take-append-add}
use Rattle.fallible_iterator.specs.Lists.{items, numbered}
use Rattle.fallible_itertools.specs.Lexing.{lexed_by, lexed_from}
use Rattle.fallible_json.specs.Bytes.{is_open, is_word, placed_from}
use Rattle.fallible_json.specs.Faults.{fault_from}
use Rattle.fallible_json.specs.Grammar.{State, after_token, begin}
use Rattle.fallible_json.specs.Json.{fault_place}
use Rattle.fallible_json.specs.Lexing.{Begun, Lexeme, closed, lexed, lexeme_or, token_rules}
use Rattle.fallible_json.specs.Minifying.{bytes_of}
use Rattle.fallible_json.specs.Places.{place_after_bytes}
use Rattle.fallible_json.specs.Texts.{Ending, complete, cut, Tokens, ends_text, is_joined, texts_after, texts_from, tokens_by, where_ends}
use Rattle.fallible_json.specs.Tokens.{after, begun_by, is_blank, token_of}
use Rattle.fallible_json.specs.Wanted.{wanted_in, wanted_of}
use Rattle.fallible_json.specs.declared.lexer.LexFault.{LexFault}
use Rattle.fallible_json.specs.declared.lexer.LexFault.TheVariants.{Source, Unknown, Unfinished}
use Rattle.fallible_json.specs.declared.minifying.Misplaced.TheVariants as misplaced
use Rattle.fallible_json.specs.declared.token.Phase.{Phase}
use Rattle.fallible_json.specs.declared.token.Token.{Token}
use Rattle.fallible_json.specs.declared.wanted.Wanted.{Wanted}
use Rattle.fallible_json.proofs.Lemmas.Lexing.{lexed_begun}
use Rattle.fallible_json.proofs.Lemmas.Place.{place_after_append}

-- ---- numbers

leb_moved : (n a b : ℕ) → nat_le (n + a) (n + b) ≡ nat_le a b
leb_moved n a b = grind (arith, nat_tests)

-- what is compared with the length of the whole
leb_long : (n a b long : ℕ) → long ≡ n + b → nat_le (n + a) long ≡ nat_le a b
leb_long n a b long is = subst (λ k. nat_le (n + a) k ≡ nat_le a b) (sym is) (leb_moved n a b)

long_leb : (n a b long : ℕ) → long ≡ n + b → nat_le long (n + a) ≡ nat_le b a
long_leb n a b long is = subst (λ k. nat_le k (n + a) ≡ nat_le b a) (sym is) (leb_moved n b a)

-- ---- tokens

-- a token so many places further on
abbrev moved : ℕ → Result Lexeme (LexFault Infallible) → Result Lexeme (LexFault Infallible)
moved n (Ok (first, last, token)) = Ok (n + first, n + last, token)
moved n (Err (Source never)) = Err (Source never)
moved n (Err (Unknown place)) = Err (Unknown (n + place))
moved n (Err (Unfinished last wanted)) = Err (Unfinished (n + last) wanted)

abbrev begun_moved : ℕ → Option Begun → Option Begun
begun_moved n (Some (first, last, phase)) = Some (n + first, n + last, phase)
begun_moved n None = None

module _ (n : ℕ) where
  closed_moved_by : (first last : ℕ) (wanted : Wanted) (o : Option Token) → lexeme_or (n + first) (n + last) wanted o ≡ moved n (lexeme_or first last wanted o)
  closed_moved_by first last wanted (Some token) = refl
  closed_moved_by first last wanted None = refl

  closed_moved : (first last : ℕ) (phase : Phase) → closed (n + first) (n + last) phase ≡ moved n (closed first last phase)
  closed_moved first last phase = closed_moved_by first last (wanted_in phase) (token_of phase)

  -- by what a byte begins
  lexed_begun_moved : (begun : Option Phase) (place : ℕ) (tail tail' : Option Begun → Tokens) → ((b : Option Begun) → tail (begun_moved n b) ≡ map (moved n) (tail' b)) → lexed_begun begun (n + place) tail ≡ map (moved n) (lexed_begun begun place tail')
  lexed_begun_moved (Some phase) place tail tail' same = same (Some (place, place, phase))
  lexed_begun_moved None place tail tail' same = ap (λ l. Err (Unknown (n + place)) ∷ l) (same None)

  lexed_from_moved_by : (blank : Bool) (place byte : ℕ) (tail tail' : Option Begun → Tokens) → is_blank byte ≡ blank → ((b : Option Begun) → tail (begun_moved n b) ≡ map (moved n) (tail' b)) → lexed_from token_rules (n + place, byte) tail ≡ map (moved n) (lexed_from token_rules (place, byte) tail')
  lexed_from_moved_by true place byte tail tail' is same = rw is (same None)
  lexed_from_moved_by false place byte tail tail' is same = rw is (lexed_begun_moved (begun_by byte) place tail tail' same)

  -- the tokens after what is begun
  abbrev Moves : List ℕ → Type 0
  Moves bytes = (place : ℕ) (begun : Option Begun) → lexed_by (token_rules {E = Infallible}) (begun_moved n begun) (numbered (n + place) (items bytes)) ≡ map (moved n) (lexed_by token_rules begun (numbered place (items bytes)))

  goes_moved : (o : Option Phase) (first last place byte : ℕ) (phase : Phase) (bytes : List ℕ) → after phase byte ≡ o → Moves bytes → lexed_by (token_rules {E = Infallible}) (Some (n + first, n + last, phase)) (numbered (n + place) (items (byte ∷ bytes))) ≡ map (moved n) (lexed_by token_rules (Some (first, last, phase)) (numbered place (items (byte ∷ bytes))))
  unfolding lexed_by items numbered
  goes_moved (Some next) first last place byte phase bytes is same =
      let one : n + place + 1 ≡ n + (place + 1) = omega arith in
      rw (is, one) (same (place + 1) (Some (first, place, next)))
  goes_moved None first last place byte phase bytes is same =
      let one : n + place + 1 ≡ n + (place + 1) = omega arith in
      rw (is, one) (λ i. closed_moved first last phase i ∷ lexed_from_moved_by (is_blank byte) place byte (λ b. lexed_by token_rules b (numbered (n + (place + 1)) (items bytes))) (λ b. lexed_by token_rules b (numbered (place + 1) (items bytes))) refl (same (place + 1)) i)

  moves : (bytes : List ℕ) → Moves bytes
  unfolding lexed_by items numbered
  moves [] place None = refl
  moves [] place (Some (first, last, phase)) = ap (λ x. x ∷ []) (closed_moved first last phase)
  moves (byte ∷ bytes) place None =
      let one : n + place + 1 ≡ n + (place + 1) = omega arith in
      rw one (lexed_from_moved_by (is_blank byte) place byte (λ b. lexed_by token_rules b (numbered (n + (place + 1)) (items bytes))) (λ b. lexed_by token_rules b (numbered (place + 1) (items bytes))) refl (moves bytes (place + 1)))
  moves (byte ∷ bytes) place (Some (first, last, phase)) = goes_moved (after phase byte) first last place byte phase bytes refl (moves bytes)

lexed_moved : (front back : List ℕ) → lexed {E = Infallible} (placed_from (length front) (front ++ back)) ≡ map (moved (length front)) (lexed (placed_from 0 back))
lexed_moved front back =
    let n = length front in
    let zero : n + 0 ≡ n = omega arith in
    let there : drop n (front ++ back) ≡ back = subst (λ k. drop k (front ++ back) ≡ back) zero (drop-append-add front back 0) in
    ap (λ bs. lexed (numbered n (items bs))) there ∙ subst (λ k. lexed {E = Infallible} (numbered k (items back)) ≡ map (moved n) (lexed (numbered 0 (items back)))) zero (moves n back 0 None)

-- ---- what is made of them

module _ (front back : List ℕ) where
  abbrev n : ℕ
  n = length front

  long : length (front ++ back) ≡ n + length back
  long = length-append front back

  open_moved : (x : Result Lexeme (LexFault Infallible)) → is_open (front ++ back) (moved n x) ≡ is_open back x
  open_moved (Ok (first, last, token)) =
      let on : n + last + 1 ≡ n + (last + 1) = omega arith in
      rw on (ap (λ k. is_word token && k) (long_leb n (last + 1) (length back) (length (front ++ back)) long))
  open_moved (Err (Source never)) = refl
  open_moved (Err (Unknown place)) = refl
  open_moved (Err (Unfinished last wanted)) =
      let on : n + last + 1 ≡ n + (last + 1) = omega arith in
      rw on (long_leb n (last + 1) (length back) (length (front ++ back)) long)

  kept_moved_by : (open_there open_here : Bool) (x : Result Lexeme (LexFault Infallible)) (l : Tokens) → is_open (front ++ back) (moved n x) ≡ open_there → is_open back x ≡ open_here → open_there ≡ open_here → tokens_by cut (front ++ back) (map (moved n) l) ≡ map (moved n) (tokens_by cut back l) → tokens_by cut (front ++ back) (map (moved n) (x ∷ l)) ≡ map (moved n) (tokens_by cut back (x ∷ l))
  kept_moved_by true true x l there here same others = rw (there, here) others
  kept_moved_by false false x l there here same others = rw (there, here) (ap (λ k. moved n x ∷ k) others)
  kept_moved_by true false x l there here same others = absurd cc
  kept_moved_by false true x l there here same others = absurd cc

  tokens_moved : (ending : Ending) (l : Tokens) → tokens_by ending (front ++ back) (map (moved n) l) ≡ map (moved n) (tokens_by ending back l)
  tokens_moved complete l = refl
  tokens_moved cut [] = refl
  tokens_moved cut (x ∷ l) = kept_moved_by (is_open (front ++ back) (moved n x)) (is_open back x) x l refl refl (open_moved x) (tokens_moved cut l)

  byte_moved : (place : ℕ) → slice_index (front ++ back) (n + place) ≡ slice_index back place
  byte_moved place = get_or-append-add front back place 0

  bytes_moved : (first last : ℕ) → bytes_of (front ++ back) (n + first) (n + last) ≡ bytes_of back first last
  bytes_moved first last =
      let order : nat_le (n + first) (n + last) ≡ nat_le first last = leb_moved n first last in
      let on : suc (n + last) ≡ n + suc last = omega arith in
      let short : nat_lt (n + last) (length (front ++ back)) ≡ nat_lt last (length back) = subst (λ k. nat_le k (length (front ++ back)) ≡ nat_lt last (length back)) (sym on) (leb_long n (suc last) (length back) (length (front ++ back)) long) in
      let size : n + last + 1 - (n + first) ≡ last + 1 - first = omega arith in
      rw (order, short, size, drop-append-add front back first) refl

  short_moved : (at : ℕ) → nat_lt (n + at) (length (front ++ back)) ≡ nat_lt at (length back)
  short_moved at =
      let on : suc (n + at) ≡ n + suc at = omega arith in
      subst (λ k. nat_le k (length (front ++ back)) ≡ nat_lt at (length back)) (sym on) (leb_long n (suc at) (length back) (length (front ++ back)) long)

  joined_moved : (last : ℕ) (token : Token) → is_joined (front ++ back) (n + last, token) ≡ is_joined back (last, token)
  joined_moved last token =
      let on : n + last + 1 ≡ n + (last + 1) = omega arith in
      rw (on, short_moved (last + 1), byte_moved (last + 1)) refl

  module _ (origin : ℕ × ℕ) where
    place_moved : (place : ℕ) → place_after_bytes origin (take (n + place) (front ++ back)) ≡ place_after_bytes (place_after_bytes origin front) (take place back)
    place_moved place = ap (place_after_bytes origin) (take-append-add front back place) ∙ place_after_append origin front (take place back)

    fault_moved : (place : ℕ) (wanted : Wanted) → fault_from origin (front ++ back) (n + place) wanted ≡ fault_from (place_after_bytes origin front) back place wanted
    fault_moved place wanted = rw (place_moved place, short_moved place, byte_moved place) refl

    fault_at_moved : (at place : ℕ) (wanted : Wanted) → at ≡ n + place → fault_from origin (front ++ back) at wanted ≡ fault_from (place_after_bytes origin front) back place wanted
    fault_at_moved at place wanted is = rw is (fault_moved place wanted)

    fault_place_moved : (short : Bool) (last : ℕ) (wanted : Wanted) → nat_lt last (length back) ≡ short → fault_place (front ++ back) (misplaced.Source (Unfinished (n + last) wanted)) ≡ n + fault_place back (misplaced.Source (Unfinished last wanted))
    fault_place_moved true last wanted is =
        let on : n + last + 1 ≡ n + (last + 1) = omega arith in
        rw (short_moved last, is) on
    fault_place_moved false last wanted is = rw (short_moved last, is) long

    abbrev Same : Ending → Tokens → Type 0
    Same ending l = (state : State) (json : List ℕ) → texts_from origin (front ++ back) ending (state, json) (map (moved n) l) ≡ texts_from (place_after_bytes origin front) back ending (state, json) l

    ends_moved : (ending : Ending) (ends : Bool) (state : State) (json : List ℕ) (l : Tokens) → Same ending l → where_ends ends (state, json) (λ c. texts_from origin (front ++ back) ending c (map (moved n) l)) ≡ where_ends ends (state, json) (λ c. texts_from (place_after_bytes origin front) back ending c l)
    ends_moved ending true state json l same = ap (λ k. Ok json ∷ k) (same begin [])
    ends_moved ending false state json l same = same state json

    stands_moved : (ending : Ending) (o : Option State) (first last : ℕ) (token : Token) (state : State) (json : List ℕ) (l : Tokens) → after_token state token ≡ o → Same ending l → texts_from origin (front ++ back) ending (state, json) (map (moved n) (Ok (first, last, token) ∷ l)) ≡ texts_from (place_after_bytes origin front) back ending (state, json) (Ok (first, last, token) ∷ l)
    unfolding texts_from
    stands_moved ending (Some next) first last token state json l is same = rw (is, bytes_moved first last, joined_moved last token) (ends_moved ending (ends_text back next (last, token)) next (json ++ bytes_of back first last) l same)
    stands_moved ending None first last token state json l is same = rw (is, fault_moved first (wanted_of state)) refl

    texts_moved : (ending : Ending) (l : Tokens) → Same ending l
    unfolding texts_from
    texts_moved complete [] state json = rw (fault_at_moved (length (front ++ back)) (length back) (wanted_of state) long) refl
    texts_moved cut [] state json = rw (place_after_append origin front back) refl
    texts_moved ending (Err (Source never) ∷ l) state json = elim never [ ]
    texts_moved ending (Err (Unknown place) ∷ l) state json = rw (fault_moved place (wanted_of state)) refl
    texts_moved ending (Err (Unfinished last wanted) ∷ l) state json = rw (fault_at_moved (fault_place (front ++ back) (misplaced.Source (Unfinished (n + last) wanted))) (fault_place back (misplaced.Source (Unfinished last wanted))) wanted (fault_place_moved (nat_lt last (length back)) last wanted refl)) refl
    texts_moved ending (Ok (first, last, token) ∷ l) state json = stands_moved ending (after_token state token) first last token state json l refl (texts_moved ending l)

    -- the texts from a place on are those of the bytes from there
    pub texts_on : (ending : Ending) (b : State × List ℕ) → texts_from origin (front ++ back) ending b (tokens_by ending (front ++ back) (lexed (placed_from (length front) (front ++ back)))) ≡ texts_after ending (place_after_bytes origin front) b back
    texts_on ending (state, json) = ap (λ l. texts_from origin (front ++ back) ending (state, json) (tokens_by ending (front ++ back) l)) (lexed_moved front back) ∙ ap (texts_from origin (front ++ back) ending (state, json)) (tokens_moved ending (lexed (placed_from 0 back))) ∙ texts_moved ending (tokens_by ending back (lexed (placed_from 0 back))) state json
