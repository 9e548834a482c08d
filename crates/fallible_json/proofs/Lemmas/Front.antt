-- What stands first at a place of bytes, whatever comes after them.
use Rattle.std.specs.Prelude.{◌≡◌, ℕ, ◌+◌, ◌-◌, ◌<◌, ◌≤◌, ◌&&◌, ◌⊎◌, nat_le, nat_lt, not, Bool, true, false, Some, None, Ok, Err, Result, List, [], ◌∷◌, ◌++◌, length, slice_index}
use Rattle.std.specs.declared.convert.Infallible.{Infallible}
use Rattle.std.proofs.Common.{arith, refl, sym, ap, inl, inr, subst, ◌∙◌, length-append}
use Rattle.std.proofs.Math.Seq.{drop-length}
use Rattle.std.proofs.lemmas.Bool.{le-leb, lt-leb}
use Rattle.std.proofs.lemmas.Bool.Decides.{nat_tests}
use Rattle.fallible_iterator.specs.Lists.{result_answer}
use Rattle.fallible_iterator.specs.Showing.{TakesShown}
use Rattle.fallible_iterator.specs.Traces.{Answered}
use Rattle.fallible_json.specs.Bytes.{IsRunAt, IsSettled, LeavesAt, SameTokens, is_open, is_word, placed_from}
use Rattle.fallible_json.specs.Json.{fault_place}
use Rattle.fallible_json.specs.Lexing.{Lexeme, closed, lexed, lexeme_or}
use Rattle.fallible_json.specs.Taking.{IsFront, tokens_from}
use Rattle.fallible_json.specs.Texts.{Ending, Tokens, complete, cut, ends_word, is_joined, tokens_by}
use Rattle.fallible_json.specs.Tokens.{token_of}
use Rattle.fallible_json.specs.Wanted.{wanted_in}
use Rattle.fallible_json.specs.declared.lexer.LexFault.{LexFault}
use Rattle.fallible_json.specs.declared.lexer.LexFault.TheVariants.{Source, Unknown, Unfinished}
use Rattle.fallible_json.specs.declared.minifying.Misplaced.TheVariants as misplaced
use Rattle.fallible_json.specs.declared.texts.Front.TheVariants.{Faulty, Open}
use Rattle.fallible_json.specs.declared.texts.Front.TheVariants as front
use Rattle.fallible_json.specs.declared.token.Phase.{Phase}
use Rattle.fallible_json.specs.declared.token.Token.{Token}
use Rattle.fallible_json.proofs.Lemmas.Seen.{run_draws, run_from_first, run_is_left, run_leaves, run_settled}
use Rattle.fallible_json.proofs.Lemmas.TextTokens.{byte_in_front, lexed_none, within_front}

-- ---- what is drawn of a list is its first

same_first : (y z : Result Lexeme (LexFault Infallible)) → result_answer y ≡ result_answer z → z ≡ y
same_first (Ok x) (Ok w) is = cc
same_first (Err e) (Err f) is = cc
same_first (Ok x) (Err f) is = absurd cc
same_first (Err e) (Ok w) is = absurd cc

none_first : (y : Result Lexeme (LexFault Infallible)) → result_answer y ≡ Ok None → ⊥
none_first (Ok x) is = cc
none_first (Err e) is = cc

pub shown_first : (l rest : Tokens) (y : Result Lexeme (LexFault Infallible)) → TakesShown l (result_answer y) rest → l ≡ y ∷ rest
shown_first [] rest y h = absurd (none_first y h.0)
shown_first (z ∷ l) rest y h = λ i. same_first y z h.0 i ∷ sym h.1 i

pub shown_none : (l rest : Tokens) → TakesShown l (Ok None) rest → l ≡ []
shown_none [] rest h = refl
shown_none (z ∷ l) rest h = absurd (none_first z (sym h.0))

-- ---- what no byte after them changes

and_false : (a : Bool) → (a && false) ≡ false
and_false true = refl
and_false false = refl

open_on_word : (word : Bool) (long longer at : ℕ) → long ≤ longer → (word && nat_le long at) ≡ false → (word && nat_le longer at) ≡ false
open_on_word false long longer at more closed = refl
open_on_word true long longer at more closed = grind (arith, nat_tests)

-- what isn't open at the end of bytes isn't open further on
pub open_on : (bytes rest : List ℕ) (x : Result Lexeme (LexFault Infallible)) → is_open bytes x ≡ false → is_open (bytes ++ rest) x ≡ false
open_on bytes rest (Ok (first, last, token)) closed = open_on_word (is_word token) (length bytes) (length (bytes ++ rest)) (last + 1) (omega (arith, length-append bytes rest)) closed
open_on bytes rest (Err (Source never)) closed = refl
open_on bytes rest (Err (Unknown place)) closed = refl
open_on bytes rest (Err (Unfinished last wanted)) closed = open_on_word true (length bytes) (length (bytes ++ rest)) (last + 1) (omega (arith, length-append bytes rest)) closed

joined_on_word : (word : Bool) (bytes rest : List ℕ) (at : ℕ) → (word && nat_le (length bytes) at) ≡ false → (word && nat_lt at (length (bytes ++ rest)) && not (ends_word (slice_index (bytes ++ rest) at))) ≡ (word && nat_lt at (length bytes) && not (ends_word (slice_index bytes at)))
joined_on_word false bytes rest at closed = refl
joined_on_word true bytes rest at closed =
    let within : at < length bytes = grind (arith, nat_tests) in
    let here : nat_lt at (length bytes) ≡ true = grind (arith, nat_tests) in
    let beyond : at < length (bytes ++ rest) = within_front bytes rest at within in
    let there : nat_lt at (length (bytes ++ rest)) ≡ true = grind (arith, nat_tests) in
    rw (here, there, byte_in_front bytes rest at within) refl

pub is_joined_with_more_bytes : (bytes rest : List ℕ) (first last : ℕ) (token : Token) → is_open bytes (Ok (first, last, token)) ≡ false → is_joined (bytes ++ rest) (last, token) ≡ is_joined bytes (last, token)
is_joined_with_more_bytes bytes rest first last token closed = joined_on_word (is_word token) bytes rest (last + 1) closed

-- ---- the tokens by how the bytes end

pub kept_first : (ending : Ending) (text : List ℕ) (x : Result Lexeme (LexFault Infallible)) (l : Tokens) → is_open text x ≡ false → tokens_by ending text (x ∷ l) ≡ x ∷ tokens_by ending text l
kept_first complete text x l closed = refl
kept_first cut text x l closed = rw closed refl

-- one that is open is the last, and is not kept
none_kept : (bytes : List ℕ) (x : Result Lexeme (LexFault Infallible)) (l : Tokens) → is_open bytes x ≡ true → l ≡ [] → tokens_by cut bytes (x ∷ l) ≡ []
none_kept bytes x l is none = rw (is, none) refl

-- ---- what stands first

pub front_token : (bytes : List ℕ) (place first last end : ℕ) (token : Token) → is_open bytes (Ok (first, last, token)) ≡ false → LeavesAt bytes place (Ok (Some (first, last, token))) end → ((rest : List ℕ) → TakesShown (lexed {E = Infallible} (placed_from place (bytes ++ rest))) (Ok (Some (first, last, token))) (lexed (placed_from end (bytes ++ rest)))) → IsFront bytes place (front.Token first last token end)
front_token bytes place first last end token closed leaves takes =
    let same = leaves.2 in
    let short = leaves.1 in
    let begins = leaves.3 in (
      leaves.0,
      leaves.1,
      omega (arith, begins, short),
      omega (arith, same, short),
      λ rest ending. (
        is_joined_with_more_bytes bytes rest first last token closed,
        ap (tokens_by ending (bytes ++ rest)) (shown_first _ _ (Ok (first, last, token)) (takes rest)) ∙ kept_first ending (bytes ++ rest) (Ok (first, last, token)) (lexed (placed_from end (bytes ++ rest))) (open_on bytes rest (Ok (first, last, token)) closed),
      ),
    )

-- a fault is told within the bytes
told_within : (bytes : List ℕ) (place end : ℕ) (fault : LexFault Infallible) → is_open bytes (Err fault) ≡ false → LeavesAt bytes place (Err fault) end → fault_place bytes (misplaced.Source fault) < length bytes
told_within bytes place end (Source never) closed leaves = elim never [ ]
told_within bytes place end (Unknown first) closed leaves = leaves.1
told_within bytes place end (Unfinished last wanted) closed leaves =
    let same = leaves.2 in
    let short = leaves.1 in
    let within : last + 1 < length bytes = grind (arith, nat_tests) in
    let is : nat_lt last (length bytes) ≡ true = grind (arith, nat_tests) in
    rw is within

pub front_faulty : (bytes : List ℕ) (place end : ℕ) (fault : LexFault Infallible) → is_open bytes (Err fault) ≡ false → LeavesAt bytes place (Err fault) end → ((rest : List ℕ) → TakesShown (lexed {E = Infallible} (placed_from place (bytes ++ rest))) (Err fault) (lexed (placed_from end (bytes ++ rest)))) → IsFront bytes place (Faulty fault)
front_faulty bytes place end fault closed leaves takes = (
  told_within bytes place end fault closed leaves,
  λ rest ending. (
    tokens_from ending end (bytes ++ rest),
    ap (tokens_by ending (bytes ++ rest)) (shown_first _ _ (Err fault) (takes rest)) ∙ kept_first ending (bytes ++ rest) (Err fault) (lexed (placed_from end (bytes ++ rest))) (open_on bytes rest (Err fault) closed),
  ),
)

-- where nothing but blanks is left
pub front_blank : (bytes : List ℕ) (place : ℕ) → place ≤ length bytes → SameTokens bytes place (length bytes) → IsFront bytes place (Open (length bytes) None)
front_blank bytes place within same = (
  within,
  omega arith,
  ap (tokens_by cut bytes) (lexed_none bytes (length bytes) (omega arith)),
  drop-length bytes,
  λ rest ending. ap (tokens_by ending (bytes ++ rest)) (same rest),
)

open_none : (bytes : List ℕ) (first end : ℕ) (x : Result Lexeme (LexFault Infallible)) → is_open bytes x ≡ true → length bytes ≤ end → TakesShown (lexed (placed_from first bytes)) (result_answer x) (lexed (placed_from end bytes)) → tokens_from cut first bytes ≡ []
open_none bytes first end x is past takes = ap (tokens_by cut bytes) (shown_first _ _ x takes) ∙ none_kept bytes x (lexed (placed_from end bytes)) is (lexed_none bytes end past)

-- where a token is open
pub front_open : (bytes : List ℕ) (place first end : ℕ) (phase : Phase) → IsRunAt bytes place first end phase → length bytes ≤ end → is_open bytes (closed first (end - 1) phase) ≡ true → IsFront bytes place (Open first (Some (end - first, phase)))
front_open bytes place first end phase h past is =
    let some = h.within.0 in
    let within = h.within.1 in (
      h.later,
      omega (arith, some, within),
      open_none bytes first end (closed first (end - 1) phase) is past (run_draws (run_from_first h)),
      run_is_left h past,
      λ rest ending. ap (tokens_by ending (bytes ++ rest)) (h.same rest),
    )

-- ---- by what is drawn, of a fault

pub front_of_fault : (bytes : List ℕ) (place end : ℕ) (r : Answered Lexeme (LexFault Infallible)) (fault : LexFault Infallible) → r ≡ Err fault → is_open bytes (Err fault) ≡ false → LeavesAt bytes place r end → ((rest : List ℕ) → IsSettled bytes r → TakesShown (lexed (placed_from place (bytes ++ rest))) r (lexed (placed_from end (bytes ++ rest)))) → IsFront bytes place (Faulty fault)
front_of_fault bytes place end r fault is closed leaves takes = front_faulty bytes place end fault closed (subst (λ k. LeavesAt bytes place k end) is leaves) (λ rest. subst (λ k. TakesShown (lexed (placed_from place (bytes ++ rest))) k (lexed (placed_from end (bytes ++ rest)))) is (takes rest (subst (IsSettled bytes) (sym is) closed)))

pub front_of_token : (bytes : List ℕ) (place first last end : ℕ) (token : Token) (r : Answered Lexeme (LexFault Infallible)) → r ≡ Ok (Some (first, last, token)) → is_open bytes (Ok (first, last, token)) ≡ false → LeavesAt bytes place r end → ((rest : List ℕ) → IsSettled bytes r → TakesShown (lexed (placed_from place (bytes ++ rest))) r (lexed (placed_from end (bytes ++ rest)))) → IsFront bytes place (front.Token first last token end)
front_of_token bytes place first last end token r is closed leaves takes = front_token bytes place first last end token closed (subst (λ k. LeavesAt bytes place k end) is leaves) (λ rest. subst (λ k. TakesShown (lexed (placed_from place (bytes ++ rest))) k (lexed (placed_from end (bytes ++ rest)))) is (takes rest (subst (IsSettled bytes) (sym is) closed)))

-- ---- by what the run of a token is

at_end : (bytes : List ℕ) (end : ℕ) → 0 < end → length bytes ≤ end → nat_le (length bytes) (end - 1 + 1) ≡ true
at_end bytes end some past = le-leb (length bytes) (end - 1 + 1) (omega (arith, some, past))

before_end : (bytes : List ℕ) (end : ℕ) → end < length bytes → 0 < end → nat_le (length bytes) (end - 1 + 1) ≡ false
before_end bytes end short some = lt-leb (length bytes) (end - 1 + 1) (omega (arith, short, some))

module _ {bytes : List ℕ} {place first end : ℕ} {phase : Phase} (h : IsRunAt bytes place first end phase) where
  some_end : 0 < end
  some_end = let k = h.within.0 in omega (arith, k)

  closed_token : (token : Token) → token_of phase ≡ Some token → closed {E = Infallible} first (end - 1) phase ≡ Ok (first, end - 1, token)
  closed_token token is = ap (lexeme_or first (end - 1) (wanted_in phase)) is

  closed_fault : token_of phase ≡ None → closed {E = Infallible} first (end - 1) phase ≡ Err (Unfinished (end - 1) (wanted_in phase))
  closed_fault is = ap (lexeme_or first (end - 1) (wanted_in phase)) is

  -- a number or a literal at the end
  pub run_word : (token : Token) → token_of phase ≡ Some token → is_word token ≡ true → length bytes ≤ end → IsFront bytes place (Open first (Some (end - first, phase)))
  run_word token is word past = front_open bytes place first end phase h past (ap (is_open bytes) (closed_token token is) ∙ rw (word, at_end bytes end some_end past) refl)

  -- one that breaks off there
  pub run_cut : token_of phase ≡ None → length bytes ≤ end → IsFront bytes place (Open first (Some (end - first, phase)))
  run_cut is past = front_open bytes place first end phase h past (ap (is_open bytes) (closed_fault is) ∙ at_end bytes end some_end past)

  plain_of : (word : Bool) → (end < length bytes) ⊎ (word ≡ false) → (word && nat_le (length bytes) (end - 1 + 1)) ≡ false
  plain_of word (inl short) = let past = before_end bytes end short some_end in rw past (and_false word)
  plain_of word (inr plain) = rw plain refl

  -- one that has its own end, or one that ends before
  pub run_token : (token : Token) → token_of phase ≡ Some token → (end < length bytes) ⊎ (is_word token ≡ false) → IsFront bytes place (front.Token first (end - 1) token end)
  run_token token is plain = front_of_token bytes place first (end - 1) end token (result_answer (closed first (end - 1) phase)) (ap result_answer (closed_token token is)) (plain_of (is_word token) plain) (run_leaves h) (λ rest settled. run_settled h rest settled)

  -- one that breaks off before
  pub run_broken : token_of phase ≡ None → end < length bytes → IsFront bytes place (Faulty (Unfinished (end - 1) (wanted_in phase)))
  run_broken is short = front_of_fault bytes place end (result_answer (closed first (end - 1) phase)) (Unfinished (end - 1) (wanted_in phase)) (ap result_answer (closed_fault is)) (before_end bytes end short some_end) (run_leaves h) (λ rest settled. run_settled h rest settled)
