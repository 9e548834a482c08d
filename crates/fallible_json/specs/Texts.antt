-- JSON texts one after another, of their bytes.
use Rattle.std.specs.Prelude.{◌≡◌, ℕ, ◌+◌, ◌==◌, ◌||◌, ◌&&◌, nat_lt, not, if◌then◌else◌, Bool, true, false, Option, Some, None, Result, Ok, Err, List, [], ◌∷◌, ◌++◌, length, take, drop, filter, flat_map, slice_index}
use Rattle.std.specs.Option.{is_some}
use Rattle.std.specs.Str.Lossy.{utf8_error_len, utf8_valid_len}
use Rattle.std.specs.declared.convert.Infallible.{Infallible}
use Rattle.fallible_iterator.specs.Lists.{items, numbered}
use Rattle.fallible_json.specs.Bytes.{is_open, is_word}
use Rattle.fallible_json.specs.Faults.{fault_from}
use Rattle.fallible_json.specs.Grammar.{State, after_token, begin, is_whole}
use Rattle.fallible_json.specs.Json.{fault_place, not_text_at, wanted_at}
use Rattle.fallible_json.specs.Lexing.{Lexeme, lexed}
use Rattle.fallible_json.specs.Minifying.{bytes_of}
use Rattle.fallible_json.specs.Places.{place_after_bytes}
use Rattle.fallible_json.specs.Tokens.{is_blank, sign_of}
use Rattle.fallible_json.specs.Wanted.{wanted_of}
use Rattle.fallible_json.specs.declared.fault.JsonFault.{JsonFault}
use Rattle.fallible_json.specs.declared.grammar.Expects.TheVariants.{Value}
use Rattle.fallible_json.specs.declared.lexer.LexFault.{LexFault}
use Rattle.fallible_json.specs.declared.minifying.Misplaced.TheVariants as misplaced
use Rattle.fallible_json.specs.declared.token.Token.{Token}
use Rattle.fallible_json.specs.declared.wanted.Wanted.{Wanted}

-- How bytes end: where the input does, or where what follows is no UTF-8 or could not be read.
pub data Ending : Type 0 where
  complete : Ending
  cut : Ending

-- a text without blanks; or of a text that has a fault the bytes of the tokens before that, and the fault
abbrev pub TextResult : Type 0
TextResult = Result (List ℕ) (List ℕ × JsonFault)

-- the tokens of bytes, and the faults of those that break off
abbrev pub Tokens : Type 0
Tokens = List (Result Lexeme (LexFault Infallible))

-- ---- where a text ends

-- whether a byte may stand right after a text that is a number or a literal: a blank, a quote, or a byte that is a token alone
abbrev pub ends_word : ℕ → Bool
ends_word byte = is_blank byte || byte == 34 || is_some (sign_of byte)

-- whether the byte after a token is one that may not stand right after it
abbrev pub is_joined : List ℕ → ℕ × Token → Bool
is_joined text (last, token) = is_word token && nat_lt (last + 1) (length text) && not (ends_word (slice_index text (last + 1)))

-- A text ends with the first token with which it is whole, if the byte after it may stand there.
abbrev pub ends_text : List ℕ → State → ℕ × Token → Bool
ends_text text state x = is_whole state && not (is_joined text x)

-- whether no token of a text came
abbrev pub is_begin : State → Bool
is_begin ([], Value) = true
is_begin (containers, expects) = false

-- ---- the tokens of bytes that are cut off

-- the tokens of bytes, by how these end: where they are cut off, those that no byte could change
abbrev pub tokens_by : Ending → List ℕ → Tokens → Tokens
tokens_by complete text l = l
tokens_by cut text l = filter (λ x. not (is_open text x)) l

-- ---- the texts of tokens

-- by whether a text ends: it and those after it, or what goes on
abbrev pub where_ends : Bool → State × List ℕ → (State × List ℕ → List TextResult) → List TextResult
where_ends true (state, json) tail = Ok json ∷ tail (begin, [])
where_ends false (state, json) tail = tail (state, json)

-- by what a token makes of the state: where it may not stand, and where it may
abbrev pub where_stands : Option State → List TextResult → (State → List TextResult) → List TextResult
where_stands None misplaced tail = misplaced
where_stands (Some state) misplaced tail = tail state

module _ (origin : ℕ × ℕ) (text : List ℕ) where
  -- a text that has a fault at a place, and what could come there
  abbrev pub faulty : State × List ℕ → ℕ → Wanted → List TextResult
  faulty (state, json) place wanted = Err (json, fault_from origin text place wanted) ∷ []

  -- at the end: nothing if no text is begun, a text if it is whole, or its fault
  abbrev pub at_end : State × List ℕ → List TextResult
  at_end (state, json) = if is_begin state then [] else if is_whole state then Ok json ∷ [] else faulty (state, json) (length text) (wanted_of state)

  -- where no more tokens come, by how the bytes end
  abbrev pub at_ending : Ending → State × List ℕ → List TextResult
  at_ending complete b = at_end b
  at_ending cut (state, json) = Err (json, not_text_at (place_after_bytes origin text)) ∷ []

  -- The texts of tokens after those of one that is begun, each without blanks, up to the first fault: of a token that breaks off, or of one that may not stand where it stands.
  unfoldable pub texts_from : Ending → State × List ℕ → Tokens → List TextResult
  texts_from ending b [] = at_ending ending b
  texts_from ending b (Err e ∷ l) = faulty b (fault_place text (misplaced.Source e)) (wanted_at (misplaced.Source e) (wanted_of b.0))
  texts_from ending b (Ok x ∷ l) = where_stands (after_token b.0 x.2) (faulty b x.0 (wanted_of b.0)) (λ next. where_ends (ends_text text next (x.1, x.2)) (next, b.1 ++ bytes_of text x.0 x.1) (λ c. texts_from ending c l))

-- the texts of bytes of which the first has this line and column, after the tokens of one that is begun
abbrev pub texts_after : Ending → ℕ × ℕ → State × List ℕ → List ℕ → List TextResult
texts_after ending origin b text = texts_from origin text ending b (tokens_by ending text (lexed (numbered 0 (items text))))

-- The texts of an input, each without blanks, up to the first fault; where a byte is no UTF-8, that is one.
abbrev pub texts_of : List ℕ → List TextResult
texts_of bytes = let n = utf8_valid_len bytes in if n == length bytes then texts_after complete (1, 1) (begin, []) bytes else texts_after cut (1, 1) (begin, []) (take n bytes)

-- no byte is known to be no UTF-8: what comes after the first bytes that are UTF-8 could begin a character
abbrev pub IsUnbroken : List ℕ → Type 0
IsUnbroken bytes = is_some (utf8_error_len (drop (utf8_valid_len bytes) bytes)) ≡ false

-- The texts of the first bytes of an input that are whole there, and what is begun, as a fault of the byte after those that are UTF-8.
abbrev pub texts_so_far : List ℕ → List TextResult
texts_so_far bytes = texts_after cut (1, 1) (begin, []) (take (utf8_valid_len bytes) bytes)

-- ---- what is written of them

-- each on a line of its own
abbrev pub lines_of : List (List ℕ) → List ℕ
lines_of texts = flat_map (λ text. text ++ 10 ∷ []) texts
