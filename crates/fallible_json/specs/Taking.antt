-- What is taken of bytes that come a part at a time, as texts.
use Rattle.std.specs.Prelude.{◌≡◌, ⊤, ℕ, ◌+◌, ◌<◌, ◌≤◌, ◌^◌, List, [], ◌∷◌, ◌++◌, length, take, drop, map, reverse, Option, Some, None, Ok, Err}
use Rattle.std.specs.declared.convert.Infallible.{Infallible}
use Rattle.fallible_json.specs.Bytes.{placed_from}
use Rattle.fallible_json.specs.Faults.{fault_from}
use Rattle.fallible_json.specs.Grammar.{State, after_token, begin}
use Rattle.fallible_json.specs.Json.{fault_place, not_text_at, wanted_at}
use Rattle.fallible_json.specs.Lexing.{Lexeme, lexed}
use Rattle.fallible_json.specs.Minifying.{bytes_of}
use Rattle.fallible_json.specs.Places.{place_after_bytes}
use Rattle.fallible_json.specs.Reading.{read}
use Rattle.fallible_json.specs.Texts.{Ending, at_end, cut, complete, TextResult, Tokens, is_joined, lines_of, texts_after, texts_from, tokens_by}
use Rattle.fallible_json.specs.Wanted.{wanted_of}
use Rattle.fallible_json.specs.declared.fault.JsonFault.{JsonFault}
use Rattle.fallible_json.specs.declared.lexer.LexFault.{LexFault}
use Rattle.fallible_json.specs.declared.minifying.Misplaced.{Misplaced}
use Rattle.fallible_json.specs.declared.minifying.Misplaced.TheVariants as misplaced
use Rattle.fallible_json.specs.declared.texts.Front.{Front}
use Rattle.fallible_json.specs.declared.texts.Front.TheVariants.{Token, Faulty, Open}
use Rattle.fallible_json.specs.declared.texts.Texts.{Texts}
use Rattle.fallible_json.specs.declared.token.Phase.{Phase}

-- what is begun of a text: its state, and the bytes of its tokens
abbrev pub begun_of : Texts → State × List ℕ
begun_of t = ((reverse t.nesting.containers.items, t.nesting.expects), drop t.whole t.lines.items)

-- the lines of the texts that ended
abbrev pub ended_of : Texts → List ℕ
ended_of t = take t.whole t.lines.items

-- So many further bytes have room in its numbers.
abbrev pub Fits : Texts → ℕ → Type 0
Fits t n = (t.whole ≤ length t.lines.items) × (t.count + n < 2 ^ 63) × (t.place.0 + n < 2 ^ 63) × (t.place.1 + n < 2 ^ 63)

-- its numbers count at most so many bytes
abbrev pub CountsUpTo : Texts → ℕ → Type 0
CountsUpTo t n = (t.count ≤ n) × (t.place.0 ≤ n + 1) × (t.place.1 ≤ n + 1)

-- These texts ended: their lines came after those that were there, and they are counted.
pub record EndTexts (t : Texts) (texts : List (List ℕ)) (u : Texts) : Type 0 where
  pub lines : ended_of u ≡ ended_of t ++ lines_of texts
  pub count : u.count ≡ t.count + length texts
  pub whole : u.whole ≤ length u.lines.items

-- these texts, and then others
infixr 20 ◌before◌
abbrev pub ◌before◌ : List (List ℕ) → List TextResult → List TextResult
texts before others = map (λ text. Ok text) texts ++ others

-- The text that was begun ended.
pub record EndsText (t : Texts) (u : Texts) : Type 0 where
  pub ended : EndTexts t ((begun_of t).1 ∷ []) u
  pub begun : begun_of u ≡ (begin, [])
  pub place : u.place ≡ t.place

-- A token came to what is begun.
pub record AddsToken (t : Texts) (bytes : List ℕ) (x : Lexeme) (u : Texts) : Type 0 where
  pub state : after_token (begun_of t).0 x.2 ≡ Some (begun_of u).0
  pub json : (begun_of u).1 ≡ (begun_of t).1 ++ bytes_of bytes x.0 x.1
  pub ended : EndTexts t [] u
  pub place : u.place ≡ t.place

-- Nothing was begun, or it ended as a text.
pub record EndsAll (t : Texts) (bytes : List ℕ) (u : Texts) : Type 0 where
  pub texts : List (List ℕ)
  pub ended : EndTexts t texts u
  pub all : at_end t.place bytes (begun_of t) ≡ map (λ text. Ok text) texts

-- One token was taken of bytes: whatever comes after them, some texts end with it, and what is begun goes on.
pub record TakesToken (t : Texts) (bytes : List ℕ) (x : Lexeme) (u : Texts) : Type 0 where
  pub texts : List (List ℕ)
  pub ended : EndTexts t texts u
  pub goes : (origin : ℕ × ℕ) (rest : List ℕ) (ending : Ending) (l : Tokens) → is_joined (bytes ++ rest) (x.1, x.2) ≡ is_joined bytes (x.1, x.2) → texts_from origin (bytes ++ rest) ending (begun_of t) (Ok x ∷ l) ≡ texts before texts_from origin (bytes ++ rest) ending (begun_of u) l
  pub place : u.place ≡ t.place
  pub once : length texts ≤ 1

-- What bytes are left: none, or those of a token that another byte could change, which were all seen: so many, and this is what they make of it.
abbrev pub IsLeft : Option (ℕ × Phase) → List ℕ → Type 0
IsLeft None bytes = bytes ≡ []
IsLeft (Some (count, phase)) bytes = (length bytes ≡ count) × (read None bytes ≡ Some (Some phase))

-- Bytes begin with those that were left.
abbrev pub BeginWithLeft : Option (ℕ × Phase) → List ℕ → Type 0
BeginWithLeft seen bytes = (left more : List ℕ) × (bytes ≡ left ++ more) × IsLeft seen left

-- Nothing was seen at a place; or it is the first, and the bytes begin with those that were left.
abbrev pub IsSeenAt : Option (ℕ × Phase) → List ℕ → ℕ → Type 0
IsSeenAt None bytes place = ⊤
IsSeenAt (Some seen) bytes place = (place ≡ 0) × BeginWithLeft (Some seen) bytes

-- So many bytes were taken: whatever comes after the bytes, and however that ends, these texts ended, and what is begun goes on with the others; of these alone no more could be taken, and no blank is left.
pub record Takes (t : Texts) (bytes : List ℕ) (taken : ℕ) (u : Texts) : Type 0 where
  pub texts : List (List ℕ)
  pub ended : EndTexts t texts u
  pub within : taken ≤ length bytes
  pub goes : (rest : List ℕ) (ending : Ending) → texts_after ending t.place (begun_of t) (bytes ++ rest) ≡ texts before texts_after ending u.place (begun_of u) (drop taken bytes ++ rest)
  pub most : texts_after cut u.place (begun_of u) (drop taken bytes) ≡ Err ((begun_of u).1, not_text_at (place_after_bytes u.place (drop taken bytes))) ∷ []
  pub left : IsLeft u.seen (drop taken bytes)
  pub counts : (n : ℕ) → CountsUpTo t n → CountsUpTo u (n + taken)

-- The bytes have this fault, whatever comes after them, and these texts ended before it.
pub record FindsFault (t : Texts) (bytes : List ℕ) (fault : JsonFault) (u : Texts) : Type 0 where
  pub texts : List (List ℕ)
  pub ended : EndTexts t texts u
  pub fails : (rest : List ℕ) (ending : Ending) → texts_after ending t.place (begun_of t) (bytes ++ rest) ≡ texts before Err ((begun_of u).1, fault) ∷ []

-- These are the last bytes, and all that is left of the texts ended.
pub record TakesAll (t : Texts) (bytes : List ℕ) (u : Texts) : Type 0 where
  pub texts : List (List ℕ)
  pub ended : EndTexts t texts u
  pub all : texts_after complete t.place (begun_of t) bytes ≡ map (λ text. Ok text) texts

-- These are the last bytes, and they have this fault.
pub record FindsLastFault (t : Texts) (bytes : List ℕ) (fault : JsonFault) (u : Texts) : Type 0 where
  pub texts : List (List ℕ)
  pub ended : EndTexts t texts u
  pub fails : texts_after complete t.place (begun_of t) bytes ≡ texts before Err ((begun_of u).1, fault) ∷ []

-- ---- one token of bytes after which others may come

-- what tokens stand from a place on, by how the bytes end
abbrev pub tokens_from : Ending → ℕ → List ℕ → Tokens
tokens_from ending place text = tokens_by ending text (lexed (placed_from place text))

-- A token comes first, whatever comes after the bytes; or a fault; or nothing comes that no further byte could change, and after the blanks nothing is left but what was seen of a token.
abbrev pub IsFront : List ℕ → ℕ → Front → Type 0
IsFront bytes place (Token first last token end) = (place < end) × (end ≤ length bytes) × (first < length bytes) × (last < length bytes) × ((rest : List ℕ) (ending : Ending) → (is_joined (bytes ++ rest) (last, token) ≡ is_joined bytes (last, token)) × (tokens_from ending place (bytes ++ rest) ≡ Ok (first, last, token) ∷ tokens_from ending end (bytes ++ rest)))
IsFront bytes place (Faulty fault) = (fault_place bytes (misplaced.Source fault) < length bytes) × ((rest : List ℕ) (ending : Ending) → (l : Tokens) × (tokens_from ending place (bytes ++ rest) ≡ Err fault ∷ l))
IsFront bytes place (Open taken seen) = (place ≤ taken) × (taken ≤ length bytes) × (tokens_from cut taken bytes ≡ []) × IsLeft seen (drop taken bytes) × ((rest : List ℕ) (ending : Ending) → tokens_from ending place (bytes ++ rest) ≡ tokens_from ending taken (bytes ++ rest))

-- ---- what is told

-- what is told of a fault of bytes
abbrev pub told_of : Texts → List ℕ → Misplaced (LexFault Infallible) → JsonFault
told_of t bytes fault = fault_from t.place bytes (fault_place bytes fault) (wanted_at fault (wanted_of (begun_of t).0))

-- These texts ended up to a place of bytes, whatever comes after them.
pub record TakesUpTo (t : Texts) (bytes : List ℕ) (at : ℕ) (u : Texts) : Type 0 where
  pub texts : List (List ℕ)
  pub ended : EndTexts t texts u
  pub goes : (rest : List ℕ) (ending : Ending) → texts_from t.place (bytes ++ rest) ending (begun_of t) (tokens_from ending 0 (bytes ++ rest)) ≡ texts before texts_from t.place (bytes ++ rest) ending (begun_of u) (tokens_from ending at (bytes ++ rest))
  pub place : u.place ≡ t.place
  pub few : length texts ≤ at
  pub within : at ≤ length bytes
