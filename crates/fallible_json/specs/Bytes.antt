-- The bytes of a text with their places, and its tokens.
use Rattle.std.specs.Prelude.{◌≡◌, ℕ, ◌+◌, ◌-◌, ◌<◌, ◌≤◌, Bool, true, false, nat_le, ◌&&◌, Some, None, Ok, Err, List, ◌++◌, Result, drop, length, slice_index}
use Rattle.std.specs.Char.{is_ascii_digit}
use Rattle.std.specs.declared.convert.Infallible.{Infallible}
use Rattle.fallible_iterator.specs.Lists.{items, numbered}
use Rattle.fallible_iterator.specs.Traces.{Answered}
use Rattle.fallible_json.specs.Lexing.{Lexeme, Placed, lexed, run_of}
use Rattle.fallible_json.specs.Tokens.{after, begun_by, is_blank}
use Rattle.fallible_json.specs.declared.bytes.PlacedBytes.{PlacedBytes}
use Rattle.fallible_json.specs.declared.lexer.LexFault.{LexFault}
use Rattle.fallible_json.specs.declared.lexer.LexFault.TheVariants.{Source, Unknown, Unfinished}
use Rattle.fallible_json.specs.declared.token.Phase.{Phase}
use Rattle.fallible_json.specs.declared.token.Token.{Token}
use Rattle.fallible_json.specs.declared.token.Token.TheVariants.{Number, Literal}
use Rattle.fallible_json.specs.declared.text.Run.{Run}
use Rattle.fallible_json.specs.declared.text.Run.TheVariants.{Blank}
use Rattle.fallible_json.specs.declared.text.Run.TheVariants as run
use Rattle.fallible_json.specs.declared.text.TextTokens.{TextTokens}

-- the bytes of a text from a place on, each after its place
abbrev pub placed_from : {E : Type 0} → ℕ → List ℕ → List (Result Placed E)
placed_from place text = numbered place (items (drop place text))

-- the run of a token whose bytes before a place make this phase of it
abbrev pub run_from : List ℕ → ℕ → Phase → Result (ℕ × Phase) Infallible × List (Result Placed Infallible)
run_from text place phase = run_of (place - 1, phase) (placed_from place text)

-- each digit goes on with a token in this phase, and leaves it so
abbrev pub KeptByDigits : Phase → Type 0
KeptByDigits phase = (byte : ℕ) → is_ascii_digit byte ≡ true → after phase byte ≡ Some phase

-- whether a token is a number or a literal
abbrev pub is_word : Token → Bool
is_word Number = true
is_word Literal = true
is_word token = false

-- whether a byte that follows a text could change what was read of it: a number or a literal that its last byte ends, and a token that breaks off with that
abbrev pub is_open : List ℕ → Result Lexeme (LexFault Infallible) → Bool
is_open text (Ok (first, last, token)) = is_word token && nat_le (length text) (last + 1)
is_open text (Err (Unfinished last wanted)) = nat_le (length text) (last + 1)
is_open text (Err fault) = false

-- No byte that follows a text could change what was drawn of it: a token that isn't its last, or that has its own end, or a fault that isn't at its end.
abbrev pub IsSettled : List ℕ → Answered Lexeme (LexFault Infallible) → Type 0
IsSettled text (Ok (Some x)) = is_open text (Ok x) ≡ false
IsSettled text (Ok None) = ⊥
IsSettled text (Err fault) = is_open text (Err fault) ≡ false

-- where a draw at a place of a text leaves the next: right after the token, and further on after a fault
abbrev pub LeavesAt : List ℕ → ℕ → Answered Lexeme (LexFault Infallible) → ℕ → Type 0
LeavesAt text place (Ok (Some (first, last, token))) end = (place < end) × (end ≤ length text) × (last + 1 ≡ end) × (first < end)
LeavesAt text place (Ok None) end = end ≡ place
LeavesAt text place (Err (Unknown first)) end = (place < end) × (first < length text)
LeavesAt text place (Err (Unfinished last wanted)) end = (place < end) × (end ≤ length text) × (last + 1 ≡ end)
LeavesAt text place (Err (Source never)) end = place < end

-- a place of a text, and a later one, or its end
abbrev pub IsWithin : List ℕ → ℕ → ℕ → Type 0
IsWithin text first end = (first < end) × (end ≤ length text)

-- the tokens from a place on are those from another on, whatever comes after the text
abbrev pub SameTokens : List ℕ → ℕ → ℕ → Type 0
SameTokens text place to = (rest : List ℕ) → lexed {E = Infallible} (placed_from place (text ++ rest)) ≡ lexed (placed_from to (text ++ rest))

-- The first token from a place on begins at `first`; its bytes up to `end` make this phase of it, and the one at `end`, if the text has it, doesn't go on with it.
pub record IsRunAt (text : List ℕ) (place first end : ℕ) (phase : Phase) : Type 0 where
  pub begun : Phase
  pub later : place ≤ first
  pub within : IsWithin text first end
  pub same : SameTokens text place first
  pub begins : begun_by (slice_index text first) ≡ Some begun
  pub goes : (rest : List ℕ) → run_from (text ++ rest) (first + 1) begun ≡ run_from (text ++ rest) end phase
  pub ends : end < length text → after phase (slice_index text end) ≡ None

-- from a place on stand blanks alone; or a byte that begins no token; or a token
abbrev pub StandsAt : List ℕ → ℕ → Run → Type 0
StandsAt text place Blank = place ≤ length text → SameTokens text place (length text)
StandsAt text place (run.Unknown first) = (place ≤ first) × (first < length text) × SameTokens text place first × (is_blank (slice_index text first) ≡ false) × (begun_by (slice_index text first) ≡ None)
StandsAt text place (run.Begun first end phase) = IsRunAt text place first end phase

-- the bytes from the place on, each after its place
abbrev pub shows_placed : PlacedBytes → List (Result Placed Infallible)
shows_placed s = placed_from s.place s.text.now

-- the tokens of the bytes from the place on
abbrev pub shows_tokens : TextTokens → List (Result Lexeme (LexFault Infallible))
shows_tokens s = lexed (placed_from s.place s.text.now)
