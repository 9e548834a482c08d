-- The tokens of placed bytes where they may stand, each with its text.
use Rattle.std.specs.Prelude.{◌≡◌, ⊤, ℕ, ◌==◌, if◌then◌else◌, min, Bool, true, false, Option, Some, None, option_map, Result, Ok, Err, List, [], ◌∷◌, ◌++◌, length, reverse}
use Rattle.std.specs.Option.{option_map_or}
use Rattle.std.specs.declared.alloc.AllocError.{AllocError}
use Rattle.fallible_iterator.specs.Contract.{Contract, Fewer, KeptByDraws, Stays}
use Rattle.fallible_iterator.specs.Fault.{Fault}
use Rattle.fallible_iterator.specs.Fault.TheVariants as fault
use Rattle.fallible_iterator.specs.Lists.{Lists}
use Rattle.fallible_iterator.specs.Own.{DrawsOn, drawing_from}
use Rattle.fallible_iterator.specs.Sound.{own_sound}
use Rattle.fallible_iterator.specs.Traces.{Answered, Run, end}
use Rattle.fallible_itertools.specs.Ahead.{TakesMade}
use Rattle.fallible_itertools.specs.Lexing.{TokenRules, lexed_by, rest_lexed_by}
use Rattle.fallible_json.specs.Grammar.{State, after_token, is_whole}
use Rattle.fallible_json.specs.Lexing.{Lexeme, Placed, closed}
use Rattle.fallible_json.specs.Tokens.{after, begun_by, is_blank}
use Rattle.fallible_json.specs.Wanted.{wanted_of}
use Rattle.fallible_json.specs.declared.checked.CheckedToken.{CheckedToken}
use Rattle.fallible_json.specs.declared.checked.Kind.{Kind}
use Rattle.fallible_json.specs.declared.checked.TokenFault.{TokenFault}
use Rattle.fallible_json.specs.declared.checked.Kind.TheVariants as kind
use Rattle.fallible_json.specs.declared.grammar.Expects.{Expects}
use Rattle.fallible_json.specs.declared.grammar.Expects.TheVariants.{NameOrEnd, Name}
use Rattle.fallible_json.specs.declared.grammar.Nesting.{Nesting}
use Rattle.fallible_json.specs.declared.lexer.LexFault.{LexFault}
use Rattle.fallible_json.specs.declared.lexer.LexFault.TheVariants as lexer
use Rattle.fallible_json.specs.declared.minifying.Misplaced.{Misplaced}
use Rattle.fallible_json.specs.declared.minifying.Misplaced.TheVariants.{Source, Unexpected, Ended}
use Rattle.fallible_json.specs.declared.token.Phase.{Phase}
use Rattle.fallible_json.specs.declared.token.Token.{Token}
use Rattle.fallible_json.specs.declared.token.Token.TheVariants as token

-- ---- tokens with their text

-- a token at its places, and its bytes
abbrev pub Texted : Type 0
Texted = Lexeme × List ℕ

-- what is begun of a token: the place of its last byte so far, what its bytes are, and these
abbrev pub TextRun : Type 0
TextRun = ℕ × Phase × List ℕ

-- the same, after the place of its first byte
abbrev pub BegunText : Type 0
BegunText = ℕ × TextRun

-- what a byte begins at its place
abbrev pub text_begun_at : Placed → Option BegunText
text_begun_at (place, byte) = option_map (λ phase. (place, (place, phase, byte ∷ []))) (begun_by byte)

-- what is begun with a byte that goes on with it
abbrev pub text_begun_with : BegunText → Placed → Option BegunText
text_begun_with (first, (last, phase, text)) (place, byte) = option_map (λ next. (first, (place, next, text ++ byte ∷ []))) (after phase byte)

module _ {E : Type 0} where
  -- a token with its bytes; a failure has none
  abbrev pub with_text : List ℕ → Result Lexeme (LexFault E) → Result Texted (LexFault E)
  with_text text (Ok x) = Ok (x, text)
  with_text text (Err e) = Err e

  -- a token alone
  abbrev pub without_text : Result Texted (LexFault E) → Result Lexeme (LexFault E)
  without_text (Ok x) = Ok x.0
  without_text (Err e) = Err e

  -- the token that a run is, or why it is none
  abbrev pub text_closed : ℕ → TextRun → Result Texted (LexFault E)
  text_closed first (last, phase, text) = with_text text (closed first last phase)

  -- The bytes in front that go on with a token, one after the other: what is begun with them, or a failure that comes before; and the list without them, or without the failure.
  unfoldable pub text_run_of : TextRun → List (Result Placed E) → Result TextRun E × List (Result Placed E)
  text_run_of b [] = (Ok b, [])
  text_run_of b (Ok x ∷ l) = option_map_or (λ phase. text_run_of (x.0, phase, b.2 ++ x.1 ∷ []) l) (after b.1 x.1) (Ok b, Ok x ∷ l)
  text_run_of b (Err e ∷ l) = (Err e, l)

  -- The rules of `token_rules`, and each token has its bytes.
  abbrev pub text_rules : TokenRules Placed BegunText E Texted (LexFault E)
  text_rules = record {
    skips = λ x. is_blank x.1;
    begins = text_begun_at;
    goes_on = text_begun_with;
    closed = λ s. text_closed s.0 s.1;
    alone = λ x. Err (lexer.Unknown x.0);
    told = lexer.Source;
  }

  -- the tokens of placed bytes, each with its places and its text
  abbrev pub texted : List (Result Placed E) → List (Result Texted (LexFault E))
  texted l = lexed_by text_rules None l

  -- what a draw leaves of placed bytes
  abbrev pub rest_texted : List (Result Placed E) → List (Result Placed E)
  rest_texted l = rest_lexed_by text_rules None l

-- ---- those that may stand where they stand

-- a literal by its first byte: `t` of `true`, `f` of `false`, and `null`
abbrev pub literal_kind : List ℕ → Kind
literal_kind [] = kind.Null
literal_kind (byte ∷ text) = if byte == 116 then kind.True else if byte == 102 then kind.False else kind.Null

-- a string is a name where a name is wanted
abbrev pub text_kind : Expects → Kind
text_kind NameOrEnd = kind.Name
text_kind Name = kind.Name
text_kind expects = kind.Text

-- what a token is that may come here; a separator is nothing
abbrev pub kind_of : Expects → Token → List ℕ → Option Kind
kind_of expects token.BeginArray text = Some kind.BeginArray
kind_of expects token.EndArray text = Some kind.EndArray
kind_of expects token.BeginObject text = Some kind.BeginObject
kind_of expects token.EndObject text = Some kind.EndObject
kind_of expects token.NameSeparator text = None
kind_of expects token.ValueSeparator text = None
kind_of expects token.Text text = Some (text_kind expects)
kind_of expects token.Number text = Some kind.Number
kind_of expects token.Literal text = Some (literal_kind text)

-- a token where it may stand: what it is, how many containers are open around it, the places of its first and its last byte, and its bytes
abbrev pub Seen : Type 0
Seen = Kind × ℕ × ℕ × ℕ × List ℕ

-- the token has these
abbrev pub IsSeen : Seen → CheckedToken → Type 0
IsSeen (kind, depth, first, last, text) y = (y.kind ≡ kind) × (y.depth ≡ depth) × (y.first ≡ first) × (y.last ≡ last) × (y.text.items ≡ text)

-- how many containers are open around a token, between two states
abbrev pub depth_between : State → State → ℕ
depth_between state next = min (length state.0) (length next.0)

-- what a token is between two states; a separator is nothing
abbrev pub seen_between : State → State → Texted → Option Seen
seen_between state next ((first, last, token), text) = option_map (λ k. (k, depth_between state next, first, last, text)) (kind_of state.1 token text)

-- a failure of one that checks tokens of a source that fails with F
abbrev pub CheckFault : Type 0 → Type 0
CheckFault F = Fault (TokenFault F)

-- an item before others, if it is one
abbrev pub if_item : {A E : Type 0} → Option A → List (Result A E) → List (Result A E)
if_item (Some x) l = Ok x ∷ l
if_item None l = l

module _ {F : Type 0} where
  -- a fault, and what could come there
  abbrev pub fault_in : {A : Type 0} → State → Misplaced F → Result A (CheckFault F)
  fault_in state why = Err (fault.Source (record { why = why; wanted = wanted_of state }))

  -- nothing comes after it
  abbrev pub faulty : State → Misplaced F → List (Result Seen (CheckFault F))
  faulty state why = fault_in state why ∷ []

  -- by what a token makes of the state: where it may not stand, and where it may
  abbrev pub checked_first : State → Texted → Option State → (State → List (Result Seen (CheckFault F))) → List (Result Seen (CheckFault F))
  checked_first state x None tail = faulty state (Unexpected x.0.0)
  checked_first state x (Some next) tail = if_item (seen_between state next x) (tail next)

  -- The tokens from a state on that may stand where they stand, without the separators, up to the first fault: of their source, of a token that may not stand there, or of the end.
  unfoldable pub checked : State → List (Result Texted F) → List (Result Seen (CheckFault F))
  checked state [] = if is_whole state then [] else faulty state Ended
  checked state (Err e ∷ l) = faulty state (Source e)
  checked state (Ok x ∷ l) = checked_first state x (after_token state x.0.2) (λ next. checked next l)

  -- the same, or none once it is over
  abbrev pub checked_by : Option State → List (Result Texted F) → List (Result Seen (CheckFault F))
  checked_by (Some state) l = checked state l
  checked_by None l = []

-- ---- what draws take

-- the state of a grammar
abbrev pub state_of : Nesting → State
state_of nesting = (reverse nesting.containers.items, nesting.expects)

-- an allocation failure is this failure
abbrev pub IsMemory : {F : Type 0} → AllocError → CheckFault F → Type 0
IsMemory refused e = e ≡ fault.Memory refused

-- a failure as that of a source
abbrev pub sourced : {A E : Type 0} → Result A E → Result A (Fault E)
sourced (Ok x) = Ok x
sourced (Err e) = Err (fault.Source e)

-- What a token was taken as, from a state to another: an item, or a separator; or it may not stand there. Of an allocation failure nothing is said.
abbrev pub StandsAs : {F : Type 0} → State → Texted → Result (Option (Option CheckedToken)) (CheckFault F) → State → Type 0
StandsAs state x (Ok (Some (Some y))) next = (after_token state x.0.2 ≡ Some next) × (z : Seen) × IsSeen z y × (seen_between state next x ≡ Some z)
StandsAs state x (Ok (Some None)) next = (after_token state x.0.2 ≡ Some next) × (seen_between state next x ≡ None)
StandsAs state x (Ok None) next = ⊥
StandsAs state x (Err (fault.Source e)) next = (e ≡ record { why = Unexpected x.0.0; wanted = wanted_of state }) × (after_token state x.0.2 ≡ None)
StandsAs state x (Err (fault.Memory a)) next = ⊤

-- after the end and after a fault nothing is left
abbrev pub IsOverAfter : {A F : Type 0} → Answered A F → Option State → Type 0
IsOverAfter (Ok (Some y)) next = ⊤
IsOverAfter (Ok None) next = next ≡ None
IsOverAfter (Err e) next = next ≡ None

module _ {P E : Type 0} (m : Contract P Placed E) where
  -- A token was drawn, and its bytes are these; or an allocation failed.
  abbrev pub TakesText : P → Result (Option Lexeme) (Fault (LexFault E)) → List ℕ → P → Type 0
  TakesText s (Ok (Some x)) text t = TakesMade m texted rest_texted s (Ok (Some (x, text))) t
  TakesText s (Ok None) text t = TakesMade m texted rest_texted s (Ok None) t
  TakesText s (Err (fault.Source e)) text t = TakesMade m texted rest_texted s (Err e) t
  TakesText s (Err (fault.Memory a)) text t = KeptByDraws m s t

  -- A run of a token was drawn, and these are its bytes; or the source failed. Of an allocation failure nothing is said.
  abbrev pub TakesTextRun : Result (ℕ × Phase) (Fault E) → List ℕ → P → Result TextRun E × List (Result Placed E) → Type 0
  TakesTextRun (Ok (last, phase)) text t p = (p.0 ≡ Ok (last, phase, text)) × Lists m.steps t p.1
  TakesTextRun (Err (fault.Source e)) text t p = (p.0 ≡ Err e) × Lists m.steps t p.1
  TakesTextRun (Err (fault.Memory a)) text t p = ⊤

  -- the source lists bytes whose tokens from a state on are these
  abbrev pub ListsChecked : P → Option State → List (Result Seen (CheckFault (LexFault E))) → Type 0
  ListsChecked t state out = (left : List (Result Placed E)) × Lists m.steps t left × (checked_by state (texted left) ≡ out)

  -- What one token makes of the source's bytes: an item or nothing before the others, the end, or a fault. Of an allocation failure nothing is said.
  abbrev pub ChecksOne : State → List (Result Placed E) → Result (Option (Option CheckedToken)) (CheckFault (LexFault E)) → P → State → Type 0
  ChecksOne state l (Ok (Some (Some y))) t next = (x : Seen) × (out : List (Result Seen (CheckFault (LexFault E)))) × IsSeen x y × (checked state (texted l) ≡ Ok x ∷ out) × ListsChecked t (Some next) out
  ChecksOne state l (Ok (Some None)) t next = ListsChecked t (Some next) (checked state (texted l))
  ChecksOne state l (Ok None) t next = checked state (texted l) ≡ []
  ChecksOne state l (Err (fault.Source e)) t next = checked state (texted l) ≡ Err (fault.Source e) ∷ []
  ChecksOne state l (Err (fault.Memory a)) t next = ⊤

  -- it lowers the source's bounds, if it is a token
  abbrev pub LowersAtSome : {A F : Type 0} → P → Answered A F → P → Type 0
  LowersAtSome s (Ok (Some x)) t = Fewer m s t
  LowersAtSome s (Ok None) t = ⊤
  LowersAtSome s (Err e) t = ⊤

  -- One token was drawn of a source, and taken from a state to another.
  pub record TakesChecked (s : P) (state : State) (r : Result (Option (Option CheckedToken)) (CheckFault (LexFault E))) (t : P) (next : State) : Type 0 where
    pub keeps : KeptByDraws m s t
    pub lowers : LowersAtSome s r t
    pub makes : (l : List (Result Placed E)) → Lists m.steps s l → ChecksOne state l r t next

  -- What an answer is of the tokens that the source's bytes have: the first, and the others are left; the end; or a fault. Of an allocation failure nothing is said.
  abbrev pub IsFirstChecked : List (Result Seen (CheckFault (LexFault E))) → Answered CheckedToken (CheckFault (LexFault E)) → P → Option State → Type 0
  IsFirstChecked out (Ok (Some y)) t next = (x : Seen) × (rest : List (Result Seen (CheckFault (LexFault E)))) × IsSeen x y × (out ≡ Ok x ∷ rest) × ListsChecked t next rest
  IsFirstChecked out (Ok None) t next = out ≡ []
  IsFirstChecked out (Err (fault.Source e)) t next = out ≡ Err (fault.Source e) ∷ []
  IsFirstChecked out (Err (fault.Memory a)) t next = ⊤

  -- one answer, from the state on; once it is over, an end
  abbrev pub ChecksAnswer : P × Option State → Answered CheckedToken (CheckFault (LexFault E)) → P × Option State → Type 0
  ChecksAnswer (s, Some state) r (t, next) = ((l : List (Result Placed E)) → Lists m.steps s l → IsFirstChecked (checked state (texted l)) r t next) × IsOverAfter r next
  ChecksAnswer (s, None) r (t, next) = (r ≡ end) × (next ≡ None)

  -- one draw: it has the source's bounds
  abbrev pub checked_step : P × Option State → Answered CheckedToken (CheckFault (LexFault E)) → P × Option State → Type 0
  checked_step s r t = DrawsOn m s.0 r t.0 × ChecksAnswer s r t

-- The contract of checked tokens, over finite sources alone: each draw is a step, and has the source's bounds.
abbrev pub checked_contract : {S P E : Type 0} → (S → P) → (S → Option State) → Contract P Placed E → Contract S CheckedToken (CheckFault (LexFault E))
checked_contract view state m = record (drawing_from view m) { steps = λ s r t. checked_step m (view s, state s) r (view t, state t); traces = λ s trace t. Run (λ u r v. checked_step m (view u, state u) r (view v, state v)) s trace t; sound = own_sound (λ s r t. checked_step m (view s, state s) r (view t, state t)) }

-- the state, or none once it is over
abbrev pub state_unless : Bool → Nesting → Option State
state_unless true nesting = None
state_unless false nesting = Some (state_of nesting)
