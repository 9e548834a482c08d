-- The tokens that are read of bytes are spelled by the rules, each as long as can be.
use Rattle.std.specs.Prelude.{◌≡◌, ℕ, zero, suc, ◌+◌, ◌==◌, ◌||◌, Bool, true, false, ⊤, Option, Some, None, option_and_then, Result, Ok, List, [], ◌∷◌, ◌++◌, length, codes}
use Rattle.std.proofs.Common.{arith, refl, ap, sym, subst, inl, inr, ◌∙◌, append-nil}
use Rattle.std.proofs.lemmas.Bool.Decides.{Decides-eqb}
use Rattle.fallible_iterator.specs.Lists.{items, numbered}
use Rattle.fallible_itertools.specs.Lexing.{lexed_by}
use Rattle.fallible_json.specs.Lexing.{Begun, Lexeme, closed, lexeme_or, token_rules}
use Rattle.fallible_json.specs.Spelled.{IsLongest, SpellEach}
use Rattle.fallible_json.specs.Spelling.{IsBlank, IsSpelled, Many, Times}
use Rattle.fallible_json.specs.Tokens.{after, begun_by, is_blank, token_of}
use Rattle.fallible_json.specs.Wanted.{wanted_in}
use Rattle.fallible_json.specs.declared.lexer.LexFault.{LexFault}
use Rattle.fallible_json.specs.declared.token.Phase.{Phase}
use Rattle.fallible_json.specs.declared.token.Phase.TheVariants.{Whole, Inside, Escape, FourDigits, ThreeDigits, TwoDigits, OneDigit, Minus, Zero, Integer, Point, Fraction, Exponent, Sign, Power, T, Tr, Tru, F, Fa, Fal, Fals, N, Nu, Nul}
use Rattle.fallible_json.specs.declared.token.Token.{Token}
use Rattle.fallible_json.specs.declared.wanted.Wanted.{Wanted}
use Rattle.fallible_json.specs.declared.token.Token.TheVariants.{Text, Number, Literal}
use Rattle.fallible_json.proofs.Lemmas.Lexing.{lexed_begun}
use Rattle.fallible_json.proofs.Reading.{token_begun, token_read}
use Rattle.fallible_json.specs.Reading.{read}
use Rattle.fallible_json.proofs.Lemmas.Read.{first_of, one_more, spelled_of_read}
use Rattle.fallible_json.proofs.Lemmas.Spelled.{read_appended, read_of_spelled}

-- ---- blanks

blank_byte : (b c d e : Bool) (byte : ℕ) → (byte == 32) ≡ b → (byte == 9) ≡ c → (byte == 10) ≡ d → (byte == 13) ≡ e → (b || c || d || e) ≡ true → IsBlank (byte ∷ [])
blank_byte true c d e byte one two three four is = inl (ap (λ k. k ∷ []) ((Decides-eqb byte 32).0 one))
blank_byte false true d e byte one two three four is = inr (inl (ap (λ k. k ∷ []) ((Decides-eqb byte 9).0 two)))
blank_byte false false true e byte one two three four is = inr (inr (inl (ap (λ k. k ∷ []) ((Decides-eqb byte 10).0 three))))
blank_byte false false false true byte one two three four is = inr (inr (inr (ap (λ k. k ∷ []) ((Decides-eqb byte 13).0 four))))
blank_byte false false false false byte one two three four is = absurd cc

pub is_blank_byte : (byte : ℕ) → is_blank byte ≡ true → IsBlank (byte ∷ [])
is_blank_byte byte is = blank_byte _ _ _ _ byte refl refl refl refl is

-- a blank is one byte
pub blank_is_one_byte : (text : List ℕ) → IsBlank text → (byte : ℕ) × (text ≡ byte ∷ []) × (is_blank byte ≡ true)
blank_is_one_byte text (inl is) = (32, is, refl)
blank_is_one_byte text (inr (inl is)) = (9, is, refl)
blank_is_one_byte text (inr (inr (inl is))) = (10, is, refl)
blank_is_one_byte text (inr (inr (inr is))) = (13, is, refl)

abbrev StartsNoBlank : List ℕ → Type 0
StartsNoBlank [] = ⊤
StartsNoBlank (byte ∷ bytes) = is_blank byte ≡ false

-- bytes are blanks, and then some that don't begin with one
record Blanks (bytes : List ℕ) : Type 0 where
  blanks : List ℕ
  rest : List ℕ
  is : bytes ≡ blanks ++ rest
  each : Many IsBlank blanks
  stops : StartsNoBlank rest

with_blank : (blank : Bool) (byte : ℕ) (bytes : List ℕ) → is_blank byte ≡ blank → Blanks bytes → Blanks (byte ∷ bytes)
unfolding Times
with_blank true byte bytes is k = record { blanks = byte ∷ k.blanks; rest = k.rest; is = ap (λ z. byte ∷ z) k.is; each = one_more IsBlank (byte ∷ []) k.blanks (is_blank_byte byte is) k.each; stops = k.stops }
with_blank false byte bytes is k = record { blanks = []; rest = byte ∷ bytes; is = refl; each = (0, refl); stops = is }

blanks_of : (bytes : List ℕ) → Blanks bytes
unfolding Times
blanks_of [] = record { blanks = []; rest = []; is = refl; each = (0, refl); stops = tt }
blanks_of (byte ∷ bytes) = with_blank (is_blank byte) byte bytes refl (blanks_of bytes)

module _ {E : Type 0} where
  -- the tokens of bytes from a place on
  abbrev Read : Option Begun → ℕ → List ℕ → List (Result Lexeme (LexFault E))
  Read begun place bytes = lexed_by (token_rules {E = E}) begun (numbered place (items bytes))

  blank_skipped : (byte place : ℕ) (bytes : List ℕ) → is_blank byte ≡ true → Read None place (byte ∷ bytes) ≡ Read None (place + 1) bytes
  unfolding items numbered lexed_by
  blank_skipped byte place bytes is = rw is refl

  one_blank_skipped : (byte place n : ℕ) (blanks front others rest : List ℕ) → is_blank byte ≡ true → front ≡ byte ∷ [] → blanks ≡ front ++ others → Read None (place + 1) (others ++ rest) ≡ Read None (place + 1 + length others) rest → Read None place (blanks ++ rest) ≡ Read None (place + length blanks) rest
  one_blank_skipped byte place n blanks front others rest blank one is h =
      let whole : blanks ≡ byte ∷ others = is ∙ ap (λ k. k ++ others) one in
      let far : place + 1 + length others ≡ place + length blanks = rw whole (omega arith) in
      ap (λ k. Read None place (k ++ rest)) whole ∙ blank_skipped byte place (others ++ rest) blank ∙ h ∙ ap (λ k. Read None k rest) far

  blanks_skipped : (n : ℕ) (blanks rest : List ℕ) (place : ℕ) → Times n IsBlank blanks → Read None place (blanks ++ rest) ≡ Read None (place + length blanks) rest
  unfolding Times
  blanks_skipped zero blanks rest place none = rw none (ap (λ k. Read None k rest) (omega arith))
  blanks_skipped (suc n) blanks rest place (front, others, is, one, more) =
      let k = blank_is_one_byte front one in
      one_blank_skipped k.0 place n blanks front others rest k.2 k.1 is (blanks_skipped n others rest (place + 1) more)

  -- ---- the run of a token

  read_first_byte : (blank : Bool) (byte place : ℕ) (bytes : List ℕ) → is_blank byte ≡ false → Read None place (byte ∷ bytes) ≡ lexed_begun {E = E} (begun_by byte) place (λ begun. Read begun (place + 1) bytes)
  unfolding items numbered lexed_by
  read_first_byte blank byte place bytes is = rw is refl

-- no byte goes on with it
abbrev pub Stops : Phase → List ℕ → Type 0
Stops phase [] = ⊤
Stops phase (byte ∷ bytes) = after phase byte ≡ None

-- bytes are some that go on with what is begun, one after the other, and then the others
record RunsOn (phase : Phase) (bytes : List ℕ) : Type 0 where
  more : List ℕ
  rest : List ℕ
  next : Phase
  is : bytes ≡ more ++ rest
  goes : read (Some phase) more ≡ Some (Some next)
  stops : Stops next rest

runs_with : (o : Option Phase) (phase : Phase) (byte : ℕ) (bytes : List ℕ) → after phase byte ≡ o → ((next : Phase) → RunsOn next bytes) → RunsOn phase (byte ∷ bytes)
unfolding read
runs_with (Some next) phase byte bytes is others = let k = others next in record { more = byte ∷ k.more; rest = k.rest; next = k.next; is = ap (λ z. byte ∷ z) k.is; goes = rw is k.goes; stops = k.stops }
runs_with None phase byte bytes is others = record { more = []; rest = byte ∷ bytes; next = phase; is = refl; goes = refl; stops = is }

runs_of : (bytes : List ℕ) (phase : Phase) → RunsOn phase bytes
unfolding read
runs_of [] phase = record { more = []; rest = []; next = phase; is = refl; goes = refl; stops = tt }
runs_of (byte ∷ bytes) phase = runs_with (after phase byte) phase byte bytes refl (λ next. runs_of bytes next)

-- where the run of a token ends, the token stands, and those of the rest after it
abbrev ReadsRun : (E : Type 0) → ℕ → ℕ → Phase → Phase → ℕ → List ℕ → List ℕ → Type 0
ReadsRun E first last phase next place more rest = (end : ℕ) × (end + 1 ≡ place + length more) × (Read {E = E} (Some (first, last, phase)) place (more ++ rest) ≡ closed first end next ∷ Read None (place + length more) rest)

module _ {E : Type 0} where
  stops_at : (first last place : ℕ) (phase : Phase) (rest : List ℕ) → Stops phase rest → Read {E = E} (Some (first, last, phase)) place rest ≡ closed first last phase ∷ Read None place rest
  unfolding items numbered lexed_by
  stops_at first last place phase [] stops = refl
  stops_at first last place phase (byte ∷ rest) stops = rw stops refl

  goes_on_with : (first last place byte : ℕ) (phase next : Phase) (bytes : List ℕ) → after phase byte ≡ Some next → Read {E = E} (Some (first, last, phase)) place (byte ∷ bytes) ≡ Read (Some (first, place, next)) (place + 1) bytes
  unfolding items numbered lexed_by
  goes_on_with first last place byte phase next bytes is = rw is refl

  run_first : (o : Option Phase) (first last place byte : ℕ) (phase next : Phase) (more rest : List ℕ) → after phase byte ≡ o → option_and_then (λ k. read (Some k) more) o ≡ Some (Some next) → ((k : Phase) → read (Some k) more ≡ Some (Some next) → ReadsRun E first place k next (place + 1) more rest) → ReadsRun E first last phase next place (byte ∷ more) rest
  run_first None first last place byte phase next more rest is goes others = absurd cc
  run_first (Some k) first last place byte phase next more rest is goes others =
      let run = others k goes in
      let far : place + 1 + length more ≡ place + length (byte ∷ more) = omega arith in
      (run.0, run.1 ∙ far, goes_on_with first last place byte phase k (more ++ rest) is ∙ run.2 ∙ ap (λ z. closed first run.0 next ∷ Read None z rest) far)

  run_read : (more : List ℕ) (first last place : ℕ) (phase next : Phase) (rest : List ℕ) → last + 1 ≡ place → read (Some phase) more ≡ Some (Some next) → Stops next rest → ReadsRun E first last phase next place more rest
  unfolding read
  run_read [] first last place phase next rest one goes stops =
      let same : ◌≡◌ {A = Option Phase} (Some phase) (Some next) = cc in
      let is : phase ≡ next = cc in
      let here : place ≡ place + length {A = ℕ} [] = omega arith in
      (last, one ∙ here, stops_at first last place phase rest (subst (λ k. Stops k rest) (sym is) stops) ∙ ap (λ k. closed first last k ∷ Read None place rest) is ∙ ap (λ z. closed first last next ∷ Read None z rest) here)
  run_read (byte ∷ more) first last place phase next rest one goes stops = run_first (after phase byte) first last place byte phase next more rest refl goes (λ k h. run_read more first place (place + 1) k next rest refl h stops)

-- ---- as long as can be

pub read_begun : (byte : ℕ) (phase next : Phase) (more : List ℕ) → begun_by byte ≡ Some phase → read (Some phase) more ≡ Some (Some next) → read None (byte ∷ more) ≡ Some (Some next)
unfolding read
read_begun byte phase next more is goes = rw is goes

stops_reading : (next : Phase) (byte : ℕ) (more : List ℕ) → after next byte ≡ None → read (Some next) (byte ∷ more) ≡ None
unfolding read
stops_reading next byte more is = rw is refl

pub longest_of_stops : (spelling rest : List ℕ) (next : Phase) → read None spelling ≡ Some (Some next) → Stops next rest → IsLongest spelling rest
longest_of_stops spelling [] next is stops = tt
longest_of_stops spelling (byte ∷ rest) next is stops = λ token more spells.
    let whole : token_read (spelling ++ byte ∷ more) ≡ Some token = read_of_spelled token (spelling ++ byte ∷ more) spells in
    let none : read None (spelling ++ byte ∷ more) ≡ None = read_appended spelling (byte ∷ more) None (Some next) is ∙ stops_reading next byte more stops in
    let never : ◌≡◌ {A = Option Token} None (Some token) = sym (ap (option_and_then token_begun) none) ∙ whole in
    cc

-- each phase can be ended
abbrev CanEnd : Phase → Type 0
CanEnd phase = (more : List ℕ) × (next : Phase) × (token : Token) × (read (Some phase) more ≡ Some (Some next)) × (token_of next ≡ Some token)

can_end : (phase : Phase) → CanEnd phase
unfolding read
can_end (Whole token) = ([], Whole token, token, refl, refl)
can_end Inside = (34 ∷ [], Whole Text, Text, refl, refl)
can_end Escape = (34 ∷ 34 ∷ [], Whole Text, Text, refl, refl)
can_end FourDigits = (48 ∷ 48 ∷ 48 ∷ 48 ∷ 34 ∷ [], Whole Text, Text, refl, refl)
can_end ThreeDigits = (48 ∷ 48 ∷ 48 ∷ 34 ∷ [], Whole Text, Text, refl, refl)
can_end TwoDigits = (48 ∷ 48 ∷ 34 ∷ [], Whole Text, Text, refl, refl)
can_end OneDigit = (48 ∷ 34 ∷ [], Whole Text, Text, refl, refl)
can_end Minus = (48 ∷ [], Zero, Number, refl, refl)
can_end Zero = ([], Zero, Number, refl, refl)
can_end Integer = ([], Integer, Number, refl, refl)
can_end Point = (48 ∷ [], Fraction, Number, refl, refl)
can_end Fraction = ([], Fraction, Number, refl, refl)
can_end Exponent = (48 ∷ [], Power, Number, refl, refl)
can_end Sign = (48 ∷ [], Power, Number, refl, refl)
can_end Power = ([], Power, Number, refl, refl)
can_end T = (codes "rue", Whole Literal, Literal, refl, refl)
can_end Tr = (codes "ue", Whole Literal, Literal, refl, refl)
can_end Tru = (codes "e", Whole Literal, Literal, refl, refl)
can_end F = (codes "alse", Whole Literal, Literal, refl, refl)
can_end Fa = (codes "lse", Whole Literal, Literal, refl, refl)
can_end Fal = (codes "se", Whole Literal, Literal, refl, refl)
can_end Fals = (codes "e", Whole Literal, Literal, refl, refl)
can_end N = (codes "ull", Whole Literal, Literal, refl, refl)
can_end Nu = (codes "ll", Whole Literal, Literal, refl, refl)
can_end Nul = (codes "l", Whole Literal, Literal, refl, refl)

goes_on_reading : (next then_next last : Phase) (byte : ℕ) (more : List ℕ) → after next byte ≡ Some then_next → read (Some then_next) more ≡ Some (Some last) → read (Some next) (byte ∷ more) ≡ Some (Some last)
unfolding read
goes_on_reading next then_next last byte more is goes = rw is goes

stops_if : (o : Option Phase) (spelling rest : List ℕ) (next : Phase) (byte : ℕ) → after next byte ≡ o → read None spelling ≡ Some (Some next) → IsLongest spelling (byte ∷ rest) → o ≡ None
stops_if None spelling rest next byte is goes longest = refl
stops_if (Some k) spelling rest next byte is goes longest =
    let end = can_end k in
    let whole : read None (spelling ++ byte ∷ end.0) ≡ Some (Some end.1) = read_appended spelling (byte ∷ end.0) None (Some next) goes ∙ goes_on_reading next k end.1 byte end.0 is end.3 in
    absurd (longest end.2 end.0 (spelled_of_read end.2 (spelling ++ byte ∷ end.0) (ap (option_and_then token_begun) whole ∙ end.4)))

stops_of_longest : (spelling rest : List ℕ) (next : Phase) → read None spelling ≡ Some (Some next) → IsLongest spelling rest → Stops next rest
stops_of_longest spelling [] next goes longest = tt
stops_of_longest spelling (byte ∷ rest) next goes longest = stops_if (after next byte) spelling rest next byte refl goes longest

-- ---- the whole

abbrev Reads : (E : Type 0) → ℕ → List ℕ → List Lexeme → Type 0
Reads E place bytes lexemes = lexed_by (token_rules {E = E}) None (numbered place (items bytes)) ≡ items lexemes

no_blank_begins : (byte : ℕ) (text : List ℕ) → IsBlank text → text ≡ byte ∷ [] → begun_by byte ≡ None
no_blank_begins byte text (inl is) one = let same : byte ≡ 32 = cc in rw same refl
no_blank_begins byte text (inr (inl is)) one = let same : byte ≡ 9 = cc in rw same refl
no_blank_begins byte text (inr (inr (inl is))) one = let same : byte ≡ 10 = cc in rw same refl
no_blank_begins byte text (inr (inr (inr is))) one = let same : byte ≡ 13 = cc in rw same refl

no_blank_if : (blank : Bool) (byte : ℕ) (phase : Phase) → is_blank byte ≡ blank → begun_by byte ≡ Some phase → blank ≡ false
no_blank_if true byte phase is begins = let none : begun_by byte ≡ None = no_blank_begins byte (byte ∷ []) (is_blank_byte byte is) refl in absurd cc
no_blank_if false byte phase is begins = refl

pub no_blank : (byte : ℕ) (phase : Phase) → begun_by byte ≡ Some phase → is_blank byte ≡ false
no_blank byte phase begins = no_blank_if (is_blank byte) byte phase refl begins

-- bytes that are read as a token: what the first begins, and what the others make of it
pub record ReadsToken (token : Token) (spelling : List ℕ) : Type 0 where
  pub byte : ℕ
  pub more : List ℕ
  pub phase : Phase
  pub next : Phase
  pub is : spelling ≡ byte ∷ more
  pub begins : begun_by byte ≡ Some phase
  pub goes : read (Some phase) more ≡ Some (Some next)
  pub ends : token_of next ≡ Some token

reads_by : (t : Option Phase) (token : Token) (byte : ℕ) (more : List ℕ) (phase : Phase) → begun_by byte ≡ Some phase → read (Some phase) more ≡ Some t → token_begun t ≡ Some token → ReadsToken token (byte ∷ more)
reads_by (Some next) token byte more phase begins goes ends = record { byte = byte; more = more; phase = phase; next = next; is = refl; begins = begins; goes = goes; ends = ends }
reads_by None token byte more phase begins goes ends = absurd cc

reads_token_of : (token : Token) (spelling : List ℕ) → token_read spelling ≡ Some token → ReadsToken token spelling
unfolding read
reads_token_of token [] is = absurd cc
reads_token_of token (byte ∷ more) is = let k = first_of token byte more is in reads_by k.1 token byte more k.0 k.2 k.3 k.4

pub reads_token : (token : Token) (spelling : List ℕ) → IsSpelled token spelling → ReadsToken token spelling
reads_token token spelling is = reads_token_of token spelling (read_of_spelled token spelling is)

module _ {E : Type 0} where
  token_first : (place byte : ℕ) (phase next : Phase) (token : Token) (more rest : List ℕ) → begun_by byte ≡ Some phase → read (Some phase) more ≡ Some (Some next) → Stops next rest → token_of next ≡ Some token → (end : ℕ) × (end + 1 ≡ place + 1 + length more) × (Read {E = E} None place (byte ∷ (more ++ rest)) ≡ Ok (place, end, token) ∷ Read None (place + 1 + length more) rest)
  token_first place byte phase next token more rest begins goes stops ends =
      let run = run_read {E = E} more place place (place + 1) phase next rest refl goes stops in
      (run.0, run.1, read_first_byte {E = E} false byte place (more ++ rest) (no_blank byte phase begins) ∙ ap (λ o. lexed_begun {E = E} o place (λ begun. Read begun (place + 1) (more ++ rest))) begins ∙ run.2 ∙ ap (λ o. lexeme_or {E = E} place run.0 (wanted_in next) o ∷ Read None (place + 1 + length more) rest) ends)

  none_left : (place : ℕ) → Read {E = E} None place [] ≡ []
  unfolding items numbered lexed_by
  none_left place = refl

  lexed_of_blanks : (place : ℕ) (bytes : List ℕ) → Many IsBlank bytes → Read {E = E} None place bytes ≡ []
  lexed_of_blanks place bytes (n, each) = ap (λ k. Read None place k) (sym (append-nil bytes)) ∙ blanks_skipped n bytes [] place each ∙ none_left (place + length bytes)

  spell_first : (first last place : ℕ) (token : Token) (lexemes : List Lexeme) (bytes blanks spelling rest : List ℕ) → bytes ≡ blanks ++ (spelling ++ rest) → Many IsBlank blanks → first ≡ place + length blanks → last + 1 ≡ first + length spelling → IsLongest spelling rest → ReadsToken token spelling → Reads E (last + 1) rest lexemes → Reads E place bytes ((first, last, token) ∷ lexemes)
  unfolding items
  spell_first first last place token lexemes bytes blanks spelling rest is each at_first at_last longest reads others =
      let k = token_first (place + length blanks) reads.byte reads.phase reads.next token reads.more rest reads.begins reads.goes (stops_of_longest spelling rest reads.next (ap (λ z. read None z) reads.is ∙ read_begun reads.byte reads.phase reads.next reads.more reads.begins reads.goes) longest) reads.ends in
      let long : length spelling ≡ 1 + length reads.more = rw reads.is (omega arith) in
      let same_end : k.0 ≡ last = omega (arith, k.1, long, at_first, at_last) in
      let far : place + length blanks + 1 + length reads.more ≡ last + 1 = omega (arith, long, at_first, at_last) in
      let text : bytes ≡ blanks ++ (reads.byte ∷ (reads.more ++ rest)) = is ∙ ap (λ z. blanks ++ (z ++ rest)) reads.is in
      ap (λ z. Read None place z) text ∙ blanks_skipped each.0 blanks (reads.byte ∷ (reads.more ++ rest)) place each.1 ∙ k.2 ∙ ap (λ z. Ok (z, k.0, token) ∷ Read None (place + length blanks + 1 + length reads.more) rest) (sym at_first) ∙ ap (λ z. Ok (first, z, token) ∷ Read None (place + length blanks + 1 + length reads.more) rest) same_end ∙ ap (λ z. Ok (first, last, token) ∷ Read None z rest) far ∙ ap (λ z. Ok (first, last, token) ∷ z) others

pub lexed_of_spell : {E : Type 0} (lexemes : List Lexeme) (place : ℕ) (bytes : List ℕ) → SpellEach IsLongest place bytes lexemes → lexed_by (token_rules {E = E}) None (numbered place (items bytes)) ≡ items lexemes
unfolding items SpellEach
lexed_of_spell [] place bytes each = lexed_of_blanks place bytes each
lexed_of_spell ((first, last, token) ∷ lexemes) place bytes (blanks, spelling, rest, is, each, at_first, spelled, at_last, longest, others) = spell_first first last place token lexemes bytes blanks spelling rest is each at_first at_last longest (reads_token token spelling spelled) (lexed_of_spell lexemes (last + 1) rest others)

-- ---- and the other way

-- what the first token is of which a run was closed
record IsFirst (E : Type 0) (first end : ℕ) (next : Phase) (x : Lexeme) (lexemes : List Lexeme) (place : ℕ) (rest : List ℕ) : Type 0 where
  token : Token
  ends : token_of next ≡ Some token
  is : x ≡ (first, end, token)
  others : Reads E place rest lexemes

spell_from : (place first end byte : ℕ) (token : Token) (phase next : Phase) (x : Lexeme) (lexemes : List Lexeme) (bytes blanks more rest : List ℕ) → x ≡ (first, end, token) → bytes ≡ blanks ++ (byte ∷ (more ++ rest)) → Many IsBlank blanks → first ≡ place + length blanks → begun_by byte ≡ Some phase → read (Some phase) more ≡ Some (Some next) → token_of next ≡ Some token → end + 1 ≡ first + 1 + length more → Stops next rest → SpellEach IsLongest (end + 1) rest lexemes → SpellEach IsLongest place bytes (x ∷ lexemes)
unfolding SpellEach
spell_from place first end byte token phase next x lexemes bytes blanks more rest same is each at_first begins goes ends at_end stops others =
    let whole = read_begun byte phase next more begins goes in
    let spelled : IsSpelled token (byte ∷ more) = spelled_of_read token (byte ∷ more) (ap (option_and_then token_begun) whole ∙ ends) in
    subst (λ z. SpellEach IsLongest place bytes (z ∷ lexemes)) (sym same) (blanks, byte ∷ more, rest, is, each, at_first, spelled, omega (arith, at_end), longest_of_stops (byte ∷ more) rest next whole stops, others)

module _ {E : Type 0} where
  -- what is read of bytes after their blanks
  abbrev ReadAfter : ℕ → List ℕ → List ℕ → List (Result Lexeme (LexFault E)) → Type 0
  ReadAfter place blanks rest l = Read {E = E} None (place + length blanks) rest ≡ l

  none_spelled_at : (o : Option Phase) (place byte : ℕ) (more : List ℕ) → lexed_begun {E = E} o place (λ begun. Read begun (place + 1) more) ≡ [] → ⊥
  none_spelled_at None place byte more h = cc
  none_spelled_at (Some phase) place byte more h =
      let runs = runs_of more phase in
      let run = run_read {E = E} runs.more place place (place + 1) phase runs.next runs.rest refl runs.goes runs.stops in
      let never = sym (ap (λ z. Read {E = E} (Some (place, place, phase)) (place + 1) z) runs.is ∙ run.2) ∙ h in
      cc

  blanks_only : (place : ℕ) (blanks rest : List ℕ) → StartsNoBlank rest → ReadAfter place blanks rest [] → rest ≡ []
  blanks_only place blanks [] stops h = refl
  blanks_only place blanks (byte ∷ more) stops h = absurd (none_spelled_at (begun_by byte) (place + length blanks) byte more (sym (read_first_byte {E = E} false byte (place + length blanks) more stops) ∙ h))

  blanks_of_lexed : (place : ℕ) (bytes : List ℕ) → Read {E = E} None place bytes ≡ [] → Many IsBlank bytes
  blanks_of_lexed place bytes h =
      let k = blanks_of bytes in
      let none = blanks_only place k.blanks k.rest k.stops (sym (ap (λ z. Read {E = E} None place z) k.is ∙ blanks_skipped k.each.0 k.blanks k.rest place k.each.1) ∙ h) in
      subst (Many IsBlank) (sym (k.is ∙ ap (λ z. k.blanks ++ z) none ∙ append-nil k.blanks)) k.each

  is_first_of : (o : Option Token) (wanted : Wanted) (first end : ℕ) (next : Phase) (x : Lexeme) (lexemes : List Lexeme) (place : ℕ) (rest : List ℕ) → token_of next ≡ o → lexeme_or {E = E} first end wanted o ∷ Read None place rest ≡ items (x ∷ lexemes) → IsFirst E first end next x lexemes place rest
  unfolding items
  is_first_of (Some token) wanted first end next x lexemes place rest is h = record { token = token; ends = is; is = cc; others = cc }
  is_first_of None wanted first end next x lexemes place rest is h = absurd cc

  token_at : (o : Option Phase) (place byte : ℕ) (x : Lexeme) (lexemes : List Lexeme) (bytes blanks more : List ℕ) → begun_by byte ≡ o → bytes ≡ blanks ++ (byte ∷ more) → Many IsBlank blanks → lexed_begun {E = E} o (place + length blanks) (λ begun. Read begun (place + length blanks + 1) more) ≡ items (x ∷ lexemes) → ((next : ℕ) (rest : List ℕ) → Reads E next rest lexemes → SpellEach IsLongest next rest lexemes) → SpellEach IsLongest place bytes (x ∷ lexemes)
  unfolding items
  token_at None place byte x lexemes bytes blanks more begins is each h others = absurd cc
  token_at (Some phase) place byte x lexemes bytes blanks more begins is each h others =
      let p = place + length blanks in
      let runs = runs_of more phase in
      let run = run_read {E = E} runs.more p p (p + 1) phase runs.next runs.rest refl runs.goes runs.stops in
      let first = is_first_of (token_of runs.next) (wanted_in runs.next) p run.0 runs.next x lexemes (p + 1 + length runs.more) runs.rest refl (sym (ap (λ z. Read {E = E} (Some (p, p, phase)) (p + 1) z) runs.is ∙ run.2) ∙ h) in
      spell_from place p run.0 byte first.token phase runs.next x lexemes bytes blanks runs.more runs.rest first.is (is ∙ ap (λ z. blanks ++ (byte ∷ z)) runs.is) each refl begins runs.goes first.ends run.1 runs.stops (others (run.0 + 1) runs.rest (ap (λ z. Read {E = E} None z runs.rest) run.1 ∙ first.others))

  after_blanks : (place : ℕ) (x : Lexeme) (lexemes : List Lexeme) (bytes blanks rest : List ℕ) → bytes ≡ blanks ++ rest → Many IsBlank blanks → StartsNoBlank rest → ReadAfter place blanks rest (items (x ∷ lexemes)) → ((next : ℕ) (rest : List ℕ) → Reads E next rest lexemes → SpellEach IsLongest next rest lexemes) → SpellEach IsLongest place bytes (x ∷ lexemes)
  unfolding items
  after_blanks place x lexemes bytes blanks [] is each stops h others = let never = sym (none_left {E = E} (place + length blanks)) ∙ h in absurd cc
  after_blanks place x lexemes bytes blanks (byte ∷ more) is each stops h others = token_at (begun_by byte) place byte x lexemes bytes blanks more refl is each (sym (read_first_byte {E = E} false byte (place + length blanks) more stops) ∙ h) others

pub spell_of_lexed : {E : Type 0} (lexemes : List Lexeme) (place : ℕ) (bytes : List ℕ) → lexed_by (token_rules {E = E}) None (numbered place (items bytes)) ≡ items lexemes → SpellEach IsLongest place bytes lexemes
unfolding items SpellEach
spell_of_lexed {E = E} [] place bytes h = blanks_of_lexed {E = E} place bytes h
spell_of_lexed {E = E} (x ∷ lexemes) place bytes h =
    let k = blanks_of bytes in
    after_blanks {E = E} place x lexemes bytes k.blanks k.rest k.is k.each k.stops (sym (ap (λ z. Read {E = E} None place z) k.is ∙ blanks_skipped k.each.0 k.blanks k.rest place k.each.1) ∙ h) (λ next rest is. spell_of_lexed {E = E} lexemes next rest is)
